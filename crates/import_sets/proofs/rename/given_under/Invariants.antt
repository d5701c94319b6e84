use Rattle.std.proofs.Common.{◌≡◌, ℕ, List, [], take}
use Rattle.std.specs.BTreeMap.{get_by_text}
use Rattle.std.specs.Option.{option_map_or}
use Rattle.import_sets.specs.Given.{given_under}
use Rattle.import_sets.proofs.rename.given_under.Given as goal

abbrev pub invariant-loop-pair : goal.invariant-loop-pair
invariant-loop-pair l = (s : List ℕ) → option_map_or (λ names. names.items) (get_by_text l.under s) [] ≡ given_under (take l.pair-index l.pairs) s
