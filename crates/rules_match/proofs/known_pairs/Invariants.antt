use Rattle.std.proofs.Common.{◌≡◌, ℕ, take}
use Rattle.std.specs.Prelude.{nat_eq, ◌&&◌}
use Rattle.std.specs.List.{list_any}
use Rattle.std.specs.BTreeSet.{contains}
use Rattle.syntax_tree.specs.declared.rules.IdPair.{IdPair}
use Rattle.rules_match.specs.Found.{pair_cmp}
use Rattle.rules_match.proofs.known_pairs.Given as goal

abbrev pub invariant-loop-pair : goal.invariant-loop-pair
invariant-loop-pair l = (n m : ℕ) → contains pair_cmp l.known (n, m) ≡ list_any (λ (p : IdPair). nat_eq n p.literal && nat_eq m p.ident) (take l.pair-index l.pairs)
