use Rattle.std.proofs.Common.{◌≡◌, map, take}
use Rattle.std.specs.BTreeMap.{get}
use Rattle.std.specs.Ordering.{nat_cmp}
use Rattle.text_edits.specs.NewNames.{edits_from}
use Rattle.text_edits.specs.Views.{edit_of, span_seen}
use Rattle.text_edits.proofs.edits.edits_of.Given as goal

-- the edits of the tokens gone through
abbrev pub invariant-loop-number : goal.invariant-loop-number
invariant-loop-number l = map edit_of l.edits ≡ edits_from (λ n. get nat_cmp l.names n) l.text 0 (map span_seen (take l.number l.spans))
