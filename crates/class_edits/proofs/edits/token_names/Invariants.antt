use Rattle.std.proofs.Common.{◌≡◌, ℕ, take}
use Rattle.std.specs.BTreeMap.{get}
use Rattle.std.specs.Ordering.{nat_cmp}
use Rattle.text_edits.specs.Members.{name_at}
use Rattle.text_edits.specs.Views.{occ_cmp}
use Rattle.class_edits.specs.Named.{identifiers_in}
use Rattle.class_edits.proofs.edits.token_names.Given as goal

-- the names of the identifiers of the units gone through
abbrev pub invariant-loop-head : goal.invariant-loop-head
invariant-loop-head l = (n : ℕ) → get nat_cmp l.names n ≡ name_at (λ o. get occ_cmp l.members o) (identifiers_in l.document (take l.head-index l.heads)) n
