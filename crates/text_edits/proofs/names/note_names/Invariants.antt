use Rattle.std.proofs.Common.{◌≡◌, ℕ, map, take}
use Rattle.std.specs.BTreeMap.{get}
use Rattle.std.specs.Ordering.{nat_cmp}
use Rattle.scheme_model.specs.Sites.{or_else}
use Rattle.text_edits.specs.Members.{name_at}
use Rattle.text_edits.specs.Views.{identifier_by, occ_cmp}
use Rattle.text_edits.proofs.names.note_names.Given as goal

-- the names of the identifiers gone through
abbrev pub invariant-loop-occ : goal.invariant-loop-occ
invariant-loop-occ l = (n : ℕ) → get nat_cmp l.names n
    ≡ or_else (get nat_cmp l.fn.names n) (name_at (λ o. get occ_cmp l.members o) (map (identifier_by l.firsts) (take l.occ-index l.identifiers)) n)
