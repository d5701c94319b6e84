use Rattle.std.proofs.Common.{◌≡◌, take}
use Rattle.std.specs.BTreeMap.{get}
use Rattle.scheme_model.specs.declared.Occ.{Occ}
use Rattle.text_edits.specs.Members.{name_of}
use Rattle.text_edits.specs.Views.{occ_cmp}
use Rattle.class_edits.specs.Named.{named_parts}
use Rattle.class_edits.proofs.members.members.Given as goal

-- the names of the parts gone through
abbrev pub invariant-loop-part : goal.invariant-loop-part
invariant-loop-part l = (o : Occ) → get occ_cmp l.members o ≡ name_of (named_parts l.stem (take l.part-index l.parts)) o
