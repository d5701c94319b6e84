-- What is left of forms, and what they set aside, under other numbers: places, binders and meanings change, and numbers in tables and trees stay.
use Rattle.std.specs.Prelude.{◌≡◌, map, Option, Some, None, Vec}
use Rattle.std.specs.declared.alloc.Global.{Global}
use Rattle.syntax_tree.specs.declared.trees.table.Region.{Region}
use Rattle.core_forms.specs.declared.shape.ClauseShape.{ClauseShape}
use Rattle.core_forms.specs.declared.shape.NamePart.{NamePart}
use Rattle.core_tree.specs.declared.cores.Binder.{Binder}
use Rattle.core_tree.specs.declared.cores.FieldUse.{FieldUse}
use Rattle.form_parts.specs.declared.items.Form.{Form}
use Rattle.form_parts.specs.declared.items.Kept as code_kept
use Rattle.form_parts.specs.declared.items.Kept.TheVariants as kept
use Rattle.form_parts.specs.declared.items.Left as code_left
use Rattle.form_parts.specs.declared.items.WaitingUse.{WaitingUse}
use Rattle.renumbering_laws.specs.Renumbering.{Renumbering, place, ident, left_as}
use Rattle.moves.specs.Numbers.{meaning_as}
use Rattle.moved_numbers.specs.Leaves.{binder_as, target_as, field_as}
use Rattle.moved_numbers.specs.Standing.{StandsOn}
use Rattle.unit_scopes.specs.Units.{LeftFor}

-- ---- what becomes of the code's values

abbrev pub name_as : Renumbering → NamePart → NamePart
name_as r n = record n { occ = place r n.occ }

abbrev pub form_as : Renumbering → Form → Form
form_as r f = record f { here = place r f.here }

pub record ClauseMoves (r : Renumbering) (c d : ClauseShape) : Type 0 where
  pub names : d.formals.names.items ≡ map (name_as r) c.formals.names.items
  pub dotted : d.formals.dotted ≡ c.formals.dotted
  pub body : d.body ≡ c.body

abbrev pub KeptMoves : Renumbering → code_kept.Kept → code_kept.Kept → Type 0
KeptMoves r (kept.Expression f) k = k ≡ kept.Expression (form_as r f)
KeptMoves r (kept.Value b f) k = k ≡ kept.Value (binder_as r b) (form_as r f)
KeptMoves r (kept.Function b here c) k = (d : ClauseShape) × (k ≡ kept.Function (binder_as r b) (place r here) d) × ClauseMoves r c d
KeptMoves r (kept.Assigned n f) k = k ≡ kept.Assigned (name_as r n) (form_as r f)
KeptMoves r (kept.AssignedFunction n here c) k = (d : ClauseShape) × (k ≡ kept.AssignedFunction (name_as r n) (place r here) d) × ClauseMoves r c d
KeptMoves r (kept.Values bs dotted f) k = (cs : Vec Binder Global) × (k ≡ kept.Values cs dotted (form_as r f)) × (cs.items ≡ map (binder_as r) bs.items)
KeptMoves r (kept.Record bs fs ms us) k =
    (cs : Vec Binder Global) × (gs : Vec Binder Global) × (vs : Vec FieldUse Global) × (k ≡ kept.Record cs gs ms vs)
    × (cs.items ≡ map (binder_as r) bs.items) × (gs.items ≡ map (binder_as r) fs.items) × (vs.items ≡ map (field_as r) us.items)
KeptMoves r (kept.Macro b m) k = k ≡ kept.Macro (binder_as r b) (meaning_as r m)

pub record UseMoves (r : Renumbering) (u v : WaitingUse) : Type 0 where
  pub keyword : v.keyword ≡ target_as r u.keyword
  pub literals : v.literals.items ≡ map (name_as r) u.literals.items

-- ---- what it stands for

-- whatever the first stood for in a form, the second stands for what becomes of that; and its trees are to be named in the regions in which they were
abbrev pub LeftStands : Renumbering → code_left.Left → code_left.Left → Type 0
LeftStands r x y = (region : Region) → StandsOn r (λ work unit form. LeftFor work region unit form) (left_as r (ident r)) x y

abbrev pub IfLeftStands : Renumbering → Option code_left.Left → Option code_left.Left → Type 0
IfLeftStands r None None = Unit {0}
IfLeftStands r None (Some y) = ⊥
IfLeftStands r (Some x) None = ⊥
IfLeftStands r (Some x) (Some y) = LeftStands r x y
