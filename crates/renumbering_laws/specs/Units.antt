-- Units of a program under other numbers (R7RS 5.1, 5.6), and what was expanded before them.
use Rattle.std.specs.Prelude.{◌≡◌, map}
use Rattle.scheme_model.specs.declared.Home.{Home}
use Rattle.scheme_model.specs.Ident.{Written}
use Rattle.scheme_model.specs.Substitution.{definition_count, Table}
use Rattle.scheme_model.specs.Declarations.{UnitForm}
use Rattle.scheme_model.specs.RulesShape.{option_map}
use Rattle.scheme_model.specs.Program.{Prepared, Progress, is_program, form_trees, prelude_unit, forms_at_work}
use Rattle.scheme_model.specs.ScopedProgram.{ScopedProgress, forms_over}
use Rattle.renumbering_laws.specs.Renumbering.{Renumbering, ident, named_as, numbered_as}
use Rattle.renumbering_laws.specs.States.{TablesMove, EntriesMove, MacrosMove, CountsOn}
use Rattle.renumbering_laws.specs.ScopedStates.{IsOnto, PlacesMove, ScopedMacrosMove, FindsMove}

-- the prelude keeps its number, and so does its one form
pub record KeepsPrelude (r : Renumbering) : Type 0 where
  pub unit : r.unit prelude_unit ≡ prelude_unit
  pub form : r.form prelude_unit 0 ≡ 0

-- what was expanded so far corresponds, but for results
pub record ProgressMoves (r : Renumbering) (g h : Progress) : Type 0 where
  pub table : TablesMove r g.table h.table
  pub macros : MacrosMove r g.macros h.macros
  pub entry : EntriesMove r g.entry h.entry

pub record ScopedProgressMoves (r : Renumbering) (w : IsOnto r) (g h : ScopedProgress) : Type 0 where
  pub table : TablesMove r g.table h.table
  pub macros : ScopedMacrosMove r w g.macros h.macros
  pub places : PlacesMove r w g.places h.places
  pub definitions : FindsMove r w g.definitions h.definitions
  pub entry : EntriesMove r g.entry h.entry

-- a unit of one kind under its new number, where its definitions are numbered on as the renumbering tells
pub record UnitMoves (r : Renumbering) (p q : Prepared) (table table' : Table) : Type 0 where
  pub number : q.number ≡ r.unit p.number
  pub kind : is_program q.placed.source.kind ≡ is_program p.placed.source.kind
  pub counts : CountsOn r p.number (definition_count table p.number) (definition_count table' q.number)

-- the home of a text, under its new numbers
abbrev pub home_as : Renumbering → Home → Home
home_as r h = record { unit = r.unit h.unit; form = r.form h.unit h.form; first = h.first }

-- a form, with the home of its text where that is included
abbrev pub form_as : Renumbering → UnitForm → UnitForm
form_as r f = record { datum = f.datum; declared = f.declared; home = option_map (home_as r) f.home }

-- it has the same forms, under their new numbers
abbrev pub FormsMove : Renumbering → Prepared → Prepared → Type 0
FormsMove r p q = form_trees q.number 0 (forms_at_work q) ≡ map (numbered_as r p.number (named_as r)) (form_trees p.number 0 (forms_at_work p))

abbrev pub ScopedFormsMove : Renumbering → Prepared → Prepared → Type 0
ScopedFormsMove r p q = forms_over (Written q.number) q.number 0 (forms_at_work q) ≡ map (numbered_as r p.number (ident r)) (forms_over (Written p.number) p.number 0 (forms_at_work p))
