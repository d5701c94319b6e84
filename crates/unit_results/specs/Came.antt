-- What units come to by the definition of a program (R7RS 5.1, 5.6).
use Rattle.std.specs.Prelude.{◌≡◌, ℕ, List, length, reverse, slice_get, Option, Some, None}
use Rattle.std.specs.List.{flat_map}
use Rattle.scheme_model.specs.IncludedUnits.{Placed}
use Rattle.scheme_model.specs.Program.{WholeFault, UnitResult, Program, result_at, broken_result}
use Rattle.scheme_model.specs.ProgramArrows.{unit_names}
use Rattle.scheme_model.specs.Spelling.{second_places}
use Rattle.scheme_model.specs.ScopedProgram.{ScopedProgress}
use Rattle.syntax_tree.specs.Meant.{AreEntries}
use Rattle.syntax_tree.specs.declared.trees.Work.{Work}
use Rattle.core_tree.specs.Units.{FormsStand, AreDefinitions, definitions_from, defined_by, AreNames, externals}
use Rattle.unit_imports.specs.declared.expanded.Expanded.{Expanded}

-- what a unit came to is what the definition has of it, where the program so far is this
pub record CameTo (all : List Placed) (p : Program) (work : Work) (c : Expanded) (r : UnitResult) : Type 0 where
  pub whole : r.fault ≡ None
  pub entries : AreEntries work.symbols c.entries.items r.entries
  pub forms : FormsStand work r.unit.number 0 c.forms r.forms
  pub count : length c.forms ≡ length r.unit.forms
  pub definitions : AreDefinitions work.symbols (reverse (definitions_from 0 c.forms)) (defined_by r.unit.number p.table)
  pub names : AreNames work.symbols r.unit.number c.names (unit_names all p r) (externals p.table r)
  pub seconds : c.seconds ≡ flat_map (λ s. second_places s.set) r.unit.specs
  pub exports : AreEntries work.symbols c.exports r.exports

-- nothing came of a unit that is broken
abbrev pub ComesTo : List Placed → Program → Work → Option Expanded → UnitResult → Type 0
ComesTo all p work None r = (f : WholeFault) × (r ≡ broken_result r.unit f)
ComesTo all p work (Some c) r = CameTo all p work c r

-- nothing yet, or what the definition has of the unit by now
abbrev pub IsCome : List Placed → Program → Work → Option Expanded → Option UnitResult → Type 0
IsCome all p work o None = o ≡ None
IsCome all p work o (Some r) = ComesTo all p work o r

-- the program as far as it is expanded
abbrev pub so_far : ScopedProgress → Program
so_far g = record { units = g.results; table = g.table; entry = g.entry }

abbrev pub HaveCome : List Placed → ScopedProgress → Work → List (Option Expanded) → Type 0
HaveCome all g work es = (n : ℕ) (o : Option Expanded) → slice_get es n ≡ Some o → IsCome all (so_far g) work o (result_at g.results n)
