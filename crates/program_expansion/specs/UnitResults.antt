-- What units come to by the definition of a program, and what the bench stands for between two of them (R7RS 5.1, 5.6).
use Rattle.std.specs.Prelude.{◌≡◌, ℕ, ◌+◌, List, true, length, reverse, slice_get, Option, Some, None, String}
use Rattle.std.specs.declared.alloc.Global.{Global}
use Rattle.std.specs.List.{flat_map}
use Rattle.std.specs.BTreeMap.{BTreeMap, get_by_text}
use Rattle.std.specs.Option.{option_map}
use Rattle.scheme_model.specs.Requirements.{LibraryName, Known}
use Rattle.scheme_model.specs.Order.{Note}
use Rattle.scheme_model.specs.ScopedExpansion.{Frames, FramedIdent, ScopedState}
use Rattle.scheme_model.specs.Entries.{Entry}
use Rattle.scheme_model.specs.UnitExpansion.{Formed}
use Rattle.scheme_model.specs.IncludedUnits.{Placed}
use Rattle.scheme_model.specs.Program.{Prepared, prepared, prepare, unit_named, WholeFault, fault_before, SetResult, UnitResult, Program, result_at, with_entries, broken_result, unit_result, is_ready}
use Rattle.scheme_model.specs.ProgramArrows.{unit_names}
use Rattle.scheme_model.specs.Spelling.{second_places}
use Rattle.scheme_model.specs.ScopedProgram.{ScopedProgress, scoped_start_of, after_unit, scoped_work, scoped_before}
use Rattle.forgotten_locals.specs.Programs.{IsProgressOutside}
use Rattle.macro_uses.specs.MacroUses.{total_of}
use Rattle.macro_uses.specs.ScopedUses.{form_numbers}
use Rattle.syntax_tree.specs.Meant.{AreEntries}
use Rattle.syntax_tree.specs.declared.trees.Work.{Work}
use Rattle.core_tree.specs.Units.{FormsStand, AreDefinitions, definitions_from, defined_by, AreNames, externals}
use Rattle.base_library.specs.Texts.{SpellsStandard}
use Rattle.feature_requirements.specs.Judged.{Knows}
use Rattle.unit_scopes.specs.Preluded.{Continues}
use Rattle.unit_scopes.specs.Searched.{searched_unit_over}
use Rattle.read_documents.specs.Broken.{told}
use Rattle.form_expansion.specs.Forms.{StandsOutside}
use Rattle.document_units.specs.Turned.{scoped_at}
use Rattle.unit_imports.specs.declared.expanded.Expanded.{Expanded}
pub use Rattle.unit_results.specs.Came.{CameTo, ComesTo, IsCome, so_far, HaveCome}
use Rattle.form_expansion.specs.declared.forms.Bench.{Bench}
use Rattle.read_documents.specs.declared.heads.Head.{Head}
use Rattle.document_units.specs.declared.listing.Units.{Units}
use Rattle.read_documents.specs.UnitSources.{AreSourcesOf}

-- ---- sources

-- names lead to the first units that have them
pub record FindsLibraries (spelled : LibraryName → List ℕ) (all : List Placed) (firsts : BTreeMap (String Global) ℕ) : Type 0 where
  pub spells : SpellsStandard spelled
  pub units : (n : LibraryName) → get_by_text firsts (spelled n) ≡ unit_named n 0 all

-- ---- what breaks units by now

abbrev pub fault_by : List Placed → Option UnitResult → Prepared → Option WholeFault
fault_by all None p = fault_before all (prepare all 0 all) p
fault_by all (Some r) p = r.fault

abbrev pub HeadsBy : List Placed → ScopedProgress → List Head → Type 0
HeadsBy all g hs = (n : ℕ) (u : Placed) (h : Head) → slice_get all n ≡ Some u → slice_get hs n ≡ Some h → h.fault ≡ option_map told (fault_by all (result_at g.results n) (prepared all n u))

-- ---- the bench between two units

-- it goes on with what is expanded so far, outside of all forms
pub record GoesOn (b : Bench) (g : ScopedProgress) : Type 0 where
  pub outside : ScopedProgress
  pub is : IsProgressOutside g outside
  pub layout : List Frames
  pub state : ScopedState
  pub notes : List (Note FramedIdent)
  pub stands : StandsOutside b layout state notes
  pub continues : Continues state outside

-- it is this unit's turn
pub record IsTurnOf (all : List Placed) (known : Known) (g : ScopedProgress) (p : Prepared) : Type 0 where
  pub count : ℕ
  pub reached : scoped_work all (prepare all 0 all) known count scoped_before ≡ g
  pub ready : is_ready all (prepare all 0 all) g.results p ≡ true

-- what a unit that imports this comes to, and the state then
abbrev pub expanded_after : Known → ScopedProgress → Prepared → List Entry → Option (List Formed) × ScopedState
expanded_after known g p es = searched_unit_over known p (scoped_start_of p g (with_entries p.number es g.entry))

-- the program in which this was expanded
abbrev pub with_unit : ScopedProgress → ScopedState → Program
with_unit g s = record { units = g.results; table = s.table; entry = s.entry }

-- a unit was expanded, or work on it ended: what came of it, and the bench goes on behind it; each macro use was a step
pub record Expands (all : List Placed) (known : Known) (b : Bench) (g : ScopedProgress) (p : Prepared) (imports : List Entry × List SetResult) (from to : ℕ) (came : Option Expanded) : Type 0 where
  pub goes : GoesOn b (after_unit p imports (with_entries p.number imports.0 g.entry) g.results (expanded_after known g p imports.0))
  pub comes : ComesTo all (with_unit g (expanded_after known g p imports.0).1) b.work came (unit_result p imports (expanded_after known g p imports.0).1.table (expanded_after known g p imports.0).0)
  pub steps : to ≡ from + total_of (expanded_after known g p imports.0).1.uses (form_numbers p)

-- the units at these places are done
pub record IsUpTo (spelled : LibraryName → List ℕ) (all : List Placed) (known : Known) (x : List ℕ) (b : Bench) (u : Units) (es : List (Option Expanded)) : Type 0 where
  pub knows : Knows b.scope.libraries known
  pub goes : GoesOn b (scoped_at all known x)
  pub come : HaveCome all (scoped_at all known x) b.work es
  pub heads : HeadsBy all (scoped_at all known x) u.heads.items
  pub sources : AreSourcesOf spelled all u.sources.items
  pub count : length es ≡ length all
