-- What the import sets of a unit come to (R7RS 5.2, 5.6.1), as the code keeps it: the libraries that were expanded, entries and
-- faults, each as the definition's.
use Rattle.std.specs.Prelude.{◌≡◌, ℕ, List, slice_get, Option, Some, None, Ok}
use Rattle.std.specs.BTreeMap.{get_by_text}
use Rattle.scheme_model.specs.Requirements.{LibraryName}
use Rattle.scheme_model.specs.StandardLibraries.{standard}
use Rattle.scheme_model.specs.Entries as model
use Rattle.scheme_model.specs.IncludedUnits.{Placed}
use Rattle.scheme_model.specs.Program.{Prepared, UnitResult, SetResult, Unknown, Faulty, result_at, exports_if, unit_named, library_exports, of_library, after_set}
use Rattle.syntax_tree.specs.Names.{Names}
use Rattle.syntax_tree.specs.Meant.{AreEntries}
use Rattle.syntax_tree.specs.declared.units.Entry.{Entry}
use Rattle.core_tree.specs.Names.{AllMatch}
use Rattle.core_tree.specs.Units.{kind_as}
use Rattle.import_sets.specs.Sets.{named}
use Rattle.import_sets.specs.declared.fault.ImportFault as code_fault
use Rattle.import_sets.specs.declared.fault.ImportFault.TheVariants as fault
use Rattle.base_library.specs.Texts.{SpellsStandard}
use Rattle.unit_sources.specs.UnitsRead.{forms_of}
use Rattle.unit_sources.specs.declared.units.UnitSource as code_source
use Rattle.unit_imports.specs.declared.expanded.Expanded.{Expanded}
use Rattle.unit_imports.specs.declared.entries.Libraries as code
use Rattle.unit_imports.specs.declared.entries.SetGives.{SetGives}
use Rattle.unit_imports.specs.declared.entries.SetGives.TheVariants as gives
use Rattle.read_documents.specs.UnitSources.{IsSpec}

-- ---- libraries

-- entries, where there are some
abbrev pub AreEntriesIf : Names → Option (List Entry) → Option (List model.Entry) → Type 0
AreEntriesIf names None ds = ds ≡ None
AreEntriesIf names (Some es) ds = (xs : List model.Entry) × (ds ≡ Some xs) × AreEntries names es xs

-- what the unit at a place exports, if it was expanded
abbrev pub exports_of : Option (Option Expanded) → Option (List Entry)
exports_of None = None
exports_of (Some None) = None
exports_of (Some (Some e)) = Some e.exports

abbrev pub exports_at : List (Option Expanded) → Option ℕ → Option (List Entry)
exports_at all None = None
exports_at all (Some n) = exports_of (slice_get all n)

-- names lead to the first units that have them, and units export what these results say
pub record AreLibraries (names : Names) (c : code.Libraries) (spelled : LibraryName → List ℕ) (all : List Placed) (rs : List UnitResult) : Type 0 where
  pub spells : SpellsStandard spelled
  pub units : (n : LibraryName) → get_by_text c.firsts.now (spelled n) ≡ unit_named n 0 all
  pub exports : (n : ℕ) → AreEntriesIf names (exports_at c.expanded.now (Some n)) (exports_if (result_at rs n))

-- what the library of a set exports
abbrev pub set_exports : List Placed → List UnitResult → Option LibraryName → Option (List model.Entry)
set_exports all rs None = None
set_exports all rs (Some n) = library_exports all rs n (standard n)

-- ---- sets

-- a unit imports what this one does
pub record ImportsAs (spelled : LibraryName → List ℕ) (c : code_source.UnitSource) (p : Prepared) : Type 0 where
  pub kind : kind_as c.kind ≡ p.placed.source.kind
  pub forms : p.forms ≡ forms_of c.forms
  pub specs : AllMatch (IsSpec spelled) c.imports p.specs

-- a fault of a set
abbrev pub IsSetFault : code_fault.ImportFault → model.ImportFault → Type 0
IsSetFault fault.Memory f = ⊥
IsSetFault (fault.NotThere n) f = f ≡ model.NotThere (named n)
IsSetFault (fault.Clash s) f = f ≡ model.Clash s
IsSetFault fault.BadSet f = f ≡ model.BadSet

-- what a set comes to, whatever the sets before it gave
abbrev pub ComesTo : Names → SetGives → (List model.Entry → List model.Entry × SetResult) → Type 0
ComesTo names (gives.Entries es) after = (ds : List model.Entry) × AreEntries names es ds × ((before : List model.Entry) → after before ≡ after_set before (Ok ds))
ComesTo names gives.Unknown after = (before : List model.Entry) → after before ≡ (before, Unknown)
ComesTo names (gives.Faulty e) after = (f : model.ImportFault) × IsSetFault e f × ((before : List model.Entry) → after before ≡ (before, Faulty f))

-- what a set adds to the entries of those before it
abbrev pub with_set : List Placed → List UnitResult → model.ImportSet → List model.Entry → List model.Entry × SetResult
with_set all rs s before = of_library all rs before s (model.library_in s)
