-- What the units and the program of the code stand for: for each unit what the definition's program has of it.
use Rattle.std.specs.Prelude.{◌≡◌, ◌⊎◌, ◌↔◌, ℕ, suc, ◌<◌, nat_le, List, [], ◌∷◌, ◌++◌, map, filter, reverse, length, ◌==◌, Bool, true, false, Option, Some, None, Result, Ok, Err, slice_get, if◌then◌else◌}
use Rattle.std.specs.List.{Contains, zip, flat_map}
use Rattle.scheme_model.specs.declared.Occ.{Occ}
use Rattle.scheme_model.specs.Ident.{Written}
use Rattle.scheme_model.specs.ExpansionFaults.{fault_code}
use Rattle.scheme_model.specs.Cores.{Parts}
use Rattle.scheme_model.specs.Steps.{Broken}
use Rattle.scheme_model.specs.Order.{Counted}
use Rattle.scheme_model.specs.UnitExpansion.{Formed}
use Rattle.scheme_model.specs.Substitution.{Defined, Table}
use Rattle.scheme_model.specs.Requirements.{LibraryName}
use Rattle.scheme_model.specs.Entries.{Entry, ImportFault, NotThere, Clash, BadSet}
use Rattle.scheme_model.specs.Data.{place_of}
use Rattle.scheme_model.specs.Declarations.{UnitForm, UnitKind, IsLibrary, IsProgram, IsPart, home_of}
use Rattle.scheme_model.specs.Includes.{max_units}
use Rattle.scheme_model.specs.IncludedUnits.{Placed}
use Rattle.scheme_model.specs.Program.{Prepared, ExportSpec, WholeFault, whole_code, SetResult, Unknown, Faulty, Gives, ExportFault, NotDefined, SameExport, UnitResult, Program, specs_in, has_name, names_of_unit}
use Rattle.scheme_model.specs.Live.{NameUse}
use Rattle.scheme_model.specs.Spelling.{second_places}
use Rattle.scheme_model.specs.ProgramArrows.{program_table, unit_names}
use Rattle.syntax_tree.specs.Names.{Names}
use Rattle.syntax_tree.specs.Macros.{IsIdent}
use Rattle.syntax_tree.specs.Meant.{IsGivenMeaning, AreOrigins, AreEntries}
use Rattle.syntax_tree.specs.declared.trees.Work.{Work}
use Rattle.syntax_tree.specs.declared.units.UnitKind as code_kind
use Rattle.syntax_tree.specs.declared.units.UnitKind.TheVariants as kinds
use Rattle.core_tree.specs.Names.{AllMatch, IsTarget, IsUse}
use Rattle.core_tree.specs.Cores.{PartsStand}
use Rattle.core_tree.specs.Levels.{DefineOnTop}
use Rattle.core_tree.specs.Traces.{IsFault}
use Rattle.core_tree.specs.declared.cores.Binder as code_binder
use Rattle.core_tree.specs.declared.traces.FormFault as code_fault
use Rattle.core_tree.specs.declared.units.UnitForm as code_form
use Rattle.core_tree.specs.declared.units.NameUse as code_name
use Rattle.core_tree.specs.declared.units.UnitError as code_error
use Rattle.core_tree.specs.declared.units.TokenRange.{TokenRange}
use Rattle.core_tree.specs.declared.units.Unit as code_unit
use Rattle.core_tree.specs.declared.units.Program as code_program

-- ---- forms

-- a form that isn't expanded, or one of a unit that is broken as a whole
pub record IsBlank (c : code_form.UnitForm) : Type 0 where
  pub items : c.items ≡ []
  pub definitions : c.trace.definitions ≡ []
  pub keywords : c.trace.keywords ≡ []
  pub uses : c.trace.uses ≡ []
  pub fault : c.fault ≡ None

-- a form that isn't broken: its parts, which bind what their places say, and what was met in it
pub record IsExpanded (work : Work) (unit form : ℕ) (c : code_form.UnitForm) (ps : Parts) (met : Counted) : Type 0 where
  pub whole : c.fault ≡ None
  pub parts : PartsStand work unit form (map (λ i. i.part) c.items) ps
  pub levels : DefineOnTop ps
  pub keywords : AllMatch (IsTarget work.symbols unit form) c.trace.keywords (reverse met.keywords)
  pub uses : AllMatch (IsUse work.symbols unit form) c.trace.uses (reverse met.met)

-- of a broken form the fault counts, and its definitions, which are told with those of its unit
abbrev pub IsResult : Work → (unit form : ℕ) → code_form.UnitForm → Result Parts Broken → Counted → Type 0
IsResult work unit form c (Ok ps) met = IsExpanded work unit form c ps met
IsResult work unit form c (Err e) met = (f : code_fault.FormFault) × (c.fault ≡ Some f) × IsFault work.symbols f e

-- the forms from a number on: each is the next that was expanded, or blank
abbrev pub FormsStand : Work → (unit form : ℕ) → List code_form.UnitForm → List Formed → Type 0
FormsStand work unit form [] [] = Unit {0}
FormsStand work unit form [] (f ∷ fs) = ⊥
FormsStand work unit form (c ∷ cs) [] = IsBlank c × FormsStand work unit (suc form) cs []
FormsStand work unit form (c ∷ cs) (f ∷ fs) =
    (IsBlank c × (form < f.form) × FormsStand work unit (suc form) cs (f ∷ fs))
    ⊎ ((f.form ≡ form) × IsResult work unit form c f.result f.counted × FormsStand work unit (suc form) cs fs)

-- ---- definitions

pub record IsDefinition (names : Names) (number : ℕ) (b : ℕ × code_binder.Binder) (d : Defined) : Type 0 where
  pub form : b.0 ≡ d.form
  pub number_is : b.1.number ≡ number
  pub ident : IsIdent names b.1.ident d.ident
  pub place : b.1.occ ≡ d.occ

-- definitions with their forms, latest first, which are numbered from the first on
abbrev pub AreDefinitions : Names → List (ℕ × code_binder.Binder) → List Defined → Type 0
AreDefinitions names [] [] = Unit {0}
AreDefinitions names [] (d ∷ ds) = ⊥
AreDefinitions names (b ∷ bs) [] = ⊥
AreDefinitions names (b ∷ bs) (d ∷ ds) = IsDefinition names (length ds) b d × AreDefinitions names bs ds

-- what the forms from a number on define, in order
abbrev pub definitions_from : ℕ → List code_form.UnitForm → List (ℕ × code_binder.Binder)
definitions_from form [] = []
definitions_from form (c ∷ cs) = map (λ b. (form, b)) c.trace.definitions ++ definitions_from (suc form) cs

-- what a unit defines
abbrev pub defined_by : ℕ → Table → List Defined
defined_by unit table = filter (λ d. d.unit == unit) table

-- ---- names of imports and exports

pub record IsName (names : Names) (unit : ℕ) (n : code_name.NameUse) (m : NameUse) : Type 0 where
  pub meaning : IsGivenMeaning names n.target.meaning m.meaning
  pub ident : IsIdent names n.target.ident (Written unit m.symbol)
  pub place : n.target.occ ≡ m.occ
  pub origins : AreOrigins m.meaning n.origins m.origins

-- the external name of an export
pub record IsExternal (names : Names) (unit : ℕ) (n : code_name.NameUse) (x : ExportSpec) : Type 0 where
  pub ident : IsIdent names n.target.ident (Written unit x.outer.name)
  pub place : n.target.occ ≡ x.outer.occ

-- the exports that give something, in written order; `seen` are the external names before
abbrev pub given_exports : (List ℕ → Option Entry) → List (List ℕ) → List ExportSpec → List ExportSpec
given_exports find seen [] = []
given_exports find seen (x ∷ xs) = if_given (find x.inner.name) (has_name seen x.outer.name) x (given_exports find (x.outer.name ∷ seen) xs)
  where
    if_given : Option Entry → Bool → ExportSpec → List ExportSpec → List ExportSpec
    if_given None again x rest = rest
    if_given (Some e) true x rest = rest
    if_given (Some e) false x rest = x ∷ rest

abbrev pub unless_broken : {A : Type 0} → Option WholeFault → List A → List A
unless_broken None xs = xs
unless_broken (Some f) xs = []

-- the places of the second identifiers of the pairs that a unit's imports rename by
abbrev pub seconds_of : UnitResult → List Occ
seconds_of r = unless_broken r.fault (flat_map (λ s. second_places s.set) r.unit.specs)

-- the external names of what a unit exports
abbrev pub externals : Table → UnitResult → List ExportSpec
externals table r = unless_broken r.fault (given_exports (names_of_unit table r.unit.number r.entries) [] r.unit.exports)

-- the identifiers are these, in some order; the last are the external names, in the order of the exports
pub record AreNames (names : Names) (unit : ℕ) (cs : List code_name.NameUse) (ms : List NameUse) (xs : List ExportSpec) : Type 0 where
  pub told : List NameUse
  pub match : AllMatch (IsName names unit) cs told
  pub same : (m : NameUse) → Contains told m ↔ Contains ms m
  pub front : List code_name.NameUse
  pub last : List code_name.NameUse
  pub parted : cs ≡ front ++ last
  pub external : AllMatch (IsExternal names unit) last xs

-- ---- Errors

-- for each import set the form that it stands in
abbrev pub set_forms : (unit form : ℕ) → List UnitForm → List ℕ
set_forms unit form [] = []
set_forms unit form (f ∷ fs) = map (λ s. form) (specs_in unit form f) ++ set_forms unit (suc form) fs

abbrev pub import_code : ImportFault → ℕ
import_code (NotThere n) = 51
import_code (Clash s) = 52
import_code BadSet = 53

abbrev pub set_errors : List (ℕ × SetResult) → List (ℕ × ℕ)
set_errors [] = []
set_errors ((form, Unknown) ∷ rs) = set_errors rs
set_errors ((form, Faulty f) ∷ rs) = (import_code f, form) ∷ set_errors rs
set_errors ((form, Gives es clashes) ∷ rs) = map (λ s. (52, form)) clashes ++ set_errors rs

abbrev pub export_errors : List ExportFault → List (ℕ × ℕ)
export_errors [] = []
export_errors (NotDefined x ∷ fs) = (64, x.form) ∷ export_errors fs
export_errors (SameExport x ∷ fs) = (65, x.form) ∷ export_errors fs

abbrev pub form_errors : List Formed → List (ℕ × ℕ)
form_errors [] = []
form_errors (f ∷ fs) = of_result f.result f.form ++ form_errors fs
  where
    of_result : Result Parts Broken → ℕ → List (ℕ × ℕ)
    of_result (Ok ps) form = []
    of_result (Err e) form = (fault_code e.fault, form) ∷ []

-- the Errors of a unit by code and form: of its import sets, its exports and its forms, or the one by which it is broken
abbrev pub unit_errors : UnitResult → List (ℕ × ℕ)
unit_errors r = or_whole r.fault (set_errors (zip (set_forms r.unit.number 0 r.unit.forms) r.sets) ++ export_errors r.export_faults ++ form_errors r.forms)
  where
    or_whole : Option WholeFault → List (ℕ × ℕ) → List (ℕ × ℕ)
    or_whole None errors = errors
    or_whole (Some f) errors = (whole_code f, 0) ∷ []

abbrev pub error_as : code_error.UnitError → ℕ × ℕ
error_as e = (e.code, e.form)

-- ---- units

abbrev pub kind_as : code_kind.UnitKind → UnitKind
kind_as kinds.Library = IsLibrary
kind_as kinds.Program = IsProgram
kind_as kinds.Part = IsPart

abbrev pub text_of : (LibraryName → List ℕ) → Option LibraryName → Option (List ℕ)
text_of text None = None
text_of text (Some n) = Some (text n)

-- the tokens of forms that are numbered from one on, with the homes of their texts
abbrev pub ranges_from : (unit form : ℕ) → List UnitForm → List TokenRange
ranges_from unit form [] = []
ranges_from unit form (f ∷ fs) =
    record { home = home_of unit form f; first = (place_of f.datum).first; last = (place_of f.datum).last } ∷ ranges_from unit (suc form) fs

-- the units whose libraries a unit imports; one behind the most units imports nothing
abbrev pub imports_of : Prepared → List ℕ
imports_of p = if nat_le max_units p.number then [] else p.imports

-- a unit at a place of the list, where documents have these uris and libraries' names are written so
pub record UnitStands (work : Work) (text : LibraryName → List ℕ) (uris : List (List ℕ)) (all : List Placed) (p : Program) (place : ℕ) (c : code_unit.Unit) (r : UnitResult) : Type 0 where
  pub number : r.unit.number ≡ place
  pub uri : slice_get uris r.unit.placed.document ≡ Some c.uri
  pub kind : kind_as c.kind ≡ r.unit.placed.source.kind
  pub name : c.name ≡ text_of text r.unit.placed.source.name
  pub count : length c.forms ≡ length r.unit.forms
  pub forms : FormsStand work place 0 c.forms r.forms
  pub ranges : c.ranges.items ≡ ranges_from place 0 r.unit.forms
  pub definitions : AreDefinitions work.symbols (reverse (definitions_from 0 c.forms)) (defined_by place (program_table p))
  pub imports : c.imports ≡ imports_of r.unit
  pub names : AreNames work.symbols place c.names (unit_names all p r) (externals p.table r)
  pub seconds : c.seconds ≡ seconds_of r
  pub entries : AreEntries work.symbols c.entries r.entries
  pub exports : AreEntries work.symbols c.exports r.exports
  pub errors : map error_as c.errors ≡ unit_errors r

abbrev pub UnitsStand : Work → (LibraryName → List ℕ) → List (List ℕ) → List Placed → Program → ℕ → List code_unit.Unit → List UnitResult → Type 0
UnitsStand work text uris all p place [] [] = Unit {0}
UnitsStand work text uris all p place [] (r ∷ rs) = ⊥
UnitsStand work text uris all p place (c ∷ cs) [] = ⊥
UnitsStand work text uris all p place (c ∷ cs) (r ∷ rs) = UnitStands work text uris all p place c r × UnitsStand work text uris all p (suc place) cs rs

-- the program of documents with these uris, whose units are these
abbrev pub ProgramStands : Work → (LibraryName → List ℕ) → List (List ℕ) → List Placed → code_program.Program → Program → Type 0
ProgramStands work text uris all c p = UnitsStand work text uris all p 0 c.units p.units

-- the code's program stands for one
abbrev pub IsProgramOf : Work → code_program.Program → Type 0
IsProgramOf work c = (text : LibraryName → List ℕ) × (uris : List (List ℕ)) × (all : List Placed) × (p : Program) × ProgramStands work text uris all c p
