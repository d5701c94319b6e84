-- The program of the open documents (R7RS 5): its units in order, what each imports, defines and exports, and what its forms
-- expand to. A document is handed in as its data, where it reads, with what its strings mean. The units' numbers are their places in
-- the list.
use Rattle.std.specs.Prelude.{ℕ, zero, suc, ◌==◌, nat_le, nat_lt, List, [], ◌∷◌, ◌++◌, map, length, Bool, true, false, not, ◌&&◌, ◌||◌, Option, Some, None, Result, Ok, Err, codes, if◌then◌else◌, ◌^◌}
use Rattle.std.specs.List.{list_any}
use Rattle.std.specs.Str.{bytes_eq}
use Rattle.scheme_model.specs.Identifiers.{Name, Written}
use Rattle.scheme_model.specs.Ident.{Written as WrittenIdent}
use Rattle.scheme_model.specs.Data.{Datum}
use Rattle.scheme_model.specs.declared.Home.{Home}
use Rattle.scheme_model.specs.DataTrees.{tree_of, form_as}
use Rattle.scheme_model.specs.Trees.{Tree, name, atom, list, vector, no_trees, tree, proper, placed_in, placed_by}
use Rattle.scheme_model.specs.ExpansionFaults.{Named, Fault, IncludeRefused}
use Rattle.scheme_model.specs.Meaning.{Meaning, Standard, Global}
use Rattle.scheme_model.specs.Requirements.{LibraryName, Symbol, same_library, Known}
use Rattle.scheme_model.specs.RulesShape.{Rules, rules_map, rules_parts}
use Rattle.scheme_model.specs.Order.{is_some}
use Rattle.scheme_model.specs.Substitution.{Table, Defined, Entries, KeptMacro, State, model, defined_in}
use Rattle.scheme_model.specs.UnitExpansion.{Formed, unit}
use Rattle.scheme_model.specs.Prelude.{PreludeMacro, prelude}
use Rattle.scheme_model.specs.StandardLibraries.{StandardLibrary, standard_libraries, standard}
use Rattle.scheme_model.specs.Entries.{StandardName, Entry, entry_at, ImportSet, Library, Only, Except, Prefix, Rename, Bad, set_of, library_in, ImportFault, BadSet, entries_of, gather, place_origin}
use Rattle.scheme_model.specs.Declarations.{UnitForm, unit_or, home_of, UnitKind, IsLibrary, IsProgram, IsPart, is_part_kind, library_names, list_parts, is_headed}
use Rattle.scheme_model.specs.Includes.{Document, data_of, max_units}
use Rattle.scheme_model.specs.IncludedUnits.{EarlyFault, OnCircle, BadAt, TooManyTokens, UnitSource, Placed, included_units}

-- ---- the units of the documents

abbrev pub all_names : List Document → List LibraryName
all_names [] = []
all_names (d ∷ ds) = library_names (data_of d) ++ all_names ds

abbrev pub is_listed : List LibraryName → LibraryName → Bool
is_listed [] n = false
is_listed (m ∷ ms) n = same_library m n || is_listed ms n

-- the libraries for which a requirement holds: the standard ones, and those of readable documents
abbrev pub known_in : List Document → Known
known_in ds n = is_some (standard n) || is_listed (all_names ds) n

abbrev pub units_of : List Document → List Placed
units_of ds = included_units (known_in ds) ds

-- ---- declarations

abbrev pub is_declared : List ℕ → UnitForm → Bool
is_declared word f = f.declared && is_headed word f.datum

abbrev pub is_import : UnitForm → Bool
is_import f = is_declared (codes "import") f

abbrev pub is_export : UnitForm → Bool
is_export f = is_declared (codes "export") f

-- a declaration that includes a text
abbrev pub is_include : UnitForm → Bool
is_include f = is_declared (codes "include") f || (is_declared (codes "include-ci") f || is_declared (codes "include-library-declarations") f)

-- ---- imports

-- an import set with the data of the set and of its library's name, and a unit of the document where they stand
pub record ImportSpec : Type 0 where
  pub unit : ℕ
  pub set : ImportSet
  pub whole : Datum
  pub library : Datum

abbrev pub second_or : Datum → Option (List Datum) → Datum
second_or d None = d
second_or d (Some []) = d
second_or d (Some (a ∷ [])) = d
second_or d (Some (a ∷ b ∷ ds)) = b

-- the datum of the library's name: what stands inside of all modifiers
abbrev pub library_datum : ImportSet → Datum → Datum
library_datum (Library n) d = d
library_datum (Only s ns) d = library_datum s (second_or d (list_parts d))
library_datum (Except s ns) d = library_datum s (second_or d (list_parts d))
library_datum (Prefix s p) d = library_datum s (second_or d (list_parts d))
library_datum (Rename s ps) d = library_datum s (second_or d (list_parts d))
library_datum Bad d = d

abbrev pub spec_with : (unit : ℕ) → Datum → ImportSet → ImportSpec
spec_with unit d set = record { unit = unit; set = set; whole = d; library = library_datum set d }

-- a set in a form, by the form's home
abbrev pub spec_of : ℕ → ℕ → ℕ → Datum → ImportSpec
spec_of unit form first d = spec_with unit d (set_of (tree_of (λ s. s) (placed_in unit form first) d))

abbrev pub behind_first : Option (List Datum) → List Datum
behind_first None = []
behind_first (Some []) = []
behind_first (Some (d ∷ ds)) = ds

abbrev pub specs_in : ℕ → ℕ → UnitForm → List ImportSpec
specs_in unit form f =
    let h = home_of unit form f in if is_import f then map (spec_of h.unit h.form h.first) (behind_first (list_parts f.datum)) else []

abbrev pub specs_from : ℕ → ℕ → List UnitForm → List ImportSpec
specs_from unit form [] = []
specs_from unit form (f ∷ fs) = specs_in unit form f ++ specs_from unit (suc form) fs

-- ---- exports

-- an export: the form that it stands in, the identifier inside, and the external name, each with its place
pub record ExportSpec : Type 0 where
  pub form : ℕ
  pub inner : Named (List ℕ)
  pub outer : Named (List ℕ)
  pub renamed : Bool

abbrev pub export_of : (form : ℕ) → Tree (List ℕ) → List ExportSpec
export_of form (name i o) = record { form = form; inner = record { name = i; occ = o }; outer = record { name = i; occ = o }; renamed = false } ∷ []
export_of form (atom a o) = []
export_of form (vector ts o) = []
export_of form (list no_trees tail o) = []
export_of form (list (tree r no_trees) tail o) = []
export_of form (list (tree r (tree (name i p) (tree (name j q) ts))) tail o) = record { form = form; inner = record { name = i; occ = p }; outer = record { name = j; occ = q }; renamed = true } ∷ []
export_of form (list (tree r (tree (name i p) no_trees)) tail o) = []
export_of form (list (tree r (tree (name i p) (tree (atom b q) ts))) tail o) = []
export_of form (list (tree r (tree (name i p) (tree (list us end q) ts))) tail o) = []
export_of form (list (tree r (tree (name i p) (tree (vector us q) ts))) tail o) = []
export_of form (list (tree r (tree (atom a p) ts)) tail o) = []
export_of form (list (tree r (tree (list us end p) ts)) tail o) = []
export_of form (list (tree r (tree (vector us p) ts)) tail o) = []

-- the exports in a form with this number and this home
abbrev pub exports_with : (form : ℕ) → Home → List Datum → List ExportSpec
exports_with form h [] = []
exports_with form h (d ∷ ds) = export_of form (tree_of (λ s. s) (placed_by h) d) ++ exports_with form h ds

abbrev pub exports_in : ℕ → ℕ → UnitForm → List ExportSpec
exports_in unit form f =
    if is_export f then exports_with form (home_of unit form f) (behind_first (list_parts f.datum)) else []

abbrev pub exports_from : ℕ → ℕ → List UnitForm → List ExportSpec
exports_from unit form [] = []
exports_from unit form (f ∷ fs) = exports_in unit form f ++ exports_from unit (suc form) fs

-- ---- why a unit is broken as a whole

pub data WholeFault : Type 0 where
  TooMany : WholeFault
  IncludeCycle : WholeFault
  BadDeclaration : (unit : ℕ) → Datum → WholeFault
  DefinedTwice : WholeFault
  ImportCycle : WholeFault
  TooLarge : WholeFault

-- the code of its diagnostic
abbrev pub whole_code : WholeFault → ℕ
whole_code TooMany = 67
whole_code IncludeCycle = 68
whole_code (BadDeclaration unit d) = 61
whole_code DefinedTwice = 63
whole_code ImportCycle = 62
whole_code TooLarge = 66

-- the name of a library that isn't left out
abbrev pub name_if : ℕ → UnitSource → Option LibraryName
name_if place u = if nat_lt place max_units then usable u.forms u.name else None
  where
    usable : Result (List UnitForm) EarlyFault → Option LibraryName → Option LibraryName
    usable (Ok fs) n = n
    usable (Err e) n = None

abbrev pub is_named : LibraryName → Option LibraryName → Bool
is_named n None = false
is_named n (Some m) = same_library m n

abbrev pub unless_standard : Option LibraryName → Option LibraryName
unless_standard None = None
unless_standard (Some n) = if is_some (standard n) then None else Some n

-- the name by which a unit is imported: a standard name means the standard library, whatever units have it
abbrev pub imported_as : ℕ → UnitSource → Option LibraryName
imported_as place u = unless_standard (name_if place u)

-- the unit that a library's name means: the first that is imported by it
abbrev pub unit_named : LibraryName → ℕ → List Placed → Option ℕ
unit_named n place [] = None
unit_named n place (u ∷ us) = if is_named n (imported_as place u.source) then Some place else unit_named n (suc place) us

abbrev pub forms_or_none : Result (List UnitForm) EarlyFault → List UnitForm
forms_or_none (Ok fs) = fs
forms_or_none (Err e) = []

-- the places of the units that a unit imports
abbrev pub imported_units : List Placed → List ImportSpec → List ℕ
imported_units us [] = []
imported_units us (s ∷ ss) = of_name (library_in s.set) (imported_units us ss)
  where
    of_unit : Option ℕ → List ℕ → List ℕ
    of_unit None rest = rest
    of_unit (Some n) rest = n ∷ rest

    of_name : Option LibraryName → List ℕ → List ℕ
    of_name None rest = rest
    of_name (Some n) rest = of_unit (unit_named n 0 us) rest

-- a unit with what it needs, before anything is expanded
pub record Prepared : Type 0 where
  pub placed : Placed
  pub number : ℕ
  pub forms : List UnitForm
  pub specs : List ImportSpec
  pub exports : List ExportSpec
  pub imports : List ℕ

abbrev pub prepared : List Placed → ℕ → Placed → Prepared
prepared all n u = let fs = forms_or_none u.source.forms in record {
  placed = u;
  number = n;
  forms = fs;
  specs = specs_from n 0 fs;
  exports = exports_from n 0 fs;
  imports = imported_units all (specs_from n 0 fs);
}

abbrev pub prepare : List Placed → ℕ → List Placed → List Prepared
prepare all n [] = []
prepare all n (u ∷ us) = prepared all n u ∷ prepare all (suc n) us

abbrev pub imports_at : List Prepared → ℕ → List ℕ
imports_at [] n = []
imports_at (p ∷ ps) n = if p.number == n then p.imports else imports_at ps n

abbrev pub is_in : ℕ → List ℕ → Bool
is_in n [] = false
is_in n (m ∷ ms) = n == m || is_in n ms

abbrev pub joined : List ℕ → List ℕ → List ℕ
joined ms [] = ms
joined ms (n ∷ ns) = joined (if is_in n ms then ms else n ∷ ms) ns

abbrev pub imports_of_all : List Prepared → List ℕ → List ℕ
imports_of_all ps [] = []
imports_of_all ps (n ∷ ns) = joined (imports_of_all ps ns) (imports_at ps n)

-- what units import, directly or not, in so many steps
abbrev pub reached : List Prepared → ℕ → List ℕ → List ℕ
reached ps zero ns = ns
reached ps (suc steps) ns = reached ps steps (joined ns (imports_of_all ps ns))

-- a unit that imports itself, directly or not
abbrev pub on_circle : List Prepared → Prepared → Bool
on_circle ps p = is_in p.number (reached ps (length ps) p.imports)

abbrev pub is_repeated : List Placed → Prepared → Bool
is_repeated all p = later (name_if p.number p.placed.source)
  where
    is_first : Option ℕ → ℕ → Bool
    is_first None n = false
    is_first (Some m) n = m == n

    later : Option LibraryName → Bool
    later None = false
    later (Some n) = is_some (standard n) || not (is_first (unit_named n 0 all) p.number)

-- a bad declaration is told with a unit of its document: this one, unless its text is included
abbrev pub early_fault : (unit : ℕ) → EarlyFault → WholeFault
early_fault unit OnCircle = IncludeCycle
early_fault unit (BadAt h) = BadDeclaration (unit_or unit h.home) h.datum
early_fault unit TooManyTokens = TooLarge

abbrev pub declared_fault : (unit : ℕ) → Result (List UnitForm) EarlyFault → Option WholeFault → Option WholeFault
declared_fault unit (Ok fs) other = other
declared_fault unit (Err e) other = Some (early_fault unit e)

-- what breaks a unit before its forms are expanded
abbrev pub fault_before : List Placed → List Prepared → Prepared → Option WholeFault
fault_before all ps p =
    if nat_le max_units p.number then Some TooMany
    else declared_fault p.number p.placed.source.forms (if is_repeated all p then Some DefinedTwice else if on_circle ps p then Some ImportCycle else None)

-- ---- what a unit comes to

-- what an import set came to: nothing as its library isn't known or is broken; its fault; or its entries, of which these
-- names clash with those of the sets before
pub data SetResult : Type 0 where
  Unknown : SetResult
  Faulty : ImportFault → SetResult
  Gives : List Entry → (clashes : List (List ℕ)) → SetResult

-- an export that gives nothing
pub data ExportFault : Type 0 where
  NotDefined : ExportSpec → ExportFault
  SameExport : ExportSpec → ExportFault

pub record UnitResult : Type 0 where
  pub unit : Prepared
  pub fault : Option WholeFault
  pub sets : List SetResult
  pub entries : List Entry
  pub forms : List Formed
  pub exports : List Entry
  pub export_faults : List ExportFault

-- what was expanded so far: the definitions and macros of all units, what each imports, and the results, latest first
pub record Progress : Type 0 where
  pub table : Table
  pub macros : List KeptMacro
  pub entry : Entries
  pub results : List UnitResult

abbrev pub result_at : List UnitResult → ℕ → Option UnitResult
result_at [] n = None
result_at (r ∷ rs) n = if r.unit.number == n then Some r else result_at rs n

-- ---- entries

abbrev pub standard_entry : List ℕ → Entry
standard_entry s = record { name = s; meaning = Standard s; origins = record { source = StandardName s; prefix = [] } ∷ [] }

abbrev pub exports_if : Option UnitResult → Option (List Entry)
exports_if None = None
exports_if (Some r) = if is_some r.fault then None else Some r.exports

abbrev pub unit_exports : List UnitResult → Option ℕ → Option (List Entry)
unit_exports rs None = None
unit_exports rs (Some n) = exports_if (result_at rs n)

abbrev pub library_exports : List Placed → List UnitResult → LibraryName → Option (List (List ℕ)) → Option (List Entry)
library_exports all rs n (Some names) = Some (map standard_entry names)
library_exports all rs n None = unit_exports rs (unit_named n 0 all)

-- the entries of one set more, beside those of the sets before
abbrev pub after_set : List Entry → Result (List Entry) ImportFault → List Entry × SetResult
after_set es (Err f) = (es, Faulty f)
after_set es (Ok ds) = let g = gather es ds [] in (g.0, Gives ds g.1)

abbrev pub with_exports : List Entry → ImportSet → Option (List Entry) → List Entry × SetResult
with_exports es set None = (es, Unknown)
with_exports es set (Some exports) = after_set es (entries_of set exports)

abbrev pub of_library : List Placed → List UnitResult → List Entry → ImportSet → Option LibraryName → List Entry × SetResult
of_library all rs es set None = (es, Faulty BadSet)
of_library all rs es set (Some n) = with_exports es set (library_exports all rs n (standard n))

abbrev pub import_all : List Placed → List UnitResult → List Entry → List ImportSpec → List Entry × List SetResult
import_all all rs es [] = (es, [])
import_all all rs es (s ∷ ss) =
    let q = of_library all rs es s.set (library_in s.set) in
    let rest = import_all all rs q.0 ss in (rest.0, q.1 ∷ rest.1)

abbrev pub base_entries : List Entry
base_entries = map standard_entry (names_or (standard (Symbol (codes "scheme") ∷ Symbol (codes "base") ∷ [])))
  where
    names_or : Option (List (List ℕ)) → List (List ℕ)
    names_or None = []
    names_or (Some ns) = ns

abbrev pub is_program : UnitKind → Bool
is_program IsLibrary = false
is_program IsProgram = true
is_program IsPart = false

-- a program without an import has `(scheme base)`; `(import)` is one
abbrev pub imports_nothing : Prepared → Bool
imports_nothing p = is_program p.placed.source.kind && not (list_any is_import p.forms)

abbrev pub unit_entries : List Placed → List UnitResult → Prepared → List Entry × List SetResult
unit_entries all rs p = if imports_nothing p then (base_entries, []) else import_all all rs [] p.specs

abbrev pub entry_meaning : Option Entry → Option Meaning
entry_meaning None = None
entry_meaning (Some e) = Some e.meaning

abbrev pub with_entries : ℕ → List Entry → Entries → Entries
with_entries n es before u s = if u == n then entry_meaning (entry_at es s) else before u s

-- ---- the forms

-- the forms that are worked on in the unit; a part's are worked on where they are included
abbrev pub forms_at_work : Prepared → List UnitForm
forms_at_work p = if is_part_kind p.placed.source.kind then [] else p.forms

-- the forms that are expanded, which aren't declarations, each by its number and its home
abbrev pub form_trees : ℕ → ℕ → List UnitForm → List (ℕ × Tree Name)
form_trees unit form [] = []
form_trees unit form (f ∷ fs) = if f.declared then form_trees unit (suc form) fs else (form, form_as unit (home_of unit form f) f.datum) ∷ form_trees unit (suc form) fs

abbrev pub start_of : Prepared → Table → List KeptMacro → Entries → State
start_of p table macros entry = record {
  unit = p.number;
  program = is_program p.placed.source.kind;
  form = 0;
  locals = λ f. 0;
  uses = λ f. 0;
  nodes = λ f. 0;
  bodies = λ f. 0;
  keywords = λ f. [];
  met = λ f. [];
  table = table;
  entry = entry;
  macros = macros;
  in_body = false;
  mine = [];
}

-- more turns than any unit within the budgets takes: each form that is gone through takes one, and 10,000 uses of a form may each give
-- a tree of 4,194,304 nodes
abbrev pub enough_turns : ℕ
enough_turns = 2 ^ 64

-- ---- exports

-- what a symbol of a unit names: a definition before an import
abbrev pub own_entry : ℕ → List ℕ → Option Defined → Option Entry → Option Entry
own_entry u s None e = e
own_entry u s (Some d) e = Some (record { name = s; meaning = Global u d.ident; origins = place_origin d.occ })

abbrev pub names_of_unit : Table → ℕ → List Entry → List ℕ → Option Entry
names_of_unit table u es s = own_entry u s (defined_in table u (WrittenIdent u s)) (entry_at es s)

abbrev pub exported : ExportSpec → Entry → Entry
exported x e = record { name = x.outer.name; meaning = e.meaning; origins = if x.renamed then place_origin x.outer.occ else e.origins }

pub record Exported : Type 0 where
  pub entries : List Entry
  pub faults : List ExportFault

abbrev pub has_name : List (List ℕ) → List ℕ → Bool
has_name [] s = false
has_name (t ∷ ts) s = bytes_eq t s || has_name ts s

abbrev pub export_one : List (List ℕ) → ExportSpec → Option Entry → Exported → Exported
export_one seen x None rest = record { entries = rest.entries; faults = NotDefined x ∷ rest.faults }
export_one seen x (Some e) rest =
    if has_name seen x.outer.name then record { entries = rest.entries; faults = SameExport x ∷ rest.faults }
    else record { entries = exported x e ∷ rest.entries; faults = rest.faults }

-- the exports in written order; `seen` are the external names before
abbrev pub export_all : (List ℕ → Option Entry) → List (List ℕ) → List ExportSpec → Exported
export_all find seen [] = record { entries = []; faults = [] }
export_all find seen (x ∷ xs) = export_one seen x (find x.inner.name) (export_all find (x.outer.name ∷ seen) xs)

-- ---- one unit after another

abbrev pub broken_result : Prepared → WholeFault → UnitResult
broken_result p fault = record { unit = p; fault = Some fault; sets = []; entries = []; forms = []; exports = []; export_faults = [] }

abbrev pub broken_unit : Prepared → WholeFault → Progress → Progress
broken_unit p fault g = record g { results = broken_result p fault ∷ g.results }

-- a declaration that includes a text is broken, and placed at its own first token
abbrev pub refused_form : (unit form : ℕ) → Formed
refused_form unit form = record {
  form = form;
  result = Err (record { fault = IncludeRefused; here = Some (record { unit = unit; form = form; token = 0 }) });
  counted = record { locals = 0; uses = 0; nodes = 0; keywords = []; met = [] };
}

-- forms that were expanded, and between them those that are refused
abbrev pub with_refused : (unit form : ℕ) → List UnitForm → List Formed → List Formed
with_refused unit form [] es = es
with_refused unit form (f ∷ fs) es =
    if is_include f then refused_form unit form ∷ with_refused unit (suc form) fs es
    else if f.declared then with_refused unit (suc form) fs es
    else behind_first_of es (with_refused unit (suc form) fs)
  where
    behind_first_of : List Formed → (List Formed → List Formed) → List Formed
    behind_first_of [] rest = rest []
    behind_first_of (e ∷ es) rest = e ∷ rest es

-- by what it imports, what is defined by then, and what its forms came to, unless work on it ended
abbrev pub unit_result : Prepared → List Entry × List SetResult → Table → Option (List Formed) → UnitResult
unit_result p imports table None = broken_result p TooLarge
unit_result p imports table (Some forms) =
    let exports = export_all (names_of_unit table p.number imports.0) [] p.exports in
    record { unit = p; fault = None; sets = imports.1; entries = imports.0; forms = with_refused p.number 0 (forms_at_work p) forms; exports = exports.entries; export_faults = exports.faults }

abbrev pub unit_over : Known → List (ℕ × Tree Name) → State → Option (List Formed) × State
unit_over known ts s = unit (model known) enough_turns tt ts s

abbrev pub expanded_unit : List Placed → Known → Prepared → List Entry × List SetResult → Progress → Progress
expanded_unit all known p imports g =
    let q = unit_over known (form_trees p.number 0 (forms_at_work p)) (start_of p g.table g.macros (with_entries p.number imports.0 g.entry)) in
    record { table = q.1.table; macros = q.1.macros; entry = with_entries p.number imports.0 g.entry; results = unit_result p imports q.1.table q.0 ∷ g.results }

abbrev pub by_fault : List Placed → List Prepared → Known → Prepared → Option WholeFault → Progress → Progress
by_fault all ps known p (Some fault) g = broken_unit p fault g
by_fault all ps known p None g = expanded_unit all known p (unit_entries all g.results p) g

-- a unit is ready once all that it imports are done
abbrev pub all_done : List UnitResult → List ℕ → Bool
all_done rs [] = true
all_done rs (n ∷ ns) = is_some (result_at rs n) && all_done rs ns

abbrev pub is_ready : List Placed → List Prepared → List UnitResult → Prepared → Bool
is_ready all ps rs p = not (is_some (result_at rs p.number)) && (is_some (fault_before all ps p) || all_done rs p.imports)

abbrev pub first_ready : (Prepared → Bool) → List Prepared → Option Prepared
first_ready ready [] = None
first_ready ready (p ∷ ps) = if ready p then Some p else first_ready ready ps

abbrev pub worked : List Placed → List Prepared → Known → Option Prepared → Progress → Progress
worked all ps known None g = g
worked all ps known (Some p) g = by_fault all ps known p (fault_before all ps p) g

-- each unit after what it imports, those that are ready in their order
abbrev pub work : List Placed → List Prepared → Known → ℕ → Progress → Progress
work all ps known zero g = g
work all ps known (suc n) g = work all ps known n (worked all ps known (first_ready (is_ready all ps g.results) ps) g)

-- ---- the prelude

-- the number of the prelude's unit
abbrev pub prelude_unit : ℕ
prelude_unit = 128

abbrev pub is_standard_in : List StandardLibrary → List ℕ → Bool
is_standard_in [] s = false
is_standard_in (l ∷ ls) s = has_name l.names s || is_standard_in ls s

abbrev pub is_standard : List ℕ → Bool
is_standard s = is_standard_in standard_libraries s

-- in the prelude's unit every standard name means itself
abbrev pub prelude_entry : Entries
prelude_entry u s = if (u == prelude_unit) && is_standard s then Some (Standard s) else None

abbrev pub written_rules : Result (Rules (List ℕ)) (Fault (List ℕ)) → Rules Name
written_rules (Ok r) = rules_map (Written prelude_unit) r
written_rules (Err e) = record { ellipsis = None; literals = []; rules = [] }

-- a macro of the prelude is what its name means, a standard name or a definition of that unit
abbrev pub prelude_meaning : List ℕ → Meaning
prelude_meaning s = if is_standard s then Standard s else Global prelude_unit (WrittenIdent prelude_unit s)

abbrev pub prelude_macro : PreludeMacro → KeptMacro
prelude_macro m = record { meaning = prelude_meaning m.name; rules = written_rules (rules_parts m.parts proper) }

abbrev pub prelude_definitions : List PreludeMacro → Table
prelude_definitions [] = []
prelude_definitions (m ∷ ms) =
    if is_standard m.name then prelude_definitions ms
    else record { unit = prelude_unit; form = 0; ident = WrittenIdent prelude_unit m.name; keyword = true; occ = None } ∷ prelude_definitions ms

abbrev pub progress_before : Progress
progress_before = record { table = prelude_definitions prelude; macros = map prelude_macro prelude; entry = prelude_entry; results = [] }

-- ---- the program

abbrev pub in_order : List UnitResult → ℕ → ℕ → List UnitResult
in_order rs n zero = []
in_order rs n (suc more) = or_skip (result_at rs n) (in_order rs (suc n) more)
  where
    or_skip : Option UnitResult → List UnitResult → List UnitResult
    or_skip None rest = rest
    or_skip (Some r) rest = r ∷ rest

pub record Program : Type 0 where
  pub units : List UnitResult
  pub table : Table
  pub entry : Entries

abbrev pub program_with : List Placed → List Prepared → Known → Program
program_with all ps known =
    let g = work all ps known (length ps) progress_before in record { units = in_order g.results 0 (length ps); table = g.table; entry = g.entry }

abbrev pub program_of : List Document → Program
program_of ds = program_with (units_of ds) (prepare (units_of ds) 0 (units_of ds)) (known_in ds)

abbrev pub is_some_fault : Option WholeFault → Bool
is_some_fault f = is_some f
