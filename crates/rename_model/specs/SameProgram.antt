-- When two programs are the same up to the names that were asked for: their lists of units agree, and in each unit in reach the new
-- one has no Error, and forms, macros and exports agree under paired binders.
use Rattle.std.specs.Prelude.{◌≡◌, ℕ, zero, suc, ◌==◌, nat_le, max, List, [], ◌∷◌, ◌++◌, map, length, Bool, true, false, ◌&&◌, ◌||◌, Option, Some, None, Result, Ok, Err, if◌then◌else◌}
use Rattle.std.specs.Str.{bytes_eq}
use Rattle.std.specs.List.{zip, flat_map}
use Rattle.scheme_model.specs.declared.Occ.{Occ}
use Rattle.scheme_model.specs.Identifiers.{Number, same_number}
use Rattle.scheme_model.specs.Requirements.{LibraryPart, LibraryName, Symbol, Digits}
use Rattle.scheme_model.specs.Cores.{Parts, no_parts}
use Rattle.scheme_model.specs.Steps.{Broken}
use Rattle.scheme_model.specs.UnitExpansion.{Formed}
use Rattle.scheme_model.specs.Substitution.{Table}
use Rattle.scheme_model.specs.Entries.{Entry}
use Rattle.scheme_model.specs.Declarations.{UnitForm, UnitKind, IsLibrary, IsProgram, IsPart}
use Rattle.scheme_model.specs.IncludedUnits.{Placed}
use Rattle.scheme_model.specs.Program.{UnitResult, Program, result_at, ExportSpec, WholeFault, SetResult, Unknown, Faulty, Gives, ExportFault, NotDefined, SameExport, specs_in}
use Rattle.scheme_model.specs.ProgramArrows.{program_leaves, program_keywords, program_names, program_table, is_live_at}
use Rattle.rename_model.specs.Walks.{Node, node_number, IsSymbol, IsNumeral, IsString, Seen, OfNode, OfNumber, OfName, OfDefinition, OfLocal, OfBinders, Spot, AtUse, AtQuoted, AtRule, AtTemplate, AtExport, AtErrors, AtShape, Shown, ShowsNothing, ShowsSymbol, Point, point, node, number, meaning_at, form_points}

-- ---- points that agree

-- locals whose binders stand at the same place on the way down, of the old program and the new
abbrev pub Partners : Type 0
Partners = List (Number × Number)

abbrev pub are_partners : Partners → Number → Number → Bool
are_partners [] v w = false
are_partners (p ∷ ps) v w = (same_number p.0 v && same_number p.1 w) || are_partners ps v w

-- what is seen, but for the numbers of locals
abbrev pub seen_code : Seen → List ℕ
seen_code (OfNode k) = 0 ∷ node_number k ∷ []
seen_code (OfNumber n) = 1 ∷ n ∷ []
seen_code (OfName k s) = 2 ∷ node_number k ∷ s
seen_code (OfDefinition u None) = 3 ∷ u ∷ []
seen_code (OfDefinition u (Some n)) = 3 ∷ u ∷ n ∷ []
seen_code (OfLocal v) = 4 ∷ []
seen_code (OfBinders k vs) = 5 ∷ []

abbrev pub partner_seen : Partners → Number → Seen → Bool
partner_seen ps v (OfNode k) = false
partner_seen ps v (OfNumber n) = false
partner_seen ps v (OfName k s) = false
partner_seen ps v (OfDefinition u n) = false
partner_seen ps v (OfLocal w) = are_partners ps v w
partner_seen ps v (OfBinders k vs) = false

-- locals are partners, and all else is equal
abbrev pub agree : Partners → Seen → Seen → Bool
agree ps (OfNode k) t = bytes_eq (seen_code (OfNode k)) (seen_code t)
agree ps (OfNumber n) t = bytes_eq (seen_code (OfNumber n)) (seen_code t)
agree ps (OfName k s) t = bytes_eq (seen_code (OfName k s)) (seen_code t)
agree ps (OfDefinition u n) t = bytes_eq (seen_code (OfDefinition u n)) (seen_code t)
agree ps (OfLocal v) t = partner_seen ps v t
agree ps (OfBinders k vs) t = bytes_eq (seen_code (OfBinders k vs)) (seen_code t)

-- binders of one kind pair in their order
abbrev pub paired_with : Node → List Number → Seen → Partners
paired_with k vs (OfNode l) = []
paired_with k vs (OfNumber n) = []
paired_with k vs (OfName l s) = []
paired_with k vs (OfDefinition u n) = []
paired_with k vs (OfLocal w) = []
paired_with k vs (OfBinders l ws) = if node_number k == node_number l then zip vs ws else []

abbrev pub paired : Seen → Seen → Partners
paired (OfNode k) t = []
paired (OfNumber n) t = []
paired (OfName k s) t = []
paired (OfDefinition u n) t = []
paired (OfLocal v) t = []
paired (OfBinders k vs) t = paired_with k vs t

abbrev pub at_template : Spot → Bool
at_template AtUse = false
at_template AtQuoted = false
at_template AtRule = false
at_template AtTemplate = true
at_template AtExport = false
at_template AtErrors = false
at_template AtShape = false

-- an identifier of a template that is live is compared where it is, and not in the rules
abbrev pub left_out : (Option Occ → Bool) → Point → Bool
left_out live p = at_template p.spot && live p.occ

abbrev pub points_agree : (Option Occ → Bool) → Partners → Point → Point → Bool
points_agree live ps o n = left_out live o || agree ps o.seen n.seen

-- all points agree, one by one
abbrev pub Agree : (Option Occ → Bool) → Partners → List Point → List Point → Type 0
Agree live ps [] [] = Unit {0}
Agree live ps [] (n ∷ ns) = ⊥
Agree live ps (o ∷ os) [] = ⊥
Agree live ps (o ∷ os) (n ∷ ns) = (points_agree live ps o n ≡ true) × Agree live (paired o.seen n.seen ++ ps) os ns

-- ---- stretches

-- points of the two programs that stand in a form of a unit, whose locals are its own
pub record Stretch : Type 0 where
  pub unit : ℕ
  pub form : ℕ
  pub old : List Point
  pub new : List Point

abbrev pub stretch : (unit form : ℕ) → List Point → List Point → Stretch
stretch unit form os ns = record { unit = unit; form = form; old = os; new = ns }

abbrev pub AllAgree : (Option Occ → Bool) → List Stretch → Type 0
AllAgree live [] = Unit {0}
AllAgree live (s ∷ ss) = Agree live [] s.old s.new × AllAgree live ss

-- ---- the units that there are

abbrev pub part_points : LibraryPart → List Point
part_points (Symbol s) = point AtShape (OfName IsSymbol s) None ShowsNothing ∷ []
part_points (Digits s) = point AtShape (OfName IsNumeral s) None ShowsNothing ∷ []

abbrev pub name_points : Option LibraryName → List Point
name_points None = []
name_points (Some n) = number (length n) ∷ flat_map part_points n

abbrev pub kind_number : UnitKind → ℕ
kind_number IsLibrary = 0
kind_number IsProgram = 1
kind_number IsPart = 2

-- document, kind, number of forms and name; nothing where there is no such unit
abbrev pub listed_points : Option UnitResult → List Point
listed_points None = []
listed_points (Some r) =
    number r.unit.placed.document ∷ number (kind_number r.unit.placed.source.kind) ∷ number (length r.unit.forms) ∷
    name_points r.unit.placed.source.name

abbrev pub listed_stretches : Program → Program → (place more : ℕ) → List Stretch
listed_stretches old new place zero = []
listed_stretches old new place (suc more) =
    stretch place 0 (listed_points (result_at old.units place)) (listed_points (result_at new.units place)) ∷
    listed_stretches old new (suc place) more

-- ---- Errors

-- for each import set the form that it stands in
abbrev pub set_forms : (unit form : ℕ) → List UnitForm → List ℕ
set_forms unit form [] = []
set_forms unit form (f ∷ fs) = map (λ s. form) (specs_in unit form f) ++ set_forms unit (suc form) fs

abbrev pub set_errors : List (ℕ × SetResult) → List ℕ
set_errors [] = []
set_errors ((form, Unknown) ∷ rs) = set_errors rs
set_errors ((form, Faulty f) ∷ rs) = form ∷ set_errors rs
set_errors ((form, Gives es clashes) ∷ rs) = map (λ s. form) clashes ++ set_errors rs

abbrev pub export_errors : List ExportFault → List ℕ
export_errors [] = []
export_errors (NotDefined x ∷ fs) = x.form ∷ export_errors fs
export_errors (SameExport x ∷ fs) = x.form ∷ export_errors fs

abbrev pub form_errors : List Formed → List ℕ
form_errors [] = []
form_errors (f ∷ fs) = of_result f.result f.form ++ form_errors fs
  where
    of_result : Result Parts Broken → ℕ → List ℕ
    of_result (Ok ps) form = []
    of_result (Err e) form = form ∷ []

-- the forms of the Errors of a unit; 0 where it is broken as a whole
abbrev pub errors_of : UnitResult → List ℕ
errors_of r =
    or_whole r.fault
    (set_errors (zip (set_forms r.unit.number 0 r.unit.forms) r.sets) ++ export_errors r.export_faults ++ form_errors r.forms)
  where
    or_whole : Option WholeFault → List ℕ → List ℕ
    or_whole None errors = errors
    or_whole (Some f) errors = 0 ∷ []

abbrev pub unit_errors : Option UnitResult → List ℕ
unit_errors None = []
unit_errors (Some r) = errors_of r

abbrev pub least_of : List ℕ → ℕ
least_of [] = 0
least_of (n ∷ []) = n
least_of (n ∷ m ∷ ns) = least_of ((if nat_le n m then n else m) ∷ ns)

abbrev pub error_points : ℕ → List Point
error_points n = point AtErrors (OfNumber n) None ShowsNothing ∷ []

-- the new unit has no Error
abbrev pub error_stretch : (unit : ℕ) → Option UnitResult → Stretch
error_stretch unit r = stretch unit (least_of (unit_errors r)) (error_points 0) (error_points (length (unit_errors r)))

-- ---- forms

abbrev pub items_of : Result Parts Broken → Parts
items_of (Ok ps) = ps
items_of (Err e) = no_parts

-- the items of a form; a form that isn't expanded or is broken has none
abbrev pub items_at : List Formed → ℕ → Parts
items_at [] n = no_parts
items_at (f ∷ fs) n = if f.form == n then items_of f.result else items_at fs n

abbrev pub form_points_at : Table → Option UnitResult → ℕ → List Point
form_points_at table None form = form_points table no_parts
form_points_at table (Some r) form = form_points table (items_at r.forms form)

abbrev pub form_stretches : (old new : Table) → (unit : ℕ) → (o n : Option UnitResult) → (form more : ℕ) → List Stretch
form_stretches old new unit o n form zero = []
form_stretches old new unit o n form (suc more) =
    stretch unit form (form_points_at old o form) (form_points_at new n form) ∷ form_stretches old new unit o n (suc form) more

abbrev pub form_count : Option UnitResult → ℕ
form_count None = 0
form_count (Some r) = length r.unit.forms

-- ---- exports

-- an export whose name is to change
pub record ExportChange : Type 0 where
  pub unit : ℕ
  pub old : List ℕ
  pub new : List ℕ

-- the occurrences that are renamed, and the exports that are
pub record Plan : Type 0 where
  pub members : List Occ
  pub exports : List ExportChange

abbrev pub name_asked : List ExportChange → ℕ → List ℕ → List ℕ
name_asked [] u s = s
name_asked (c ∷ cs) u s = if c.unit == u && bytes_eq c.old s then c.new else name_asked cs u s

-- where an external name stands: of several the first gives it
abbrev pub external_occ : List ExportSpec → List ℕ → Option Occ
external_occ [] s = None
external_occ (x ∷ xs) s = if bytes_eq x.outer.name s then x.outer.occ else external_occ xs s

-- the name of an export as it is asked for, and its meaning
abbrev pub export_points : Table → (List ℕ → List ℕ) → List ExportSpec → Entry → List Point
export_points table asked xs e =
    let o = external_occ xs e.name in
    point AtExport (OfName IsString (asked e.name)) o (ShowsSymbol e.name) ∷ meaning_at table AtExport e.meaning o ∷ []

abbrev pub exports_at : Table → (List ℕ → List ℕ) → Option UnitResult → List Point
exports_at table asked None = []
exports_at table asked (Some r) =
    point AtExport (OfNumber (length r.exports)) None ShowsNothing ∷ flat_map (export_points table asked r.unit.exports) r.exports

-- ---- programs

abbrev pub unit_stretches : (old new : Program) → List ExportChange → (unit : ℕ) → (o n : Option UnitResult) → List Stretch
unit_stretches old new changes unit o n =
    error_stretch unit n ∷
    form_stretches (program_table old) (program_table new) unit o n 0 (max (form_count o) (form_count n)) ++
    stretch unit 0 (exports_at (program_table old) (name_asked changes unit) o) (exports_at (program_table new) (λ s. s) n) ∷ []

-- the lists of units, and then each unit in reach: its Errors, its forms and its exports
abbrev pub stretches : (old new : Program) → List ExportChange → (reach : List ℕ) → List Stretch
stretches old new changes reach =
    listed_stretches old new 0 (max (length old.units) (length new.units)) ++
    flat_map (λ unit. unit_stretches old new changes unit (result_at old.units unit) (result_at new.units unit)) reach

-- what is live in a program, whose list of units was made of these
abbrev pub live_in : List Placed → Program → Option Occ → Bool
live_in all p = is_live_at (program_leaves p.units) (program_keywords p.units) (program_names all p p.units)

-- two programs are the same in these units, up to the names of exports that are to change
abbrev pub IsSame : List Placed → (old new : Program) → List ExportChange → (reach : List ℕ) → Type 0
IsSame all old new changes reach = AllAgree (live_in all old) (stretches old new changes reach)
