-- Forms in the notation of rows: each identifier by its symbol, lists without places, quasiquoted data without their frame.
use Rattle.std.specs.Prelude.{ℕ, suc, ◌+◌, ◌==◌, nat_lt, List, [], ◌∷◌, map, reverse, Bool, true, false, ◌||◌, ◌&&◌, Option, Some, None, Result, Ok, Err, codes, if◌then◌else◌}
use Rattle.std.specs.Str.{bytes_eq}
use Rattle.scheme_model.specs.declared.Occ.{Occ}
use Rattle.scheme_model.specs.Identifiers.{Name}
use Rattle.scheme_model.specs.Ident.{Ident, Written, symbol_of, erase}
use Rattle.scheme_model.specs.Data.{Datum}
use Rattle.scheme_model.specs.Trees.{Tree, name, atom, list, vector, Trees, no_trees, tree, Tail, proper, dotted, map_tree}
use Rattle.scheme_model.specs.StandardNames.{is_base}
use Rattle.scheme_model.specs.Meaning.{Meaning, Standard}
use Rattle.scheme_model.specs.ExpansionFaults.{Named, fault_code, fault_name}
use Rattle.scheme_model.specs.Requirements.{LibraryName, Symbol, same_library}
use Rattle.scheme_model.specs.Cores.{Target, Binder, Binders, MacroDef, RecordType, Core, Ref, Const, Quote, Quasi, Lambda, CaseLambda, If, Set, Call, Body, LetSyntax, Cores, no_cores, core, Clauses, no_clauses, clause, Parts, no_parts, part, Part, Expression, Define, Values, Fields, Syntax}
use Rattle.scheme_model.specs.Steps.{Broken}
use Rattle.scheme_model.specs.Order.{Counted}
use Rattle.scheme_model.specs.Substitution.{State, model}
use Rattle.scheme_model.specs.ScopedExpansion.{ScopedState, scoped}
use Rattle.scheme_model.specs.UnitExpansion.{Formed, unit}
use Rattle.scheme_model.specs.Declarations.{UnitForm}
use Rattle.scheme_model.specs.Includes.{Document}
use Rattle.scheme_model.specs.Program.{UnitResult, WholeFault, whole_code, program_of, units_of}
use Rattle.scheme_model.specs.ProgramArrows.{arrows_of}
use Rattle.scheme_model.specs.Spelling.{Link, links_of, class_of, prefixes_of}
use Rattle.scheme_model.specs.Diagnostics.{Span, Bytes, bytes_of, Diagnostic, diagnostics_of}
use Rattle.scheme_model.specs.Expression.{no_rules}
use Rattle.scheme_model.specs.Session.{Query}
use Rattle.scheme_model.specs.Answers.{Answer, answer_in}

abbrev bare_target : Target → Target
bare_target t = record { meaning = t.meaning; ident = Written 0 (symbol_of t.ident); occ = t.occ }

abbrev bare_binder : Binder → Binder
bare_binder b = record { bound = b.bound; ident = Written 0 (symbol_of b.ident); occ = b.occ }

abbrev bare_binders : Binders → Binders
bare_binders b = record { names = map bare_binder b.names; rest = b.rest }

abbrev mutual
  bare_tree : Tree (List ℕ) → Tree (List ℕ)
  bare_tree (name i o) = name i o
  bare_tree (atom a o) = atom a None
  bare_tree (list ts tail o) = list (bare_trees ts) (bare_tail tail) None
  bare_tree (vector ts o) = vector (bare_trees ts) None

  bare_trees : Trees (List ℕ) → Trees (List ℕ)
  bare_trees no_trees = no_trees
  bare_trees (tree t ts) = tree (bare_tree t) (bare_trees ts)

  bare_tail : Tail (List ℕ) → Tail (List ℕ)
  bare_tail proper = proper
  bare_tail (dotted t) = dotted (bare_tree t)

abbrev bare_macro : MacroDef → MacroDef
bare_macro m = record { binder = bare_binder m.binder; rules = no_rules; leaves = map (λ l. record { target = bare_target l.target; literal = l.literal }) m.leaves }

abbrev bare_record : RecordType → RecordType
bare_record r = record { binders = map bare_binder r.binders; fields = map bare_binder r.fields; modified = r.modified; used = r.used }

abbrev pub hole : Tree (Option (List ℕ))
hole = name None None

abbrev mutual
  bare_core : Core → Core
  bare_core (Ref t) = Ref (bare_target t)
  bare_core (Const a) = Const a
  bare_core (Quote d) = Quote (bare_tree d)
  bare_core (Quasi d cs) = Quasi hole (bare_cores cs)
  bare_core (Lambda bs c) = Lambda (bare_binders bs) (bare_core c)
  bare_core (CaseLambda cs) = CaseLambda (bare_clauses cs)
  bare_core (If cs) = If (bare_cores cs)
  bare_core (Set t c) = Set (bare_target t) (bare_core c)
  bare_core (Call cs) = Call (bare_cores cs)
  bare_core (Body ps) = Body (bare_parts ps)
  bare_core (LetSyntax ms c) = LetSyntax (map bare_macro ms) (bare_core c)

  bare_cores : Cores → Cores
  bare_cores no_cores = no_cores
  bare_cores (core c cs) = core (bare_core c) (bare_cores cs)

  bare_clauses : Clauses → Clauses
  bare_clauses no_clauses = no_clauses
  bare_clauses (clause b c cs) = clause (bare_binders b) (bare_core c) (bare_clauses cs)

  bare_parts : Parts → Parts
  bare_parts no_parts = no_parts
  bare_parts (part p ps) = part (bare_part p) (bare_parts ps)

  bare_part : Part → Part
  bare_part (Expression c) = Expression (bare_core c)
  bare_part (Define b c) = Define (bare_binder b) (bare_core c)
  bare_part (Values bs c) = Values (bare_binders bs) (bare_core c)
  bare_part (Fields r) = Fields (bare_record r)
  bare_part (Syntax m) = Syntax (bare_macro m)

-- a fault: its number, its place and its symbol
pub record FaultRow : Type 0 where
  pub code : ℕ
  pub at : Option Occ
  pub symbol : List ℕ

pub record FormRow : Type 0 where
  pub items : Parts
  pub uses : ℕ
  pub nodes : ℕ
  pub fault : Option FaultRow
  pub keywords : List Target

abbrev in_form : ℕ → Option Occ → Option Occ → Option Occ
in_form form None here = here
in_form form (Some o) here = if (o.unit == 0) && (o.form == form) then Some o else here

abbrev fault_row : ℕ → Option Occ → ℕ → Option (Named Ident) → FaultRow
fault_row form here code None = record { code = code; at = here; symbol = [] }
fault_row form here code (Some n) = record { code = code; at = in_form form n.occ here; symbol = symbol_of n.name }

abbrev row_of : ℕ → Result Parts Broken → Counted → FormRow
row_of form (Ok ps) c = record { items = bare_parts ps; uses = c.uses; nodes = c.nodes; fault = None; keywords = map bare_target (reverse c.keywords) }
row_of form (Err e) c = record { items = no_parts; uses = c.uses; nodes = c.nodes; fault = Some (fault_row form e.here (fault_code e.fault) (fault_name e.fault)); keywords = [] }

abbrev rows_of : List Formed → List FormRow
rows_of [] = []
rows_of (f ∷ fs) = row_of f.form f.result f.counted ∷ rows_of fs

abbrev numbered : ℕ → List (Tree Name) → List (ℕ × Tree Name)
numbered n [] = []
numbered n (t ∷ ts) = (n, t) ∷ numbered (n + 1) ts

abbrev base_entry : Bool → ℕ → List ℕ → Option Meaning
base_entry more u s = if (u == 0) && (is_base s || (more && bytes_eq s (codes "case-lambda"))) then Some (Standard s) else None

abbrev known : LibraryName → Bool
known n = same_library n (Symbol (codes "scheme") ∷ Symbol (codes "base") ∷ [])

abbrev start : Bool → State
start more = record {
  unit = 0;
  program = true;
  form = 0;
  locals = λ f. 0;
  uses = λ f. 0;
  nodes = λ f. 0;
  bodies = λ f. 0;
  keywords = λ f. [];
  met = λ f. [];
  table = [];
  entry = base_entry more;
  macros = [];
  in_body = false;
  mine = [];
}

-- none where work on the unit ended
abbrev forms_or_none : Option (List Formed) → List Formed
forms_or_none None = []
forms_or_none (Some fs) = fs

-- the forms of a program from one on, which imports `(scheme base)`, or also `(scheme case-lambda)`
abbrev pub program_rows : Bool → ℕ → List (Tree Name) → List FormRow
program_rows more form ts = rows_of (forms_or_none (unit (model known) 400 tt (numbered form ts) (start more)).0)

-- ---- the same by scopes

abbrev scoped_start : Bool → ScopedState
scoped_start more = record {
  unit = 0;
  program = true;
  form = 0;
  locals = λ f. 0;
  uses = λ f. 0;
  nodes = λ f. 0;
  bodies = λ f. 0;
  keywords = λ f. [];
  met = λ f. [];
  table = [];
  entry = base_entry more;
  macros = [];
  places = [];
  definitions = [];
}

abbrev pub scoped_rows : Bool → ℕ → List (Tree Name) → List FormRow
scoped_rows more form ts = rows_of (forms_or_none (unit (scoped known) 400 [] (map (λ t. (t.0, map_tree erase t.1)) (numbered form ts)) (scoped_start more)).0)

-- ---- whole programs

-- what breaks a unit as a whole, and its forms
pub record UnitRow : Type 0 where
  pub broken : Option ℕ
  pub forms : List FormRow

abbrev broken_code : Option WholeFault → Option ℕ
broken_code None = None
broken_code (Some f) = Some (whole_code f)

abbrev empty_row : FormRow
empty_row = record { items = no_parts; uses = 0; nodes = 0; fault = None; keywords = [] }

abbrev formed_row : ℕ → ℕ → List Formed → FormRow
formed_row unit form [] = empty_row
formed_row unit form (f ∷ fs) = if f.form == form then unit_row unit form f.result f.counted else formed_row unit form fs
  where
    in_unit : ℕ → ℕ → Option Occ → Option Occ → Option Occ
    in_unit unit form None here = here
    in_unit unit form (Some o) here = if (o.unit == unit) && (o.form == form) then Some o else here

    fault_of : ℕ → ℕ → Option Occ → ℕ → Option (Named Ident) → FaultRow
    fault_of unit form here code None = record { code = code; at = here; symbol = [] }
    fault_of unit form here code (Some n) = record { code = code; at = in_unit unit form n.occ here; symbol = symbol_of n.name }

    unit_row : ℕ → ℕ → Result Parts Broken → Counted → FormRow
    unit_row unit form (Ok ps) c = record { items = bare_parts ps; uses = c.uses; nodes = c.nodes; fault = None; keywords = map bare_target (reverse c.keywords) }
    unit_row unit form (Err e) c = record { items = no_parts; uses = c.uses; nodes = c.nodes; fault = Some (fault_of unit form e.here (fault_code e.fault) (fault_name e.fault)); keywords = [] }

abbrev all_rows : ℕ → ℕ → List UnitForm → List Formed → List FormRow
all_rows unit form [] fs = []
all_rows unit form (u ∷ us) fs = formed_row unit form fs ∷ all_rows unit (suc form) us fs

abbrev rows_of_unit : UnitResult → UnitRow
rows_of_unit r = record { broken = broken_code r.fault; forms = unless_broken r.fault (all_rows r.unit.number 0 r.unit.forms r.forms) }
  where
    unless_broken : Option WholeFault → List FormRow → List FormRow
    unless_broken None rows = rows
    unless_broken (Some f) rows = []

-- texts as they read, in which no string means another
abbrev pub Texts : Type 0
Texts = List (Option (List Datum))

abbrev pub alone : Texts → List Document
alone ts = map (λ t. record { read = t; meant = λ s. None }) ts

abbrev pub unit_rows : Texts → List UnitRow
unit_rows ts = map rows_of_unit (program_of (alone ts)).units

-- an arrow by the bytes of its ends
pub record ArrowRow : Type 0 where
  pub binder : Bytes
  pub target : Bytes

abbrev before_bytes : Bytes → Bytes → Bool
before_bytes a b = nat_lt a.document b.document || ((a.document == b.document) && nat_lt a.span.start b.span.start)

abbrev same_bytes : Bytes → Bytes → Bool
same_bytes a b = (a.document == b.document) && (a.span.start == b.span.start)

abbrev before_arrow : ArrowRow → ArrowRow → Bool
before_arrow a b = before_bytes a.binder b.binder || (same_bytes a.binder b.binder && before_bytes a.target b.target)

abbrev put_arrow : ArrowRow → List ArrowRow → List ArrowRow
put_arrow a [] = a ∷ []
put_arrow a (b ∷ bs) = if before_arrow a b then a ∷ b ∷ bs else if before_arrow b a then b ∷ put_arrow a bs else b ∷ bs

abbrev sort_arrows : List ArrowRow → List ArrowRow
sort_arrows [] = []
sort_arrows (a ∷ bs) = put_arrow a (sort_arrows bs)

abbrev pub arrows_between : List (List Span) → List Document → List ArrowRow
arrows_between spans ds = let p = program_of ds in
    sort_arrows (map (λ a. record { binder = bytes_of spans p.units a.binder; target = bytes_of spans p.units a.target }) (arrows_of (units_of ds) p))

abbrev pub arrow_rows : List (List Span) → Texts → List ArrowRow
arrow_rows spans ts = arrows_between spans (alone ts)

abbrev pub diagnostic_rows : List (List Span) → Texts → List Diagnostic
diagnostic_rows spans ts = diagnostics_of spans (program_of (alone ts))

-- a member of a class, with its prefixes
pub record PartRow : Type 0 where
  pub place : Bytes
  pub prefixes : List (List ℕ)

abbrev put_part : PartRow → List PartRow → List PartRow
put_part a [] = a ∷ []
put_part a (b ∷ bs) = if before_bytes a.place b.place then a ∷ b ∷ bs else b ∷ put_part a bs

abbrev sort_parts : List PartRow → List PartRow
sort_parts [] = []
sort_parts (a ∷ bs) = put_part a (sort_parts bs)

abbrev parts_with : List (List Span) → List UnitResult → List Link → List Occ → List PartRow
parts_with spans rs ls ms = sort_parts (map (λ o. record { place = bytes_of spans rs o; prefixes = prefixes_of ls o [] }) ms)

-- the class of an occurrence
abbrev pub class_in : List (List Span) → List Document → Occ → List PartRow
class_in spans ds o = let p = program_of ds in let ls = links_of (units_of ds) p in parts_with spans p.units ls (class_of ls o)

abbrev pub class_rows : List (List Span) → Texts → Occ → List PartRow
class_rows spans ts o = class_in spans (alone ts) o

abbrev pub answered : List (List Span) → List Document → (document offset : ℕ) → Query → Answer
answered spans ds document offset query = answer_in spans (units_of ds) (program_of ds) document offset query

abbrev pub answer_rows : List (List Span) → Texts → (document offset : ℕ) → Query → Answer
answer_rows spans ts document offset query = answered spans (alone ts) document offset query
