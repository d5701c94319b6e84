-- What wider laws would break, computed: why units of one name keep their order, why numbers on this side of 128 stay there, why the
-- prelude keeps its number, why units don't fall together, and why a form's definitions are numbered on without gaps.
use Rattle.std.proofs.Common.{◌≡◌, ℕ, suc, ◌+◌, List, [], ◌∷◌, map, true, false, Option, Some, None, Result, Ok, Err, refl, sym, ap, ◌∙◌, arith}
use Rattle.std.specs.Prelude.{codes}
use Rattle.scheme_model.specs.Ident.{Ident, Written, same_ident}
use Rattle.scheme_model.specs.Data.{Place}
use Rattle.scheme_model.specs.Trees.{Tree, Numeral, name, atom, list, no_trees, tree, proper}
use Rattle.scheme_model.specs.Meaning.{Standard}
use Rattle.scheme_model.specs.Requirements.{Symbol}
use Rattle.scheme_model.specs.Cores.{Bound, Definition}
use Rattle.scheme_model.specs.Order.{Item, Expression, Value, Function, Assigned, AssignedFunction, ValuesOf, Record, Macro, Left, run}
use Rattle.scheme_model.specs.UnitExpansion.{one_form}
use Rattle.scheme_model.specs.ScopedExpansion.{ScopedState}
use Rattle.scheme_model.specs.CountedExpansion.{counted}
use Rattle.scheme_model.specs.StandardNames.{base_names}
use Rattle.scheme_model.specs.StandardLibraries.{standard_libraries}
use Rattle.scheme_model.specs.Declarations.{IsLibrary}
use Rattle.scheme_model.specs.IncludedUnits.{UnitSource, Placed}
use Rattle.scheme_model.specs.Program.{Prepared, prepared, prepare, fault_before, TooMany, DefinedTwice, prelude_unit, prelude_entry}
use Rattle.renumbering_laws.specs.Renumbering.{Renumbering}
use Rattle.renumbering_laws.specs.States.{CountsOn}

-- ---- units

abbrev nowhere : Place
nowhere = record { first = 0; last = 0; start = 0; end = 0 }

-- (define-library (a)), without declarations
abbrev library : UnitSource
library = record { kind = IsLibrary; name = Some (Symbol (codes "a") ∷ []); start = nowhere; forms = Ok []; lost = [] }

abbrev in_document : ℕ → Placed
in_document n = record { document = n; source = library }

-- of two libraries of one name the second is broken, so they can't be exchanged
abbrev two : List Placed
two = in_document 0 ∷ in_document 1 ∷ []

abbrev exchanged : List Placed
exchanged = in_document 1 ∷ in_document 0 ∷ []

second_is_broken : fault_before two (prepare two 0 two) (prepared two 1 (in_document 1)) ≡ Some DefinedTwice
unfolding standard_libraries
second_is_broken = refl

first_is_not : fault_before exchanged (prepare exchanged 0 exchanged) (prepared exchanged 0 (in_document 1)) ≡ None
unfolding standard_libraries
first_is_not = refl

-- a unit past 128 units is broken, and isn't before them
too_many : (all : List Placed) (ps : List Prepared) (p : Prepared) → p.number ≡ 130 → fault_before all ps p ≡ Some TooMany
too_many all ps p e = ap (λ n. fault_before all ps (record p { number = n })) e

not_too_many : fault_before two (prepare two 0 two) (prepared two 0 (in_document 0)) ≡ None
unfolding standard_libraries
not_too_many = refl

-- in the prelude a standard name means itself, and in no other unit before it imports
of_prelude : prelude_entry prelude_unit (codes "car") ≡ Some (Standard (codes "car"))
unfolding base_names standard_libraries
of_prelude = refl

of_another : prelude_entry 0 (codes "car") ≡ None
of_another = refl

-- identifiers of two units would fall together with the units
apart : same_ident (Written 0 (codes "x")) (Written 1 (codes "x")) ≡ false
apart = refl

together : same_ident (Written 0 (codes "x")) (Written 0 (codes "x")) ≡ true
together = refl

-- ---- definitions

abbrev start : ScopedState
start = record {
  unit = 3;
  program = true;
  form = 5;
  locals = λ f. 0;
  uses = λ f. 0;
  nodes = λ f. 0;
  bodies = λ f. 0;
  keywords = λ f. [];
  met = λ f. [];
  table = [];
  entry = λ u s. Some (Standard s);
  macros = [];
  places = [];
  definitions = [];
}

abbrev symbol : List ℕ → Tree Ident
symbol s = name (Written 3 s) None

abbrev define_one : List ℕ → Tree Ident
define_one s = list (tree (symbol (codes "define")) (tree (symbol s) (tree (atom (Numeral []) None) no_trees))) proper None

-- (begin (define x 0) (define y 0))
abbrev two_definitions : Tree Ident
two_definitions = list (tree (symbol (codes "begin")) (tree (define_one (codes "x")) (tree (define_one (codes "y")) no_trees))) proper None

abbrev bound_of : {A : Type 0} → Item A → Option Bound
bound_of (Expression x) = None
bound_of (Value b x) = Some b.bound
bound_of (Function b here c) = Some b.bound
bound_of (Assigned n x) = None
bound_of (AssignedFunction n here c) = None
bound_of (ValuesOf bs x) = None
bound_of (Record t) = None
bound_of (Macro b here) = Some b.bound

abbrev bounds : {A E : Type 0} → Result (Left A) E → List (Option Bound)
bounds (Ok l) = map bound_of l.items
bounds (Err e) = []

one_after_another : bounds (run (counted (λ n. true)) 10 [] (one_form two_definitions []) start).0.left ≡ Some (Definition 3 0) ∷ Some (Definition 3 1) ∷ []
one_after_another = refl

-- so a renumbering has no gaps from the next definition on
pub no_gaps : (r : Renumbering) (u n n' : ℕ) → CountsOn r u n n' → r.definition u (suc n) ≡ suc (r.definition u n)
no_gaps r u n n' h =
    (let a : suc n ≡ n + 1 = omega arith in ap (r.definition u) a) ∙ sym (h 1) ∙ (let b : n' + 1 ≡ suc (n' + 0) = omega arith in b) ∙ ap suc (h 0) ∙ (let c : n + 0 ≡ n = omega arith in ap (λ m. suc (r.definition u m)) c)
