-- The operations that substitute count macro uses alone, and keep trees as large as they are.
use Rattle.std.proofs.Common.{◌≡◌, ℕ, suc, List, [], ◌∷◌, map, Bool, true, false, Option, Result, Ok, Err, refl, ap, arith, if◌then◌else◌, eq-eqb}
use Rattle.scheme_model.specs.Identifiers.{Name, Inner}
use Rattle.scheme_model.specs.Ident.{Ident, erase}
use Rattle.scheme_model.specs.ExpansionFaults.{Named, named, Fault, KeywordRedefined, Duplicate}
use Rattle.scheme_model.specs.RulesShape.{Rules}
use Rattle.scheme_model.specs.Requirements.{Known}
use Rattle.scheme_model.specs.Meaning.{Global}
use Rattle.scheme_model.specs.Order.{Form, Item, Expression, Value, Function, Assigned, AssignedFunction, ValuesOf, Record, Macro, Pending, Renamed, is_some}
use Rattle.scheme_model.specs.Substitution.{Clock, at_form, State, number_at, form_map, item_map, renamed, unchanged, deep, shallow, any, refused_in_body, is_mine, defined_local, define_in_body, defined_global, refused_in_unit, define_in_unit, defined_in, define, model}
use Rattle.program_laws.proofs.Faults.{Gives}
use Rattle.program_laws.proofs.Lists.{three_ways}
use Rattle.program_laws.proofs.Steps.{size_same, sizes_same, total, FormsWithin, ItemWithin, ItemsWithin, AsLarge, Keeps}

at_itself : (f : ℕ) (g : ℕ → ℕ) (clock : Clock) → at_form f g clock f ≡ g (clock f)
at_itself f g clock = ap (λ (b : Bool). if b then g (clock f) else clock f) (eq-eqb f f refl)

-- ---- what is pending

module _ {A B : Type 0} (f : A → B) where
  total_same : (fs : List (Form A)) → total (map (form_map f) fs) ≡ total fs
  total_same [] = refl
  total_same (x ∷ fs) = let a = size_same f x.tree in let b = total_same fs in omega (arith, a, b)

  forms_same : (n : ℕ) (fs : List (Form A)) → FormsWithin n fs → FormsWithin n (map (form_map f) fs)
  forms_same n [] h = tt
  forms_same n (x ∷ fs) h = let a = size_same f x.tree in let b = h.0 in (omega (arith, a, b), forms_same n fs h.1)

  item_same : (n : ℕ) (i : Item A) → ItemWithin n i → ItemWithin n (item_map f i)
  item_same n (Expression x) h = let a = size_same f x.tree in omega (arith, a, h)
  item_same n (Value b x) h = let a = size_same f x.tree in omega (arith, a, h)
  item_same n (Function b here c) h = let a = sizes_same f c.body in omega (arith, a, h)
  item_same n (Assigned i x) h = let a = size_same f x.tree in omega (arith, a, h)
  item_same n (AssignedFunction i here c) h = let a = sizes_same f c.body in omega (arith, a, h)
  item_same n (ValuesOf bs x) h = let a = size_same f x.tree in omega (arith, a, h)
  item_same n (Record r) h = tt
  item_same n (Macro b here) h = tt

  items_same : (n : ℕ) (is : List (Item A)) → ItemsWithin n is → ItemsWithin n (map (item_map f) is)
  items_same n [] h = tt
  items_same n (i ∷ is) h = (item_same n i h.0, items_same n is h.1)

renamed_large : (f : Name → Name) (p : Pending Name Name) → AsLarge p (renamed f p)
renamed_large f p = record { todo = total_same f p.todo; within = λ n h. record { todo = forms_same f n p.todo h.todo; aside = items_same f n p.aside h.aside } }

unchanged_large : (p : Pending Name Name) → AsLarge p (unchanged p)
unchanged_large p = record { todo = refl; within = λ n h. h }

-- ---- definitions

abbrev Made : Pending Name Name → State → Result (Renamed Name Name) (Fault Ident) × State → Type 0
Made p s q = (q.1.uses q.1.form ≡ s.uses s.form) × Gives (AsLarge p) q.0

body_made : (n : Named Name) (r : Option (Rules Name)) (p : Pending Name Name) (s : State) → Made p s (define_in_body n r p s)
body_made n r p s =
    three_ways (Made p s) (any (refused_in_body s n.name (number_at s s.locals) (is_some r)) p.notes) (is_mine s.mine n.name)
    (Err (KeywordRedefined (named (erase n.name) n.occ)), s) (Err (Duplicate (named (erase n.name) n.occ)), s) (Ok (renamed (deep n.name (number_at s s.locals)) p), defined_local n.name r s)
    (refl, tt) (refl, tt) (refl, renamed_large (deep n.name (number_at s s.locals)) p)

unit_made : (n : Named Name) (r : Option (Rules Name)) (p : Pending Name Name) (s : State) → Made p s (define_in_unit n r p s)
unit_made n r p s =
    three_ways (Made p s) (any (refused_in_unit (defined_global n r s) (Global s.unit (erase n.name)) (is_some r)) p.notes) (is_some (defined_in s.table s.unit (erase n.name)))
    (Err (KeywordRedefined (named (erase n.name) n.occ)), s) (Err (Duplicate (named (erase n.name) n.occ)), s) (Ok (unchanged p), defined_global n r s)
    (refl, tt) (refl, tt) (refl, unchanged_large p)

made_by : (n : Named Name) (r : Option (Rules Name)) (p : Pending Name Name) (s : State) (b : Bool) → Made p s (if b then define_in_body n r p s else define_in_unit n r p s)
made_by n r p s true = body_made n r p s
made_by n r p s false = unit_made n r p s

define_made : (n : Named Name) (r : Option (Rules Name)) (p : Pending Name Name) (s : State) → Made p s (define n r p s)
define_made n r p s = made_by n r p s s.in_body

-- ---- the operations

pub model_keeps : (known : Known) → Keeps (model known)
model_keeps known = record {
  spend = λ n s. refl;
  meet = λ k s. refl;
  meet_use = λ u s. refl;
  begin_use = λ e s. at_itself s.form suc s.uses;
  take_local = λ s. refl;
  keep = λ v r e s. refl;
  bind = λ x e ts s. refl;
  bound = λ x e ts s. sizes_same (shallow x (number_at s s.locals)) ts;
  enter = λ e ts s. refl;
  entered = λ e ts s. sizes_same (Inner (number_at s s.bodies)) ts;
  define = λ n r e p s. (define_made n r p s).0;
  defined = λ n r e p s. (define_made n r p s).1;
}
