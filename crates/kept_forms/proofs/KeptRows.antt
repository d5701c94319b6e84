-- Small units of which one form is kept, computed.
use Rattle.std.proofs.Common.{◌≡◌, ℕ, List, [], ◌∷◌, map, Bool, true, false, Option, Some, None, Result, Ok, Err, refl, ◌++◌}
use Rattle.std.specs.Prelude.{codes}
use Rattle.scheme_model.specs.Ident.{Ident, symbol_of}
use Rattle.scheme_model.specs.Trees.{Tree, vector, no_trees}
use Rattle.scheme_model.specs.Requirements.{Known}
use Rattle.scheme_model.specs.Cores.{Core, Ref, Quote, Bound, LocalNumber, Definition, Parts, no_parts, part, Part, Expression as expression_part, Define as define_part, Values as values_part, Fields as fields_part, Syntax as syntax_part}
use Rattle.scheme_model.specs.Steps.{Broken}
use Rattle.scheme_model.specs.Order.{Left}
use Rattle.scheme_model.specs.UnitExpansion.{Formed, unit}
use Rattle.scheme_model.specs.Substitution.{definition_count}
use Rattle.scheme_model.specs.ScopedExpansion.{ScopedState}
use Rattle.scheme_model.specs.CountedExpansion.{counted}
use Rattle.scheme_model.specs.Questions.{Moment}
use Rattle.scheme_model.specs.FormsAlike.{set_aside, finish, set_aside_asking, start}
use Rattle.form_laws.proofs.QuestionRows.{empty, word, form}
use Rattle.kept_forms.specs.KeptForms.{KeptForm, FormOrKept, form_of, around_form, put_aside, unit_keeping}
use Rattle.kept_forms.specs.Carried.{kept_aside, kept_parts, kept_form}
use Rattle.kept_forms.specs.Worked.{unit_worked}

abbrev nowhere : Known
nowhere n = false

abbrev left_or : Left Ident → Result (Left Ident) Broken → Left Ident
left_or l (Ok m) = m
left_or l (Err e) = l

abbrev no_left : Left Ident
no_left = record { uses = []; items = [] }

-- what is kept of a form behind the first, by its number
abbrev kept_at : ℕ → Tree Ident → Tree Ident → KeptForm
kept_at n t u =
    let a = set_aside (around_form nowhere 0 [] empty) 20 t in
    let w = around_form nowhere n a.0.notes a.1 in
    let b = set_aside w 20 u in
    let c = finish (around_form nowhere 0 [] b.1) 20 a.0.left in
    record { aside = kept_aside w 20 u; parts = Some (kept_parts (around_form nowhere n [] c.1) 20 (definition_count w.state.table w.state.unit) (left_or no_left (set_aside_asking w 20 u).0.left)) }

abbrev anew : ℕ → Tree Ident → FormOrKept
anew n t = record { form = n; tree = t; kept = None }

abbrev keeping : ℕ → Tree Ident → KeptForm → FormOrKept
keeping n t k = record { form = n; tree = t; kept = Some k }

abbrev kept_unit : List FormOrKept → Option (List Formed)
kept_unit xs = (unit_keeping nowhere 20 xs empty).0

abbrev fresh_unit : List FormOrKept → Option (List Formed)
fresh_unit xs = (unit (counted nowhere) 20 [] (map form_of xs) empty).0

-- the numbers of what the forms define
abbrev numbers : Option (List Formed) → List (List ℕ)
numbers None = []
numbers (Some rs) = map (λ (r : Formed). by_result r.result) rs
  where
    number : Bound → ℕ
    number (LocalNumber v) = 1000
    number (Definition u n) = n

    by_part : Part → List ℕ → List ℕ
    by_part (expression_part c) ns = ns
    by_part (define_part b c) ns = number b.bound ∷ ns
    by_part (values_part bs c) ns = ns
    by_part (fields_part r) ns = ns
    by_part (syntax_part m) ns = number m.binder.bound ∷ ns

    by_parts : Parts → List ℕ
    by_parts no_parts = []
    by_parts (part p ps) = by_part p (by_parts ps)

    by_result : Result Parts Broken → List ℕ
    by_result (Ok ps) = by_parts ps
    by_result (Err e) = []

-- ---- a definition in front

-- (f y), and in its place (define x y)
abbrev before : Tree Ident
before = form (word (codes "f") ∷ word (codes "y") ∷ [])

abbrev after : Tree Ident
after = form (word (codes "define") ∷ word (codes "x") ∷ word (codes "y") ∷ [])

-- (define (g z) (f z))
abbrev defining : Tree Ident
defining = form (word (codes "define") ∷ form (word (codes "g") ∷ word (codes "z") ∷ []) ∷ form (word (codes "f") ∷ word (codes "z") ∷ []) ∷ [])

abbrev changed : List FormOrKept
changed = anew 0 after ∷ keeping 1 defining (kept_at 1 before defining) ∷ []

as_anew : kept_unit changed ≡ fresh_unit changed
as_anew = refl

-- g was the unit's first definition, and is its second now
moves : numbers (kept_unit changed) ≡ (0 ∷ []) ∷ (1 ∷ []) ∷ []
moves = refl

-- ---- another one in front

-- the first part is kept, and what it set aside is expanded behind (define x y)
abbrev again_kept : KeptForm
again_kept =
    let k = (kept_at 5 before defining).aside in
    let a = set_aside (around_form nowhere 0 [] empty) 20 after in
    let v = around_form nowhere 5 a.0.notes a.1 in
    let b = put_aside v k in
    let c = finish (around_form nowhere 0 [] b.1) 20 a.0.left in
    kept_form k (Some (kept_parts (around_form nowhere 5 [] c.1) 20 (definition_count v.state.table v.state.unit) (left_or no_left b.0.left)))

-- and then all is kept, behind (define x y) and (define v y)
abbrev changed_again : List FormOrKept
changed_again = anew 0 after ∷ anew 1 (form (word (codes "define") ∷ word (codes "v") ∷ word (codes "y") ∷ [])) ∷ keeping 5 defining again_kept ∷ []

again_as_anew : kept_unit changed_again ≡ fresh_unit changed_again
again_as_anew = refl

moves_again : numbers (kept_unit changed_again) ≡ (0 ∷ []) ∷ (1 ∷ []) ∷ (2 ∷ []) ∷ []
moves_again = refl

-- ---- a macro use behind

-- (define-syntax m (syntax-rules () ((_) x))), (m) and (m)
abbrev macro_of : List ℕ → Tree Ident
macro_of x = form (word (codes "define-syntax") ∷ word (codes "m") ∷ form (word (codes "syntax-rules") ∷ form [] ∷ form (form (word (codes "_") ∷ []) ∷ word x ∷ []) ∷ []) ∷ [])

abbrev macro : Tree Ident
macro = macro_of (codes "x")

abbrev uses : Tree Ident
uses = form (word (codes "m") ∷ [])

abbrev with_uses : List FormOrKept
with_uses = anew 0 macro ∷ keeping 1 uses (kept_at 1 macro uses) ∷ anew 2 uses ∷ []

uses_as_anew : kept_unit with_uses ≡ fresh_unit with_uses
uses_as_anew = refl

abbrev uses_told : Option (List Formed) → List ℕ
uses_told None = []
uses_told (Some rs) = map (λ (r : Formed). r.counted.uses) rs

-- both uses are told, and one is worked
told : uses_told (kept_unit with_uses) ≡ 0 ∷ 1 ∷ 1 ∷ []
told = refl

one_worked : unit_worked nowhere 20 with_uses empty ≡ 1
one_worked = refl

-- ---- a macro that has changed

-- what the parts refer to
abbrev refers : Option (List Formed) → List (List (List ℕ))
refers None = []
refers (Some rs) = map (λ (r : Formed). by_result r.result) rs
  where
    by_core : Core → List (List ℕ)
    by_core (Ref x) = symbol_of x.ident ∷ []
    by_core c = []

    by_part : Part → List (List ℕ)
    by_part (expression_part c) = by_core c
    by_part p = []

    by_parts : Parts → List (List ℕ)
    by_parts no_parts = []
    by_parts (part p ps) = by_part p ++ by_parts ps

    by_result : Result Parts Broken → List (List ℕ)
    by_result (Ok ps) = by_parts ps
    by_result (Err e) = []

-- (define-syntax m (syntax-rules () ((_) y))), and (m), which was kept where m gave x and has another answer now
abbrev stale : List FormOrKept
stale = anew 0 (macro_of (codes "y")) ∷ keeping 1 uses (kept_at 1 macro uses) ∷ []

refers_to_old : refers (kept_unit stale) ≡ [] ∷ (codes "x" ∷ []) ∷ []
refers_to_old = refl

refers_to_new : refers (fresh_unit stale) ≡ [] ∷ (codes "y" ∷ []) ∷ []
refers_to_new = refl

-- ---- too many nodes

-- a form that had counted so many nodes when it was gone through, and so many behind each of its items
abbrev at_nodes : ℕ → Moment
at_nodes n = record (start empty) { nodes = n }

abbrev counting : ℕ → List ℕ → List FormOrKept
counting n ns =
    keeping 0 before (record {
      aside = record { pass = record { notes = []; left = Ok no_left }; moment = at_nodes n; before = 0 };
      parts = Some (record { left = no_left; before = 0; begun = at_nodes n; met = at_nodes n; items = map (λ m. record { part = Ok (expression_part (Quote (vector no_trees None))); moment = at_nodes m }) ns });
    }) ∷ anew 1 before ∷ []

abbrev goes : Option (List Formed) × ScopedState → Bool × ℕ
goes (None, s) = (false, s.nodes 0)
goes (Some rs, s) = (true, s.nodes 0)

abbrev work : ℕ → List ℕ → Bool × ℕ
work n ns = goes (unit_keeping nowhere 20 (counting n ns) empty)

-- it ends behind the form
ends_behind_form : work 500001 [] ≡ (false, 500001)
ends_behind_form = refl

-- it ends behind the second item
ends_behind_item : work 1 (2 ∷ 500001 ∷ 500002 ∷ []) ≡ (false, 500001)
ends_behind_item = refl

-- the core of the other form, (f y), has 3 nodes
goes_on : work 1 (2 ∷ 499997 ∷ []) ≡ (true, 499997)
goes_on = refl

ends_in_the_other : work 1 (2 ∷ 499998 ∷ []) ≡ (false, 499998)
ends_in_the_other = refl
