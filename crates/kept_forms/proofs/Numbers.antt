-- What a form of a unit defines has numbers from the unit's count on, so that they may move twice.
use Rattle.std.proofs.Common.{◌≡◌, ℕ, ◌+◌, ◌-◌, ◌≤◌, List, [], ◌∷◌, map, Result, Ok, Err, refl, sym, ap, ◌∙◌, subst, arith, Option, Some, None}
use Rattle.scheme_model.specs.Ident.{Ident}
use Rattle.scheme_model.specs.Trees.{Tree}
use Rattle.scheme_model.specs.Cores.{Bound, LocalNumber, Definition, Binder}
use Rattle.scheme_model.specs.Steps.{Broken}
use Rattle.scheme_model.specs.Order.{Item, Expression, Value, Function, Assigned, AssignedFunction, ValuesOf, Record, Macro, Left}
use Rattle.scheme_model.specs.Substitution.{definition_count}
use Rattle.scheme_model.specs.ScopedExpansion.{ScopedState}
use Rattle.scheme_model.specs.Questions.{Around}
use Rattle.scheme_model.specs.FormsAlike.{bound_moved, binder_with, item_with, left_with, or_fault, set_aside, set_aside_asking}
use Rattle.form_laws.specs.Begins.{Each, FormBegins}
use Rattle.form_laws.proofs.FormLaws.{set_itself}
use Rattle.kept_forms.specs.KeptForms.{KeptAside, KeptParts, KeptForm, goes_through, rest_kept}
use Rattle.kept_forms.specs.Carried.{PassKept, RestFits, FormFits}
use Rattle.kept_forms.proofs.OneSide.{BindsAll, LeftBinds, run_keeps}

abbrev pub AtLeast : ℕ → Bound → Type 0
AtLeast n (LocalNumber k) = Unit {0}
AtLeast n (Definition u m) = n ≤ m

pub set_numbers : (w : Around) (turns : ℕ) (t : Tree Ident) → LeftBinds (AtLeast (definition_count w.state.table w.state.unit)) (set_aside w turns t).0.left
set_numbers w turns t =
    let n = definition_count w.state.table w.state.unit in
    let I : ScopedState → Type 0 = λ (s : ScopedState). n ≤ definition_count s.table s.unit in
    (run_keeps w.known I (λ fs s h. h) (λ s t unit form uses places others more h. omega (arith, h, more)) (AtLeast n) (λ s h. h) turns t w.notes w.state (omega arith)).1

-- ---- twice

module _ (a b c : ℕ) where
  bound_twice : (x : Bound) → AtLeast a x → bound_moved b c (bound_moved a b x) ≡ bound_moved a c x
  bound_twice (LocalNumber k) h = refl
  bound_twice (Definition u n) h = (let le : a ≤ n = h in let e : n + b - a + c - b ≡ n + c - a = omega (arith, le) in ap (Definition u) e)

  binder_twice : (x : Binder) → AtLeast a x.bound → binder_with (bound_moved b c) (binder_with (bound_moved a b) x) ≡ binder_with (bound_moved a c) x
  binder_twice x h = let e = bound_twice x.bound h in λ j. record { bound = e j; ident = x.ident; occ = x.occ }

  names_twice : (bs : List Binder) → Each (λ (x : Binder). AtLeast a x.bound) bs → map (binder_with (bound_moved b c)) (map (binder_with (bound_moved a b)) bs) ≡ map (binder_with (bound_moved a c)) bs
  names_twice [] h = refl
  names_twice (x ∷ bs) h = let e = binder_twice x h.0 in let f = names_twice bs h.1 in λ j. e j ∷ f j

  item_twice : (i : Item Ident) → BindsAll (AtLeast a) i → item_with (bound_moved b c) (item_with (bound_moved a b) i) ≡ item_with (bound_moved a c) i
  item_twice (Expression x) h = refl
  item_twice (Value x e) h = ap (λ d. Value d e) (binder_twice x h)
  item_twice (Function x here e) h = ap (λ d. Function d here e) (binder_twice x h)
  item_twice (Assigned n x) h = refl
  item_twice (AssignedFunction n here e) h = refl
  item_twice (ValuesOf bs x) h = ap (λ ns. ValuesOf (record { names = ns; rest = bs.rest }) x) (names_twice bs.names h)
  item_twice (Record r) h = ap (λ ns. Record (record r { binders = ns })) (names_twice r.binders h)
  item_twice (Macro x here) h = ap (λ d. Macro d here) (binder_twice x h)

  items_twice : (is : List (Item Ident)) → Each (BindsAll (AtLeast a)) is → map (item_with (bound_moved b c)) (map (item_with (bound_moved a b)) is) ≡ map (item_with (bound_moved a c)) is
  items_twice [] h = refl
  items_twice (i ∷ is) h = let e = item_twice i h.0 in let f = items_twice is h.1 in λ j. e j ∷ f j

  left_twice : (l : Left Ident) → Each (BindsAll (AtLeast a)) l.items → left_with (bound_moved b c) (left_with (bound_moved a b) l) ≡ left_with (bound_moved a c) l
  left_twice l h = ap (λ is. record { uses = l.uses; items = is }) (items_twice l.items h)

-- ---- what was set aside is what the rest is of

abbrev pub LeftIs : Result (Left Ident) Broken → Option KeptParts → Type 0
LeftIs r None = Unit {0}
LeftIs r (Some k) = r ≡ Ok k.left

left_in : Left Ident → Result (Left Ident) Broken → Left Ident
left_in l (Ok m) = m
left_in l (Err e) = l

pub left_same : (l m : Left Ident) (r : Result (Left Ident) Broken) → r ≡ Ok l → r ≡ Ok m → m ≡ l
unfolding left_in
left_same l m r a b = ap (left_in l) (sym b ∙ a)

pub moved_left : (a b c : ℕ) (r : Result (Left Ident) Broken) (m : Left Ident) → LeftBinds (AtLeast a) r → or_fault (left_with (bound_moved a b)) r ≡ Ok m → or_fault (left_with (bound_moved a c)) r ≡ Ok (left_with (bound_moved b c) m)
unfolding left_in
moved_left a b c (Ok l) m h e = ap (λ z. Ok z) (sym (left_twice a b c l h) ∙ ap (λ z. left_with (bound_moved b c) (left_in m z)) e)
moved_left a b c (Err x) m h e = let q : Err x ≡ Ok m = e in absurd cc

pub left_is : (v : Around) (turns : ℕ) (t : Tree Ident) (o : Option KeptForm) → PassKept v turns t o → FormFits o → LeftIs (goes_through v turns t o).0.left (rest_kept v o)
left_is v turns t None k h = tt
left_is v turns t (Some c) k h = go c.parts h
  where
    numbers : (w : Around) → FormBegins w t → LeftBinds (AtLeast (definition_count w.state.table w.state.unit)) (set_aside_asking w turns t).0.left
    numbers w b = subst (LeftBinds (AtLeast (definition_count w.state.table w.state.unit))) (set_itself w turns t b).rest (set_numbers w turns t)

    of_aside : LeftBinds (AtLeast c.aside.before) c.aside.pass.left
    of_aside = subst (λ (a : KeptAside). LeftBinds (AtLeast a.before) a.pass.left) (sym k.2) (numbers k.0 k.1.begun)

    go : (o : Option KeptParts) → RestFits c.aside o → LeftIs (goes_through v turns t (Some c)).0.left (rest_kept v (Some (record { aside = c.aside; parts = o })))
    go None h = tt
    go (Some p) h = moved_left c.aside.before p.before (definition_count v.state.table v.state.unit) c.aside.pass.left p.left of_aside h.1
