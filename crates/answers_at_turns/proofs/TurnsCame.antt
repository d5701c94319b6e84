-- Where work on a unit went through, each of its forms had both of its turns.
use Rattle.std.proofs.Common.{◌≡◌, inl, inr, ℕ, List, [], ◌∷◌, Bool, true, false, cond, Option, Some, None, refl, sym, ap, subst}
use Rattle.std.specs.Prelude.{nat_lt}
use Rattle.scheme_model.specs.Ident.{Ident}
use Rattle.scheme_model.specs.Requirements.{Known}
use Rattle.scheme_model.specs.Order.{Note, Pass}
use Rattle.scheme_model.specs.UnitExpansion.{Formed, ◌then◌, going, max_total, nodes_in}
use Rattle.scheme_model.specs.ScopedExpansion.{FramedIdent, ScopedState}
use Rattle.scheme_model.specs.CountedExpansion.{counted}
use Rattle.scheme_model.specs.Questions.{Around}
use Rattle.form_laws.specs.Begins.{Each}
use Rattle.kept_forms.specs.KeptForms.{FormOrKept, LeftOrKept, around_form, rest_kept, numbers_of}
use Rattle.kept_forms.specs.Carried.{Onwards}
use Rattle.forgotten_locals.specs.Ways.{Way, left_of, firsts_by, seconds_by, unit_by, AtFirsts, AtSeconds, AtTurns}
use Rattle.carried_forms.specs.Carried.{IsIn}
use Rattle.kept_turns.proofs.Onward.{onwards_map, onwards_with, onwards_then}

-- what a form left at its first turn
pub record IsLeft (way : Way) (v : Around) (x : FormOrKept) (r : LeftOrKept) : Type 0 where
  pub form : r.form ≡ x.form
  pub left : r.left ≡ (way.first v x.tree x.kept).0.left
  pub kept : r.kept ≡ rest_kept v x.kept

module _ (P : Around → FormOrKept → Type 0) (Q : Around → LeftOrKept → Type 0) (way : Way) (known : Known) where
  abbrev Gone : FormOrKept → LeftOrKept → Type 0
  Gone x r = (v : Around) × P v x × IsLeft way v x r

  abbrev AllGone : List FormOrKept → List LeftOrKept → Type 0
  AllGone [] [] = Unit {0}
  AllGone [] (r ∷ rs) = ⊥
  AllGone (x ∷ xs) [] = ⊥
  AllGone (x ∷ xs) (r ∷ rs) = Gone x r × AllGone xs rs

  abbrev HasCome : LeftOrKept → Type 0
  HasCome r = (u : Around) × Q u r

  -- what a form left, and both of its turns
  abbrev pub Came : FormOrKept → Type 0
  Came x = (r : LeftOrKept) × Gone x r × HasCome r

  module _ (fs : List ℕ) where
    firsts_gone : (xs : List FormOrKept) (ns : List (Note FramedIdent)) (s : ScopedState) → AtFirsts P way known fs xs ns s → Onwards (λ rs t. AllGone xs rs) (firsts_by way known fs xs ns s)
    firsts_gone [] ns s h = tt
    firsts_gone (x ∷ xs) ns s h =
        let v = around_form known x.form ns s in let q = way.first v x.tree x.kept in
        go (λ ms t a. firsts_gone xs ms t a) v h.0 q refl (nat_lt max_total (nodes_in (counted known) fs q.1)) h.1
      where
        More : Type 0
        More = (ms : List (Note FramedIdent)) (t : ScopedState) → AtFirsts P way known fs xs ms t → Onwards (λ rs u. AllGone xs rs) (firsts_by way known fs xs ms t)

        behind : (r : LeftOrKept) → Gone x r → (m : Option (List LeftOrKept) × ScopedState) → Onwards (λ rs t. AllGone xs rs) m → Onwards (λ rs t. AllGone (x ∷ xs) rs) (m then λ rest. going (r ∷ rest))
        behind r k (None, t) a = tt
        behind r k (Some rs, t) a = (k, a)

        go : More → (v : Around) → P v x → (q : Pass Ident FramedIdent × ScopedState) → q ≡ way.first v x.tree x.kept → (over : Bool) → let m = cond {A = Option (Pass Ident FramedIdent) × ScopedState} over (None, q.1) (Some q.0, q.1) in
            Onwards (λ p t. AtFirsts P way known fs xs p.notes t) m → Onwards (λ rs t. AllGone (x ∷ xs) rs) (m then λ p t. firsts_by way known fs xs p.notes t then λ rest. going (left_of x v p t ∷ rest))
        go more v k q e true a = tt
        go more v k q e false a =
            behind (left_of x v q.0 q.1) (v, k, record { form = refl; left = ap (λ (z : Pass Ident FramedIdent × ScopedState). z.0.left) e; kept = refl }) (firsts_by way known fs xs q.0.notes q.1) (more q.0.notes q.1 a)

    seconds_come : (rs : List LeftOrKept) (s : ScopedState) → AtSeconds Q way known fs rs s → Onwards (λ ps t. Each HasCome rs) (seconds_by way known fs rs s)
    seconds_come [] s h = tt
    seconds_come (r ∷ rs) s h =
        let v = around_form known r.form [] s in let q = way.second fs v r.left r.kept in
        onwards_then (λ ps t. Each HasCome (r ∷ rs)) (λ p t. seconds_by way known fs rs t then λ rest. going (record { form = r.form; result = p; counted = (counted known).counted t } ∷ rest)) q
        (onwards_map (λ p t. AtSeconds Q way known fs rs t) (λ p t. Onwards (λ ps u. Each HasCome (r ∷ rs)) (seconds_by way known fs rs t then λ rest. going (record { form = r.form; result = p; counted = (counted known).counted t } ∷ rest)))
        (λ p t a. behind (v, h.0) (record { form = r.form; result = p; counted = (counted known).counted t }) (seconds_by way known fs rs t) (seconds_come rs t a)) q h.1)
      where
        behind : HasCome r → (y : Formed) → (m : Option (List Formed) × ScopedState) → Onwards (λ ps t. Each HasCome rs) m → Onwards (λ ps t. Each HasCome (r ∷ rs)) (m then λ rest. going (y ∷ rest))
        behind k y (None, t) a = tt
        behind k y (Some ps, t) a = (k, a)

  both_came : (xs : List FormOrKept) (rs : List LeftOrKept) → AllGone xs rs → Each HasCome rs → Each Came xs
  both_came [] rs h k = tt
  both_came (x ∷ xs) [] h k = absurd h
  both_came (x ∷ xs) (r ∷ rs) h k = ((r, h.0, k.0), both_came xs rs h.1 k.1)

  unit_came : (xs : List FormOrKept) (s : ScopedState) → AtTurns P Q way known xs s → Onwards (λ ps t. Each Came xs) (unit_by way known xs s)
  unit_came xs s h =
      let fs = numbers_of xs in let q = firsts_by way known fs xs [] s in
      onwards_then (λ ps t. Each Came xs) (λ rs t. seconds_by way known fs rs t) q
      (onwards_with (λ rs t. AllGone xs rs) (λ rs t. AtSeconds Q way known fs rs t) (λ rs t. Onwards (λ ps u. Each Came xs) (seconds_by way known fs rs t))
      (λ rs t a b. onwards_map (λ ps u. Each HasCome rs) (λ ps u. Each Came xs) (λ ps u c. both_came xs rs a c) (seconds_by way known fs rs t) (seconds_come fs rs t b)) q (firsts_gone fs xs [] s h.0) h.1)

  one_of : (xs : List FormOrKept) → Each Came xs → (x : FormOrKept) → IsIn x xs → Came x
  one_of [] h x i = absurd i
  one_of (y ∷ ys) h x (inl e) = subst Came (sym e) h.0
  one_of (y ∷ ys) h x (inr i) = one_of ys h.1 x i

  pub form_came : (xs : List FormOrKept) (s t : ScopedState) (ps : List Formed) → AtTurns P Q way known xs s → unit_by way known xs s ≡ (Some ps, t) → (x : FormOrKept) → IsIn x xs → Came x
  form_came xs s t ps h e = one_of xs (subst (λ z. Onwards (λ qs u. Each Came xs) z) e (unit_came xs s h))
