-- The numbers of pairs tell the old ones: each is sought among the numbers of the pairs, and else is what was moved behind all others.
use Rattle.std.proofs.Common.{◌≡◌, ◌⊎◌, inl, inr, ℕ, suc, ◌+◌, ◌-◌, List, [], ◌∷◌, map, Bool, true, false, cond, Option, Some, None, refl, sym, ap, ◌∙◌, arith, eq-eqb}
use Rattle.std.specs.Prelude.{◌==◌}
use Rattle.std.proofs.lemmas.Bool.{eqb-true}
use Rattle.scheme_model.specs.Program.{prelude_unit}
use Rattle.renumbering_laws.specs.NewSurroundings.{HasOldNumbers}
use Rattle.carried_forms.specs.Carried.{IsIn}
use Rattle.carried_forms.specs.Paired.{UnitText, UnitPair, AreTold, AreWithin, unit_pairs, prelude_pair, unit_after, number_after, form_after, renumbering}
use Rattle.carried_forms.proofs.PairLaws.{one_number}
use Rattle.carried_forms.proofs.UnitLaws.{units_apart}

-- the first of these numbers that has this new one
abbrev pub old_of : (ℕ → ℕ) → List ℕ → ℕ → Option ℕ
old_of f [] u = None
old_of f (c ∷ cs) u = cond (f c == u) (Some c) (old_of f cs u)

old_found : (f : ℕ → ℕ) → ((u v : ℕ) → f u ≡ f v → u ≡ v) → (cs : List ℕ) (n : ℕ) → IsIn n cs → old_of f cs (f n) ≡ Some n
old_found f h [] n i = absurd i
old_found f h (c ∷ cs) n i = go (f c == f n) refl i (λ q. old_found f h cs n q)
  where
    go : (b : Bool) → (f c == f n) ≡ b → (n ≡ c) ⊎ IsIn n cs → (IsIn n cs → old_of f cs (f n) ≡ Some n) → cond (f c == f n) (Some c) (old_of f cs (f n)) ≡ Some n
    go true e i ih = ap (λ t. cond t (Some c) (old_of f cs (f n))) e ∙ ap Some (h c n (eqb-true (f c) (f n) e))
    go false e (inl q) ih = let x : (f c == f n) ≡ true = eq-eqb (f c) (f n) (ap f (sym q)) in let y : true ≡ false = sym x ∙ e in absurd cc
    go false e (inr q) ih = ap (λ t. cond t (Some c) (old_of f cs (f n))) e ∙ ih q

-- ---- units

abbrev unit_numbers : List UnitPair → ℕ → List ℕ
unit_numbers ps u = (u - suc prelude_unit) ∷ map (λ p. p.before) ps

among_units : (ps : List UnitPair) (u : ℕ) → IsIn u (unit_numbers ps (unit_after ps u))
among_units [] u = inl (let e : u ≡ suc prelude_unit + u - suc prelude_unit = omega arith in e)
among_units (p ∷ ps) u = go (p.before == u) refl (among_units ps u)
  where
    go : (b : Bool) → (p.before == u) ≡ b → IsIn u (unit_numbers ps (unit_after ps u)) → IsIn u (unit_numbers (p ∷ ps) (cond b p.after (unit_after ps u)))
    go true e h = inr (inl (sym (eqb-true p.before u e)))
    go false e (inl h) = inl h
    go false e (inr h) = inr (inr h)

-- ---- forms

abbrev form_numbers : List UnitPair → (unit form : ℕ) → List ℕ
form_numbers [] u f = f ∷ []
form_numbers (p ∷ ps) u f = cond (p.before == u) ((f - p.size) ∷ map (λ q. q.0) p.forms) (form_numbers ps u f)

among_pairs : (size f : ℕ) (qs : List (ℕ × ℕ)) → IsIn f ((number_after (size + f) qs f - size) ∷ map (λ q. q.0) qs)
among_pairs size f [] = inl (let e : f ≡ size + f - size = omega arith in e)
among_pairs size f (q ∷ qs) = go (q.0 == f) refl (among_pairs size f qs)
  where
    go : (b : Bool) → (q.0 == f) ≡ b → IsIn f ((number_after (size + f) qs f - size) ∷ map (λ x. x.0) qs) → IsIn f ((cond b q.1 (number_after (size + f) qs f) - size) ∷ q.0 ∷ map (λ x. x.0) qs)
    go true e h = inr (inl (sym (eqb-true q.0 f e)))
    go false e (inl h) = inl h
    go false e (inr h) = inr (inr h)

among_forms : (ps : List UnitPair) (u f : ℕ) → IsIn f (form_numbers ps u (form_after ps u f))
among_forms [] u f = inl refl
among_forms (p ∷ ps) u f = go (p.before == u) (among_forms ps u f)
  where
    go : (b : Bool) → IsIn f (form_numbers ps u (form_after ps u f)) → let g = cond b (number_after (p.size + f) p.forms f) (form_after ps u f) in IsIn f (cond b ((g - p.size) ∷ map (λ q. q.0) p.forms) (form_numbers ps u g))
    go true h = among_pairs p.size f p.forms
    go false h = h

pub pairs_tell : (us vs : List UnitText) → AreTold us → AreWithin 0 vs → HasOldNumbers (renumbering (unit_pairs us vs))
pairs_tell us vs a b =
    let ps = prelude_pair ∷ unit_pairs us vs in let r = renumbering (unit_pairs us vs) in
    record {
      unit_back = λ u. old_of r.unit (unit_numbers ps u) u;
      unit_here = λ u. old_found r.unit (units_apart us vs a b) (unit_numbers ps (r.unit u)) u (among_units ps u);
      form_back = λ u f. old_of (r.form u) (form_numbers ps u f) f;
      form_here = λ u f. old_found (r.form u) (one_number us vs u) (form_numbers ps u (r.form u f)) f (among_forms ps u f);
      definitions = λ u n. refl;
    }
