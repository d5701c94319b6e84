-- The forms of the code that have a fault are those that are broken.
use Rattle.std.proofs.Common.{◌≡◌, ℕ, zero, suc, ◌+◌, ◌<◌, inl, inr, Bool, true, false, List, [], ◌∷◌, slice_get, Option, Result, Ok, Err, refl, sym, ap, ◌∙◌, arith, eq-eqb, ne_eqb}
use Rattle.std.specs.Prelude.{◌&&◌, ◌||◌}
use Rattle.std.specs.List.{list_any}
use Rattle.std.specs.Option.{is_some}
use Rattle.scheme_model.specs.Cores.{Parts}
use Rattle.scheme_model.specs.Steps.{Broken}
use Rattle.scheme_model.specs.UnitExpansion.{Formed}
use Rattle.scheme_model.specs.Diagnostics.{is_broken}
use Rattle.syntax_tree.specs.declared.trees.Work.{Work}
use Rattle.core_tree.specs.Units.{FormsStand, IsBlank, IsResult}
use Rattle.core_tree.specs.declared.units.UnitForm.{UnitForm}
use Rattle.core_tree.specs.declared.traces.FormFault.{FormFault}
use Rattle.unit_imports.specs.Hiding.{has_fault}

-- one with another number
not_here : (n : ℕ) (f : Formed) → (f.form ≡ n → ⊥) → is_broken n f ≡ false
not_here n f other = go f.result
  where
    go : (r : Result Parts Broken) → is_broken n (record { form = f.form; result = r; counted = f.counted }) ≡ false
    go (Ok ps) = ap (λ (b : Bool). b && false) (ne_eqb f.form n other)
    go (Err e) = ap (λ (b : Bool). b && true) (ne_eqb f.form n other)

or_same : (a b : Bool) → a ≡ false → (a || b) ≡ b
or_same a b e = ap (λ (c : Bool). c || b) e

module _ (work : Work) (unit : ℕ) where
  none_below : (k : ℕ) (cs : List UnitForm) (fs : List Formed) → FormsStand work unit k cs fs → (n : ℕ) → n < k → list_any (is_broken n) fs ≡ false
  none_below k [] [] h n lt = refl
  none_below k [] (f ∷ fs) h n lt = absurd h
  none_below k (c ∷ cs) [] h n lt = refl
  none_below k (c ∷ cs) (f ∷ fs) (inl h) n lt = none_below (suc k) cs (f ∷ fs) h.2 n (omega arith)
  none_below k (c ∷ cs) (f ∷ fs) (inr h) n lt =
      let here : f.form ≡ k = h.0 in
      or_same (is_broken n f) (list_any (is_broken n) fs) (not_here n f (λ same. omega arith)) ∙ none_below (suc k) cs fs h.2 n (omega arith)

  blank_fault : (c : UnitForm) → IsBlank c → false ≡ is_some c.fault
  blank_fault c h = sym (ap (λ (o : Option FormFault). is_some o) h.fault)

  own_fault : (k : ℕ) (c : UnitForm) (f : Formed) (n : ℕ) → f.form ≡ n → IsResult work unit k c f.result f.counted → is_broken n f ≡ is_some c.fault
  own_fault k c f n here is = go f.result is
    where
      go : (r : Result Parts Broken) → IsResult work unit k c r f.counted → is_broken n (record { form = f.form; result = r; counted = f.counted }) ≡ is_some c.fault
      go (Ok ps) is = ap (λ (b : Bool). b && false) (eq-eqb f.form n here) ∙ sym (ap (λ (o : Option FormFault). is_some o) is.whole)
      go (Err e) is = ap (λ (b : Bool). b && true) (eq-eqb f.form n here) ∙ sym (ap (λ (o : Option FormFault). is_some o) is.1)

  or_none : (a b : Bool) → b ≡ false → (a || b) ≡ a
  or_none true b e = refl
  or_none false b e = e

  broken_from : (k : ℕ) (cs : List UnitForm) (fs : List Formed) → FormsStand work unit k cs fs → (n m : ℕ) → m ≡ k + n → list_any (is_broken m) fs ≡ has_fault (slice_get cs n)
  broken_from k [] [] h zero m e = refl
  broken_from k [] [] h (suc n) m e = refl
  broken_from k [] (f ∷ fs) h n m e = absurd h
  broken_from k (c ∷ cs) [] h zero m e = blank_fault c h.0
  broken_from k (c ∷ cs) [] h (suc n) m e = broken_from (suc k) cs [] h.1 n m (omega arith)
  broken_from k (c ∷ cs) (f ∷ fs) (inl h) zero m e = none_below (suc k) cs (f ∷ fs) h.2 m (omega arith) ∙ blank_fault c h.0
  broken_from k (c ∷ cs) (f ∷ fs) (inl h) (suc n) m e = broken_from (suc k) cs (f ∷ fs) h.2 n m (omega arith)
  broken_from k (c ∷ cs) (f ∷ fs) (inr h) zero m e =
      let here : f.form ≡ k = h.0 in
      or_none (is_broken m f) (list_any (is_broken m) fs) (none_below (suc k) cs fs h.2 m (omega arith)) ∙ own_fault k c f m (omega arith) h.1
  broken_from k (c ∷ cs) (f ∷ fs) (inr h) (suc n) m e =
      let here : f.form ≡ k = h.0 in
      or_same (is_broken m f) (list_any (is_broken m) fs) (not_here m f (λ same. omega arith)) ∙ broken_from (suc k) cs fs h.2 n m (omega arith)

pub broken_same : (work : Work) (unit : ℕ) (cs : List UnitForm) (fs : List Formed) → FormsStand work unit 0 cs fs → (n : ℕ) → list_any (is_broken n) fs ≡ has_fault (slice_get cs n)
broken_same work unit cs fs h n = broken_from work unit 0 cs fs h n n (omega arith)
