-- What is named onward is closed, and is less from what is named and isn't on a circle.
use Rattle.std.proofs.Common.{◌≡◌, ◌⊎◌, inl, inr, ℕ, zero, suc, ◌+◌, ◌≤◌, ◌<◌, List, [], ◌∷◌, length, Bool, true, false, refl, sym, ap, ◌∙◌, subst, arith, if◌then◌else◌}
use Rattle.std.specs.Prelude.{◌==◌, ◌||◌}
use Rattle.std.specs.List.{list_any}
use Rattle.std.proofs.lemmas.Bool.Decides.{nat_tests}
use Rattle.scheme_model.specs.Includes.{Naming, is_among, named_by, with_named, names_on, is_on_circle}
use Rattle.nesting_laws.specs.Onward.{onward, IsClosed}
use Rattle.nesting_laws.proofs.Places.{Is, never, or_true, or_left, or_right, both_ways, same_number, passing, among_passing, passing_among, fewer, not_all, passing_alike}

either_way : (a b : ℕ) → (a ≤ b) ⊎ (b < a)
either_way zero b = inl (omega arith)
either_way (suc a) zero = inr (omega arith)
either_way (suc a) (suc b) = next (either_way a b)
  where
    next : (a ≤ b) ⊎ (b < a) → (suc a ≤ suc b) ⊎ (suc b < suc a)
    next (inl h) = inl (omega arith)
    next (inr h) = inr (omega arith)

-- only a document names
pub names_there : (all : Naming) (n k : ℕ) → Is (is_among (named_by all n) k) → n < length all
names_there [] n k h = never h
names_there (ns ∷ rest) zero k h = omega arith
names_there (ns ∷ rest) (suc n) k h = let there = names_there rest n k h in omega arith

-- ---- one step

module _ (all : Naming) where
  -- a document is among these, or one of them names it
  abbrev found : List ℕ → ℕ → Bool
  found ns k = is_among ns k || list_any (λ m. is_among (named_by all m) k) ns

  found_passing : (n : ℕ) (rest : Naming) (ns : List ℕ) → with_named all n rest ns ≡ passing (found ns) n rest
  found_passing n [] ns = refl
  found_passing n (r ∷ rest) ns = λ j. if found ns n then n ∷ found_passing (suc n) rest ns j else found_passing (suc n) rest ns j

  abbrev step : List ℕ → List ℕ
  step ns = with_named all 0 all ns

  pub named_found : (n k : ℕ) (ns : List ℕ) → Is (is_among ns n) → Is (is_among (named_by all n) k) → Is (list_any (λ m. is_among (named_by all m) k) ns)
  named_found n k [] h g = never h
  named_found n k (m ∷ ns) h g = at (or_true (m == n) (is_among ns n) h) (named_found n k ns)
    where
      at : Is (m == n) ⊎ Is (is_among ns n) → (Is (is_among ns n) → Is (is_among (named_by all n) k) → Is (list_any (λ m. is_among (named_by all m) k) ns)) → Is (list_any (λ m. is_among (named_by all m) k) (m ∷ ns))
      at (inl e) ih = or_left (is_among (named_by all m) k) (list_any (λ m. is_among (named_by all m) k) ns) (subst (λ (i : ℕ). Is (is_among (named_by all i) k)) (sym (same_number m n e)) g)
      at (inr e) ih = or_right (is_among (named_by all m) k) (list_any (λ m. is_among (named_by all m) k) ns) (ih e g)

  pub found_named : (k : ℕ) (ns : List ℕ) → Is (list_any (λ m. is_among (named_by all m) k) ns) → (n : ℕ) × Is (is_among ns n) × Is (is_among (named_by all n) k)
  found_named k [] h = never h
  found_named k (m ∷ ns) h = at (or_true (is_among (named_by all m) k) (list_any (λ m. is_among (named_by all m) k) ns) h) (found_named k ns)
    where
      at : Is (is_among (named_by all m) k) ⊎ Is (list_any (λ m. is_among (named_by all m) k) ns)
          → (Is (list_any (λ m. is_among (named_by all m) k) ns) → (n : ℕ) × Is (is_among ns n) × Is (is_among (named_by all n) k))
          → (n : ℕ) × Is (is_among (m ∷ ns) n) × Is (is_among (named_by all n) k)
      at (inl e) ih = (m, or_left (m == m) (is_among ns m) (itself m), e)
        where
          itself : (m : ℕ) → Is (m == m)
          itself m = grind (arith, nat_tests)
      at (inr e) ih = let w = ih e in (w.0, or_right (m == w.0) (is_among ns w.0) w.1, w.2)

  in_step : (ns : List ℕ) (k : ℕ) → k < length all → Is (found ns k) → Is (is_among (step ns) k)
  in_step ns k lt h = subst (λ (ms : List ℕ). Is (is_among ms k)) (sym (found_passing 0 all ns)) (among_passing (found ns) 0 all k (omega arith) (omega arith) h)

  of_step : (ns : List ℕ) (k : ℕ) → Is (is_among (step ns) k) → (k < length all) × Is (found ns k)
  of_step ns k h =
      let w = passing_among (found ns) 0 all k (subst (λ (ms : List ℕ). Is (is_among ms k)) (found_passing 0 all ns) h) in (omega (arith, w.1), w.2)

  -- which documents a step finds
  pub step_told : (ns : List ℕ) (k : ℕ) → k < length all → is_among (with_named all 0 all ns) k ≡ (is_among ns k || list_any (λ m. is_among (named_by all m) k) ns)
  step_told ns k lt = both_ways (is_among (step ns) k) (found ns k) (λ h. (of_step ns k h).1) (in_step ns k lt)

  one_way : (ns ms : List ℕ) → ((k : ℕ) → k < length all → is_among ns k ≡ is_among ms k) → (k : ℕ) → k < length all → Is (is_among (step ns) k) → Is (is_among (step ms) k)
  one_way ns ms same k lt h = at (or_true (is_among ns k) (list_any (λ m. is_among (named_by all m) k) ns) (of_step ns k h).1)
    where
      at : Is (is_among ns k) ⊎ Is (list_any (λ m. is_among (named_by all m) k) ns) → Is (is_among (step ms) k)
      at (inl e) = in_step ms k lt (or_left (is_among ms k) (list_any (λ m. is_among (named_by all m) k) ms) (sym (same k lt) ∙ e))
      at (inr e) =
          let w = found_named k ns e in
          in_step ms k lt (or_right (is_among ms k) (list_any (λ m. is_among (named_by all m) k) ms) (named_found w.0 k ms (sym (same w.0 (names_there all w.0 k w.2)) ∙ w.1) w.2))

  -- what is named by the same documents is the same
  pub step_alike : (ns ms : List ℕ) → ((k : ℕ) → k < length all → is_among ns k ≡ is_among ms k) → (k : ℕ) → k < length all → is_among (with_named all 0 all ns) k ≡ is_among (with_named all 0 all ms) k
  step_alike ns ms same k lt = both_ways (is_among (step ns) k) (is_among (step ms) k) (one_way ns ms same k lt) (one_way ms ns (λ j low. sym (same j low)) k lt)

  stays : (ns : List ℕ) (k : ℕ) → k < length all → Is (is_among ns k) → Is (is_among (step ns) k)
  stays ns k lt h = in_step ns k lt (or_left (is_among ns k) (list_any (λ m. is_among (named_by all m) k) ns) h)

  named : (ns : List ℕ) (n k : ℕ) → k < length all → Is (is_among ns n) → Is (is_among (named_by all n) k) → Is (is_among (step ns) k)
  named ns n k lt h g = in_step ns k lt (or_right (is_among ns k) (list_any (λ m. is_among (named_by all m) k) ns) (named_found n k ns h g))

  -- ---- closed

  -- what a step finds is in what is closed
  found_in : (ns xs : List ℕ) → IsClosed all xs → ((k : ℕ) → k < length all → Is (is_among ns k) → Is (is_among xs k)) → (k : ℕ) → Is (is_among (step ns) k) → Is (is_among xs k)
  found_in ns xs closed inside k h = let w = of_step ns k h in at w.0 (or_true (is_among ns k) (list_any (λ m. is_among (named_by all m) k) ns) w.1)
    where
      at : k < length all → Is (is_among ns k) ⊎ Is (list_any (λ m. is_among (named_by all m) k) ns) → Is (is_among xs k)
      at lt (inl e) = inside k lt e
      at lt (inr e) = let w = found_named k ns e in closed w.0 k (inside w.0 (names_there all w.0 k w.2) w.1) w.2 lt

  step_closed : (ns : List ℕ) → IsClosed all ns → IsClosed all (step ns)
  step_closed ns closed n m h g lt = stays ns m lt (closed n m (found_in ns ns closed (λ k lt x. x) n h) g lt)

  stays_closed : (steps : ℕ) (ns : List ℕ) → IsClosed all ns → IsClosed all (names_on all steps ns)
  stays_closed zero ns h = h
  stays_closed (suc steps) ns h = stays_closed steps (step ns) (step_closed ns h)

  -- how many documents are among these
  abbrev pub count : List ℕ → ℕ
  count ns = length (passing (is_among ns) 0 all)

  -- where a step finds no more, it is closed
  none_more : (ns : List ℕ) → count (step ns) ≤ count ns → IsClosed all (step ns)
  none_more ns le n m h g lt = named ns n m lt (was (is_among ns n) refl) g
    where
      there : n < length all
      there = (of_step ns n h).0

      was : (b : Bool) → is_among ns n ≡ b → Is b
      was true e = refl
      was false e =
          let more = fewer (is_among ns) (is_among (step ns)) 0 all n (λ k low high x. stays ns k (omega arith) x) (omega arith) (omega (arith, there)) e h in absurd (omega arith)

  all_there : (ns : List ℕ) → length all ≤ count ns → IsClosed all ns
  all_there ns le n m h g lt = is (is_among ns m) refl
    where
      is : (b : Bool) → is_among ns m ≡ b → Is b
      is true e = refl
      is false e = let few = not_all (is_among ns) 0 all m (omega arith) (omega arith) e in absurd (omega arith)

  walk : (steps : ℕ) (ns : List ℕ) → length all ≤ count ns + steps → IsClosed all (names_on all steps ns)
  walk zero ns le = all_there ns (omega arith)
  walk (suc steps) ns le = at (either_way (count (step ns)) (count ns)) (λ h. walk steps (step ns) h)
    where
      at : (count (step ns) ≤ count ns) ⊎ (count ns < count (step ns)) → (length all ≤ count (step ns) + steps → IsClosed all (names_on all steps (step ns))) → IsClosed all (names_on all steps (step ns))
      at (inl h) ih = stays_closed steps (step ns) (none_more ns h)
      at (inr h) ih = ih (omega arith)

  -- what a document names, directly or not, is closed
  pub onward_closed : (n : ℕ) → IsClosed all (onward all n)
  onward_closed n = walk (length all) (named_by all n) (omega arith)

  -- ---- fewer

  within : (steps : ℕ) (ns xs : List ℕ) → IsClosed all xs → ((k : ℕ) → k < length all → Is (is_among ns k) → Is (is_among xs k)) → (k : ℕ) → k < length all → Is (is_among (names_on all steps ns) k) → Is (is_among xs k)
  within zero ns xs closed inside k lt h = inside k lt h
  within (suc steps) ns xs closed inside k lt h = within steps (step ns) xs closed (λ j small x. found_in ns xs closed inside j x) k lt h

  kept : (steps : ℕ) (ns : List ℕ) (k : ℕ) → k < length all → Is (is_among ns k) → Is (is_among (names_on all steps ns) k)
  kept zero ns k lt h = h
  kept (suc steps) ns k lt h = kept steps (step ns) k lt (stays ns k lt h)

  -- what a document names is among what it names onward
  pub named_onward : (n m : ℕ) → m < length all → Is (is_among (named_by all n) m) → Is (is_among (onward all n) m)
  named_onward n m lt h = kept (length all) (named_by all n) m lt h

  -- and so is all that that names onward
  pub further : (n m k : ℕ) → m < length all → Is (is_among (named_by all n) m) → k < length all → Is (is_among (onward all m) k) → Is (is_among (onward all n) k)
  further n m k lt h small g =
      within (length all) (named_by all m) (onward all n) (onward_closed n) (λ j low x. onward_closed n m j (named_onward n m lt h) x low) k small g

  pub counted : (steps : ℕ) (ns : List ℕ) → 0 < steps → count (names_on all steps ns) ≡ length (names_on all steps ns)
  counted zero ns lt = absurd (omega arith)
  counted (suc zero) ns lt = ap length (passing_alike (is_among (step ns)) (found ns) 0 all (λ k low high. same k (omega arith)) ∙ sym (found_passing 0 all ns))
    where
      same : (k : ℕ) → k < length all → is_among (step ns) k ≡ found ns k
      same k lt = step_told ns k lt
  counted (suc (suc steps)) ns lt = counted (suc steps) (step ns) (omega arith)

  -- what isn't on a circle names fewer documents onward than what names it
  pub fewer_onward : (n m : ℕ) → m < length all → Is (is_among (named_by all n) m) → is_on_circle all m ≡ false → length (onward all m) < length (onward all n)
  fewer_onward n m lt h out =
      let less = fewer (is_among (onward all m)) (is_among (onward all n)) 0 all m (λ k low high x. further n m k lt h (omega arith) x) (omega arith) (omega arith) out (named_onward n m lt h) in
      omega (arith, counted (length all) (named_by all m) (omega arith), counted (length all) (named_by all n) (omega arith))

  -- and fewer than there are
  pub not_all_onward : (n : ℕ) → n < length all → is_on_circle all n ≡ false → length (onward all n) < length all
  not_all_onward n lt out =
      let less = not_all (is_among (onward all n)) 0 all n (omega arith) (omega arith) out in omega (arith, counted (length all) (named_by all n) (omega arith))
