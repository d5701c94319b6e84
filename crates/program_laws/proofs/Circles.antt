-- What units import, directly or not, is closed: each step finds a unit, or has found all.
use Rattle.std.proofs.Common.{◌≡◌, ◌⊎◌, inl, inr, ℕ, zero, suc, ◌≤◌, ◌<◌, List, [], ◌∷◌, length, Bool, true, false, refl, sym, true≢false, ⊎_elim, subst, arith, if◌then◌else◌}
use Rattle.std.specs.Prelude.{◌==◌, ◌||◌}
use Rattle.std.proofs.lemmas.Bool.Decides.{nat_tests}
use Rattle.scheme_model.specs.Program.{Prepared, imports_at, is_in, joined, imports_of_all, reached}
use Rattle.program_laws.specs.Circles.{IsClosed}

abbrev pub Is : Bool → Type 0
Is b = b ≡ true

pub never : {X : Type 0} → false ≡ true → X
never h = elim (true≢false (sym h)) [ ]

-- ---- members

pub or_true : (a b : Bool) → Is (a || b) → Is a ⊎ Is b
or_true true b h = inl refl
or_true false b h = inr h

pub or_left : (a b : Bool) → Is a → Is (a || b)
or_left true b h = refl
or_left false b h = never h

pub or_right : (a b : Bool) → Is b → Is (a || b)
or_right true b h = refl
or_right false b h = h

pub same_number : (n m : ℕ) → Is (n == m) → n ≡ m
same_number n m h = grind (arith, nat_tests)

-- one more number, unless it is there
kept_in : (m n : ℕ) (ms : List ℕ) (b : Bool) → Is (is_in n ms) → Is (is_in n (if b then ms else m ∷ ms))
kept_in m n ms true h = h
kept_in m n ms false h = or_right (n == m) (is_in n ms) h

put_in : (m n : ℕ) (ms : List ℕ) (b : Bool) → is_in m ms ≡ b → n ≡ m → Is (is_in n (if b then ms else m ∷ ms))
put_in m n ms true e same = subst (λ (k : ℕ). Is (is_in k ms)) (sym same) e
put_in m n ms false e same = or_left (n == m) (is_in n ms) (grind (arith, nat_tests))

found_in : (m n : ℕ) (ms : List ℕ) (b : Bool) → Is (is_in n (if b then ms else m ∷ ms)) → (n ≡ m) ⊎ Is (is_in n ms)
found_in m n ms true h = inr h
found_in m n ms false h = at (or_true (n == m) (is_in n ms) h)
  where
    at : Is (n == m) ⊎ Is (is_in n ms) → (n ≡ m) ⊎ Is (is_in n ms)
    at (inl e) = inl (same_number n m e)
    at (inr e) = inr e

pub joined_old : (n : ℕ) (ms ns : List ℕ) → Is (is_in n ms) → Is (is_in n (joined ms ns))
joined_old n ms [] h = h
joined_old n ms (k ∷ ns) h = joined_old n (if is_in k ms then ms else k ∷ ms) ns (kept_in k n ms (is_in k ms) h)

pub joined_new : (n : ℕ) (ms ns : List ℕ) → Is (is_in n ns) → Is (is_in n (joined ms ns))
joined_new n ms [] h = never h
joined_new n ms (k ∷ ns) h =
    let ks : List ℕ = if is_in k ms then ms else k ∷ ms in
    ⊎_elim (λ (e : Is (n == k)). joined_old n ks ns (put_in k n ms (is_in k ms) refl (same_number n k e))) (λ (e : Is (is_in n ns)). joined_new n ks ns e) (or_true (n == k) (is_in n ns) h)

pub of_joined : (n : ℕ) (ms ns : List ℕ) → Is (is_in n (joined ms ns)) → Is (is_in n ms) ⊎ Is (is_in n ns)
of_joined n ms [] h = inl h
of_joined n ms (k ∷ ns) h = at (of_joined n (if is_in k ms then ms else k ∷ ms) ns h)
  where
    last : (n ≡ k) ⊎ Is (is_in n ms) → Is (is_in n ms) ⊎ Is (is_in n (k ∷ ns))
    last (inl e) = inr (or_left (n == k) (is_in n ns) (grind (arith, nat_tests)))
    last (inr e) = inl e

    at : Is (is_in n (if is_in k ms then ms else k ∷ ms)) ⊎ Is (is_in n ns) → Is (is_in n ms) ⊎ Is (is_in n (k ∷ ns))
    at (inl e) = last (found_in k n ms (is_in k ms) e)
    at (inr e) = inr (or_right (n == k) (is_in n ns) e)

-- ---- what is imported

module _ (units : List Prepared) where
  -- what these import
  imported_new : (n m : ℕ) (ns : List ℕ) → Is (is_in n ns) → Is (is_in m (imports_at units n)) → Is (is_in m (imports_of_all units ns))
  imported_new n m [] h k = never h
  imported_new n m (j ∷ ns) h k =
      ⊎_elim (λ (e : Is (n == j)). joined_new m (imports_of_all units ns) (imports_at units j) (subst (λ (i : ℕ). Is (is_in m (imports_at units i))) (same_number n j e) k))
      (λ (e : Is (is_in n ns)). joined_old m (imports_of_all units ns) (imports_at units j) (imported_new n m ns e k)) (or_true (n == j) (is_in n ns) h)

  pub imported_of : (m : ℕ) (ms ns : List ℕ) → IsClosed units ms → ((j : ℕ) → Is (is_in j ns) → Is (is_in j ms)) → Is (is_in m (imports_of_all units ns)) → Is (is_in m ms)
  imported_of m ms [] closed inside h = never h
  imported_of m ms (j ∷ ns) closed inside h =
      ⊎_elim (λ (e : Is (is_in m (imports_of_all units ns))). imported_of m ms ns closed (λ i x. inside i (or_right (i == j) (is_in i ns) x)) e)
      (λ (e : Is (is_in m (imports_at units j))). closed j m (inside j (or_left (j == j) (is_in j ns) (grind (arith, nat_tests)))) e) (of_joined m (imports_of_all units ns) (imports_at units j) h)

  abbrev step : List ℕ → List ℕ
  step ns = joined ns (imports_of_all units ns)

  -- what is closed stays so
  step_closed : (ns : List ℕ) → IsClosed units ns → IsClosed units (step ns)
  step_closed ns closed n m h k = joined_old m ns (imports_of_all units ns) (closed n m (at (of_joined n ns (imports_of_all units ns) h)) k)
    where
      at : Is (is_in n ns) ⊎ Is (is_in n (imports_of_all units ns)) → Is (is_in n ns)
      at (inl e) = e
      at (inr e) = imported_of n ns ns closed (λ j x. x) e

  stays_closed : (steps : ℕ) (ns : List ℕ) → IsClosed units ns → IsClosed units (reached units steps ns)
  stays_closed zero ns h = h
  stays_closed (suc steps) ns h = stays_closed steps (step ns) (step_closed ns h)

-- ---- units that aren't found yet

abbrev pub not_found : Bool → ℕ → ℕ
not_found true n = n
not_found false n = suc n

abbrev pub missing : List Prepared → List ℕ → ℕ
missing [] ns = 0
missing (p ∷ ps) ns = not_found (is_in p.number ns) (missing ps ns)

fewer_by : (a b : Bool) (m n : ℕ) → (Is a → Is b) → m ≤ n → not_found b m ≤ not_found a n
fewer_by true true m n h le = le
fewer_by true false m n h le = never (h refl)
fewer_by false true m n h le = omega arith
fewer_by false false m n h le = omega arith

fewer : (ps : List Prepared) (ns ms : List ℕ) → ((n : ℕ) → Is (is_in n ns) → Is (is_in n ms)) → missing ps ms ≤ missing ps ns
fewer [] ns ms h = omega arith
fewer (p ∷ ps) ns ms h = fewer_by (is_in p.number ns) (is_in p.number ms) (missing ps ms) (missing ps ns) (h p.number) (fewer ps ns ms h)

less_by : (a b : Bool) (m n : ℕ) → a ≡ false → Is b → m ≤ n → not_found b m < not_found a n
less_by true b m n h k le = never (sym h)
less_by false true m n h k le = omega arith
less_by false false m n h k le = never k

less_still : (a b : Bool) (m n : ℕ) → (Is a → Is b) → m < n → not_found b m < not_found a n
less_still true true m n h lt = lt
less_still true false m n h lt = never (h refl)
less_still false true m n h lt = omega arith
less_still false false m n h lt = omega arith

less_at : (p : Prepared) (ps : List Prepared) (ns ms : List ℕ) (n m : ℕ) → ((k : ℕ) → Is (is_in k ns) → Is (is_in k ms)) → is_in n ns ≡ false → Is (is_in n ms) → Is (is_in m (imports_at (p ∷ ps) n))
    → (Is (is_in m (imports_at ps n)) → missing ps ms < missing ps ns) → (b : Bool) → (p.number == n) ≡ b → missing (p ∷ ps) ms < missing (p ∷ ps) ns
less_at p ps ns ms n m h out found k rest true e =
    let same : n ≡ p.number = grind (arith, nat_tests) in
    less_by (is_in p.number ns) (is_in p.number ms) (missing ps ms) (missing ps ns) (subst (λ (j : ℕ). is_in j ns ≡ false) same out) (subst (λ (j : ℕ). Is (is_in j ms)) same found) (fewer ps ns ms h)
less_at p ps ns ms n m h out found k rest false e =
    less_still (is_in p.number ns) (is_in p.number ms) (missing ps ms) (missing ps ns) (h p.number)
    (rest (subst (λ (b : Bool). Is (is_in m (if b then p.imports else imports_at ps n))) e k))

-- a unit that imports anything is found now, and wasn't before
pub less : (ps : List Prepared) (ns ms : List ℕ) (n m : ℕ) → ((k : ℕ) → Is (is_in k ns) → Is (is_in k ms)) → is_in n ns ≡ false → Is (is_in n ms) → Is (is_in m (imports_at ps n)) → missing ps ms < missing ps ns
less [] ns ms n m h out found k = never k
less (p ∷ ps) ns ms n m h out found k = less_at p ps ns ms n m h out found k (λ x. less ps ns ms n m h out found x) (p.number == n) refl

-- ---- the walk

either_way : (a b : ℕ) → (a ≤ b) ⊎ (b < a)
either_way zero b = inl (omega arith)
either_way (suc a) zero = inr (omega arith)
either_way (suc a) (suc b) = next (either_way a b)
  where
    next : (a ≤ b) ⊎ (b < a) → (suc a ≤ suc b) ⊎ (suc b < suc a)
    next (inl h) = inl (omega arith)
    next (inr h) = inr (omega arith)

pub missing_most : (ps : List Prepared) (ns : List ℕ) → missing ps ns ≤ length ps
missing_most [] ns = omega arith
missing_most (p ∷ ps) ns = by (is_in p.number ns) (missing_most ps ns)
  where
    by : (b : Bool) → missing ps ns ≤ length ps → not_found b (missing ps ns) ≤ suc (length ps)
    by true le = omega arith
    by false le = omega arith

module _ (units : List Prepared) where
  more : (ns : List ℕ) (n : ℕ) → Is (is_in n ns) → Is (is_in n (joined ns (imports_of_all units ns)))
  more ns n h = joined_old n ns (imports_of_all units ns) h

  -- where a step finds no unit that imports, it is closed
  closed_or_less : (ns : List ℕ) → missing units ns ≤ missing units (step units ns) → IsClosed units (step units ns)
  closed_or_less ns le n m h k = at (is_in n ns) refl
    where
      at : (b : Bool) → is_in n ns ≡ b → Is (is_in m (step units ns))
      at true e = joined_new m ns (imports_of_all units ns) (imported_new units n m ns e k)
      at false e = let lt = less units ns (step units ns) n m (more ns) e h k in elim (absurd lt) [ ]
        where
          absurd : missing units (step units ns) < missing units ns → ⊥
          absurd lt = omega arith

  walk : (steps : ℕ) (ns : List ℕ) → missing units ns < steps → IsClosed units (reached units steps ns)
  walk zero ns lt = elim (absurd lt) [ ]
    where
      absurd : missing units ns < 0 → ⊥
      absurd lt = omega arith
  walk (suc steps) ns lt =
      let again : missing units (step units ns) < missing units ns → IsClosed units (reached units steps (step units ns)) = λ h. walk steps (step units ns) (omega arith) in
      ⊎_elim (λ (h : missing units ns ≤ missing units (step units ns)). stays_closed units steps (step units ns) (closed_or_less ns h)) again (either_way (missing units ns) (missing units (step units ns)))

  -- where none of these is a unit that imports anything, they are closed
  none_imports : (ns : List ℕ) → length units ≤ missing units ns → IsClosed units ns
  none_imports ns le n m h k = elim (absurd (less units [] ns n m (λ j x. never x) refl h k) (missing_most units [])) [ ]
    where
      absurd : missing units ns < missing units [] → missing units [] ≤ length units → ⊥
      absurd lt most = omega arith

  pub reached_closed : (ns : List ℕ) → IsClosed units (reached units (length units) ns)
  reached_closed ns = at (either_way (length units) (missing units ns))
    where
      at : (length units ≤ missing units ns) ⊎ (missing units ns < length units) → IsClosed units (reached units (length units) ns)
      at (inl h) = stays_closed units (length units) ns (none_imports ns h)
      at (inr h) = walk (length units) ns h
