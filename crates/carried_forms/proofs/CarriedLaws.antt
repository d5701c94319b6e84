-- The carried forms are exactly those that go on, were worked on and ask alike.
use Rattle.std.proofs.Common.{◌≡◌, ℕ, List, [], ◌∷◌, ◌++◌, Bool, true, false, cond, ◌⊎◌, inl, inr, refl, sym, ap, ◌∙◌, subst}
use Rattle.renumbering_laws.specs.Renumbering.{Renumbering}
use Rattle.carried_forms.specs.Paired.{UnitPair}
use Rattle.carried_forms.specs.Worked.{WorkedUnit}
use Rattle.carried_forms.specs.Carried.{worked_at, both_alike, IsIn, IsCarried, carried_in, carried_by}

parted : {X : Type 0} (x : X) (xs ys : List X) → IsIn x (xs ++ ys) → IsIn x xs ⊎ IsIn x ys
parted x [] ys h = inr h
parted x (z ∷ xs) ys (inl e) = inl (inl e)
parted x (z ∷ xs) ys (inr h) = go (parted x xs ys h)
  where
    go : IsIn x xs ⊎ IsIn x ys → ((x ≡ z) ⊎ IsIn x xs) ⊎ IsIn x ys
    go (inl k) = inl (inr k)
    go (inr k) = inr k

first : {X : Type 0} (x : X) (xs ys : List X) → IsIn x xs → IsIn x (xs ++ ys)
first x [] ys h = absurd h
first x (z ∷ xs) ys (inl e) = inl e
first x (z ∷ xs) ys (inr h) = inr (first x xs ys h)

later : {X : Type 0} (x : X) (xs ys : List X) → IsIn x ys → IsIn x (xs ++ ys)
later x [] ys h = h
later x (z ∷ xs) ys h = inr (later x xs ys h)

module _ (r : Renumbering) (us vs : List WorkedUnit) where
  abbrev Alike : (b a : ℕ) → ℕ × ℕ → Type 0
  Alike b a q = both_alike r (worked_at us b q.0) (worked_at vs a q.1) ≡ true

  abbrev Found : (b a : ℕ) → List (ℕ × ℕ) → ℕ × ℕ → Type 0
  Found b a qs c = (q : ℕ × ℕ) × IsIn q qs × Alike b a q × (c ≡ (a, q.1))

  one_only : (b a : ℕ) (c : ℕ × ℕ) (qs : List (ℕ × ℕ)) → IsIn c (carried_in r us vs b a qs) → Found b a qs c
  one_only b a c [] h = absurd h
  one_only b a c (q ∷ qs) h = go (both_alike r (worked_at us b q.0) (worked_at vs a q.1)) refl (one_only b a c qs) h
    where
      wider : Found b a qs c → Found b a (q ∷ qs) c
      wider f = (f.0, inr f.1, f.2, f.3)

      go : (t : Bool) → both_alike r (worked_at us b q.0) (worked_at vs a q.1) ≡ t → (IsIn c (carried_in r us vs b a qs) → Found b a qs c) →
          IsIn c (cond t ((a, q.1) ∷ carried_in r us vs b a qs) (carried_in r us vs b a qs)) → Found b a (q ∷ qs) c
      go true e rest (inl k) = (q, inl refl, e, k)
      go true e rest (inr k) = wider (rest k)
      go false e rest k = wider (rest k)

  one_all : (b a : ℕ) (c : ℕ × ℕ) (qs : List (ℕ × ℕ)) (q : ℕ × ℕ) → IsIn q qs → Alike b a q → c ≡ (a, q.1) → IsIn c (carried_in r us vs b a qs)
  one_all b a c [] q h k e = absurd h
  one_all b a c (p ∷ qs) q (inl s) k e = go (both_alike r (worked_at us b p.0) (worked_at vs a p.1)) refl
    where
      go : (t : Bool) → both_alike r (worked_at us b p.0) (worked_at vs a p.1) ≡ t → IsIn c (cond t ((a, p.1) ∷ carried_in r us vs b a qs) (carried_in r us vs b a qs))
      go true m = inl (e ∙ ap (λ (x : ℕ × ℕ). (a, x.1)) s)
      go false m = let same : false ≡ true = sym m ∙ (ap (λ (x : ℕ × ℕ). both_alike r (worked_at us b x.0) (worked_at vs a x.1)) (sym s) ∙ k) in absurd cc
  one_all b a c (p ∷ qs) q (inr h) k e = go (both_alike r (worked_at us b p.0) (worked_at vs a p.1)) (one_all b a c qs q h k e)
    where
      go : (t : Bool) → IsIn c (carried_in r us vs b a qs) → IsIn c (cond t ((a, p.1) ∷ carried_in r us vs b a qs) (carried_in r us vs b a qs))
      go true m = inr m
      go false m = m

  pub carried_only : (ps : List UnitPair) (c : ℕ × ℕ) → IsIn c (carried_by r us vs ps) → IsCarried r us vs ps c
  carried_only [] c h = absurd h
  carried_only (p ∷ ps) c h = go (parted c (carried_in r us vs p.before p.after p.forms) (carried_by r us vs ps) h) (carried_only ps c)
    where
      go : IsIn c (carried_in r us vs p.before p.after p.forms) ⊎ IsIn c (carried_by r us vs ps) → (IsIn c (carried_by r us vs ps) → IsCarried r us vs ps c) → IsCarried r us vs (p ∷ ps) c
      go (inl k) rest =
          let f = one_only p.before p.after c p.forms k in
          record { unit = p; goes_on = inl refl; forms = f.0; with_it = f.1; alike = f.2; is = f.3 }
      go (inr k) rest =
          let f = rest k in
          record { unit = f.unit; goes_on = inr f.goes_on; forms = f.forms; with_it = f.with_it; alike = f.alike; is = f.is }

  in_pair : (p : UnitPair) (c : ℕ × ℕ) (ps qs : List UnitPair) (f : IsCarried r us vs qs c) → f.unit ≡ p → IsIn c (carried_in r us vs p.before p.after p.forms)
  in_pair p c ps qs f e =
      subst (λ (x : UnitPair). IsIn c (carried_in r us vs x.before x.after x.forms)) e (one_all f.unit.before f.unit.after c f.unit.forms f.forms f.with_it f.alike f.is)

  among : (ps : List UnitPair) (c : ℕ × ℕ) (qs : List UnitPair) (f : IsCarried r us vs qs c) → IsIn f.unit ps → IsIn c (carried_by r us vs ps)
  among [] c qs f h = absurd h
  among (p ∷ ps) c qs f h = go h (among ps c qs f)
    where
      go : (f.unit ≡ p) ⊎ IsIn f.unit ps → (IsIn f.unit ps → IsIn c (carried_by r us vs ps)) → IsIn c (carried_in r us vs p.before p.after p.forms ++ carried_by r us vs ps)
      go (inl e) rest = first c (carried_in r us vs p.before p.after p.forms) (carried_by r us vs ps) (in_pair p c ps qs f e)
      go (inr k) rest = later c (carried_in r us vs p.before p.after p.forms) (carried_by r us vs ps) (rest k)

  pub carried_all : (ps : List UnitPair) (c : ℕ × ℕ) → IsCarried r us vs ps c → IsIn c (carried_by r us vs ps)
  carried_all ps c f = among ps c ps f f.goes_on
