-- Two lists side by side.
use Rattle.std.proofs.Common.{◌≡◌, ℕ, zero, suc, ◌+◌, ◌<◌, ◌≤◌, List, [], ◌∷◌, ◌++◌, length, take, drop, get_or, refl, sym, ap, ◌∙◌, subst, arith}
use Rattle.rules_build.specs.Values.{Paired}

module _ {A B : Type 0} (R : A → B → Type 0) where
  -- the last two
  pub record Last (xs : List A) (x : A) (ys : List B) : Type 0 where
    pub front : List B
    pub last : B
    pub split : ys ≡ front ++ last ∷ []
    pub before : Paired R xs front
    pub related : R x last

  pub split_last : (xs : List A) (x : A) (ys : List B) → Paired R (xs ++ x ∷ []) ys → Last xs x ys
  split_last [] x [] h = absurd h
  split_last [] x (y ∷ []) h = record { front = []; last = y; split = refl; before = tt; related = h.0 }
  split_last [] x (y ∷ z ∷ zs) h = absurd h.1
  split_last (w ∷ ws) x [] h = absurd h
  split_last (w ∷ ws) x (y ∷ ys) h =
      let p = split_last ws x ys h.1 in
      record { front = y ∷ p.front; last = p.last; split = ap (λ (zs : List B). y ∷ zs) p.split; before = (h.0, p.before); related = p.related }

  pub join_last : (xs : List A) (x : A) (ys : List B) (y : B) → Paired R xs ys → R x y → Paired R (xs ++ x ∷ []) (ys ++ y ∷ [])
  join_last [] x [] y h r = (r, tt)
  join_last [] x (z ∷ zs) y h r = absurd h
  join_last (w ∷ ws) x [] y h r = absurd h
  join_last (w ∷ ws) x (z ∷ zs) y h r = (h.0, join_last ws x zs y h.1 r)

  -- what stands at a place
  pub record There (x : A) (ys : List B) (k : ℕ) : Type 0 where
    pub here : B
    pub related : R x here
    pub split : drop k ys ≡ here ∷ drop (k + 1) ys

  pub there : (k : ℕ) (xs : List A) (ys : List B) (d : A) → Paired R xs ys → k < length xs → There (get_or xs k d) ys k
  there k [] ys d h l = absurd (omega arith)
  there k (x ∷ xs) [] d h l = absurd h
  there zero (x ∷ xs) (y ∷ ys) d h l = record { here = y; related = h.0; split = refl }
  there (suc k) (x ∷ xs) (y ∷ ys) d h l =
      let p = there k xs ys d h.1 (omega arith) in
      let e : suc k + 1 ≡ suc (k + 1) = omega arith in
      record { here = p.here; related = p.related; split = p.split ∙ ap (λ (j : ℕ). p.here ∷ drop j (y ∷ ys)) (sym e) }

  pub past : (k : ℕ) (xs : List A) (ys : List B) → Paired R xs ys → length xs ≤ k → drop k ys ≡ []
  past zero [] [] h l = refl
  past (suc k) [] [] h l = refl
  past k [] (y ∷ ys) h l = absurd h
  past k (x ∷ xs) [] h l = absurd h
  past zero (x ∷ xs) (y ∷ ys) h l = absurd (omega arith)
  past (suc k) (x ∷ xs) (y ∷ ys) h l = past k xs ys h.1 (omega arith)

-- one more of a list
pub take_more : {A : Type 0} (k : ℕ) (xs : List A) (d : A) → k < length xs → take (k + 1) xs ≡ take k xs ++ get_or xs k d ∷ []
take_more {A} k [] d l = absurd (omega arith)
take_more {A} zero (x ∷ xs) d l = refl
take_more {A} (suc k) (x ∷ xs) d l =
    let e : suc k + 1 ≡ suc (k + 1) = omega arith in
    ap (λ (j : ℕ). take j (x ∷ xs)) e ∙ ap (λ (ys : List A). x ∷ ys) (take_more k xs d (omega arith))

take_all : {A : Type 0} (k : ℕ) (xs : List A) → length xs ≤ k → take k xs ≡ xs
take_all {A} zero [] l = refl
take_all {A} zero (x ∷ xs) l = absurd (omega arith)
take_all {A} (suc k) [] l = refl
take_all {A} (suc k) (x ∷ xs) l = ap (λ (ys : List A). x ∷ ys) (take_all k xs (omega arith))

-- a list that is made of another, element by element
module _ {A B C D : Type 0} (R : A → B → Type 0) (S : C → D → Type 0) (F : List B → List D) where
  abbrev pub MadeOf : List A → List C → Type 0
  MadeOf xs zs = (ys : List B) → Paired R xs ys → Paired S zs (F ys)

  -- one element more, of which one or none is made
  pub made_more : (f : B → D) → ((ys : List B) (y : B) → F (ys ++ y ∷ []) ≡ F ys ++ f y ∷ []) → (xs : List A) (k : ℕ) (d : A) (zs ws : List C) (z : C) → k < length xs → MadeOf (take k xs) zs → ws ≡ zs ++ z ∷ [] →
      ((y : B) → R (get_or xs k d) y → S z (f y)) → MadeOf (take (k + 1) xs) ws
  made_more f step xs k d zs ws z l made e one = λ ys h.
      let p = split_last R (take k xs) (get_or xs k d) ys (subst (λ (v : List A). Paired R v ys) (take_more k xs d l) h) in
      let last = join_last S zs z (F p.front) (f p.last) (made p.front p.before) (one p.last p.related) in
      subst (λ (v : List C). Paired S v (F ys)) (sym e) (subst (λ (v : List D). Paired S (zs ++ z ∷ []) v) (sym (ap F p.split ∙ step p.front p.last)) last)

  pub made_all : (xs : List A) (k : ℕ) (zs : List C) → length xs ≤ k → MadeOf (take k xs) zs → MadeOf xs zs
  made_all xs k zs l made = subst (λ (v : List A). MadeOf v zs) (take_all k xs l) made
