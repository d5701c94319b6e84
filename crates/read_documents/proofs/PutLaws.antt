-- Lists in a total order that have of equal elements one: what it is to put one more in.
use Rattle.std.proofs.Common.{◌≡◌, Bool, true, false, cond, List, [], ◌∷◌, ◌++◌, filter, Ordering, Less, Equal, Greater, refl, sym, ap, ◌∙◌, subst}
use Rattle.std.specs.Ordering.{match_ordering, ordering_reverse}
use Rattle.std.specs.Cmp.{IsTotalOrder, alike_right}

module _ {A : Type 0} (R : A → A → Ordering) where
  -- an equal one that is there stays
  abbrev pub keep : A → List A → List A
  keep x [] = x ∷ []
  keep x (e ∷ es) = match_ordering (R x e) (x ∷ e ∷ es) (e ∷ es) (e ∷ keep x es)

  -- an equal one that is there is replaced
  abbrev pub over : A → List A → List A
  over x [] = x ∷ []
  over x (e ∷ es) = match_ordering (R x e) (x ∷ e ∷ es) (x ∷ es) (e ∷ over x es)

  -- from the last to the first; of equal ones the last stays
  abbrev pub in_order : List A → List A
  in_order [] = []
  in_order (x ∷ xs) = keep x (in_order xs)

  abbrev pub Above : A → List A → Type 0
  Above x [] = Unit {0}
  Above x (e ∷ es) = (R x e ≡ Less) × Above x es

  abbrev pub Rise : List A → Type 0
  Rise [] = Unit {0}
  Rise (e ∷ es) = Above e es × Rise es

module _ {A : Type 0} {R : A → A → Ordering} (o : IsTotalOrder R) where
  turned : {B : Type 0} (r : Ordering) (a b c : B) → match_ordering r a b c ≡ match_ordering (ordering_reverse r) c b a
  turned Less a b c = refl
  turned Equal a b c = refl
  turned Greater a b c = refl

  back : (x y : A) (r : Ordering) → R x y ≡ r → R y x ≡ ordering_reverse r
  back x y r e = o.antisymm y x ∙ ap ordering_reverse e

  behind : (x d e : A) (es : List A) → R d x ≡ Less → R d e ≡ Less → (r : Ordering) → R x e ≡ r → over R d (keep R x (e ∷ es)) ≡ d ∷ keep R x (e ∷ es)
  behind x d e es u p Less q = simp (q, u)
  behind x d e es u p Equal q = simp (q, p)
  behind x d e es u p Greater q = simp (q, p)

  -- which of two is put in first is the same
  pub swapped : (x d : A) (es : List A) → keep R x (over R d es) ≡ over R d (keep R x es)
  swapped x d [] = turned (R x d) (x ∷ d ∷ []) (d ∷ []) (d ∷ x ∷ []) ∙ ap (λ r. match_ordering r (d ∷ x ∷ []) (d ∷ []) (x ∷ d ∷ [])) (sym (o.antisymm d x))
  swapped x d (e ∷ es) = first (swapped x d es) (R d e) refl
    where
      less : R d e ≡ Less → (s : Ordering) → R x d ≡ s → keep R x (over R d (e ∷ es)) ≡ over R d (keep R x (e ∷ es))
      less p Less q = let t = o.trans x d e q p in let u = back x d Less q in simp (p, q, t, u)
      less p Equal q = let t = o.congr x d e q ∙ p in let u = back x d Equal q in simp (p, q, t, u)
      less p Greater q =
          let u = back x d Greater q in
          let stays : over R d (keep R x (e ∷ es)) ≡ d ∷ keep R x (e ∷ es) = behind x d e es u p (R x e) refl in
          simp (p, q) (sym stays)

      equal : R d e ≡ Equal → (s : Ordering) → R x d ≡ s → keep R x (over R d (e ∷ es)) ≡ over R d (keep R x (e ∷ es))
      equal p Less q = let t = sym (alike_right o d e x p) ∙ q in let u = back x d Less q in simp (p, q, t, u)
      equal p Equal q = let t = sym (alike_right o d e x p) ∙ q in simp (p, q, t)
      equal p Greater q = let t = sym (alike_right o d e x p) ∙ q in simp (p, q, t)

      greater : keep R x (over R d es) ≡ over R d (keep R x es) → R d e ≡ Greater → (s : Ordering) → R x e ≡ s → keep R x (over R d (e ∷ es)) ≡ over R d (keep R x (e ∷ es))
      greater rest p Less q = let v = back d e Greater p in let u = back x d Less (o.trans x e d q v) in simp (p, q, u)
      greater rest p Equal q = simp (p, q)
      greater rest p Greater q = simp (p, q) (ap (λ ys. e ∷ ys) rest)

      first : keep R x (over R d es) ≡ over R d (keep R x es) → (r : Ordering) → R d e ≡ r → keep R x (over R d (e ∷ es)) ≡ over R d (keep R x (e ∷ es))
      first rest Less p = less p (R x d) refl
      first rest Equal p = equal p (R x d) refl
      first rest Greater p = greater rest p (R x e) refl

  -- one more behind a list
  pub in_order_push : (xs : List A) (d : A) → in_order R (xs ++ d ∷ []) ≡ over R d (in_order R xs)
  in_order_push [] d = refl
  in_order_push (x ∷ xs) d = ap (keep R x) (in_order_push xs d) ∙ swapped x d (in_order R xs)

  -- ---- the order

  above_more : (x y : A) (es : List A) → R x y ≡ Less → Above R y es → Above R x es
  above_more x y [] p h = tt
  above_more x y (e ∷ es) p h = (o.trans x y e p h.0, above_more x y es p h.1)

  above_keep : (y x : A) (es : List A) → R y x ≡ Less → Above R y es → Above R y (keep R x es)
  above_keep y x [] p h = (p, tt)
  above_keep y x (e ∷ es) p h = go (above_keep y x es p h.1) (R x e)
    where
      go : Above R y (keep R x es) → (r : Ordering) → Above R y (match_ordering r (x ∷ e ∷ es) (e ∷ es) (e ∷ keep R x es))
      go rest Less = (p, h)
      go rest Equal = h
      go rest Greater = (h.0, rest)

  rise_keep : (x : A) (es : List A) → Rise R es → Rise R (keep R x es)
  rise_keep x [] h = (tt, tt)
  rise_keep x (e ∷ es) h = go (rise_keep x es h.1) (R x e) refl
    where
      go : Rise R (keep R x es) → (r : Ordering) → R x e ≡ r → Rise R (match_ordering r (x ∷ e ∷ es) (e ∷ es) (e ∷ keep R x es))
      go rest Less p = ((p, above_more x e es p h.0), h)
      go rest Equal p = h
      go rest Greater p = (above_keep e x es (back x e Greater p) h.0, rest)

  pub rise_in_order : (xs : List A) → Rise R (in_order R xs)
  rise_in_order [] = tt
  rise_in_order (x ∷ xs) = rise_keep x (in_order R xs) (rise_in_order xs)

  -- ---- those that pass a test

  above_filter : (p : A → Bool) (x : A) (es : List A) → Above R x es → Above R x (filter p es)
  above_filter p x [] h = tt
  above_filter p x (e ∷ es) h = go (above_filter p x es h.1) (p e)
    where
      go : Above R x (filter p es) → (b : Bool) → Above R x (cond b (e ∷ filter p es) (filter p es))
      go rest true = (h.0, rest)
      go rest false = rest

  in_front : (d : A) (es : List A) → Above R d es → over R d es ≡ d ∷ es
  in_front d [] h = refl
  in_front d (e ∷ es) h = ap (λ r. match_ordering r (d ∷ e ∷ es) (d ∷ es) (e ∷ over R d es)) h.0

  -- where equal ones pass alike
  pub filter_over : (p : A → Bool) → ((a b : A) → R a b ≡ Equal → p a ≡ p b) → (d : A) (es : List A) → Rise R es → filter p (over R d es) ≡ cond (p d) (over R d (filter p es)) (filter p es)
  filter_over p alike d [] h = refl
  filter_over p alike d (e ∷ es) h = go (filter_over p alike d es h.1) (R d e) refl
    where
      before : (b : Bool) → Above R d (filter p (e ∷ es)) → cond b (d ∷ filter p (e ∷ es)) (filter p (e ∷ es)) ≡ cond b (over R d (filter p (e ∷ es))) (filter p (e ∷ es))
      before true k = sym (in_front d (filter p (e ∷ es)) k)
      before false k = refl

      same : (b : Bool) → R d e ≡ Equal → cond b (d ∷ filter p es) (filter p es) ≡ cond b (over R d (cond b (e ∷ filter p es) (filter p es))) (cond b (e ∷ filter p es) (filter p es))
      same true q = ap (λ r. match_ordering r (d ∷ e ∷ filter p es) (d ∷ filter p es) (e ∷ over R d (filter p es))) (sym q)
      same false q = refl

      later : (a b : Bool) → R d e ≡ Greater → cond b (e ∷ cond a (over R d (filter p es)) (filter p es)) (cond a (over R d (filter p es)) (filter p es)) ≡ cond a (over R d (cond b (e ∷ filter p es) (filter p es))) (cond b (e ∷ filter p es) (filter p es))
      later true true q = ap (λ r. match_ordering r (d ∷ e ∷ filter p es) (d ∷ filter p es) (e ∷ over R d (filter p es))) (sym q)
      later false true q = refl
      later true false q = refl
      later false false q = refl

      go : filter p (over R d es) ≡ cond (p d) (over R d (filter p es)) (filter p es) → (r : Ordering) → R d e ≡ r → filter p (match_ordering r (d ∷ e ∷ es) (d ∷ es) (e ∷ over R d es)) ≡ cond (p d) (over R d (filter p (e ∷ es))) (filter p (e ∷ es))
      go rest Less q = before (p d) (above_filter p d (e ∷ es) (q, above_more d e es q h.0))
      go rest Equal q = subst (λ b. cond (p d) (d ∷ filter p es) (filter p es) ≡ cond (p d) (over R d (cond b (e ∷ filter p es) (filter p es))) (cond b (e ∷ filter p es) (filter p es))) (alike d e q) (same (p d) q)
      go rest Greater q = ap (λ ys. cond (p e) (e ∷ ys) ys) rest ∙ later (p d) (p e) q

  in_front_kept : (d : A) (es : List A) → Above R d es → keep R d es ≡ d ∷ es
  in_front_kept d [] h = refl
  in_front_kept d (e ∷ es) h = ap (λ r. match_ordering r (d ∷ e ∷ es) (e ∷ es) (e ∷ keep R d es)) h.0

  filter_keep : (p : A → Bool) → ((a b : A) → R a b ≡ Equal → p a ≡ p b) → (d : A) (es : List A) → Rise R es → filter p (keep R d es) ≡ cond (p d) (keep R d (filter p es)) (filter p es)
  filter_keep p alike d [] h = refl
  filter_keep p alike d (e ∷ es) h = go (filter_keep p alike d es h.1) (R d e) refl
    where
      before : (b : Bool) → Above R d (filter p (e ∷ es)) → cond b (d ∷ filter p (e ∷ es)) (filter p (e ∷ es)) ≡ cond b (keep R d (filter p (e ∷ es))) (filter p (e ∷ es))
      before true k = sym (in_front_kept d (filter p (e ∷ es)) k)
      before false k = refl

      same : (b : Bool) → R d e ≡ Equal → cond b (e ∷ filter p es) (filter p es) ≡ cond b (keep R d (cond b (e ∷ filter p es) (filter p es))) (cond b (e ∷ filter p es) (filter p es))
      same true q = ap (λ r. match_ordering r (d ∷ e ∷ filter p es) (e ∷ filter p es) (e ∷ keep R d (filter p es))) (sym q)
      same false q = refl

      later : (a b : Bool) → R d e ≡ Greater → cond b (e ∷ cond a (keep R d (filter p es)) (filter p es)) (cond a (keep R d (filter p es)) (filter p es)) ≡ cond a (keep R d (cond b (e ∷ filter p es) (filter p es))) (cond b (e ∷ filter p es) (filter p es))
      later true true q = ap (λ r. match_ordering r (d ∷ e ∷ filter p es) (e ∷ filter p es) (e ∷ keep R d (filter p es))) (sym q)
      later false true q = refl
      later true false q = refl
      later false false q = refl

      go : filter p (keep R d es) ≡ cond (p d) (keep R d (filter p es)) (filter p es) → (r : Ordering) → R d e ≡ r → filter p (match_ordering r (d ∷ e ∷ es) (e ∷ es) (e ∷ keep R d es)) ≡ cond (p d) (keep R d (filter p (e ∷ es))) (filter p (e ∷ es))
      go rest Less q = before (p d) (above_filter p d (e ∷ es) (q, above_more d e es q h.0))
      go rest Equal q = subst (λ b. cond b (e ∷ filter p es) (filter p es) ≡ cond (p d) (keep R d (cond b (e ∷ filter p es) (filter p es))) (cond b (e ∷ filter p es) (filter p es))) (alike d e q) (same (p d) q)
      go rest Greater q = ap (λ ys. cond (p e) (e ∷ ys) ys) rest ∙ later (p d) (p e) q

  -- those that pass, in order
  pub filter_in_order : (p : A → Bool) → ((a b : A) → R a b ≡ Equal → p a ≡ p b) → (xs : List A) → filter p (in_order R xs) ≡ in_order R (filter p xs)
  filter_in_order p alike [] = refl
  filter_in_order p alike (x ∷ xs) = filter_keep p alike x (in_order R xs) (rise_in_order xs) ∙ go (p x) (filter_in_order p alike xs)
    where
      go : (b : Bool) → filter p (in_order R xs) ≡ in_order R (filter p xs) → cond b (keep R x (filter p (in_order R xs))) (filter p (in_order R xs)) ≡ in_order R (cond b (x ∷ filter p xs) (filter p xs))
      go true rest = ap (keep R x) rest
      go false rest = rest
