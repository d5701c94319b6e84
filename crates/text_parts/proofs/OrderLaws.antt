-- The order in which texts are included: each comes behind those that it names, since these name fewer.
use Rattle.std.proofs.Common.{◌≡◌, ◌⊎◌, inl, inr, ℕ, zero, suc, ◌+◌, ◌<◌, List, [], ◌∷◌, ◌++◌, length, Bool, true, false, refl, sym, ap, ◌∙◌, subst, arith}
use Rattle.std.specs.Prelude.{◌==◌, ◌&&◌, ◌||◌}
use Rattle.std.specs.List.{list_any}
use Rattle.std.proofs.lemmas.Bool.Decides.{nat_tests}
use Rattle.std.proofs.lemmas.List.{append_assoc, append-nil}
use Rattle.std.proofs.lemmas.List.Folds.{list_any-append}
use Rattle.scheme_model.specs.Includes.{Document, naming, is_among, named_by, is_on_circle}
use Rattle.nesting_laws.specs.Onward.{onward}
use Rattle.nesting_laws.proofs.Places.{Is, never, or_true, or_left, or_right, both_ways, same_number, same_itself}
use Rattle.nesting_laws.proofs.Closed.{fewer_onward, not_all_onward}
use Rattle.nesting_laws.proofs.Depth.{usable_there, usable_apart}
use Rattle.text_parts.specs.declared.parts.TextPart.{TextPart}
use Rattle.text_parts.specs.declared.reaches.Reach.{Reach}
use Rattle.text_parts.specs.Parts.{IsReach, IsTextPart, is_usable_in, InOrder, IsOrder, IsEarlier, HaveCome}
use Rattle.text_parts.proofs.MarkLaws.{below_or_last}
use Rattle.text_parts.proofs.NameLaws.{length_naming}

abbrev names_on : List Document → ℕ → ℕ
names_on ds n = length (onward (naming ds) n)

in_both : (xs ys : List ℕ) (n : ℕ) → is_among (xs ++ ys) n ≡ (is_among xs n || is_among ys n)
in_both xs ys n = list_any-append _ xs ys

alone : (n m : ℕ) → Is (is_among (n ∷ []) m) → n ≡ m
alone n m h = at (or_true (n == m) false h)
  where
    at : Is (n == m) ⊎ Is false → n ≡ m
    at (inl e) = same_number n m e
    at (inr e) = never e

-- one more
order_more : (ds : List Document) (come ns : List ℕ) (n : ℕ) → InOrder ds come ns → is_among (come ++ ns) n ≡ false →
    ((m : ℕ) → is_among (named_by (naming ds) n) m ≡ true → is_usable_in ds m ≡ true → is_among (come ++ ns) m ≡ true) → InOrder ds come (ns ++ n ∷ [])
order_more ds come [] n h out named =
    (ap (λ (xs : List ℕ). is_among xs n) (sym (append-nil come)) ∙ out, λ m e u. ap (λ (xs : List ℕ). is_among xs m) (sym (append-nil come)) ∙ named m e u, tt)
order_more ds come (k ∷ ns) n h out named =
    let same : come ++ k ∷ [] ++ ns ≡ come ++ k ∷ ns = append_assoc come (k ∷ []) ns in
    (h.0, h.1, order_more ds (come ++ k ∷ []) ns n h.2 (ap (λ (xs : List ℕ). is_among xs n) same ∙ out) (λ m e u. ap (λ (xs : List ℕ). is_among xs m) same ∙ named m e u))

-- what a document names that can be included names fewer onward
pub names_fewer : (ds : List Document) (n m : ℕ) → is_among (named_by (naming ds) n) m ≡ true → is_usable_in ds m ≡ true → names_on ds m < names_on ds n
names_fewer ds n m h u = let lt = usable_there ds m u in fewer_onward (naming ds) n m (omega (arith, length_naming ds)) h (usable_apart ds m u)

pub none_come : (ds : List Document) → HaveCome ds [] 0 0
none_come ds = record { in_order = tt; come = λ n u e. at n e; from = λ n h. never h }
  where
    at : (n : ℕ) → IsEarlier ds 0 0 n → is_among [] n ≡ true
    at n (inl lt) = absurd (omega arith)
    at n (inr w) = let lt = w.1 in absurd (omega arith)

module _ (ds : List Document) (order : List ℕ) (count place : ℕ) (h : HaveCome ds order count place) where
  earlier_still : (n : ℕ) → IsEarlier ds count place n → IsEarlier ds count (place + 1) n
  earlier_still n (inl lt) = inl lt
  earlier_still n (inr w) = let lt = w.1 in inr (w.0, omega arith)

  earlier_or_here : (n : ℕ) → IsEarlier ds count (place + 1) n → IsEarlier ds count place n ⊎ ((n ≡ place) × (names_on ds n ≡ count))
  earlier_or_here n (inl lt) = inl (inl lt)
  earlier_or_here n (inr w) = at (below_or_last n place w.1)
    where
      at : (n < place) ⊎ (n ≡ place) → IsEarlier ds count place n ⊎ ((n ≡ place) × (names_on ds n ≡ count))
      at (inl lt) = inl (inr (w.0, lt))
      at (inr e) = inr (e, w.0)

  not_itself : names_on ds place ≡ count → IsEarlier ds count place place → ⊥
  not_itself e (inl lt) = let no : ⊥ = omega arith in no
  not_itself e (inr w) = let lt = w.1 in let no : ⊥ = omega arith in no

  -- a document whose turn it is
  pub come_more : is_usable_in ds place ≡ true → names_on ds place ≡ count → HaveCome ds (order ++ place ∷ []) count (place + 1)
  come_more u e = record {
    in_order = order_more ds [] order place h.in_order (out (is_among order place) refl) (λ m g can. h.come m can (inl (let less = names_fewer ds place m g can in omega arith)));
    come = λ n can due. there n can (earlier_or_here n due);
    from = λ n g. back n (or_true (is_among order n) (is_among (place ∷ []) n) (sym (in_both order (place ∷ []) n) ∙ g));
  }
    where
      out : (b : Bool) → is_among order place ≡ b → is_among order place ≡ false
      out true f = absurd (not_itself e (h.from place f).1)
      out false f = f

      there : (n : ℕ) → is_usable_in ds n ≡ true → IsEarlier ds count place n ⊎ ((n ≡ place) × (names_on ds n ≡ count)) → is_among (order ++ place ∷ []) n ≡ true
      there n can (inl due) = in_both order (place ∷ []) n ∙ or_left (is_among order n) (is_among (place ∷ []) n) (h.come n can due)
      there n can (inr w) =
          in_both order (place ∷ []) n ∙ or_right (is_among order n) (is_among (place ∷ []) n) (or_left (place == n) false (ap (λ k. k == n) (sym w.0) ∙ same_itself n))

      back : (n : ℕ) → Is (is_among order n) ⊎ Is (is_among (place ∷ []) n) → (is_usable_in ds n ≡ true) × IsEarlier ds count (place + 1) n
      back n (inl g) = let w = h.from n g in (w.0, earlier_still n w.1)
      back n (inr g) =
          let same = alone place n g in
          (ap (is_usable_in ds) (sym same) ∙ u, inr (ap (names_on ds) (sym same) ∙ e, omega arith))

  -- any other
  pub come_past : (is_usable_in ds place ≡ true → names_on ds place ≡ count → ⊥) → HaveCome ds order count (place + 1)
  come_past other = record {
    in_order = h.in_order;
    come = λ n can due. there n can (earlier_or_here n due);
    from = λ n g. let w = h.from n g in (w.0, earlier_still n w.1);
  }
    where
      there : (n : ℕ) → is_usable_in ds n ≡ true → IsEarlier ds count place n ⊎ ((n ≡ place) × (names_on ds n ≡ count)) → is_among order n ≡ true
      there n can (inl due) = h.come n can due
      there n can (inr w) = absurd (other (ap (is_usable_in ds) (sym w.0) ∙ can) (ap (names_on ds) (sym w.0) ∙ w.1))

same_count : (n m : ℕ) → (n == m) ≡ true → n ≡ m
same_count n m e = grind (arith, nat_tests)

counts_same : (n m : ℕ) → n ≡ m → (n == m) ≡ true
counts_same n m e = grind (arith, nat_tests)

and_first : (a b : Bool) → (a && b) ≡ true → a ≡ true
and_first true b h = refl
and_first false b h = absurd cc

and_second : (a b : Bool) → (a && b) ≡ true → b ≡ true
and_second true b h = h
and_second false b h = absurd cc

and_both : (a b : Bool) → a ≡ true → b ≡ true → (a && b) ≡ true
and_both true b h k = k
and_both false b h k = absurd cc

-- by what is told of the document
pub due_more : (ds : List Document) (order : List ℕ) (count place : ℕ) (part : TextPart) (reach : Reach) → IsTextPart ds place part → IsReach (naming ds) place reach → HaveCome ds order count place →
    (part.is_usable && (reach.count == count)) ≡ true → HaveCome ds (order ++ place ∷ []) count (place + 1)
due_more ds order count place part reach p r h e =
    come_more ds order count place h (sym p.usable ∙ and_first part.is_usable (reach.count == count) e) (sym r.count ∙ same_count reach.count count (and_second part.is_usable (reach.count == count) e))

pub due_past : (ds : List Document) (order : List ℕ) (count place : ℕ) (part : TextPart) (reach : Reach) → IsTextPart ds place part → IsReach (naming ds) place reach → HaveCome ds order count place →
    (part.is_usable && (reach.count == count)) ≡ false → HaveCome ds order count (place + 1)
due_past ds order count place part reach p r h e =
    come_past ds order count place h (λ u c. let no : true ≡ false = sym (and_both part.is_usable (reach.count == count) (p.usable ∙ u) (counts_same reach.count count (r.count ∙ c))) ∙ e in absurd cc)

-- once all places are gone through, those come that name one document more
pub next_count : (ds : List Document) (order : List ℕ) (count place : ℕ) → place ≡ length ds → HaveCome ds order count place → HaveCome ds order (count + 1) 0
next_count ds order count place whole h = record { in_order = h.in_order; come = λ n u e. h.come n u (at n u e); from = λ n g. let w = h.from n g in (w.0, back n w.1) }
  where
    at : (n : ℕ) → is_usable_in ds n ≡ true → IsEarlier ds (count + 1) 0 n → IsEarlier ds count place n
    at n u (inl lt) = by (below_or_last (names_on ds n) count lt)
      where
        by : (names_on ds n < count) ⊎ (names_on ds n ≡ count) → IsEarlier ds count place n
        by (inl low) = inl low
        by (inr e) = let there = usable_there ds n u in inr (e, omega arith)
    at n u (inr w) = let lt = w.1 in absurd (omega arith)

    back : (n : ℕ) → IsEarlier ds count place n → IsEarlier ds (count + 1) 0 n
    back n (inl lt) = inl (omega arith)
    back n (inr w) = let e = w.0 in inl (omega arith)

-- in the end all have come
pub all_come : (ds : List Document) (order : List ℕ) (count : ℕ) → count ≡ length ds → HaveCome ds order count 0 → IsOrder ds order
all_come ds order count whole h = record { in_order = h.in_order; whole = λ n. both_ways (is_among order n) (is_usable_in ds n) (λ g. (h.from n g).0) (λ u. h.come n u (inl (few n u))) }
  where
    few : (n : ℕ) → is_usable_in ds n ≡ true → names_on ds n < count
    few n u =
        let lt = usable_there ds n u in
        let less = not_all_onward (naming ds) n (omega (arith, length_naming ds)) (usable_apart ds n u) in omega (arith, length_naming ds)
