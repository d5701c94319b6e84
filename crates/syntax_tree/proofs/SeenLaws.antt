-- What is found in a map of which something is seen.
use Rattle.std.proofs.Common.{◌≡◌, ◌≢◌, ◌⊎◌, ℕ, suc, Bool, true, false, cond, List, [], ◌∷◌, map, length, Option, Some, None, refl, sym, ap, subst, ◌∙◌, inl, inr}
use Rattle.std.specs.Prelude.{◌&&◌, T}
use Rattle.std.specs.Option.{option_map}
use Rattle.std.specs.Ordering.{nat_cmp, eq_by_cmp, is_lt}
use Rattle.std.specs.Cmp.{nat_cmp_total}
use Rattle.std.specs.FinMap as finite
use Rattle.std.specs.FinMap.Entries.{below_all}
use Rattle.std.specs.FinMap.{get-insert, get-remove, same_map, nat_cmp-IsAntisymmetric}
use Rattle.std.proofs.lemmas.Bool.{cases_eq}
use Rattle.std.proofs.lemmas.Option.{same_Some, none-some}
use Rattle.node_pool.proofs.MapLaws.{tied, apart}
use Rattle.syntax_tree.specs.Seen.{seen}

module _ {X : Type 0} where
  pub same_finite : (a b : finite.FinMap nat_cmp X) → ((q : ℕ) → finite.get a q ≡ finite.get b q) → a ≡ b
  same_finite a b h = same_map nat_cmp_total nat_cmp-IsAntisymmetric a b h

  pub got_here : (m : finite.FinMap nat_cmp X) (k : ℕ) (v : X) (q : ℕ) → q ≡ k → finite.get (finite.insert m k v) q ≡ Some v
  got_here m k v q e =
      get-insert nat_cmp_total m k v q ∙ ap (λ (b : Bool). cond b (Some v) (finite.get m q)) (ap (λ (x : ℕ). eq_by_cmp nat_cmp x k) e ∙ tied k)

  pub got_there : (m : finite.FinMap nat_cmp X) (k : ℕ) (v : X) (q : ℕ) → q ≢ k → finite.get (finite.insert m k v) q ≡ finite.get m q
  got_there m k v q ne = get-insert nat_cmp_total m k v q ∙ ap (λ (b : Bool). cond b (Some v) (finite.get m q)) (apart q k ne)

  pub gone_here : (m : finite.FinMap nat_cmp X) (k q : ℕ) → q ≡ k → finite.get (finite.remove m k) q ≡ None
  gone_here m k q e =
      get-remove nat_cmp_total m k q ∙ ap (λ (b : Bool). cond b None (finite.get m q)) (ap (λ (x : ℕ). eq_by_cmp nat_cmp x k) e ∙ tied k)

  pub gone_there : (m : finite.FinMap nat_cmp X) (k q : ℕ) → q ≢ k → finite.get (finite.remove m k) q ≡ finite.get m q
  gone_there m k q ne = get-remove nat_cmp_total m k q ∙ ap (λ (b : Bool). cond b None (finite.get m q)) (apart q k ne)

module _ {X Y : Type 0} (f : ℕ → X → Y) where
  abbrev show : ℕ × X → ℕ × Y
  show e = (e.0, f e.0 e.1)

  find_seen : (q : ℕ) (es : List (ℕ × X)) → finite.find nat_cmp q (map show es) ≡ option_map (f q) (finite.find nat_cmp q es)
  find_seen q [] = refl
  find_seen q (e ∷ es) =
      let rest : finite.find nat_cmp q (map show es) ≡ option_map (f q) (finite.find nat_cmp q es) = find_seen q es in
      elim (cases_eq q e.0) [
        | inl same ↦
            let hit : eq_by_cmp nat_cmp q e.0 ≡ true = ap (λ (x : ℕ). eq_by_cmp nat_cmp x e.0) same ∙ tied e.0 in
            ap (λ (b : Bool). cond b (Some (f e.0 e.1)) (finite.find nat_cmp q (map show es))) hit
            ∙ ap (λ (n : ℕ). Some (f n e.1)) (sym same)
            ∙ ap (λ (b : Bool). option_map (f q) (cond b (Some e.1) (finite.find nat_cmp q es))) (sym hit)
        | inr ne ↦
            let miss : eq_by_cmp nat_cmp q e.0 ≡ false = apart q e.0 ne in
            ap (λ (b : Bool). cond b (Some (f e.0 e.1)) (finite.find nat_cmp q (map show es))) miss
            ∙ rest
            ∙ ap (λ (b : Bool). option_map (f q) (cond b (Some e.1) (finite.find nat_cmp q es))) (sym miss)
      ]

  below_seen : (x : ℕ) (es : List (ℕ × X)) → below_all nat_cmp x (map show es) ≡ below_all nat_cmp x es
  below_seen x [] = refl
  below_seen x (e ∷ es) = ap (λ (b : Bool). is_lt (nat_cmp x e.0) && b) (below_seen x es)

  sorted_seen : (es : List (ℕ × X)) → finite.is_sorted nat_cmp (map show es) ≡ finite.is_sorted nat_cmp es
  sorted_seen [] = refl
  sorted_seen (e ∷ es) = λ j. below_seen e.0 es j && sorted_seen es j

  count_seen : (es : List (ℕ × X)) → length (map show es) ≡ length es
  count_seen [] = refl
  count_seen (e ∷ es) = λ j. suc (count_seen es j)

  pub entries_seen : (m : finite.FinMap nat_cmp X) → finite.entries (seen f m) ≡ map show (finite.entries m)
  unfolding seen
  entries_seen m = finite.entries-from_sorted nat_cmp (map show (finite.entries m)) (subst T (sym (sorted_seen (finite.entries m))) (finite.entries_sorted m))

  -- what is found is what is seen of what was there
  pub get_seen : (m : finite.FinMap nat_cmp X) (q : ℕ) → finite.get (seen f m) q ≡ option_map (f q) (finite.get m q)
  get_seen m q =
      finite.get-entries (seen f m) q
      ∙ ap (finite.find nat_cmp q) (entries_seen m)
      ∙ find_seen q (finite.entries m)
      ∙ ap (option_map (f q)) (sym (finite.get-entries m q))

  pub len_seen : (m : finite.FinMap nat_cmp X) → finite.len (seen f m) ≡ finite.len m
  len_seen m = finite.len-entries (seen f m) ∙ ap (λ (es : List (ℕ × Y)). length es) (entries_seen m) ∙ count_seen (finite.entries m) ∙ sym (finite.len-entries m)

  pub seen_empty : seen f finite.empty ≡ finite.empty
  seen_empty = finite.empty_of_len (seen f finite.empty) (len_seen finite.empty ∙ finite.len-empty nat_cmp X)

  pub seen_at : (m : finite.FinMap nat_cmp X) (q : ℕ) (x : X) → finite.get m q ≡ Some x → finite.get (seen f m) q ≡ Some (f q x)
  seen_at m q x h = get_seen m q ∙ ap (option_map (f q)) h

  pub seen_insert : (m : finite.FinMap nat_cmp X) (k : ℕ) (v : X) → seen f (finite.insert m k v) ≡ finite.insert (seen f m) k (f k v)
  seen_insert m k v = same_finite (seen f (finite.insert m k v)) (finite.insert (seen f m) k (f k v)) (λ q. by_key q (cases_eq q k))
    where
      by_key : (q : ℕ) → (q ≡ k) ⊎ (q ≢ k) → finite.get (seen f (finite.insert m k v)) q ≡ finite.get (finite.insert (seen f m) k (f k v)) q
      by_key q (inl e) =
          get_seen (finite.insert m k v) q
          ∙ ap (option_map (f q)) (got_here m k v q e)
          ∙ ap (λ (n : ℕ). Some (f n v)) e
          ∙ sym (got_here (seen f m) k (f k v) q e)
      by_key q (inr ne) =
          get_seen (finite.insert m k v) q ∙ ap (option_map (f q)) (got_there m k v q ne) ∙ sym (get_seen m q) ∙ sym (got_there (seen f m) k (f k v) q ne)

  pub seen_remove : (m : finite.FinMap nat_cmp X) (k : ℕ) → seen f (finite.remove m k) ≡ finite.remove (seen f m) k
  seen_remove m k = same_finite (seen f (finite.remove m k)) (finite.remove (seen f m) k) (λ q. by_key q (cases_eq q k))
    where
      by_key : (q : ℕ) → (q ≡ k) ⊎ (q ≢ k) → finite.get (seen f (finite.remove m k)) q ≡ finite.get (finite.remove (seen f m) k) q
      by_key q (inl e) =
          get_seen (finite.remove m k) q ∙ ap (option_map (f q)) (gone_here m k q e) ∙ sym (gone_here (seen f m) k q e)
      by_key q (inr ne) =
          get_seen (finite.remove m k) q ∙ ap (option_map (f q)) (gone_there m k q ne) ∙ sym (get_seen m q) ∙ sym (gone_there (seen f m) k q ne)

  pub found_seen : (m : finite.FinMap nat_cmp X) (q : ℕ) (y : Y) → finite.get (seen f m) q ≡ Some y → (x : X) × (finite.get m q ≡ Some x) × (f q x ≡ y)
  found_seen m q y h = by_value (finite.get m q) refl (sym (get_seen m q) ∙ h)
    where
      by_value : (o : Option X) → finite.get m q ≡ o → option_map (f q) (finite.get m q) ≡ Some y → (x : X) × (finite.get m q ≡ Some x) × (f q x ≡ y)
      by_value None e at = absurd (none-some y (sym (ap (option_map (f q)) e) ∙ at))
      by_value (Some x) e at = (x, e, same_Some (f q x) y (sym (ap (option_map (f q)) e) ∙ at))

-- where something else is seen of the same values at other keys, the maps are the same but for that key
module _ {X Y : Type 0} (f g : ℕ → X → Y) where
  pub seen_same : (m : finite.FinMap nat_cmp X) → ((q : ℕ) (x : X) → f q x ≡ g q x) → seen f m ≡ seen g m
  seen_same m same = same_finite (seen f m) (seen g m) (λ q. get_seen f m q ∙ alike q (finite.get m q) ∙ sym (get_seen g m q))
    where
      alike : (q : ℕ) (o : Option X) → option_map (f q) o ≡ option_map (g q) o
      alike q None = refl
      alike q (Some x) = ap Some (same q x)

  pub seen_else : (m : finite.FinMap nat_cmp X) (k : ℕ) (v : X) → ((q : ℕ) (x : X) → q ≢ k → f q x ≡ g q x) → seen g (finite.insert m k v) ≡ finite.insert (seen f m) k (g k v)
  seen_else m k v same = same_finite (seen g (finite.insert m k v)) (finite.insert (seen f m) k (g k v)) (λ q. by_key q (cases_eq q k))
    where
      alike : (q : ℕ) → q ≢ k → (o : Option X) → option_map (g q) o ≡ option_map (f q) o
      alike q ne None = refl
      alike q ne (Some x) = ap Some (sym (same q x ne))

      by_key : (q : ℕ) → (q ≡ k) ⊎ (q ≢ k) → finite.get (seen g (finite.insert m k v)) q ≡ finite.get (finite.insert (seen f m) k (g k v)) q
      by_key q (inl e) =
          get_seen g (finite.insert m k v) q
          ∙ ap (option_map (g q)) (got_here m k v q e)
          ∙ ap (λ (n : ℕ). Some (g n v)) e
          ∙ sym (got_here (seen f m) k (g k v) q e)
      by_key q (inr ne) =
          get_seen g (finite.insert m k v) q
          ∙ ap (option_map (g q)) (got_there m k v q ne)
          ∙ alike q ne (finite.get m q)
          ∙ sym (get_seen f m q)
          ∙ sym (got_there (seen f m) k (g k v) q ne)
