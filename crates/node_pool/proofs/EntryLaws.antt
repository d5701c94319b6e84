-- Each change of the entries keeps their count and the list of vacant ones.
use Rattle.std.proofs.Common.{◌≡◌, ◌≢◌, ◌⊎◌, ℕ, zero, suc, ◌+◌, ◌-◌, ◌<◌, ◌≤◌, List, [], ◌∷◌, ◌++◌, map, length, get_or, set, Some, None, is_some, IsSome, count_by, cond, slice_get, refl, sym, ap, subst, ◌∙◌, inl, inr, arith, length-set, true≢false}
use Rattle.std.proofs.lemmas.List.{map-set, map_push, length-map, length_push, get_or-map, get_or-set_same, get_or-set_other, get_or_past}
use Rattle.std.proofs.lemmas.List.Sums.{sum_by-set, sum_by_push}
use Rattle.std.proofs.lemmas.Option.{slice_get_within, slice_get-get_or, slice_get_read, get_or_from_slice_get}
use Rattle.node_pool.specs.declared.slots.Entry.{Entry}
use Rattle.node_pool.specs.declared.slots.Entry.TheVariants.{Vacant, Occupied}
use Rattle.node_pool.specs.SlotLists.{at, IsFilled}
use Rattle.node_pool.specs.Entries.{value_of, AreVacant, IsLinked}

module _ {T : Type 0} where
  -- a number starts one list of vacant entries at most
  count_unique : (es : List (Entry T)) (m n key : ℕ) → AreVacant es m key → AreVacant es n key → m ≡ n
  count_unique es zero zero key p q = refl
  count_unique es zero (suc n) key p q = absurd (omega (arith, slice_get_within es key _ q.1))
  count_unique es (suc m) zero key p q = absurd (omega (arith, slice_get_within es key _ p.1))
  count_unique es (suc m) (suc n) key p q =
      let first = p.1 in
      let second = q.1 in
      let same : q.0 ≡ p.0 = cc in
      ap suc (count_unique es m n p.0 p.2 (subst (AreVacant es n) same q.2))

  -- a write at a number that is not on the list keeps the list
  vacant_kept : (es : List (Entry T)) (key : ℕ) (e : Entry T) (n from : ℕ) → ((m : ℕ) → m < n → AreVacant es (suc m) key → ⊥) → AreVacant es n from → AreVacant (set es key e) n from
  vacant_kept es key e zero from off p = p ∙ sym (length-set es key e)
  vacant_kept es key e (suc n) from off p =
      let other : from ≢ key = λ same. off n (omega arith) (subst (AreVacant es (suc n)) same p) in
      let within = slice_get_within es from _ p.1 in
      let kept : slice_get (set es key e) from ≡ Some (Vacant p.0) =
      slice_get-get_or (set es key e) from e (omega (arith, length-set es key e))
      ∙ ap Some (get_or-set_other es key from e e other ∙ get_or_from_slice_get es from _ e p.1) in
      (p.0, kept, vacant_kept es key e n p.0 (λ m below. off m (omega arith)) p.2)

  off_list : (es : List (Entry T)) (key : ℕ) (value : T) → slice_get es key ≡ Some (Occupied value) → (m : ℕ) → AreVacant es (suc m) key → ⊥
  off_list es key value found m p = let listed = p.1 in cc

  -- the count of values after a write
  pub count_set : (es : List (Entry T)) (key : ℕ) (old new : Entry T) → slice_get es key ≡ Some old → count_by is_some (map value_of (set es key new)) + cond (is_some (value_of old)) 1 0 ≡ count_by is_some (map value_of es) + cond (is_some (value_of new)) 1 0
  count_set es key old new found =
      let within = slice_get_within es key old found in
      let read : get_or (map value_of es) key None ≡ value_of old =
      get_or-map value_of es key old None within ∙ ap value_of (get_or_from_slice_get es key old old found) in
      let counted = sum_by-set (λ o. cond (is_some o) 1 0) (map value_of es) key (value_of new) None (omega (arith, length-map es value_of)) in
      rw (map-set value_of es key new, ← read) counted

  -- a slot with a value is an occupied entry
  pub occupied_at : (es : List (Entry T)) (key : ℕ) → IsSome (at (map value_of es) key) → (value : T) × (slice_get es key ≡ Some (Occupied value))
  occupied_at es key present =
      let inside : key < length (map value_of es) = grind (arith, get_or_past) in
      let within : key < length es = omega (arith, length-map es value_of) in
      by_entry (get_or es key (Vacant 0)) (slice_get-get_or es key (Vacant 0) within) (subst IsSome (get_or-map value_of es key (Vacant 0) None within) present)
    where
      by_entry : (e : Entry T) → slice_get es key ≡ Some e → IsSome (value_of e) → (value : T) × (slice_get es key ≡ Some (Occupied value))
      by_entry (Vacant _) found some = absurd (true≢false (sym some))
      by_entry (Occupied value) found some = (value, found)

  pub occupied_within : (es : List (Entry T)) (key : ℕ) → IsSome (at (map value_of es) key) → key < length es
  occupied_within es key present = let p = occupied_at es key present in slice_get_within es key _ p.1

  -- a value that is read there is the slot's
  pub occupied_read : (es : List (Entry T)) (key : ℕ) (e : Entry T) (value : T) → IsSome (at (map value_of es) key) → e ≡ get_or es key e → e ≡ Occupied value → at (map value_of es) key ≡ Some value
  occupied_read es key e value present read is =
      let within = occupied_within es key present in
      get_or-map value_of es key e None within ∙ ap value_of (sym read ∙ is)

  pub not_vacant : (es : List (Entry T)) (key next : ℕ) (e : Entry T) → IsSome (at (map value_of es) key) → e ≡ get_or es key e → e ≡ Vacant next → ⊥
  not_vacant es key next e present read is =
      let within = occupied_within es key present in
      let none : at (map value_of es) key ≡ None = get_or-map value_of es key e None within ∙ ap value_of (sym read ∙ is) in
      true≢false (sym present ∙ ap is_some none)

  -- ---- the next one to fill

  next_cases : (es : List (Entry T)) (live next : ℕ) → IsLinked es live next → ((next ≡ length es) × (live ≡ length es)) ⊎ ((after : ℕ) × (slice_get es next ≡ Some (Vacant after)))
  next_cases es live next sound = by_count sound.vacant sound.total sound.linked
    where
      by_count : (n : ℕ) → live + n ≡ length es → AreVacant es n next → ((next ≡ length es) × (live ≡ length es)) ⊎ ((after : ℕ) × (slice_get es next ≡ Some (Vacant after)))
      by_count zero total linked = inl (linked, omega arith)
      by_count (suc n) total linked = inr (linked.0, linked.1)

  pub full_at_end : (es : List (Entry T)) (live next : ℕ) → IsLinked es live next → next ≡ length es → live ≡ length es
  full_at_end es live next sound at_end =
      elim (next_cases es live next sound) [
        | inl full ↦ full.1
        | inr found ↦ omega (arith, slice_get_within es next _ found.1)
      ]

  vacant_before_end : (es : List (Entry T)) (live next : ℕ) → IsLinked es live next → next ≢ length es → (after : ℕ) × (slice_get es next ≡ Some (Vacant after))
  vacant_before_end es live next sound before =
      elim (next_cases es live next sound) [ inl full ↦ absurd (before full.0) | inr found ↦ found ]

  pub next_within : (es : List (Entry T)) (live next : ℕ) → IsLinked es live next → next ≢ length es → next < length es
  next_within es live next sound before = slice_get_within es next _ (vacant_before_end es live next sound before).1

  -- there are no more values than entries
  pub live_within : (es : List (Entry T)) (live next : ℕ) → IsLinked es live next → live ≤ length es
  live_within es live next sound = omega (arith, sound.total)

  -- where an entry is vacant, not all are occupied
  pub live_below : (es : List (Entry T)) (live next : ℕ) → IsLinked es live next → next ≢ length es → live < length es
  live_below es live next sound before = by_count sound.vacant sound.total sound.linked
    where
      by_count : (n : ℕ) → live + n ≡ length es → AreVacant es n next → live < length es
      by_count zero total linked = absurd (before linked)
      by_count (suc n) total linked = omega (arith, total)

  pub read_next : (es : List (Entry T)) (live next : ℕ) (e : Entry T) → IsLinked es live next → next ≢ length es → e ≡ get_or es next e → slice_get es next ≡ Some e
  read_next es live next e sound before read = slice_get_read es (length es) next e refl (next_within es live next sound before) read

  pub next_is_vacant : (es : List (Entry T)) (live next : ℕ) (e : Entry T) (value : T) → IsLinked es live next → next ≢ length es → e ≡ get_or es next e → e ≡ Occupied value → ⊥
  next_is_vacant es live next e value sound before read is =
      let found = read_next es live next e sound before read ∙ ap Some is in
      let vacant = (vacant_before_end es live next sound before).1 in
      cc

  -- ---- each change

  pub linked_push : (es : List (Entry T)) (live next : ℕ) (value : T) → IsLinked es live next → next ≡ length es → IsLinked (es ++ Occupied value ∷ []) (live + 1) (next + 1)
  linked_push es live next value sound at_end =
      let full = full_at_end es live next sound at_end in
      let longer = length_push es (Occupied value) in
      record {
        counted = rw (map_push value_of es (Occupied value), sum_by_push (λ o. cond (is_some o) 1 0) (map value_of es) (Some value)) (ap (λ n. n + 1) sound.counted);
        vacant = 0;
        total = omega arith;
        linked = omega arith;
      }

  -- the first vacant entry leaves the list: the rest of it is shorter, so it does not come back there
  pub linked_fill : (es : List (Entry T)) (live next after : ℕ) (value : T) → IsLinked es live next → slice_get es next ≡ Some (Vacant after) → IsLinked (set es next (Occupied value)) (live + 1) after
  linked_fill es live next after value sound found = by_count sound.vacant sound.total sound.linked
    where
      by_count : (n : ℕ) → live + n ≡ length es → AreVacant es n next → IsLinked (set es next (Occupied value)) (live + 1) after
      by_count zero total linked = absurd (omega (arith, slice_get_within es next _ found))
      by_count (suc n) total linked =
          let listed = linked.1 in
          let same : linked.0 ≡ after = cc in
          let off : (m : ℕ) → m < n → AreVacant es (suc m) next → ⊥ =
          λ m below p. omega (arith, count_unique es (suc m) (suc n) next p linked) in
          record {
            counted = omega (arith, sound.counted, count_set es next (Vacant after) (Occupied value) found);
            vacant = n;
            total = omega (arith, length-set es next (Occupied value));
            linked = vacant_kept es next (Occupied value) n after off (subst (AreVacant es n) same linked.2);
          }

  pub linked_vacate : (es : List (Entry T)) (live next key : ℕ) (value : T) → IsLinked es live next → slice_get es key ≡ Some (Occupied value) → IsLinked (set es key (Vacant next)) (live - 1) key
  linked_vacate es live next key value sound found =
      let within = slice_get_within es key _ found in
      let count = count_set es key (Occupied value) (Vacant next) found in
      let written : slice_get (set es key (Vacant next)) key ≡ Some (Vacant next) =
      slice_get-get_or _ key (Vacant next) (omega (arith, length-set es key (Vacant next)))
      ∙ ap Some (get_or-set_same es key (Vacant next) (Vacant next) within) in
      record {
        counted = omega (arith, count, sound.counted);
        vacant = suc sound.vacant;
        total = omega (arith, count, sound.counted, sound.total, length-set es key (Vacant next));
        linked = (next, written, vacant_kept es key (Vacant next) sound.vacant next (λ m _. off_list es key value found m) sound.linked);
      }

  pub linked_rewrite : (es : List (Entry T)) (live next key : ℕ) (old new : T) → IsLinked es live next → slice_get es key ≡ Some (Occupied old) → IsLinked (set es key (Occupied new)) live next
  linked_rewrite es live next key old new sound found =
      record {
        counted = omega (arith, sound.counted, count_set es key (Occupied old) (Occupied new) found);
        vacant = sound.vacant;
        total = omega (arith, sound.total, length-set es key (Occupied new));
        linked = vacant_kept es key (Occupied new) sound.vacant next (λ m _. off_list es key old found m) sound.linked;
      }

  -- there is a value in an occupied entry, so one at least is counted
  pub some_live : (es : List (Entry T)) (live next key : ℕ) → IsLinked es live next → IsSome (at (map value_of es) key) → 1 ≤ live
  some_live es live next key sound present =
      let p = occupied_at es key present in
      omega (arith, sound.counted, count_set es key (Occupied p.0) (Vacant 0) p.1)

  -- ---- what contracts see of it

  pub filled_push : (es : List (Entry T)) (live next : ℕ) (value : T) → IsLinked es live next → next ≡ length es → IsFilled (map value_of es) (map value_of (es ++ Occupied value ∷ [])) next value
  filled_push es live next value sound at_end =
      let same = length-map es value_of in
      inr (at_end ∙ sym same, sym sound.counted ∙ full_at_end es live next sound at_end ∙ sym same, map_push value_of es (Occupied value))

  pub filled_set : (es : List (Entry T)) (live next after : ℕ) (value : T) → IsLinked es live next → slice_get es next ≡ Some (Vacant after) → IsFilled (map value_of es) (map value_of (set es next (Occupied value))) next value
  filled_set es live next after value sound found =
      let within = slice_get_within es next _ found in
      let read : at (map value_of es) next ≡ None = get_or-map value_of es next (Vacant after) None within ∙ ap value_of (get_or_from_slice_get es next _ (Vacant after) found) in
      inl (omega (arith, within, length-map es value_of), read, map-set value_of es next (Occupied value))
