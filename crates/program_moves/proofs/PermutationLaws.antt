-- Numbers that change places.
use Rattle.std.proofs.Common.{◌≡◌, ◌≢◌, ℕ, ◌+◌, ◌<◌, ◌≤◌, List, length, set, get_or, refl, sym, ap, ◌∙◌, subst, inl, inr, arith, length-set}
use Rattle.std.proofs.lemmas.Bool.{cases_eq, cases_lt}
use Rattle.std.proofs.lemmas.List.{get_or-set_same, get_or-set_other}
use Rattle.moves.specs.Numbers.{moved, IsPermutation}
use Rattle.moves.proofs.TableLaws.{moved_past, moved_read}
use Rattle.program_moves.specs.Permutations.{AreInverse}

-- what is read after a write
pub written : (ns : List ℕ) (k v : ℕ) → k < length ns → moved (set ns k v) k ≡ v
written ns k v lt = get_or-set_same ns k v k lt

pub unwritten : (ns : List ℕ) (k v n : ℕ) → n ≢ k → moved (set ns k v) n ≡ moved ns n
unwritten ns k v n ne = get_or-set_other ns k n v n ne

-- tables in which two numbers changed places
module _ (new old : List ℕ) (h : AreInverse new old) (from to : ℕ) (from_within : from < length new) (to_within : to < length new) where
  abbrev place : ℕ
  place = moved new from

  abbrev other : ℕ
  other = moved old to

  abbrev pub new_after : List ℕ
  new_after = set (set new other place) from to

  abbrev pub old_after : List ℕ
  old_after = set (set old place other) to from

  place_within : place < length new
  place_within = h.new_within from from_within

  other_within : other < length new
  other_within = h.old_within to to_within

  new_length : length new_after ≡ length new
  new_length = length-set (set new other place) from to ∙ length-set new other place

  old_length : length old_after ≡ length new
  old_length = length-set (set old place other) to from ∙ length-set old place other ∙ h.lengths

  pub sent : moved new_after from ≡ to
  sent = written (set new other place) from to (omega (arith, from_within, length-set new other place))

  came : moved old_after to ≡ from
  came = written (set old place other) to from (omega (arith, to_within, length-set old place other, h.lengths))

  -- what was sent there before
  displaced : other ≢ from → moved new_after other ≡ place
  displaced ne = unwritten (set new other place) from to other ne ∙ written new other place other_within

  left : place ≢ to → moved old_after place ≡ other
  left ne = unwritten (set old place other) to from place ne ∙ written old place other (omega (arith, place_within, h.lengths))

  pub others : (n : ℕ) → n ≢ from → moved new n ≢ to → moved new_after n ≡ moved new n
  others n ne sent_there =
      elim (cases_eq n other) [
        | inl e ↦ absurd (sent_there (ap (moved new) e ∙ h.there to to_within))
        | inr off ↦ unwritten (set new other place) from to n ne ∙ unwritten new other place n off
      ]

  others_back : (n : ℕ) → n ≢ to → n ≢ place → moved old_after n ≡ moved old n
  others_back n ne off = unwritten (set old place other) to from n ne ∙ unwritten old place other n off

  back_at : (n : ℕ) → n < length new → moved old_after (moved new_after n) ≡ n
  back_at n lt =
      elim (cases_eq n from) [
        | inl e ↦ ap (λ (m : ℕ). moved old_after (moved new_after m)) e ∙ ap (moved old_after) sent ∙ came ∙ sym e
        | inr ne ↦ elim (cases_eq n other) [
          | inl e ↦
              let apart : other ≢ from = λ q. ne (e ∙ q) in
              let elsewhere : place ≢ to = λ q. apart (ap (moved old) (sym q) ∙ h.back from from_within) in
              ap (λ (m : ℕ). moved old_after (moved new_after m)) e ∙ ap (moved old_after) (displaced apart) ∙ left elsewhere ∙ sym e
          | inr off ↦
              let same = unwritten (set new other place) from to n ne ∙ unwritten new other place n off in
              let not_to : moved new n ≢ to = λ q. off (sym (h.back n lt) ∙ ap (moved old) q) in
              let not_place : moved new n ≢ place = λ q. ne (sym (h.back n lt) ∙ ap (moved old) q ∙ h.back from from_within) in
              ap (moved old_after) same ∙ others_back (moved new n) not_to not_place ∙ h.back n lt
        ]
      ]

  there_at : (n : ℕ) → n < length new → moved new_after (moved old_after n) ≡ n
  there_at n lt =
      elim (cases_eq n to) [
        | inl e ↦ ap (λ (m : ℕ). moved new_after (moved old_after m)) e ∙ ap (moved new_after) came ∙ sent ∙ sym e
        | inr ne ↦ elim (cases_eq n place) [
          | inl e ↦
              let elsewhere : place ≢ to = λ q. ne (e ∙ q) in
              let apart : other ≢ from = λ q. elsewhere (ap (moved new) (sym q) ∙ h.there to to_within) in
              ap (λ (m : ℕ). moved new_after (moved old_after m)) e ∙ ap (moved new_after) (left elsewhere) ∙ displaced apart ∙ sym e
          | inr off ↦
              let same = others_back n ne off in
              let not_from : moved old n ≢ from = λ q. off (sym (h.there n lt) ∙ ap (moved new) q) in
              let not_other : moved old n ≢ other = λ q. ne (sym (h.there n lt) ∙ ap (moved new) q ∙ h.there to to_within) in
              ap (moved new_after) same ∙ unwritten (set new other place) from to (moved old n) not_from ∙ unwritten new other place (moved old n) not_other ∙ h.there n lt
        ]
      ]

  new_below : (n : ℕ) → n < length new → moved new_after n < length new
  new_below n lt =
      elim (cases_eq n from) [
        | inl e ↦ subst (λ (m : ℕ). m < length new) (sym (ap (moved new_after) e ∙ sent)) to_within
        | inr ne ↦ elim (cases_eq n other) [
          | inl e ↦ subst (λ (m : ℕ). m < length new) (sym (ap (moved new_after) e ∙ displaced (λ q. ne (e ∙ q)))) place_within
          | inr off ↦ subst (λ (m : ℕ). m < length new) (sym (unwritten (set new other place) from to n ne ∙ unwritten new other place n off)) (h.new_within n lt)
        ]
      ]

  old_below : (n : ℕ) → n < length new → moved old_after n < length new
  old_below n lt =
      elim (cases_eq n to) [
        | inl e ↦ subst (λ (m : ℕ). m < length new) (sym (ap (moved old_after) e ∙ came)) from_within
        | inr ne ↦ elim (cases_eq n place) [
          | inl e ↦ subst (λ (m : ℕ). m < length new) (sym (ap (moved old_after) e ∙ left (λ q. ne (e ∙ q)))) other_within
          | inr off ↦ subst (λ (m : ℕ). m < length new) (sym (others_back n ne off)) (h.old_within n lt)
        ]
      ]

  pub inverse_after : AreInverse new_after old_after
  inverse_after = record {
    few = omega (arith, h.few, new_length);
    lengths = old_length ∙ sym new_length;
    new_within = λ n lt. omega (arith, new_below n (omega (arith, lt, new_length)), new_length);
    old_within = λ n lt. omega (arith, old_below n (omega (arith, lt, new_length)), new_length);
    back = λ n lt. back_at n (omega (arith, lt, new_length));
    there = λ n lt. there_at n (omega (arith, lt, new_length));
  }

-- the same of values that are read
module _ (new old : List ℕ) (h : AreInverse new old) (from to place other : ℕ) (from_within : from < length new) (to_within : to < length new) (place_is : place ≡ get_or new from place) (other_is : other ≡ get_or old to other) where
  at_place : moved new from ≡ place
  at_place = moved_read new from place from_within ∙ sym place_is

  at_other : moved old to ≡ other
  at_other = moved_read old to other (omega (arith, to_within, h.lengths)) ∙ sym other_is

  pub read_place : place < length new
  read_place = subst (λ (n : ℕ). n < length new) at_place (h.new_within from from_within)

  pub read_other : other < length new
  read_other = subst (λ (n : ℕ). n < length new) at_other (h.old_within to to_within)

  pub read_inverse : AreInverse (set (set new other place) from to) (set (set old place other) to from)
  read_inverse =
      subst (λ (o : ℕ). AreInverse (set (set new o place) from to) (set (set old place o) to from)) at_other
      (subst (λ (q : ℕ). AreInverse (set (set new (moved old to) q) from to) (set (set old q (moved old to)) to from)) at_place (inverse_after new old h from to from_within to_within))

  pub read_others : (n : ℕ) → n ≢ from → moved new n ≢ to → moved (set (set new other place) from to) n ≡ moved new n
  read_others n ne sent_there =
      subst (λ (o : ℕ). moved (set (set new o place) from to) n ≡ moved new n) at_other
      (subst (λ (q : ℕ). moved (set (set new (moved old to) q) from to) n ≡ moved new n) at_place (others new old h from to from_within to_within n ne sent_there))

-- no two numbers become one
pub permutes : (new old : List ℕ) → AreInverse new old → IsPermutation new
permutes new old h = record { few = h.few; apart = apart }
  where
    apart : (m n : ℕ) → moved new m ≡ moved new n → m ≡ n
    apart m n same =
        elim (cases_lt m (length new)) [
          | inl below ↦ elim (cases_lt n (length new)) [
            | inl lt ↦ sym (h.back m below) ∙ ap (moved old) same ∙ h.back n lt
            | inr le ↦ absurd (omega (arith, h.new_within m below, same, moved_past new n le, le))
          ]
          | inr past ↦ elim (cases_lt n (length new)) [
            | inl lt ↦ absurd (omega (arith, h.new_within n lt, same, moved_past new m past, past))
            | inr le ↦ sym (moved_past new m past) ∙ same ∙ moved_past new n le
          ]
        ]

-- numbers that stay lead back
pub inverse_same : (new old : List ℕ) → length new ≤ 4294967296 → length old ≡ length new → ((n : ℕ) → moved new n ≡ n) → ((n : ℕ) → moved old n ≡ n) → AreInverse new old
inverse_same new old few len p q = record {
  few = omega (arith, few);
  lengths = len;
  new_within = λ n lt. subst (λ (m : ℕ). m < length new) (sym (p n)) lt;
  old_within = λ n lt. subst (λ (m : ℕ). m < length new) (sym (q n)) lt;
  back = λ n lt. ap (moved old) (p n) ∙ q n;
  there = λ n lt. ap (moved new) (q n) ∙ p n;
}

-- no table: all numbers stay
pub none_permutes : IsPermutation (Rattle.std.proofs.Common.[])
none_permutes = record { few = omega arith; apart = λ m n same. same }
