-- Each change of the slots keeps the chains of all regions.
use Rattle.std.proofs.Common.{◌≡◌, ◌≢◌, ℕ, suc, ◌+◌, ◌^◌, ◌<◌, ◌≤◌, List, [], length, set, Option, Some, None, is_some, count_by, sum_by, refl, sym, ap, subst, ◌∙◌, inl, inr, arith}
use Rattle.std.proofs.lemmas.Bool.{cases_eq}
use Rattle.std.proofs.lemmas.Option.{same_Some, none-some}
use Rattle.std.proofs.lemmas.List.Sums.{sum_by-set, sum_by_push, get_or-le-sum_by}
use Rattle.node_pool.specs.SlotLists.{at, IsFilled}
use Rattle.node_pool.specs.Chains.{chain_count, IsAt, AreChained}
use Rattle.node_pool.specs.declared.pool.Chain.{Chain}
use Rattle.node_pool.specs.declared.pool.Held.{Held}
use Rattle.node_pool.proofs.MapLaws.{Changes, is_within}

clash : {A B : Type 0} (o : Option A) (x : A) → o ≡ None → o ≡ Some x → B
clash o x none some = absurd (none-some x (sym none ∙ some))

-- ---- the counts of regions

pub count_of : (rs : List (Option Chain)) (r : ℕ) (c : Chain) → at rs r ≡ Some c → chain_count (at rs r) ≡ c.count
count_of rs r c is = ap chain_count is

-- a region has no more nodes than live
pub count_few : (rs : List (Option Chain)) (r : ℕ) (c : Chain) → at rs r ≡ Some c → c.count ≤ sum_by chain_count rs
count_few rs r c is = omega (arith, count_of rs r c is, get_or-le-sum_by chain_count rs r None (is_within rs r c is))

pub sum_set : (rs : List (Option Chain)) (r : ℕ) (c : Chain) (v : Option Chain) → at rs r ≡ Some c → sum_by chain_count (set rs r v) + c.count ≡ sum_by chain_count rs + chain_count v
sum_set rs r c v is = omega (arith, count_of rs r c is, sum_by-set chain_count rs r v None (is_within rs r c is))

pub sum_filled : (rs qs : List (Option Chain)) (r : ℕ) (d : Chain) → IsFilled rs qs r d → sum_by chain_count qs ≡ sum_by chain_count rs + d.count
sum_filled rs qs r d (inl h) =
    let e = sum_by-set chain_count rs r (Some d) None h.0 in
    let z : chain_count (at rs r) ≡ 0 = ap chain_count h.1 in
    let same : sum_by chain_count qs ≡ sum_by chain_count (set rs r (Some d)) = ap (sum_by chain_count) h.2 in
    omega (arith, e, z, same)
sum_filled rs qs r d (inr h) = ap (sum_by chain_count) h.2 ∙ sum_by_push chain_count rs (Some d)

module _ {N : Type 0} where
  -- where a slot changes, the others have the nodes that they had
  stays_at : (ns ms : List (Option (Held N))) (n : ℕ) (v : Option (Held N)) → Changes ns ms n v → (m r p : ℕ) → m ≢ n → IsAt ns m r p → IsAt ms m r p
  stays_at ns ms n v change m r p ne at_m = (at_m.0, change.others m ne ∙ at_m.1, at_m.2, at_m.3)

  not_free : (ns : List (Option (Held N))) (n m r p : ℕ) → at ns n ≡ None → IsAt ns m r p → m ≢ n
  not_free ns n m r p free at_m e = clash (at ns m) at_m.0 (ap (at ns) e ∙ free) at_m.1

  pub empty_chained : AreChained {N = N} [] []
  empty_chained = record {
    few = omega arith;
    total = refl;
    homes = λ n h is. absurd (none-some h is);
    apart = λ m n g h is_g is_h same rank. absurd (none-some g is_g);
    lasts = λ r k c is e. absurd (none-some c is);
    befores = λ n k h is e. absurd (none-some h is);
  }

  -- ---- a node is put behind the last one of its region

  module _ (ns ms : List (Option (Held N))) (rs qs : List (Option Chain)) (n r : ℕ) (c d : Chain) (h : Held N)
      (old : AreChained ns rs) (free : at ns n ≡ None) (filled : Changes ns ms n (Some h))
      (is : at rs r ≡ Some c) (grown : Changes rs qs r (Some d))
      (region : h.region ≡ r) (rank : h.rank ≡ c.count) (before : h.before ≡ c.last)
      (count : d.count ≡ c.count + 1) (last : d.last ≡ n)
      (few : length ms ≤ 2 ^ 31) (total : sum_by chain_count qs ≡ count_by is_some ms) where
    new_one : (m : ℕ) (g : Held N) → m ≡ n → at ms m ≡ Some g → g ≡ h
    new_one m g e got = same_Some g h (sym got ∙ ap (at ms) e ∙ filled.here)

    old_one : (m : ℕ) (g : Held N) → m ≢ n → at ms m ≡ Some g → at ns m ≡ Some g
    old_one m g ne got = sym (filled.others m ne) ∙ got

    old_below : (m : ℕ) (g : Held N) → at ns m ≡ Some g → g.region ≡ r → g.rank < c.count
    old_below m g got e =
        let home = old.homes m g got in
        let same : home.0 ≡ c = same_Some home.0 c (sym home.1 ∙ ap (at rs) e ∙ is) in
        subst (λ (x : Chain). g.rank < x.count) same home.2

    put_homes : (m : ℕ) (g : Held N) → at ms m ≡ Some g → (x : Chain) × (at qs g.region ≡ Some x) × (g.rank < x.count)
    put_homes m g got =
        elim (cases_eq m n) [
          | inl e ↦ let same = new_one m g e got in (d, ap (λ (y : Held N). at qs y.region) same ∙ ap (at qs) region ∙ grown.here, omega (arith, ap (λ (y : Held N). y.rank) same, rank, count))
          | inr ne ↦
              let was = old_one m g ne got in
              elim (cases_eq g.region r) [
                | inl e ↦ (d, ap (at qs) e ∙ grown.here, omega (arith, old_below m g was e, count))
                | inr other ↦ let home = old.homes m g was in (home.0, grown.others g.region other ∙ home.1, home.2)
              ]
        ]

    mixed : {B : Type 0} (m : ℕ) (g : Held N) → at ns m ≡ Some g → g.region ≡ h.region → g.rank ≡ h.rank → B
    mixed m g got same at_rank = absurd (omega (arith, old_below m g got (same ∙ region), at_rank, rank))

    put_apart : (a b : ℕ) (f g : Held N) → at ms a ≡ Some f → at ms b ≡ Some g → f.region ≡ g.region → f.rank ≡ g.rank → a ≡ b
    put_apart a b f g is_f is_g same at_rank =
        elim (cases_eq a n) [
          | inl ea ↦
              elim (cases_eq b n) [
                | inl eb ↦ ea ∙ sym eb
                | inr nb ↦ let e = new_one a f ea is_f in mixed b g (old_one b g nb is_g) (sym same ∙ ap (λ (y : Held N). y.region) e) (sym at_rank ∙ ap (λ (y : Held N). y.rank) e)
              ]
          | inr na ↦
              elim (cases_eq b n) [
                | inl eb ↦ let e = new_one b g eb is_g in mixed a f (old_one a f na is_f) (same ∙ ap (λ (y : Held N). y.region) e) (at_rank ∙ ap (λ (y : Held N). y.rank) e)
                | inr nb ↦ old.apart a b f g (old_one a f na is_f) (old_one b g nb is_g) same at_rank
              ]
        ]

    still : (m x p : ℕ) → IsAt ns m x p → IsAt ms m x p
    still m x p was = stays_at ns ms n (Some h) filled m x p (not_free ns n m x p free was) was

    put_lasts : (x k : ℕ) (y : Chain) → at qs x ≡ Some y → y.count ≡ suc k → IsAt ms y.last x k
    put_lasts x k y got size =
        elim (cases_eq x r) [
          | inl e ↦
              let same : y ≡ d = same_Some y d (sym got ∙ ap (at qs) e ∙ grown.here) in
              let there : at ms y.last ≡ Some h = ap (λ (z : Chain). at ms z.last) same ∙ ap (at ms) last ∙ filled.here in
              (h, there, region ∙ sym e, omega (arith, rank, count, size, ap (λ (z : Chain). z.count) same))
          | inr ne ↦ still y.last x k (old.lasts x k y (sym (grown.others x ne) ∙ got) size)
        ]

    put_befores : (m k : ℕ) (g : Held N) → at ms m ≡ Some g → g.rank ≡ suc k → IsAt ms g.before g.region k
    put_befores m k g got size =
        elim (cases_eq m n) [
          | inl e ↦
              let same = new_one m g e got in
              let was : IsAt ns c.last r k = old.lasts r k c is (sym rank ∙ ap (λ (y : Held N). y.rank) (sym same) ∙ size) in
              let to : c.last ≡ g.before = sym before ∙ ap (λ (y : Held N). y.before) (sym same) in
              let home : r ≡ g.region = sym region ∙ ap (λ (y : Held N). y.region) (sym same) in
              subst (λ (z : ℕ). IsAt ms z g.region k) to (subst (λ (z : ℕ). IsAt ms c.last z k) home (still c.last r k was))
          | inr ne ↦ still g.before g.region k (old.befores m k g (old_one m g ne got) size)
        ]

    pub put_chained : AreChained ms qs
    put_chained = record { few = few; total = total; homes = put_homes; apart = put_apart; lasts = put_lasts; befores = put_befores }

  -- ---- the last node of a region goes

  module _ (ns ms : List (Option (Held N))) (rs qs : List (Option Chain)) (n r k : ℕ) (c d : Chain) (h : Held N)
      (old : AreChained ns rs) (there : at ns n ≡ Some h) (vacated : Changes ns ms n None)
      (is : at rs r ≡ Some c) (shorter : Changes rs qs r (Some d))
      (size : c.count ≡ suc k) (region : h.region ≡ r) (rank : h.rank ≡ k)
      (count : d.count ≡ k) (last : d.last ≡ h.before)
      (few : length ms ≤ 2 ^ 31) (total : sum_by chain_count qs ≡ count_by is_some ms) where
    other_one : (m : ℕ) (g : Held N) → at ms m ≡ Some g → m ≢ n
    other_one m g got e = clash (at ms m) g (ap (at ms) e ∙ vacated.here) got

    was_one : (m : ℕ) (g : Held N) → at ms m ≡ Some g → at ns m ≡ Some g
    was_one m g got = sym (vacated.others m (other_one m g got)) ∙ got

    below : (m : ℕ) (g : Held N) → at ns m ≡ Some g → g.region ≡ r → g.rank < suc k
    below m g got e =
        let home = old.homes m g got in
        let same : home.0 ≡ c = same_Some home.0 c (sym home.1 ∙ ap (at rs) e ∙ is) in
        omega (arith, home.2, ap (λ (x : Chain). x.count) same, size)

    -- the rank of the node that goes is taken by no other
    free_rank : (m : ℕ) (g : Held N) → m ≢ n → at ns m ≡ Some g → g.region ≡ r → g.rank ≢ k
    free_rank m g ne got e at_k = ne (old.apart m n g h got there (e ∙ sym region) (at_k ∙ sym rank))

    gone_homes : (m : ℕ) (g : Held N) → at ms m ≡ Some g → (x : Chain) × (at qs g.region ≡ Some x) × (g.rank < x.count)
    gone_homes m g got =
        let was = was_one m g got in
        elim (cases_eq g.region r) [
          | inl e ↦ let ne : g.rank ≢ k = free_rank m g (other_one m g got) was e in (d, ap (at qs) e ∙ shorter.here, omega (arith, below m g was e, ne, count))
          | inr other ↦ let home = old.homes m g was in (home.0, shorter.others g.region other ∙ home.1, home.2)
        ]

    still_there : (m x p : ℕ) → m ≢ n → IsAt ns m x p → IsAt ms m x p
    still_there m x p ne was = stays_at ns ms n None vacated m x p ne was

    -- what lies in another region or at another rank isn't the node that goes
    elsewhere : (m x p : ℕ) → IsAt ns m x p → (x ≡ r → p ≢ k) → m ≢ n
    elsewhere m x p was off e =
        let same : was.0 ≡ h = same_Some was.0 h (sym was.1 ∙ ap (at ns) e ∙ there) in
        off (sym was.2 ∙ ap (λ (y : Held N). y.region) same ∙ region) (sym was.3 ∙ ap (λ (y : Held N). y.rank) same ∙ rank)

    gone_lasts : (x j : ℕ) (y : Chain) → at qs x ≡ Some y → y.count ≡ suc j → IsAt ms y.last x j
    gone_lasts x j y got more =
        elim (cases_eq x r) [
          | inl e ↦
              let same : y ≡ d = same_Some y d (sym got ∙ ap (at qs) e ∙ shorter.here) in
              let step : h.rank ≡ suc j = rank ∙ sym count ∙ ap (λ (z : Chain). z.count) (sym same) ∙ more in
              let was : IsAt ns h.before h.region j = old.befores n j h there step in
              let to : h.before ≡ y.last = sym last ∙ ap (λ (z : Chain). z.last) (sym same) in
              let moved : IsAt ns y.last x j = subst (λ (z : ℕ). IsAt ns z x j) to (subst (λ (z : ℕ). IsAt ns h.before z j) (region ∙ sym e) was) in
              still_there y.last x j (elsewhere y.last x j moved (λ a b. absurd (omega (arith, step, rank, b)))) moved
          | inr ne ↦
              let was = old.lasts x j y (sym (shorter.others x ne) ∙ got) more in
              still_there y.last x j (elsewhere y.last x j was (λ a b. ne a)) was
        ]

    gone_befores : (m j : ℕ) (g : Held N) → at ms m ≡ Some g → g.rank ≡ suc j → IsAt ms g.before g.region j
    gone_befores m j g got more =
        let got_was = was_one m g got in
        let was = old.befores m j g got_was more in
        still_there g.before g.region j (elsewhere g.before g.region j was (λ a b. absurd (omega (arith, below m g got_was a, more, b)))) was

    pub gone_chained : AreChained ms qs
    gone_chained = record {
      few = few;
      total = total;
      homes = gone_homes;
      apart = λ a b f g is_f is_g same at_rank. old.apart a b f g (was_one a f is_f) (was_one b g is_g) same at_rank;
      lasts = gone_lasts;
      befores = gone_befores;
    }

  -- ---- a region opens, and one without nodes ends

  module _ (ns : List (Option (Held N))) (rs qs : List (Option Chain)) (r : ℕ) (old : AreChained ns rs) where
    pub opened_chained : (d : Chain) → at rs r ≡ None → Changes rs qs r (Some d) → d.count ≡ 0 → sum_by chain_count qs ≡ count_by is_some ns → AreChained ns qs
    opened_chained d free opened zero_count total = record {
      few = old.few;
      total = total;
      homes = λ n h got. let home = old.homes n h got in (home.0, opened.others h.region (λ e. clash (at rs h.region) home.0 (ap (at rs) e ∙ free) home.1) ∙ home.1, home.2);
      apart = old.apart;
      lasts = open_lasts;
      befores = old.befores;
    }
      where
        open_lasts : (x k : ℕ) (y : Chain) → at qs x ≡ Some y → y.count ≡ suc k → IsAt ns y.last x k
        open_lasts x k y got size =
            elim (cases_eq x r) [
              | inl e ↦ let same : y ≡ d = same_Some y d (sym got ∙ ap (at qs) e ∙ opened.here) in absurd (omega (arith, size, ap (λ (z : Chain). z.count) same, zero_count))
              | inr ne ↦ old.lasts x k y (sym (opened.others x ne) ∙ got) size
            ]

    pub ended_chained : (c : Chain) → at rs r ≡ Some c → c.count ≡ 0 → Changes rs qs r None → sum_by chain_count qs ≡ count_by is_some ns → AreChained ns qs
    ended_chained c is zero_count ended total = record {
      few = old.few;
      total = total;
      homes = end_homes;
      apart = old.apart;
      lasts = end_lasts;
      befores = old.befores;
    }
      where
        end_homes : (n : ℕ) (h : Held N) → at ns n ≡ Some h → (x : Chain) × (at qs h.region ≡ Some x) × (h.rank < x.count)
        end_homes n h got =
            let home = old.homes n h got in
            elim (cases_eq h.region r) [
              | inl e ↦ let same : home.0 ≡ c = same_Some home.0 c (sym home.1 ∙ ap (at rs) e ∙ is) in absurd (omega (arith, home.2, ap (λ (x : Chain). x.count) same, zero_count))
              | inr ne ↦ (home.0, ended.others h.region ne ∙ home.1, home.2)
            ]

        end_lasts : (x k : ℕ) (y : Chain) → at qs x ≡ Some y → y.count ≡ suc k → IsAt ns y.last x k
        end_lasts x k y got size =
            elim (cases_eq x r) [
              | inl e ↦ clash (at qs x) y (ap (at qs) e ∙ ended.here) got
              | inr ne ↦ old.lasts x k y (sym (ended.others x ne) ∙ got) size
            ]
