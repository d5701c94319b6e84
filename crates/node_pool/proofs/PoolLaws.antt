-- What contracts see of a pool, by its slots.
use Rattle.std.proofs.Common.{◌≡◌, ◌≢◌, ◌⊎◌, ℕ, zero, suc, ◌+◌, ◌^◌, ◌<◌, ◌≤◌, List, length, set, Option, Some, None, is_some, IsSome, count_by, sum_by, refl, sym, ap, subst, ◌∙◌, inl, inr, arith, length-set}
use Rattle.std.specs.Option.{option_map}
use Rattle.std.specs.Cmp.{nat_cmp_total}
use Rattle.std.specs.FinMap as map
use Rattle.std.proofs.lemmas.Bool.{cases_eq, cases_lt}
use Rattle.std.proofs.lemmas.Option.{same_Some, none-some}
use Rattle.node_pool.specs.SlotLists.{at, IsFilled}
use Rattle.node_pool.specs.NodePool.{Lived, IsPut, back_to}
use Rattle.node_pool.specs.Pools.{HasRanks}
use Rattle.node_pool.specs.Chains.{chain_count, lived_as, nodes_of, regions_of, IsAt, AreChained}
use Rattle.node_pool.specs.declared.pool.Chain.{Chain}
use Rattle.node_pool.specs.declared.pool.Held.{Held}
use Rattle.node_pool.proofs.MapLaws.{Changes, set_changes, fills, count_less, holds, is_within, get_map, len_map, inserted}
use Rattle.node_pool.proofs.ChainLaws.{sum_set, put_chained, gone_chained}
use Rattle.node_pool.proofs.BackLaws.{stays_cases, stayed, went, none_back, later_goes}

map_some : {A B : Type 0} (f : A → B) (o : Option A) (y : B) → option_map f o ≡ Some y → (x : A) × (o ≡ Some x) × (f x ≡ y)
map_some f None y h = absurd (none-some y h)
map_some f (Some x) y h = (x, refl, same_Some (f x) y h)

-- ---- regions

-- a region that is open has a chain
pub chain_at : (rs : List (Option Chain)) (r : ℕ) → IsSome (map.get (regions_of rs) r) → (c : Chain) × (at rs r ≡ Some c)
chain_at rs r is =
    let p = holds (map.get (regions_of rs) r) is in
    let q = map_some (λ (c : Chain). c.count) (at rs r) p.0 (sym (get_map (λ (c : Chain). c.count) rs r) ∙ p.1) in
    (q.0, q.1)

pub is_open : (rs : List (Option Chain)) (r : ℕ) → IsSome (map.get (regions_of rs) r) → IsSome (at rs r)
is_open rs r is = subst (λ (o : Option Chain). IsSome o) (sym (chain_at rs r is).1) refl

pub region_count : (rs : List (Option Chain)) (r : ℕ) (c : Chain) → at rs r ≡ Some c → map.get (regions_of rs) r ≡ Some c.count
region_count rs r c is = get_map (λ (c : Chain). c.count) rs r ∙ ap (option_map (λ (c : Chain). c.count)) is

pub counted_as : (rs : List (Option Chain)) (r k : ℕ) (c : Chain) → at rs r ≡ Some c → map.get (regions_of rs) r ≡ Some k → c.count ≡ k
counted_as rs r k c is got = same_Some c.count k (sym (region_count rs r c is) ∙ got)

module _ {N : Type 0} where
  -- ---- nodes

  pub held_at : (ns : List (Option (Held N))) (n : ℕ) (l : Lived N) → map.get (nodes_of ns) n ≡ Some l → (h : Held N) × (at ns n ≡ Some h) × (lived_as h ≡ l)
  held_at ns n l got = map_some lived_as (at ns n) l (sym (get_map lived_as ns n) ∙ got)

  pub lived_at : (ns : List (Option (Held N))) (n : ℕ) (h : Held N) → at ns n ≡ Some h → map.get (nodes_of ns) n ≡ Some (lived_as h)
  lived_at ns n h is = get_map lived_as ns n ∙ ap (option_map lived_as) is

  pub is_held : (ns : List (Option (Held N))) (n : ℕ) → IsSome (map.get (nodes_of ns) n) → IsSome (at ns n)
  is_held ns n live =
      let p = holds (map.get (nodes_of ns) n) live in
      let q = held_at ns n p.0 p.1 in
      subst (λ (o : Option (Held N)). IsSome o) (sym q.1) refl

  -- ---- the ranks of a region

  module _ (ns : List (Option (Held N))) (rs : List (Option Chain)) (chained : AreChained ns rs) where
    -- below a node each rank is taken
    descend : (r k p n : ℕ) → IsAt ns n r k → p ≤ k → (m : ℕ) × IsAt ns m r p
    descend r zero p n there le =
        let same : zero ≡ p = omega (arith, le) in
        (n, subst (λ (x : ℕ). IsAt ns n r x) same there)
    descend r (suc k) p n there le =
        elim (cases_lt k p) [
          | inl lt ↦
              let same : suc k ≡ p = omega (arith, le, lt) in
              (n, subst (λ (x : ℕ). IsAt ns n r x) same there)
          | inr less ↦
              let before = chained.befores n k there.0 there.1 there.3 in
              descend r k p there.0.before (subst (λ (x : ℕ). IsAt ns there.0.before x k) there.2 before) less
        ]

    pub ranks : (r : ℕ) (c : Chain) → at rs r ≡ Some c → HasRanks (nodes_of ns) r c.count
    ranks r c is = record { below = in_below; taken = in_taken c.count refl; once = in_once }
      where
        in_below : (id : ℕ) (l : Lived N) → map.get (nodes_of ns) id ≡ Some l → l.region ≡ r → l.rank < c.count
        in_below id l got e =
            let q = held_at ns id l got in
            let home = chained.homes id q.0 q.1 in
            let there : q.0.region ≡ r = ap (λ (x : Lived N). x.region) q.2 ∙ e in
            let same : home.0 ≡ c = same_Some home.0 c (sym home.1 ∙ ap (at rs) there ∙ is) in
            omega (arith, home.2, ap (λ (x : Chain). x.count) same, ap (λ (x : Lived N). x.rank) q.2)

        in_taken : (k : ℕ) → c.count ≡ k → (p : ℕ) → p < c.count → (id : ℕ) × (l : Lived N) × (map.get (nodes_of ns) id ≡ Some l) × (l.region ≡ r) × (l.rank ≡ p)
        in_taken zero e p lt = absurd (omega (arith, e, lt))
        in_taken (suc k) e p lt =
            let d = descend r k p c.last (chained.lasts r k c is e) (omega (arith, e, lt)) in
            (d.0, lived_as d.1.0, lived_at ns d.0 d.1.0 d.1.1, d.1.2, d.1.3)

        in_once : (a b : ℕ) (k l : Lived N) → map.get (nodes_of ns) a ≡ Some k → map.get (nodes_of ns) b ≡ Some l → k.region ≡ r → l.region ≡ r → k.rank ≡ l.rank → a ≡ b
        in_once a b k l got_a got_b ea eb rank =
            let p = held_at ns a k got_a in
            let q = held_at ns b l got_b in
            chained.apart a b p.0 q.0 p.1 q.1
            (ap (λ (x : Lived N). x.region) p.2 ∙ ea ∙ sym eb ∙ ap (λ (x : Lived N). x.region) (sym q.2))
            (ap (λ (x : Lived N). x.rank) p.2 ∙ rank ∙ ap (λ (x : Lived N). x.rank) (sym q.2))

  -- ---- a node is put

  pub record ArePut (ns ms : List (Option (Held N))) (rs qs : List (Option Chain)) (n r : ℕ) (h : Held N) (count : ℕ) : Type 0 where
    pub chained : AreChained ms qs
    pub number : n < 2 ^ 31
    pub put : IsPut (nodes_of ns) (nodes_of ms) n (lived_as h)
    pub region : regions_of qs ≡ map.insert (regions_of rs) r count
    pub one_more : map.len (nodes_of ms) ≡ map.len (nodes_of ns) + 1

  pub are_put : (ns ms : List (Option (Held N))) (rs qs : List (Option Chain)) (n r : ℕ) (c d : Chain) (h : Held N) → AreChained ns rs → IsFilled ns ms n h → at rs r ≡ Some c → qs ≡ set rs r (Some d) →
      count_by is_some ns < 2 ^ 31 → h.region ≡ r → h.rank ≡ c.count → h.before ≡ c.last → d.count ≡ c.count + 1 → d.last ≡ n → ArePut ns ms rs qs n r h d.count
  are_put ns ms rs qs n r c d h chained filled is grown room region rank before count last =
      let f = fills ns ms n h filled in
      let few = f.few chained.few room in
      let within = is_within rs r c is in
      let changed : Changes rs qs r (Some d) = subst (λ (l : List (Option Chain)). Changes rs l r (Some d)) (sym grown) (set_changes rs r (Some d) within) in
      let sums = sum_set rs r c (Some d) is in
      let sum : sum_by chain_count qs ≡ sum_by chain_count (set rs r (Some d)) = ap (sum_by chain_count) grown in
      let total : sum_by chain_count qs ≡ count_by is_some ms = omega (arith, sums, sum, count, f.counts, chained.total) in
      record {
        chained = put_chained ns ms rs qs n r c d h chained f.free f.changes is changed region rank before count last few total;
        number = omega (arith, f.within, few);
        put = record { free = get_map lived_as ns n ∙ ap (option_map lived_as) f.free; put = inserted lived_as ns ms n h f.changes };
        region = inserted (λ (x : Chain). x.count) rs qs r d changed;
        one_more = len_map lived_as ms ∙ f.counts ∙ ap (λ (x : ℕ). x + 1) (sym (len_map lived_as ns));
      }

  -- ---- the last node of a region goes

  module _ (ns ms : List (Option (Held N))) (rs : List (Option Chain)) (chained : AreChained ns rs) (n r k : ℕ) (c : Chain)
      (is : at rs r ≡ Some c) (size : c.count ≡ suc k) (last : c.last ≡ n) where
    last_at : IsAt ns n r k
    last_at = subst (λ (x : ℕ). IsAt ns x r k) last (chained.lasts r k c is size)

    pub last_held : IsSome (at ns n)
    last_held = subst (λ (o : Option (Held N)). IsSome o) (sym last_at.1) refl

    pub last_is : (h : Held N) → at ns n ≡ Some h → (h.region ≡ r) × (h.rank ≡ k)
    last_is h got =
        let same : last_at.0 ≡ h = same_Some last_at.0 h (sym last_at.1 ∙ got) in
        (ap (λ (x : Held N). x.region) (sym same) ∙ last_at.2, ap (λ (x : Held N). x.rank) (sym same) ∙ last_at.3)

    pub goes_back : Changes ns ms n None → nodes_of ms ≡ back_to (nodes_of ns) r k
    goes_back vacated = same_nodes (λ q. by_number q (cases_eq q n))
      where
        same_nodes : ((q : ℕ) → map.get (nodes_of ms) q ≡ map.get (back_to (nodes_of ns) r k) q) → nodes_of ms ≡ back_to (nodes_of ns) r k
        same_nodes h = map.same_map nat_cmp_total map.nat_cmp-IsAntisymmetric (nodes_of ms) (back_to (nodes_of ns) r k) h

        other : (q : ℕ) → q ≢ n → (o : Option (Lived N)) → map.get (nodes_of ns) q ≡ o → o ≡ map.get (back_to (nodes_of ns) r k) q
        other q ne None e = sym (none_back (nodes_of ns) r k q e)
        other q ne (Some l) e =
            elim (stays_cases r k l) [
              | inl stay ↦ sym (stayed (nodes_of ns) r k q l e stay)
              | inr gone ↦
                  let has = ranks ns rs chained r c is in
                  let at_k : l.rank ≡ k = let lt = has.below q l e gone.0 in omega (arith, lt, size, gone.1) in
                  absurd (ne (has.once q n l (lived_as last_at.0) e (lived_at ns n last_at.0 last_at.1) gone.0 last_at.2 (at_k ∙ sym last_at.3)))
            ]

        by_number : (q : ℕ) → (q ≡ n) ⊎ (q ≢ n) → map.get (nodes_of ms) q ≡ map.get (back_to (nodes_of ns) r k) q
        by_number q (inl e) =
            let none : map.get (nodes_of ms) q ≡ None = get_map lived_as ms q ∙ ap (λ (x : ℕ). option_map lived_as (at ms x)) e ∙ ap (option_map lived_as) vacated.here in
            let there : map.get (nodes_of ns) q ≡ Some (lived_as last_at.0) = ap (map.get (nodes_of ns)) e ∙ lived_at ns n last_at.0 last_at.1 in
            none ∙ sym (went (nodes_of ns) r k q (lived_as last_at.0) there (later_goes r k (lived_as last_at.0) last_at.2 (omega (arith, last_at.3))))
        by_number q (inr ne) =
            get_map lived_as ms q ∙ ap (option_map lived_as) (vacated.others q ne) ∙ sym (get_map lived_as ns q) ∙ other q ne (map.get (nodes_of ns) q) refl

    pub gone_last : (h : Held N) (d : Chain) (qs : List (Option Chain)) → at ns n ≡ Some h → ms ≡ set ns n None → qs ≡ set rs r (Some d) → d.count ≡ h.rank → d.last ≡ h.before → AreChained ms qs
    gone_last h d qs got vacated shorter count last_one =
        let is_h = last_is h got in
        let within = is_within rs r c is in
        let changed : Changes rs qs r (Some d) = subst (λ (l : List (Option Chain)). Changes rs l r (Some d)) (sym shorter) (set_changes rs r (Some d) within) in
        let empty : Changes ns ms n None = subst (λ (l : List (Option (Held N))). Changes ns l n None) (sym vacated) (set_changes ns n None (is_within ns n h got)) in
        let sums = sum_set rs r c (Some d) is in
        let sum : sum_by chain_count qs ≡ sum_by chain_count (set rs r (Some d)) = ap (sum_by chain_count) shorter in
        let fewer = count_less ns n h got in
        let counts : count_by is_some ms ≡ count_by is_some (set ns n None) = ap (λ (l : List (Option (Held N))). count_by is_some l) vacated in
        let total : sum_by chain_count qs ≡ count_by is_some ms = omega (arith, sums, sum, fewer, counts, count, is_h.1, size, chained.total) in
        let few : length ms ≤ 2 ^ 31 = omega (arith, chained.few, length-set ns n None, ap (λ (l : List (Option (Held N))). length l) vacated) in
        gone_chained ns ms rs qs n r k c d h chained got empty is changed size is_h.0 is_h.1 (count ∙ is_h.1) last_one few total
