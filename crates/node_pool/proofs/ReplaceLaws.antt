-- A node in place of another one keeps the chains of all regions.
use Rattle.std.proofs.Common.{◌≡◌, ℕ, cond, List, get_or, set, Option, Some, None, is_some, count_by, refl, sym, ap, subst, ◌∙◌, inl, inr, arith, length-set}
use Rattle.std.specs.FinMap as map
use Rattle.std.proofs.lemmas.Bool.{cases_eq}
use Rattle.std.proofs.lemmas.List.Sums.{sum_by-set}
use Rattle.std.proofs.lemmas.Option.{same_Some}
use Rattle.node_pool.specs.SlotLists.{at}
use Rattle.node_pool.specs.NodePool.{Lived}
use Rattle.node_pool.specs.Chains.{lived_as, nodes_of, IsAt, AreChained}
use Rattle.node_pool.specs.declared.pool.Chain.{Chain}
use Rattle.node_pool.specs.declared.pool.Held.{Held}
use Rattle.node_pool.proofs.MapLaws.{Changes, set_changes, is_within, inserted}
use Rattle.node_pool.proofs.PoolLaws.{lived_at}

module _ {N : Type 0} (ns : List (Option (Held N))) (n : ℕ) (h : Held N) (is : at ns n ≡ Some h) (node : N) where
  abbrev new : Held N
  new = record { node = node; region = h.region; rank = h.rank; before = h.before }

  abbrev ms : List (Option (Held N))
  ms = set ns n (Some new)

  changes : Changes ns ms n (Some new)
  changes = set_changes ns n (Some new) (is_within ns n h is)

  -- what a slot has it had, but for its node
  was : (m : ℕ) (x : Held N) → at ms m ≡ Some x → (y : Held N) × (at ns m ≡ Some y) × (y.region ≡ x.region) × (y.rank ≡ x.rank) × (y.before ≡ x.before)
  was m x got =
      elim (cases_eq m n) [
        | inl e ↦
            let same : new ≡ x = same_Some new x (sym changes.here ∙ ap (at ms) (sym e) ∙ got) in
            (h, ap (at ns) e ∙ is, ap (λ (z : Held N). z.region) same, ap (λ (z : Held N). z.rank) same, ap (λ (z : Held N). z.before) same)
        | inr ne ↦ (x, sym (changes.others m ne) ∙ got, refl, refl, refl)
      ]

  still : (m r p : ℕ) → IsAt ns m r p → IsAt ms m r p
  still m r p there =
      elim (cases_eq m n) [
        | inl e ↦
            let same : h ≡ there.0 = same_Some h there.0 (sym is ∙ ap (at ns) (sym e) ∙ there.1) in
            (new, ap (at ms) e ∙ changes.here, ap (λ (z : Held N). z.region) same ∙ there.2, ap (λ (z : Held N). z.rank) same ∙ there.3)
        | inr ne ↦ (there.0, changes.others m ne ∙ there.1, there.2, there.3)
      ]

  same_count : count_by is_some ms ≡ count_by is_some ns
  same_count =
      let e = sum_by-set (λ o. cond (is_some o) 1 0) ns n (Some new) None (is_within ns n h is) in
      let z : ◌≡◌ {A = ℕ} (cond (is_some (get_or ns n None)) 1 0) 1 = ap (λ (o : Option (Held N)). cond (is_some o) 1 0) is in
      omega (arith, e, z)

  pub replaced : (rs : List (Option Chain)) → AreChained ns rs → AreChained ms rs
  replaced rs old = record {
    few = omega (arith, old.few, length-set ns n (Some new));
    total = old.total ∙ sym same_count;
    homes = λ m x got.
        let w = was m x got in
        let home = old.homes m w.0 w.1 in
        (home.0, ap (at rs) (sym w.2) ∙ home.1, omega (arith, home.2, w.3));
    apart = λ a b f g is_f is_g region rank.
        let p = was a f is_f in
        let q = was b g is_g in
        old.apart a b p.0 q.0 p.1 q.1 (p.2 ∙ region ∙ sym q.2) (p.3 ∙ rank ∙ sym q.3);
    lasts = λ r k c got size. still c.last r k (old.lasts r k c got size);
    befores = λ m k x got size.
        let w = was m x got in
        let there : IsAt ms w.0.before w.0.region k = still w.0.before w.0.region k (old.befores m k w.0 w.1 (w.3 ∙ size)) in
        subst (λ (r : ℕ). IsAt ms x.before r k) w.2 (subst (λ (b : ℕ). IsAt ms b w.0.region k) w.4 there);
  }

  pub node_replaced : (l : Lived N) → map.get (nodes_of ns) n ≡ Some l → nodes_of ms ≡ map.insert (nodes_of ns) n (record { node = node; region = l.region; rank = l.rank })
  node_replaced l got =
      let same : lived_as h ≡ l = same_Some (lived_as h) l (sym (lived_at ns n h is) ∙ got) in
      inserted lived_as ns ms n new changes ∙ ap (λ (x : Lived N). map.insert (nodes_of ns) n (record { node = node; region = x.region; rank = x.rank })) same
