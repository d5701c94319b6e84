-- What lives after a region went back.
use Rattle.std.proofs.Common.{◌≡◌, ◌≢◌, ◌⊎◌, ℕ, ◌<◌, ◌≤◌, Bool, true, false, cond, not, ◌||◌, eqb, ltb, Option, Some, None, refl, sym, ap, ◌∙◌, inl, inr, arith}
use Rattle.std.specs.Cmp.{nat_cmp_total}
use Rattle.std.specs.FinMap as map
use Rattle.std.specs.FinMap.{get-retain_keys, get_tied, same_map, nat_cmp-IsAntisymmetric}
use Rattle.std.proofs.lemmas.Bool.{cases_eq, cases_lt, eq-eqb, ne_eqb, lt-ltb, le-ltb}
use Rattle.std.proofs.lemmas.Option.{same_Some, none-some}
use Rattle.node_pool.specs.NodePool.{Lived, Nodes, stays, back_to}
use Rattle.node_pool.specs.Pools.{HasRanks, OnlyAdds}

true_or_false : (b : Bool) → b ≡ true → b ≡ false → ⊥
true_or_false b t f = absurd cc

module _ {N : Type 0} where
  same_nodes : (a b : Nodes N) → ((q : ℕ) → map.get a q ≡ map.get b q) → a ≡ b
  same_nodes a b h = same_map nat_cmp_total nat_cmp-IsAntisymmetric a b h

  -- ---- which nodes stay

  pub elsewhere_stays : (r m : ℕ) (l : Lived N) → l.region ≢ r → stays r m (Some l) ≡ true
  elsewhere_stays r m l ne = ap (λ (b : Bool). not b || ltb l.rank m) (ne_eqb l.region r ne)

  pub lower_stays : (r m : ℕ) (l : Lived N) → l.rank < m → stays r m (Some l) ≡ true
  lower_stays r m l lt = ap (λ (b : Bool). not (eqb l.region r) || b) (lt-ltb l.rank m lt) ∙ any (not (eqb l.region r))
    where
      any : (b : Bool) → b || true ≡ true
      any true = refl
      any false = refl

  pub later_goes : (r m : ℕ) (l : Lived N) → l.region ≡ r → m ≤ l.rank → stays r m (Some l) ≡ false
  later_goes r m l e le = (λ j. not (eq-eqb l.region r e j) || le-ltb l.rank m le j)

  -- ---- what is found then

  pub get_back : (nodes : Nodes N) (r m q : ℕ) → map.get (back_to nodes r m) q ≡ cond (stays r m (map.get nodes q)) (map.get nodes q) None
  get_back nodes r m q = get-retain_keys nodes (λ id. stays r m (map.get nodes id)) q (λ x tie. ap (stays r m) (get_tied nat_cmp_total nodes q x tie))

  module _ (nodes : Nodes N) (r m q : ℕ) where
    found : (o : Option (Lived N)) → map.get nodes q ≡ o → map.get (back_to nodes r m) q ≡ cond (stays r m o) o None
    found o e = get_back nodes r m q ∙ ap (λ (x : Option (Lived N)). cond (stays r m x) x None) e

    pub none_back : map.get nodes q ≡ None → map.get (back_to nodes r m) q ≡ None
    none_back e = found None e

    pub stayed : (l : Lived N) → map.get nodes q ≡ Some l → stays r m (Some l) ≡ true → map.get (back_to nodes r m) q ≡ Some l
    stayed l e h = found (Some l) e ∙ ap (λ (b : Bool). cond b (Some l) None) h

    pub went : (l : Lived N) → map.get nodes q ≡ Some l → stays r m (Some l) ≡ false → map.get (back_to nodes r m) q ≡ None
    went l e h = found (Some l) e ∙ ap (λ (b : Bool). cond b (Some l) None) h

  -- either it stays, or it lies in the region at a rank that isn't lower
  pub stays_cases : (r m : ℕ) (l : Lived N) → (stays r m (Some l) ≡ true) ⊎ ((l.region ≡ r) × (m ≤ l.rank) × (stays r m (Some l) ≡ false))
  stays_cases r m l =
      elim (cases_eq l.region r) [
        | inl e ↦
            elim (cases_lt l.rank m) [
              | inl lt ↦ inl (lower_stays r m l lt)
              | inr le ↦ inr (e, le, later_goes r m l e le)
            ]
        | inr ne ↦ inl (elsewhere_stays r m l ne)
      ]

  -- ---- going back in steps

  -- a region that goes back once more comes to the same
  pub back_again : (nodes : Nodes N) (r k m : ℕ) → m ≤ k → back_to (back_to nodes r k) r m ≡ back_to nodes r m
  back_again nodes r k m le = same_nodes (back_to (back_to nodes r k) r m) (back_to nodes r m) (λ q. by_node q (map.get nodes q) refl)
    where
      by_node : (q : ℕ) (o : Option (Lived N)) → map.get nodes q ≡ o → map.get (back_to (back_to nodes r k) r m) q ≡ map.get (back_to nodes r m) q
      by_node q None e = none_back (back_to nodes r k) r m q (none_back nodes r k q e) ∙ sym (none_back nodes r m q e)
      by_node q (Some l) e =
          elim (stays_cases r k l) [
            | inl stay ↦ found (back_to nodes r k) r m q (Some l) (stayed nodes r k q l e stay) ∙ sym (found nodes r m q (Some l) e)
            | inr gone ↦ none_back (back_to nodes r k) r m q (went nodes r k q l e gone.2) ∙ sym (went nodes r m q l e (later_goes r m l gone.0 (omega (arith, gone.1, le))))
          ]

  -- a region that has no more nodes than that stays as it is
  pub back_all : (nodes : Nodes N) (r m : ℕ) → HasRanks nodes r m → back_to nodes r m ≡ nodes
  back_all nodes r m ranks = same_nodes (back_to nodes r m) nodes (λ q. by_node q (map.get nodes q) refl)
    where
      by_node : (q : ℕ) (o : Option (Lived N)) → map.get nodes q ≡ o → map.get (back_to nodes r m) q ≡ map.get nodes q
      by_node q None e = none_back nodes r m q e ∙ sym e
      by_node q (Some l) e =
          elim (stays_cases r m l) [
            | inl stay ↦ stayed nodes r m q l e stay ∙ sym e
            | inr gone ↦ absurd (omega (arith, gone.1, ranks.below q l e gone.0))
          ]

  -- where the nodes that a region had still live, it goes back to them alone
  pub undone : (before now : Nodes N) (r m k : ℕ) → HasRanks before r m → HasRanks now r k → OnlyAdds before now r → back_to now r m ≡ before
  undone before now r m k had has adds = same_nodes (back_to now r m) before (λ q. by_node q (map.get now q) refl)
    where
      absent : (q : ℕ) → ((l : Lived N) → map.get before q ≡ Some l → ⊥) → map.get before q ≡ None
      absent q h = by_before (map.get before q) refl
        where
          by_before : (o : Option (Lived N)) → map.get before q ≡ o → map.get before q ≡ None
          by_before None e = e
          by_before (Some l) e = absurd (h l e)

      -- a node at a rank that was taken then is the one of then
      same_one : (q : ℕ) (l : Lived N) → map.get now q ≡ Some l → l.region ≡ r → l.rank < m → map.get before q ≡ Some l
      same_one q l e in_r lt =
          let p = had.taken l.rank lt in
          let still = adds.kept p.0 p.1 p.2 in
          let same : p.0 ≡ q = has.once p.0 q p.1 l still e p.3 in_r p.4 in
          let one : Some p.1 ≡ Some l = sym still ∙ ap (map.get now) same ∙ e in
          ap (map.get before) (sym same) ∙ p.2 ∙ one

      by_node : (q : ℕ) (o : Option (Lived N)) → map.get now q ≡ o → map.get (back_to now r m) q ≡ map.get before q
      by_node q None e = none_back now r m q e ∙ sym (absent q (λ l at. none-some l (sym e ∙ adds.kept q l at)))
      by_node q (Some l) e =
          elim (stays_cases r m l) [
            | inl stay ↦
                elim (adds.added q l e) [
                  | inl was ↦ stayed now r m q l e stay ∙ sym was
                  | inr in_r ↦
                      elim (cases_lt l.rank m) [
                        | inl lt ↦ stayed now r m q l e stay ∙ sym (same_one q l e in_r lt)
                        | inr le ↦ absurd (true_or_false (stays r m (Some l)) stay (later_goes r m l in_r le))
                      ]
                ]
            | inr gone ↦
                went now r m q l e gone.2 ∙ sym (absent q (λ x at.
                let same : x ≡ l = same_Some x l (sym (adds.kept q x at) ∙ e) in
                omega (arith, gone.1, had.below q x at (ap (λ (y : Lived N). y.region) same ∙ gone.0), ap (λ (y : Lived N). y.rank) same)))
          ]
