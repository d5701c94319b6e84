-- What is left where a region goes back or ends: each node that is left has all its parts.
use Rattle.std.proofs.Common.{◌≡◌, ◌≢◌, ◌⊎◌, ℕ, ◌<◌, ◌≤◌, Bool, true, false, cond, List, Option, Some, None, refl, sym, ap, ◌∙◌, subst, inl, inr, arith}
use Rattle.std.specs.Prelude.{IsSome, is_some}
use Rattle.std.specs.List.{AllByRecursion}
use Rattle.std.specs.Option.{option_map}
use Rattle.std.specs.FinMap as finite
use Rattle.std.proofs.lemmas.Bool.{cases_eq, cases_lt}
use Rattle.std.proofs.lemmas.Option.{same_Some, none-some}
use Rattle.node_pool.specs.NodePool as pool
use Rattle.node_pool.proofs.BackLaws.{stays_cases, stayed, went, none_back, later_goes}
use Rattle.syntax_tree.specs.Nodes.{Lived, Nodes, parts_of, region_at, back_to}
use Rattle.syntax_tree.specs.Regions.{Regions, Outlives, MayName, MayNameParts, IsClosed, OutlivesNone, Goes, CanGoBack, ArePartsFirst}
use Rattle.syntax_tree.specs.Kept.{shape_of, KeptNodes, lived_as, nodes_of, AreKept, IsTable}
use Rattle.syntax_tree.specs.declared.trees.measures.Kept.{Kept}
use Rattle.syntax_tree.proofs.SeenLaws.{get_seen, found_seen}
use Rattle.syntax_tree.proofs.NodeLaws.{map_some, lived_at, back_seen}
use Rattle.syntax_tree.proofs.RegionLaws.{all_map, all_both, outlives_left}
use Rattle.syntax_tree.proofs.KeptLaws.{size_stays, depth_stays}

clash : {P : Type 0} (b : Bool) → b ≡ true → b ≡ false → P
clash b t f = absurd cc

-- what is left was there, and it stays
pub left_was : {N : Type 0} (nodes : pool.Nodes N) (r count n : ℕ) (l : pool.Lived N) → finite.get (back_to nodes r count) n ≡ Some l → (finite.get nodes n ≡ Some l) × (pool.stays r count (Some l) ≡ true)
left_was {N = N} nodes r count n l at = by_node (finite.get nodes n) refl
  where
    by_node : (o : Option (pool.Lived N)) → finite.get nodes n ≡ o → (finite.get nodes n ≡ Some l) × (pool.stays r count (Some l) ≡ true)
    by_node None e = absurd (none-some l (sym (none_back nodes r count n e) ∙ at))
    by_node (Some x) e =
        elim (stays_cases r count x) [
          | inl stay ↦
              let same : x ≡ l = same_Some x l (sym (stayed nodes r count n x e stay) ∙ at) in
              (e ∙ ap Some same, subst (λ (y : pool.Lived N). pool.stays r count (Some y) ≡ true) same stay)
          | inr gone ↦ absurd (none-some l (sym (went nodes r count n x e gone.2) ∙ at))
        ]

module _ (nodes : Nodes) (regions : Regions) (r count : ℕ) (closed : IsClosed nodes regions) (first : ArePartsFirst nodes) (can : CanGoBack nodes r count) where
  abbrev IsLeft : ℕ → Type 0
  IsLeft p = finite.get (back_to nodes r count) p ≡ finite.get nodes p

  -- no part of a node that is left goes
  none_goes : (n : ℕ) (l : Lived) → finite.get nodes n ≡ Some l → pool.stays r count (Some l) ≡ true → AllByRecursion (λ p. ¬ Goes nodes r count p) (parts_of l.node)
  none_goes n l at stay =
      elim (cases_eq l.region r) [
        | inl e ↦
            elim (cases_lt l.rank count) [
              | inl lt ↦
                  all_map (λ p. (k : Lived) → finite.get nodes p ≡ Some k → k.region ≡ l.region → k.rank < l.rank) (λ p. ¬ Goes nodes r count p)
                  (λ p before goes. let less = before goes.0 goes.1 (goes.2 ∙ sym e) in absurd (omega (arith, less, lt, goes.3)))
                  (parts_of l.node) (first n l at)
              | inr le ↦ clash (pool.stays r count (Some l)) stay (later_goes r count l e le)
            ]
        | inr ne ↦ can n l at ne
      ]

  -- so all of them are left
  pub parts_left : (n : ℕ) (l : Lived) → finite.get (back_to nodes r count) n ≡ Some l → AllByRecursion IsLeft (parts_of l.node)
  parts_left n l at =
      let was = left_was nodes r count n l at in
      all_both (MayName nodes regions l.region) (λ p. ¬ Goes nodes r count p) IsLeft (λ p named stays. left p named.0 named.1 stays) (parts_of l.node) (closed n l was.0) (none_goes n l was.0 was.1)
    where
      left : (p a : ℕ) → region_at nodes p ≡ Some a → ¬ Goes nodes r count p → IsLeft p
      left p a lies stays =
          let q = map_some (λ (x : Lived). x.region) (finite.get nodes p) a lies in
          elim (stays_cases r count q.0) [
            | inl stay ↦ stayed nodes r count p q.0 q.1 stay ∙ sym q.1
            | inr gone ↦ absurd (stays (q.0, q.1, gone.0, gone.1))
          ]

  pub closed_back : IsClosed (back_to nodes r count) regions
  closed_back n l at =
      all_both (MayName nodes regions l.region) IsLeft (MayName (back_to nodes r count) regions l.region)
      (λ p named same. (named.0, ap (option_map (λ (x : Lived). x.region)) same ∙ named.1, named.2))
      (parts_of l.node) (closed n l (left_was nodes r count n l at).0) (parts_left n l at)

  pub first_back : ArePartsFirst (back_to nodes r count)
  first_back n l at =
      all_both (λ p. (k : Lived) → finite.get nodes p ≡ Some k → k.region ≡ l.region → k.rank < l.rank) IsLeft (λ p. (k : Lived) → finite.get (back_to nodes r count) p ≡ Some k → k.region ≡ l.region → k.rank < l.rank)
      (λ p before same k got. before k (sym same ∙ got))
      (parts_of l.node) (first n l (left_was nodes r count n l at).0) (parts_left n l at)

-- a region that outlives no other one is named by no node of another
pub can_end : (nodes : Nodes) (regions : Regions) (r : ℕ) → IsClosed nodes regions → OutlivesNone regions r → CanGoBack nodes r 0
can_end nodes regions r closed last n l at ne =
    all_map (MayName nodes regions l.region) (λ p. ¬ Goes nodes r 0 p)
    (λ p named goes.
    let same : named.0 ≡ r = same_Some named.0 r (sym named.1 ∙ ap (option_map (λ (x : Lived). x.region)) goes.1 ∙ ap Some goes.2) in
    ne (last l.region (subst (λ (a : ℕ). Outlives regions a l.region) same named.2)))
    (parts_of l.node) (closed n l at)

-- nodes that are left when a region ends lie elsewhere
pub left_elsewhere : {N : Type 0} (nodes : pool.Nodes N) (r n : ℕ) (l : pool.Lived N) → finite.get (back_to nodes r 0) n ≡ Some l → l.region ≢ r
left_elsewhere nodes r n l at e = clash (pool.stays r 0 (Some l)) (left_was nodes r 0 n l at).1 (later_goes r 0 l e (omega arith))

-- ---- the table

module _ (ns : KeptNodes) (regions : Regions) (table : IsTable ns regions) (r count : ℕ) (can : CanGoBack (nodes_of ns) r count) where
  abbrev new : KeptNodes
  new = back_to ns r count

  same_kept : (p : ℕ) → finite.get (back_to (nodes_of ns) r count) p ≡ finite.get (nodes_of ns) p → IsSome (finite.get (nodes_of ns) p) → finite.get new p ≡ finite.get ns p
  same_kept p same live = by_node (finite.get new p) refl
    where
      none_is : (o : Option Lived) → o ≡ None → IsSome o → ⊥
      none_is None e h = absurd cc
      none_is (Some x) e h = absurd cc

      by_node : (o : Option (pool.Lived Kept)) → finite.get new p ≡ o → finite.get new p ≡ finite.get ns p
      by_node (Some k) e = e ∙ sym (left_was ns r count p k e).0
      by_node None e =
          let none : finite.get (nodes_of new) p ≡ None = get_seen lived_as new p ∙ ap (option_map (lived_as p)) e in
          let gone : finite.get (nodes_of ns) p ≡ None = sym same ∙ ap (λ (x : Nodes). finite.get x p) (sym (back_seen ns r count)) ∙ none in
          absurd (none_is (finite.get (nodes_of ns) p) gone live)

  kept_parts : (n : ℕ) (k : pool.Lived Kept) → finite.get new n ≡ Some k → AllByRecursion (λ p. finite.get new p ≡ finite.get ns p) (parts_of (shape_of k.node.node))
  kept_parts n k at =
      let there : finite.get (back_to (nodes_of ns) r count) n ≡ Some (lived_as n k) = ap (λ (x : Nodes). finite.get x n) (sym (back_seen ns r count)) ∙ lived_at new n k at in
      let was = left_was ns r count n k at in
      all_both (MayName (nodes_of ns) regions k.region) (λ p. finite.get (back_to (nodes_of ns) r count) p ≡ finite.get (nodes_of ns) p) (λ p. finite.get new p ≡ finite.get ns p)
      (λ p named same. let q = map_some (λ (x : Lived). x.region) (finite.get (nodes_of ns) p) named.0 named.1 in same_kept p same (ap (λ o. is_some o) q.1))
      (parts_of (shape_of k.node.node)) (table.closed n (lived_as n k) (lived_at ns n k was.0)) (parts_left (nodes_of ns) regions r count table.closed table.first can n (lived_as n k) there)

  kept_back : AreKept new
  kept_back = record {
    sizes = λ n k at. table.kept.sizes n k (left_was ns r count n k at).0 ∙ size_stays ns new (shape_of k.node.node) (kept_parts n k at);
    depths = λ n k at. table.kept.depths n k (left_was ns r count n k at).0 ∙ depth_stays ns new (shape_of k.node.node) (kept_parts n k at);
    small = λ n k at. table.kept.small n k (left_was ns r count n k at).0;
  }

  pub table_back : IsTable new regions
  table_back = record {
    kept = kept_back;
    closed = subst (λ (x : Nodes). IsClosed x regions) (sym (back_seen ns r count)) (closed_back (nodes_of ns) regions r count table.closed table.first can);
    first = subst ArePartsFirst (sym (back_seen ns r count)) (first_back (nodes_of ns) regions r count table.closed table.first can);
  }

-- and without the region
pub table_ended : (ns : KeptNodes) (regions : Regions) (r : ℕ) → IsTable ns regions → OutlivesNone regions r → IsTable (back_to ns r 0) (finite.remove regions r)
table_ended ns regions r table last =
    let back : IsTable (back_to ns r 0) regions = table_back ns regions table r 0 (can_end (nodes_of ns) regions r table.closed last) in
    record {
      kept = back.kept;
      closed = λ n l at.
          let there : finite.get (back_to (nodes_of ns) r 0) n ≡ Some l = ap (λ (x : Nodes). finite.get x n) (sym (back_seen ns r 0)) ∙ at in
          let ne : l.region ≢ r = left_elsewhere (nodes_of ns) r n l there in
          all_map (MayName (nodes_of (back_to ns r 0)) regions l.region) (MayName (nodes_of (back_to ns r 0)) (finite.remove regions r) l.region)
          (λ p named. (named.0, named.1, outlives_left regions r named.0 l.region last ne named.2))
          (parts_of l.node) (back.closed n l at);
      first = back.first;
    }
