-- Nodes whose places change: the table stands, since places aren't measured.
use Rattle.std.proofs.Common.{◌≡◌, ◌≢◌, ◌⊎◌, ℕ, ◌+◌, ◌<◌, false, List, sum_by, Option, Some, None, refl, sym, ap, ◌∙◌, subst, inl, inr, arith}
use Rattle.std.specs.Prelude.{IsSome, is_some}
use Rattle.std.specs.List.{AllByRecursion}
use Rattle.std.specs.Option.{option_map, option_map_or}
use Rattle.std.specs.FinMap as finite
use Rattle.std.proofs.lemmas.Bool.{cases_eq}
use Rattle.std.proofs.lemmas.Option.{same_Some}
use Rattle.node_pool.specs.NodePool as pool
use Rattle.scheme_model.specs.declared.Occ.{Occ}
use Rattle.syntax_tree.specs.Nodes.{Shape, leaf_shape, list_shape, vector_shape, Lived, Nodes, parts_of, shape_at, region_at}
use Rattle.syntax_tree.specs.NodePlaces.{place_in, placed_at}
use Rattle.syntax_tree.specs.Regions.{Regions, MayName}
use Rattle.syntax_tree.specs.Kept.{shape_of, KeptNodes, lived_as, nodes_of, size_at, depth_at, deepest, IsTable}
use Rattle.syntax_tree.specs.declared.trees.measures.Kept.{Kept}
use Rattle.syntax_tree.proofs.SeenLaws.{same_finite, get_seen, got_here, got_there, found_seen}
use Rattle.syntax_tree.proofs.NodeLaws.{map_some, lived_at, is_kept}
use Rattle.syntax_tree.proofs.RegionLaws.{all_map}
use Rattle.syntax_tree.proofs.TableSteps.{no_some}
use Rattle.syntax_tree.proofs.AddedLaws.{node_read}

pub same_parts : (p : Option Occ) (s : Shape) → parts_of (placed_at p s) ≡ parts_of s
same_parts p (leaf_shape leaf o) = refl
same_parts p (list_shape items None o) = refl
same_parts p (list_shape items (Some n) o) = refl
same_parts p (vector_shape items o) = refl

-- ---- the place of a node

pub place_found : (ns : KeptNodes) (nodes : Nodes) (n : ℕ) (k : Kept) (o : Option Occ) → nodes_of ns ≡ nodes → option_map (λ (l : pool.Lived Kept). l.node) (finite.get ns n) ≡ Some k →
    o ≡ place_in (shape_of k.node) → Some o ≡ option_map place_in (shape_at nodes n)
place_found ns nodes n k o view at is =
    let p = node_read ns nodes n k view at in
    let there : shape_at nodes n ≡ Some p.0.node = ap (option_map (λ (l : Lived). l.node)) p.1 in
    ap (λ (q : Option Occ). Some q) (is ∙ ap place_in (sym p.2)) ∙ sym (ap (option_map place_in) there)

pub no_place : (ns : KeptNodes) (nodes : Nodes) (n : ℕ) → nodes_of ns ≡ nodes → false ≡ is_some (finite.get ns n) → None ≡ option_map place_in (shape_at nodes n)
no_place ns nodes n view none =
    let there : finite.get nodes n ≡ None = ap (λ (x : Nodes). finite.get x n) (sym view) ∙ get_seen lived_as ns n ∙ ap (option_map (lived_as n)) (no_some (finite.get ns n) none) in
    sym (ap (λ (o : Option Lived). option_map place_in (option_map (λ (l : Lived). l.node) o)) there)

-- ---- a node that is taken out, and put back at another place

-- this node is put in place of the one that lived
abbrev pub Replaces : KeptNodes → KeptNodes → ℕ → Kept → Type 0
Replaces old new n k = (l : pool.Lived Kept) → finite.get old n ≡ Some l → new ≡ finite.insert old n (record { node = k; region = l.region; rank = l.rank })

now_there : (old new : KeptNodes) (n : ℕ) (k : Kept) → Replaces old new n k → (l : pool.Lived Kept) → finite.get old n ≡ Some l → finite.get new n ≡ Some (record { node = k; region = l.region; rank = l.rank })
now_there old new n k put l at = ap (λ (x : KeptNodes). finite.get x n) (put l at) ∙ got_here old n (record { node = k; region = l.region; rank = l.rank }) n refl

now_other : (old new : KeptNodes) (n : ℕ) (k : Kept) → Replaces old new n k → (l : pool.Lived Kept) → finite.get old n ≡ Some l → (m : ℕ) → m ≢ n → finite.get new m ≡ finite.get old m
now_other old new n k put l at m ne = ap (λ (x : KeptNodes). finite.get x m) (put l at) ∙ got_there old n (record { node = k; region = l.region; rank = l.rank }) m ne

pub still_lives : (nodes : Nodes) (old new : KeptNodes) (n : ℕ) (k : Kept) → nodes_of old ≡ nodes → IsSome (finite.get nodes n) → Replaces old new n k → IsSome (finite.get new n)
still_lives nodes old new n k view live put =
    let was = is_kept old n (subst (λ (x : Nodes). IsSome (finite.get x n)) (sym view) live) in
    ap (λ o. is_some o) (now_there old new n k put was.0 was.1)

module _ (old between new : KeptNodes) (n : ℕ) (hole k : Kept) (l : pool.Lived Kept) (was : finite.get old n ≡ Some l)
    (out : Replaces old between n hole) (back : Replaces between new n k)
    (size : k.size ≡ l.node.size) (depth : k.depth ≡ l.node.depth) (parts : parts_of (shape_of k.node) ≡ parts_of (shape_of l.node.node)) where
  abbrev now : pool.Lived Kept
  now = record { node = k; region = l.region; rank = l.rank }

  abbrev gap : pool.Lived Kept
  gap = record { node = hole; region = l.region; rank = l.rank }

  meanwhile : finite.get between n ≡ Some gap
  meanwhile = now_there old between n hole out l was

  here : finite.get new n ≡ Some now
  here = now_there between new n k back gap meanwhile

  others : (m : ℕ) → m ≢ n → finite.get new m ≡ finite.get old m
  others m ne = now_other between new n k back gap meanwhile m ne ∙ now_other old between n hole out l was m ne

  -- what a node was is what it is, but for its place
  record IsLike (x y : pool.Lived Kept) : Type 0 where
    like_size : y.node.size ≡ x.node.size
    like_depth : y.node.depth ≡ x.node.depth
    like_region : x.region ≡ y.region
    like_rank : x.rank ≡ y.rank
    like_parts : parts_of (shape_of x.node.node) ≡ parts_of (shape_of y.node.node)

  was_there : (m : ℕ) (y : pool.Lived Kept) → finite.get new m ≡ Some y → (x : pool.Lived Kept) × (finite.get old m ≡ Some x) × IsLike x y
  was_there m y at =
      elim (cases_eq m n) [
        | inl e ↦
            let same : now ≡ y = same_Some now y (sym here ∙ ap (finite.get new) (sym e) ∙ at) in
            (l, ap (finite.get old) e ∙ was, subst (λ (z : pool.Lived Kept). IsLike l z) same (record { like_size = size; like_depth = depth; like_region = refl; like_rank = refl; like_parts = sym parts }))
        | inr ne ↦ (y, sym (others m ne) ∙ at, record { like_size = refl; like_depth = refl; like_region = refl; like_rank = refl; like_parts = refl })
      ]

  same_size : (m : ℕ) → size_at old m ≡ size_at new m
  same_size m =
      elim (cases_eq m n) [
        | inl e ↦
            let before : size_at old m ≡ l.node.size = ap (λ (o : Option (pool.Lived Kept)). option_map_or (λ (x : pool.Lived Kept). x.node.size) o 0) (ap (finite.get old) e ∙ was) in
            let after : size_at new m ≡ k.size = ap (λ (o : Option (pool.Lived Kept)). option_map_or (λ (x : pool.Lived Kept). x.node.size) o 0) (ap (finite.get new) e ∙ here) in
            before ∙ sym size ∙ sym after
        | inr ne ↦ ap (λ (o : Option (pool.Lived Kept)). option_map_or (λ (x : pool.Lived Kept). x.node.size) o 0) (sym (others m ne))
      ]

  same_depth : (m : ℕ) → depth_at old m ≡ depth_at new m
  same_depth m =
      elim (cases_eq m n) [
        | inl e ↦
            let before : depth_at old m ≡ l.node.depth = ap (λ (o : Option (pool.Lived Kept)). option_map_or (λ (x : pool.Lived Kept). x.node.depth) o 0) (ap (finite.get old) e ∙ was) in
            let after : depth_at new m ≡ k.depth = ap (λ (o : Option (pool.Lived Kept)). option_map_or (λ (x : pool.Lived Kept). x.node.depth) o 0) (ap (finite.get new) e ∙ here) in
            before ∙ sym depth ∙ sym after
        | inr ne ↦ ap (λ (o : Option (pool.Lived Kept)). option_map_or (λ (x : pool.Lived Kept). x.node.depth) o 0) (sym (others m ne))
      ]

  -- each node that lived lives in its region
  same_region : (m a : ℕ) → region_at (nodes_of old) m ≡ Some a → region_at (nodes_of new) m ≡ Some a
  same_region m a lies =
      let region : (x : KeptNodes) → region_at (nodes_of x) m ≡ option_map (λ (z : pool.Lived Kept). z.region) (finite.get x m) = λ x. ap (option_map (λ (z : Lived). z.region)) (get_seen lived_as x m) ∙ seen_region (finite.get x m) in
      region new ∙ moved ∙ sym (region old) ∙ lies
    where
      seen_region : (o : Option (pool.Lived Kept)) → option_map (λ (z : Lived). z.region) (option_map (lived_as m) o) ≡ option_map (λ (z : pool.Lived Kept). z.region) o
      seen_region None = refl
      seen_region (Some x) = refl

      moved : option_map (λ (z : pool.Lived Kept). z.region) (finite.get new m) ≡ option_map (λ (z : pool.Lived Kept). z.region) (finite.get old m)
      moved =
          elim (cases_eq m n) [
            | inl e ↦ ap (option_map (λ (z : pool.Lived Kept). z.region)) (ap (finite.get new) e ∙ here) ∙ sym (ap (option_map (λ (z : pool.Lived Kept). z.region)) (ap (finite.get old) e ∙ was))
            | inr ne ↦ ap (option_map (λ (z : pool.Lived Kept). z.region)) (others m ne)
          ]

  pub table_placed : (regions : Regions) → IsTable old regions → IsTable new regions
  table_placed regions table = record {
    kept = record {
      sizes = λ m y at.
          let w = was_there m y at in
          w.2.like_size ∙ table.kept.sizes m w.0 w.1
          ∙ ap (λ (ps : List ℕ). 1 + sum_by (size_at old) ps) w.2.like_parts ∙ (λ j. 1 + sum_by (λ q. same_size q j) (parts_of (shape_of y.node.node)));
      depths = λ m y at.
          let w = was_there m y at in
          w.2.like_depth ∙ table.kept.depths m w.0 w.1
          ∙ ap (λ (ps : List ℕ). 1 + deepest (depth_at old) ps) w.2.like_parts ∙ (λ j. 1 + deepest (λ q. same_depth q j) (parts_of (shape_of y.node.node)));
      small = λ m y at.
          let w = was_there m y at in
          let s = table.kept.small m w.0 w.1 in
          (omega (arith, s.0, w.2.like_size), omega (arith, s.1, w.2.like_depth));
    };
    closed = λ m z at.
        let q = found_seen lived_as new m z at in
        let w = was_there m q.0 q.1 in
        let all = all_map (MayName (nodes_of old) regions w.0.region) (MayName (nodes_of new) regions w.0.region) (λ p named. (named.0, same_region p named.0 named.1, named.2))
        (parts_of (shape_of w.0.node.node)) (table.closed m (lived_as m w.0) (lived_at old m w.0 w.1)) in
        let here : AllByRecursion (MayName (nodes_of new) regions q.0.region) (parts_of (shape_of q.0.node.node)) =
        subst (λ (r : ℕ). AllByRecursion (MayName (nodes_of new) regions r) (parts_of (shape_of q.0.node.node))) w.2.like_region
        (subst (λ (ps : List ℕ). AllByRecursion (MayName (nodes_of new) regions w.0.region) ps) w.2.like_parts all) in
        subst (λ (x : Lived). AllByRecursion (MayName (nodes_of new) regions x.region) (parts_of x.node)) q.2 here;
    first = λ m z at.
        let q = found_seen lived_as new m z at in
        let w = was_there m q.0 q.1 in
        let all = all_map (λ p. (x : Lived) → finite.get (nodes_of old) p ≡ Some x → x.region ≡ w.0.region → x.rank < w.0.rank) (λ p. (x : Lived) → finite.get (nodes_of new) p ≡ Some x → x.region ≡ q.0.region → x.rank < q.0.rank)
        (λ p before x got same.
        let v = found_seen lived_as new p x got in
        let u = was_there p v.0 v.1 in
        let lt = before (lived_as p u.0) (lived_at old p u.0 u.1) (u.2.like_region ∙ ap (λ (y : Lived). y.region) v.2 ∙ same ∙ sym w.2.like_region) in
        omega (arith, lt, u.2.like_rank, ap (λ (y : Lived). y.rank) v.2, w.2.like_rank))
        (parts_of (shape_of w.0.node.node)) (table.first m (lived_as m w.0) (lived_at old m w.0 w.1)) in
        subst (λ (x : Lived). AllByRecursion (λ p. (y : Lived) → finite.get (nodes_of new) p ≡ Some y → y.region ≡ x.region → y.rank < x.rank) (parts_of x.node)) q.2
        (subst (λ (ps : List ℕ). AllByRecursion (λ p. (y : Lived) → finite.get (nodes_of new) p ≡ Some y → y.region ≡ q.0.region → y.rank < q.0.rank) ps) w.2.like_parts all);
  }

  -- what contracts see of it
  pub nodes_placed : (s : Shape) → shape_of k.node ≡ s → nodes_of new ≡ finite.insert (nodes_of old) n (record { node = s; region = l.region; rank = l.rank })
  nodes_placed s is =
      same_finite (nodes_of new) (finite.insert (nodes_of old) n (lived_as n now)) (λ q. by_number q (cases_eq q n))
      ∙ ap (λ (t : Shape). finite.insert (nodes_of old) n (record { node = t; region = l.region; rank = l.rank })) is
    where
      by_number : (q : ℕ) → (q ≡ n) ⊎ (q ≢ n) → finite.get (nodes_of new) q ≡ finite.get (finite.insert (nodes_of old) n (lived_as n now)) q
      by_number q (inl e) =
          ap (finite.get (nodes_of new)) e ∙ lived_at new n now here ∙ sym (got_here (nodes_of old) n (lived_as n now) q e)
      by_number q (inr ne) =
          get_seen lived_as new q ∙ ap (option_map (lived_as q)) (others q ne) ∙ sym (get_seen lived_as old q) ∙ sym (got_there (nodes_of old) n (lived_as n now) q ne)

-- ---- the call

module _ (nodes : Nodes) (old between new : KeptNodes) (n : ℕ) (hole taken k : Kept) (p : Option Occ) (view : nodes_of old ≡ nodes)
    (was : option_map (λ (l : pool.Lived Kept). l.node) (finite.get old n) ≡ Some taken) (out : Replaces old between n hole) (back : Replaces between new n k)
    (size : k.size ≡ taken.size) (depth : k.depth ≡ taken.depth) (shape : shape_of k.node ≡ placed_at p (shape_of taken.node)) where
  -- the node as it was
  lived : (l : pool.Lived Kept) × (finite.get old n ≡ Some l) × (l.node ≡ taken)
  lived = map_some (λ (l : pool.Lived Kept). l.node) (finite.get old n) taken was

  its_shape : shape_of k.node ≡ placed_at p (shape_of lived.0.node.node)
  its_shape = shape ∙ ap (λ (x : Kept). placed_at p (shape_of x.node)) (sym lived.2)

  its_parts : parts_of (shape_of k.node) ≡ parts_of (shape_of lived.0.node.node)
  its_parts = ap parts_of its_shape ∙ same_parts p (shape_of lived.0.node.node)

  its_size : k.size ≡ lived.0.node.size
  its_size = size ∙ ap (λ (x : Kept). x.size) (sym lived.2)

  its_depth : k.depth ≡ lived.0.node.depth
  its_depth = depth ∙ ap (λ (x : Kept). x.depth) (sym lived.2)

  pub placed_table : (regions : Regions) → IsTable old regions → IsTable new regions
  placed_table regions table = table_placed old between new n hole k lived.0 lived.1 out back its_size its_depth its_parts regions table

  pub placed_nodes : (l : Lived) → finite.get nodes n ≡ Some l → nodes_of new ≡ finite.insert nodes n (record { node = placed_at p l.node; region = l.region; rank = l.rank })
  placed_nodes l got =
      let there : lived_as n lived.0 ≡ l = same_Some (lived_as n lived.0) l (sym (lived_at old n lived.0 lived.1) ∙ ap (λ (x : Nodes). finite.get x n) view ∙ got) in
      nodes_placed old between new n hole k lived.0 lived.1 out back its_size its_depth its_parts (placed_at p (shape_of lived.0.node.node)) its_shape
      ∙ ap (λ (x : Lived). finite.insert (nodes_of old) n (record { node = placed_at p x.node; region = x.region; rank = x.rank })) there
      ∙ ap (λ (x : Nodes). finite.insert x n (record { node = placed_at p l.node; region = l.region; rank = l.rank })) view
