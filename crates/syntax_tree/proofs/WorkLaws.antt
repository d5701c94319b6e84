-- What the calls of a work leave standing.
use Rattle.std.proofs.Common.{◌≡◌, ◌≢◌, ℕ, ◌<◌, ◌≤◌, zero, suc, Option, Some, None, refl, sym, ap, ◌∙◌, subst, inl, inr, arith}
use Rattle.std.specs.Prelude.{is_some, IsSome}
use Rattle.std.specs.Option.{option_map}
use Rattle.std.specs.FinMap as map
use Rattle.std.proofs.lemmas.Option.{same_Some}
use Rattle.scheme_model.specs.Trees.{Tree}
use Rattle.scheme_model.specs.Ident.{Ident as Identifier}
use Rattle.syntax_tree.specs.Names.{Names, KeepsNames}
use Rattle.node_pool.specs.Pools.{HasRanks, OnlyAdds}
use Rattle.node_pool.proofs.MapLaws.{holds}
use Rattle.node_pool.proofs.BackLaws.{stayed, elsewhere_stays}
use Rattle.syntax_tree.specs.Nodes.{Shape, Lived, Nodes, parts_of, shape_at, region_at, IsPut, back_to}
use Rattle.syntax_tree.specs.Regions.{Forest, Regions, Outlives, MayName, IsClosed, ArePartsFirst, Goes, CanGoBack}
use Rattle.syntax_tree.specs.Standing.{Stands, IsNode}
use Rattle.syntax_tree.specs.Works.{StandsFor, IsStanding, IsNodeOf, Reaches, KeepsTrees, AddsIn, SameRegions, IsOpened, with_names}
use Rattle.syntax_tree.specs.Kept.{shape_of}
use Rattle.syntax_tree.specs.declared.trees.nodes.Node.{Node}
use Rattle.syntax_tree.specs.declared.trees.Work.{Work}
use Rattle.syntax_tree.specs.declared.trees.nodes.Tree as code
use Rattle.syntax_tree.specs.declared.trees.table.Region.{Region}
use Rattle.node_pool.specs.declared.pool.Mark.{Mark}
use Rattle.syntax_tree.proofs.Places.{none_some}
use Rattle.syntax_tree.proofs.NodeLaws.{map_some, put_keeps}
use Rattle.syntax_tree.proofs.RegionLaws.{all_map, all_both, KeepsOuters, outlives_kept, region_kept}
use Rattle.syntax_tree.proofs.EndLaws.{left_was, parts_left}
use Rattle.syntax_tree.proofs.StandingLaws.{names_itself, nodes_itself, node_there, stands_kept, stands_left, stands_once as once_at}
use Rattle.syntax_tree.proofs.AddedLaws.{put_stands}

pub stands_once : (work : Work) (n : code.Tree) (t u : Tree Identifier) → StandsFor work n t → StandsFor work n u → t ≡ u
stands_once work n t u g h = once_at work.trees.nodes work.symbols t u n.number g h

pub names_keep : (work : Work) (names : Names) → KeepsNames work.symbols names → KeepsTrees work (with_names work names)
names_keep work names keeps = record {
  trees = λ n t h. stands_kept work.trees.nodes work.trees.nodes work.symbols names (nodes_itself work.trees.nodes) keeps t n.number h;
  places = λ n r h. h;
  regions = λ region h. h;
  outlives = λ a b h. h;
}

-- at a number that stands a node lives
pub standing_lives : (work : Work) (n : code.Tree) → IsStanding work n → IsSome (map.get work.trees.nodes n.number)
standing_lives work n h =
    let p = node_there work.trees.nodes work.symbols h.0 n.number h.1 in
    let q = map_some (λ (l : Lived). l.node) (map.get work.trees.nodes n.number) p.0 p.1 in
    ap (λ o. is_some o) q.1

-- the node that lives there is of the tree
pub node_of : (nodes : Nodes) (names : Names) (n : ℕ) (s : Shape) → shape_at nodes n ≡ Some s → (t : Tree Identifier) → Stands nodes names t n → IsNode nodes names s t
node_of nodes names n s at t h =
    let p = node_there nodes names t n h in
    subst (λ (x : Shape). IsNode nodes names x t) (same_Some p.0 s (sym p.1 ∙ at)) p.2

-- the same regions
pub regions_stay : (old new : Work) → SameRegions old new → (region : Region) → IsOpened old region → IsOpened new region
regions_stay old new same region h = (same.identity ∙ h.0, subst (λ (rs : Regions). IsSome (map.get rs region.in_pool.number)) (sym same.regions) h.1)

pub outlives_stay : (old new : Work) → SameRegions old new → (a b : ℕ) → Outlives old.trees.regions a b → Outlives new.trees.regions a b
outlives_stay old new same a b h = subst (λ (rs : Regions). Outlives rs a b) (sym same.regions) h

-- one more node
pub added_keeps : (old new : Work) (n : ℕ) (l : Lived) → IsPut old.trees.nodes new.trees.nodes n l → SameRegions old new → new.symbols ≡ old.symbols → KeepsTrees old new
added_keeps old new n l put same symbols =
    let keeps = put_keeps old.trees.nodes new.trees.nodes n l put in
    record {
      trees = λ m t h.
          subst (λ (names : Names). Stands new.trees.nodes names t m.number) (sym symbols)
          (stands_kept old.trees.nodes new.trees.nodes old.symbols old.symbols keeps (names_itself old.symbols) t m.number h);
      places = λ m r h. region_kept old.trees.nodes new.trees.nodes keeps m.number r h;
      regions = regions_stay old new same;
      outlives = outlives_stay old new same;
    }

pub added_stands : (old : Work) (nodes : Nodes) (n : ℕ) (l : Lived) (node : Node) → IsPut old.trees.nodes nodes n l → l.node ≡ shape_of node →
    (t : Tree Identifier) → IsNodeOf old node t → Stands nodes old.symbols t n
added_stands old nodes n l node put is t h =
    put_stands old.trees.nodes nodes old.symbols n l t put (subst (λ (s : Shape). IsNode old.trees.nodes old.symbols s t) (sym is) h)

-- the same nodes over more regions, or over regions that more outlive
pub regions_keep : (old new : Work) → new.trees.nodes ≡ old.trees.nodes → new.symbols ≡ old.symbols → KeepsOuters old.trees.regions new.trees.regions →
    ((region : Region) → IsOpened old region → IsOpened new region) → KeepsTrees old new
regions_keep old new nodes symbols keeps opened = record {
  trees = λ n t h. subst (λ (names : Names). Stands new.trees.nodes names t n.number) (sym symbols) (subst (λ (x : Nodes). Stands x old.symbols t n.number) (sym nodes) h);
  places = λ n r h. ap (λ (x : Nodes). option_map (λ (l : Lived). l.region) (map.get x n.number)) nodes ∙ h;
  regions = opened;
  outlives = λ a b h. outlives_kept old.trees.regions new.trees.regions a b keeps h;
}

-- regions that stay are open
pub still_open : (old new : Regions) → KeepsOuters old new → (r : ℕ) → IsSome (map.get old r) → IsSome (map.get new r)
still_open old new keeps r h =
    let p = holds (map.get old r) h in
    let q = keeps r p.0 p.1 in
    ap (λ o. is_some o) q.1

pub not_open : (regions : Regions) (r : ℕ) → map.get regions r ≡ None → IsSome (map.get regions r) → ⊥
not_open regions r none is = none_some (holds (map.get regions r) is).0 (sym none ∙ (holds (map.get regions r) is).1)

-- the same nodes with more room
pub spare_keeps : (old new : Work) → new.trees ≡ record old.trees { spare = new.trees.spare } → new.symbols ≡ old.symbols → KeepsTrees old new
spare_keeps old new same symbols =
    let regions : new.trees.regions ≡ old.trees.regions = ap (λ (f : Forest). f.regions) same in
    let identity : new.trees.identity ≡ old.trees.identity = ap (λ (f : Forest). f.identity) same in
    regions_keep old new (ap (λ (f : Forest). f.nodes) same) symbols
    (λ c outer at. (outer, ap (λ (rs : Regions). map.get rs c) regions ∙ at, λ b h. h))
    (λ region h. (identity ∙ h.0, subst (λ (rs : Regions). IsSome (map.get rs region.in_pool.number)) (sym regions) h.1))

-- ---- going back

pub lives_at : (nodes : Nodes) (n : ℕ) → IsSome (shape_at nodes n) → IsSome (map.get nodes n)
lives_at nodes n h =
    let s = holds (shape_at nodes n) h in
    let p = map_some (λ (l : Lived). l.node) (map.get nodes n) s.0 s.1 in
    ap (λ o. is_some o) p.1

-- where a region goes back, what stood and is left still stands
pub stands_back : (nodes : Nodes) (regions : Regions) (names : Names) (r count : ℕ) → IsClosed nodes regions → ArePartsFirst nodes → CanGoBack nodes r count →
    (t : Tree Identifier) (n : ℕ) → Stands nodes names t n → IsSome (map.get (back_to nodes r count) n) → Stands (back_to nodes r count) names t n
stands_back nodes regions names r count closed first can t n h live =
    stands_left nodes (back_to nodes r count) names (λ m l at. (left_was nodes r count m l at).0)
    (λ m l at.
    let was = (left_was nodes r count m l at).0 in
    all_both (MayName nodes regions l.region) (λ p. map.get (back_to nodes r count) p ≡ map.get nodes p) (λ p. IsSome (map.get (back_to nodes r count) p))
    (λ p named same.
    let q = map_some (λ (x : Lived). x.region) (map.get nodes p) named.0 named.1 in
    ap (λ o. is_some o) (same ∙ q.1))
    (parts_of l.node) (closed m l was) (parts_left nodes regions r count closed first can m l at))
    t n h live

-- what lies elsewhere is left
pub elsewhere_left : (nodes : Nodes) (r count n : ℕ) → IsSome (map.get nodes n) → (region_at nodes n ≢ Some r) → IsSome (map.get (back_to nodes r count) n)
elsewhere_left nodes r count n live ne = by_node (map.get nodes n) refl live
  where
    by_node : (o : Option Lived) → map.get nodes n ≡ o → IsSome o → IsSome (map.get (back_to nodes r count) n)
    by_node None e is = absurd cc
    by_node (Some l) e is = ap (λ o. is_some o) (stayed nodes r count n l e (elsewhere_stays r count l (λ same. ne (ap (option_map (λ (x : Lived). x.region)) e ∙ ap Some same))))

-- a region has at least as many nodes as a mark counted that still live
pub mark_reached : (nodes : Nodes) (r count had : ℕ) → HasRanks nodes r count → ((rank : ℕ) → rank < had → (n : ℕ) × (l : Lived) × (map.get nodes n ≡ Some l) × (l.region ≡ r) × (l.rank ≡ rank)) → had ≤ count
mark_reached nodes r count zero has reaches = omega arith
mark_reached nodes r count (suc k) has reaches =
    let p = reaches k (omega arith) in
    let lt = has.below p.0 p.1 p.2 p.3 in
    omega (arith, lt, p.4)

-- ---- nodes that were added to one region alone

pub only_adds : (old new : Work) (region : Region) → KeepsTrees old new → AddsIn old new region → OnlyAdds old.trees.nodes new.trees.nodes region.in_pool.number
only_adds old new region keeps adds = record {
  kept = λ n l at.
      let lies = keeps.places (record { number = n }) l.region (ap (option_map (λ (x : Lived). x.region)) at) in
      let now = map_some (λ (x : Lived). x.region) (map.get new.trees.nodes n) l.region lies in
      elim (adds n now.0 now.1) [
        | inl was ↦ now.1 ∙ sym was ∙ at
        | inr fresh ↦ none_some l (sym fresh.0 ∙ at)
      ];
  added = λ n l at.
      elim (adds n l at) [
        | inl was ↦ inl was
        | inr fresh ↦ inr fresh.1
      ];
}

pub still_reached : (before : Nodes) (now : Work) (region : Region) (mark : Mark) → HasRanks before region.in_pool.number mark.count → OnlyAdds before now.trees.nodes region.in_pool.number → Reaches now region mark
still_reached before now region mark has adds rank lt =
    let p = has.taken rank lt in
    (p.0, p.1, adds.kept p.0 p.1 p.2, p.3, p.4)

-- what is named by nodes elsewhere lived before
pub unnamed_since : (before now : Nodes) (regions : Regions) (r count : ℕ) → IsClosed before regions → HasRanks before r count → OnlyAdds before now r → CanGoBack now r count
unnamed_since before now regions r count closed has adds n l at ne =
    elim (adds.added n l at) [
      | inl was ↦
          all_map (MayName before regions l.region) (λ p. ¬ Goes now r count p)
          (λ p named goes.
          let x = map_some (λ (y : Lived). y.region) (map.get before p) named.0 named.1 in
          let same : x.0 ≡ goes.0 = same_Some x.0 goes.0 (sym (adds.kept p x.0 x.1) ∙ goes.1) in
          let lt = has.below p x.0 x.1 (ap (λ (y : Lived). y.region) same ∙ goes.2) in
          absurd (omega (arith, lt, ap (λ (y : Lived). y.rank) same, goes.3)))
          (parts_of l.node) (closed n l was)
      | inr in_r ↦ absurd (ne in_r)
    ]
