-- Adding a node to the table.
use Rattle.std.proofs.Common.{◌≡◌, ℕ, ◌^◌, ◌<◌, ◌≤◌, Option, Some, refl, sym, ap, ◌∙◌, subst, inl, inr, arith}
use Rattle.std.specs.Prelude.{IsSome, is_some}
use Rattle.std.specs.List.{AllByRecursion}
use Rattle.std.specs.Option.{option_map}
use Rattle.std.specs.Ordering.{nat_cmp}
use Rattle.std.specs.FinMap as map
use Rattle.node_pool.specs.NodePool as pool
use Rattle.node_pool.specs.Pools.{HasRanks}
use Rattle.scheme_model.specs.Trees.{Tree}
use Rattle.scheme_model.specs.Measures.{tree_size, tree_depth}
use Rattle.scheme_model.specs.Ident.{Ident as Identifier}
use Rattle.ls_base.specs.Limits.{max_tree_nodes, max_tree_depth}
use Rattle.syntax_tree.specs.Names.{Names}
use Rattle.syntax_tree.specs.Nodes.{Shape, Lived, Nodes, parts_of, IsPut}
use Rattle.syntax_tree.specs.Regions.{Regions, MayName, MayNameParts}
use Rattle.syntax_tree.specs.Standing.{Stands, IsNode}
use Rattle.syntax_tree.specs.Kept.{shape_of, KeptNodes, lived_as, nodes_of, AllLive, size_at, depth_at, shape_size, shape_depth, AreKept, IsTable}
use Rattle.syntax_tree.specs.Added.{FitsInto}
use Rattle.syntax_tree.specs.declared.trees.measures.Kept.{Kept}
use Rattle.syntax_tree.proofs.Places.{none_some}
use Rattle.syntax_tree.proofs.SeenLaws.{found_seen}
use Rattle.syntax_tree.proofs.NodeLaws.{map_some, put_there, put_keeps, put_cases, put_seen, lived_at, is_kept}
use Rattle.syntax_tree.proofs.PartLaws.{size-read, depth-read}
use Rattle.syntax_tree.proofs.StandingLaws.{names_itself, node_stands, node_kept}
use Rattle.syntax_tree.proofs.RegionLaws.{all_map, KeepsOuters, outlives_kept, closed_regions, closed_put, first_put}
use Rattle.syntax_tree.proofs.KeptLaws.{node_measured, measured, IsSame, size_stays, depth_stays}

-- a node that may be added can be measured
pub record CanMeasure (ns : KeptNodes) (s : Shape) : Type 0 where
  pub size : shape_size (size_at ns) s < 2 ^ 32
  pub depth : shape_depth (depth_at ns) s < 2 ^ 32
  pub small : (shape_size (size_at ns) s ≤ max_tree_nodes) × (shape_depth (depth_at ns) s ≤ max_tree_depth)

pub can_measure : (ns : KeptNodes) (nodes : Nodes) (s : Shape) → AreKept ns → nodes_of ns ≡ nodes → FitsInto nodes s → CanMeasure ns s
can_measure ns nodes s kept view fits =
    let h = subst (λ (x : Nodes). FitsInto x s) (sym view) fits in
    let m = node_measured ns kept h.0 s h.1.0 h.1.1 in
    record {
      size = omega (arith, m.size, h.1.2);
      depth = omega (arith, m.depth, h.1.3);
      small = (omega (arith, m.size, h.1.2), omega (arith, m.depth, h.1.3));
    }

-- at a part's number a node lives
pub parts_live : (ns : KeptNodes) (regions : Regions) (r : ℕ) (s : Shape) → MayNameParts (nodes_of ns) regions r s → AllLive ns (parts_of s)
parts_live ns regions r s names =
    all_map (MayName (nodes_of ns) regions r) (λ n. IsSome (map.get ns n))
    (λ n named.
    let p = map_some (λ (x : Lived). x.region) (map.get (nodes_of ns) n) named.0 named.1 in
    let q = found_seen lived_as ns n p.0 p.1 in
    ap (λ o. is_some o) q.1)
    (parts_of s) names

-- what is kept at a number that stands is of its tree
pub size_kept : (ns : KeptNodes) (nodes : Nodes) (n : ℕ) (k : Kept) → AreKept ns → nodes_of ns ≡ nodes → option_map (λ (l : pool.Lived Kept). l.node) (map.get ns n) ≡ Some k →
    (names : Names) (t : Tree Identifier) → Stands nodes names t n → k.size ≡ tree_size t
size_kept ns nodes n k kept view at names t h =
    sym (size-read ns n k at) ∙ (measured ns kept names t n (subst (λ (x : Nodes). Stands x names t n) (sym view) h)).size

pub depth_kept : (ns : KeptNodes) (nodes : Nodes) (n : ℕ) (k : Kept) → AreKept ns → nodes_of ns ≡ nodes → option_map (λ (l : pool.Lived Kept). l.node) (map.get ns n) ≡ Some k →
    (names : Names) (t : Tree Identifier) → Stands nodes names t n → k.depth ≡ tree_depth t
depth_kept ns nodes n k kept view at names t h =
    sym (depth-read ns n k at) ∙ (measured ns kept names t n (subst (λ (x : Nodes). Stands x names t n) (sym view) h)).depth

-- the node that is kept there lives there
pub node_read : (ns : KeptNodes) (nodes : Nodes) (n : ℕ) (k : Kept) → nodes_of ns ≡ nodes → option_map (λ (l : pool.Lived Kept). l.node) (map.get ns n) ≡ Some k →
    (l : Lived) × (map.get nodes n ≡ Some l) × (l.node ≡ shape_of k.node)
node_read ns nodes n k view at =
    let p = map_some (λ (l : pool.Lived Kept). l.node) (map.get ns n) k at in
    (lived_as n p.0, ap (λ (x : Nodes). map.get x n) (sym view) ∙ lived_at ns n p.0 p.1, ap (λ (x : Kept). shape_of x.node) p.2)

-- ---- the table with one node more

module _ (old new : KeptNodes) (regions : Regions) (n : ℕ) (k : pool.Lived Kept) (table : IsTable old regions) (put : IsPut old new n k)
    (names : MayNameParts (nodes_of old) regions k.region (shape_of k.node.node)) where
  parts_same : (r : ℕ) (s : Shape) → MayNameParts (nodes_of old) regions r s → AllByRecursion (IsSame old new) (parts_of s)
  parts_same r s h =
      all_map (MayName (nodes_of old) regions r) (IsSame old new)
      (λ p named.
      let was = map_some (λ (x : Lived). x.region) (map.get (nodes_of old) p) named.0 named.1 in
      let had = found_seen lived_as old p was.0 was.1 in
      put_keeps old new n k put p had.0 had.1 ∙ sym had.1)
      (parts_of s) h

  stay : (m : ℕ) (x : pool.Lived Kept) → map.get old m ≡ Some x → AllByRecursion (IsSame old new) (parts_of (shape_of x.node.node))
  stay m x was = parts_same x.region (shape_of x.node.node) (table.closed m (lived_as m x) (lived_at old m x was))

  pub table_put : k.node.size ≡ shape_size (size_at old) (shape_of k.node.node) → k.node.depth ≡ shape_depth (depth_at old) (shape_of k.node.node) → (k.node.size ≤ max_tree_nodes) × (k.node.depth ≤ max_tree_depth) →
      HasRanks (nodes_of old) k.region k.rank → IsTable new regions
  table_put size depth small ranks = record {
    kept = record {
      sizes = λ m x at. elim (put_cases old new n k put m x at) as (λ _. x.node.size ≡ shape_size (size_at new) (shape_of x.node.node)) [
        | inl was ↦ table.kept.sizes m x was ∙ size_stays old new (shape_of x.node.node) (stay m x was)
        | inr is ↦ subst (λ (y : pool.Lived Kept). y.node.size ≡ shape_size (size_at new) (shape_of y.node.node)) (sym is.1) (size ∙ size_stays old new (shape_of k.node.node) (parts_same k.region (shape_of k.node.node) names))
      ];
      depths = λ m x at. elim (put_cases old new n k put m x at) as (λ _. x.node.depth ≡ shape_depth (depth_at new) (shape_of x.node.node)) [
        | inl was ↦ table.kept.depths m x was ∙ depth_stays old new (shape_of x.node.node) (stay m x was)
        | inr is ↦ subst (λ (y : pool.Lived Kept). y.node.depth ≡ shape_depth (depth_at new) (shape_of y.node.node)) (sym is.1) (depth ∙ depth_stays old new (shape_of k.node.node) (parts_same k.region (shape_of k.node.node) names))
      ];
      small = λ m x at. elim (put_cases old new n k put m x at) as (λ _. (x.node.size ≤ max_tree_nodes) × (x.node.depth ≤ max_tree_depth)) [
        | inl was ↦ table.kept.small m x was
        | inr is ↦ subst (λ (y : pool.Lived Kept). (y.node.size ≤ max_tree_nodes) × (y.node.depth ≤ max_tree_depth)) (sym is.1) small
      ];
    };
    closed = closed_put (nodes_of old) (nodes_of new) regions n (lived_as n k) table.closed (put_seen old new n k put) names;
    first = first_put (nodes_of old) (nodes_of new) regions n (lived_as n k) table.first table.closed (put_seen old new n k put) names ranks;
  }

-- the new number stands for the node's tree
pub put_stands : (old new : Nodes) (names : Names) (n : ℕ) (l : Lived) (t : Tree Identifier) → IsPut old new n l → IsNode old names l.node t → Stands new names t n
put_stands old new names n l t put h =
    node_stands new names l.node t n (ap (option_map (λ (x : Lived). x.node)) (put_there old new n l put)) (node_kept old new names names (put_keeps old new n l put) (names_itself names) l.node t h)

-- ---- the table without nodes

nothing : {P : Type 0} (n : ℕ) (k : pool.Lived Kept) → map.get (map.empty {R = nat_cmp}) n ≡ Some k → P
nothing n k at = none_some k (sym (map.get-empty nat_cmp n) ∙ at)

pub empty_table : (regions : Regions) → IsTable map.empty regions
empty_table regions = record {
  kept = record { sizes = λ n k at. nothing n k at; depths = λ n k at. nothing n k at; small = λ n k at. nothing n k at };
  closed = λ n l at. let k = found_seen lived_as map.empty n l at in nothing n k.0 k.1;
  first = λ n l at. let k = found_seen lived_as map.empty n l at in nothing n k.0 k.1;
}

-- ---- the same nodes over other regions

pub table_over : (ns : KeptNodes) (before after : Regions) → IsTable ns before → KeepsOuters before after → IsTable ns after
table_over ns before after table keeps = record {
  kept = table.kept;
  closed = closed_regions (nodes_of ns) before after table.closed (λ a b h. outlives_kept before after a b keeps h);
  first = table.first;
}

pub kept_lives : (ns : KeptNodes) (nodes : Nodes) (n : ℕ) → nodes_of ns ≡ nodes → IsSome (map.get nodes n) → IsSome (map.get ns n)
kept_lives ns nodes n view h =
    let p = is_kept ns n (subst (λ (x : Nodes). IsSome (map.get x n)) (sym view) h) in
    ap (λ o. is_some o) p.1
