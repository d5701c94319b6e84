-- The outermost node of a tree, behind the trees of its parts.
use Rattle.std.proofs.Common.{◌≡◌, ℕ, ◌+◌, List, ◌∷◌, Option, Some, None, Ok, Err, sym, ap, ◌∙◌, subst, arith}
use Rattle.std.specs.Prelude.{Vec}
use Rattle.std.specs.List.{AllByRecursion}
use Rattle.std.specs.Option.{option_map}
use Rattle.std.specs.declared.alloc.Global.{Global}
use Rattle.scheme_model.specs.declared.Occ.{Occ}
use Rattle.scheme_model.specs.Trees.{Tree, list, vector, Trees, Tail}
use Rattle.scheme_model.specs.Measures.{tree_size, trees_size, tail_size}
use Rattle.scheme_model.specs.Ident.{Ident as Identifier}
use Rattle.syntax_tree.specs.Names.{Names, KeepsNames}
use Rattle.syntax_tree.specs.Interned.{interned, all_interned, tail_interned}
use Rattle.syntax_tree.specs.Nodes.{list_shape, parts_of}
use Rattle.syntax_tree.specs.Regions.{MayName}
use Rattle.syntax_tree.specs.Standing.{AllStand, TailStands}
use Rattle.syntax_tree.specs.Kept.{numbers}
use Rattle.syntax_tree.specs.declared.trees.Work.{Work}
use Rattle.syntax_tree.specs.declared.trees.nodes.Tree as code
use Rattle.syntax_tree.specs.declared.trees.nodes.Node.TheVariants as node
use Rattle.syntax_tree.specs.declared.trees.table.Region.{Region}
use Rattle.syntax_tree.specs.declared.trees.faults.PoolFault.{PoolFault}
use Rattle.syntax_tree.proofs.InternLaws.{tail_interned_keeps}
use Rattle.datum_reader.specs.Seeding.{Adds, Begins, Fails, Prepares, AllLie, tail_numbers}
use Rattle.datum_reader.proofs.Growing.{grows_on, fails_more, may_name, all_kept, lie_kept, names_on}

module _ (a b : Work) (region : Region) (ts : Trees Identifier) (o : Option Occ) (whole : Tree Identifier) (is : whole ≡ vector ts o) where
  pub vector_failed : (e : PoolFault) → Begins a b region (all_interned ts a.symbols) (trees_size ts + 1) × Fails a (trees_size ts) e → Prepares a b region whole (Err e)
  vector_failed e h =
      subst (λ (t : Tree Identifier). Begins a b region (interned t a.symbols) (tree_size t) × Fails a (tree_size t) e) (sym is) (
        record { grows = h.0.grows; names = h.0.names; nodes = omega (arith, h.0.nodes) },
        fails_more a a 0 (trees_size ts) (1 + trees_size ts) e (omega arith) (omega arith) h.1,
      )

  pub vector_prepared : (items : Vec code.Tree Global) → Adds a b region (all_interned ts a.symbols) (trees_size ts) → AllStand b.trees.nodes b.symbols ts (numbers items.items) → AllLie b region (numbers items.items) →
      Prepares a b region whole (Ok (node.Vector items o))
  vector_prepared items h stand lie =
      let size : trees_size ts + 1 ≡ tree_size whole = let e = ap (λ (t : Tree Identifier). tree_size t) is in omega (arith, e) in (
        trees_size ts,
        size,
        record { grows = h.grows; names = h.names ∙ ap (λ (t : Tree Identifier). interned t a.symbols) (sym is); nodes = h.nodes },
        (ts, is, stand),
        may_name b region (numbers items.items) lie,
      )

-- nodes of the region may name the parts and the tail of a list
list_names : (w : Work) (region : Region) (items : List ℕ) (end : Option code.Tree) (o : Option Occ) → AllLie w region items → AllLie w region (tail_numbers end) →
    AllByRecursion (MayName w.trees.nodes w.trees.regions region.in_pool.number) (parts_of (list_shape items (option_map (λ (t : code.Tree). t.number) end) o))
list_names w region items None o h k = may_name w region items h
list_names w region items (Some n) o h k = may_name w region (n.number ∷ items) (k.0, h)

module _ (a b : Work) (region : Region) (ts : Trees Identifier) (tail : Tail Identifier) (o : Option Occ) (whole : Tree Identifier) (is : whole ≡ list ts tail o) where
  pub parts_failed : (e : PoolFault) → Begins a b region (all_interned ts a.symbols) (trees_size ts + 1) × Fails a (trees_size ts) e → Prepares a b region whole (Err e)
  parts_failed e h =
      subst (λ (t : Tree Identifier). Begins a b region (interned t a.symbols) (tree_size t) × Fails a (tree_size t) e) (sym is) (
        record {
          grows = h.0.grows;
          names = names_on b.symbols (all_interned ts a.symbols) (tail_interned tail (all_interned ts a.symbols)) h.0.names (tail_interned_keeps tail (all_interned ts a.symbols));
          nodes = omega (arith, h.0.nodes);
        },
        fails_more a a 0 (trees_size ts) (1 + (trees_size ts + tail_size tail)) e (omega arith) (omega arith) h.1,
      )

  module _ (c : Work) (h : Adds a b region (all_interned ts a.symbols) (trees_size ts)) where
    together : tail_interned tail b.symbols ≡ tail_interned tail (all_interned ts a.symbols)
    together = ap (tail_interned tail) h.names

    pub tail_failed : (e : PoolFault) → Begins b c region (tail_interned tail b.symbols) (tail_size tail + 1) × Fails b (tail_size tail) e → Prepares a c region whole (Err e)
    tail_failed e k =
        subst (λ (t : Tree Identifier). Begins a c region (interned t a.symbols) (tree_size t) × Fails a (tree_size t) e) (sym is) (
          record {
            grows = grows_on a b c region h.grows k.0.grows;
            names = subst (λ (n : Names). KeepsNames c.symbols n) together k.0.names;
            nodes = omega (arith, h.nodes, k.0.nodes);
          },
          fails_more a b (trees_size ts) (tail_size tail) (1 + (trees_size ts + tail_size tail)) e h.nodes (omega arith) k.1,
        )

    pub list_prepared : (items : Vec code.Tree Global) (end : Option code.Tree) → AllStand b.trees.nodes b.symbols ts (numbers items.items) → AllLie b region (numbers items.items) →
        Adds b c region (tail_interned tail b.symbols) (tail_size tail) → TailStands c.trees.nodes c.symbols tail (option_map (λ (t : code.Tree). t.number) end) → AllLie c region (tail_numbers end) →
        Prepares a c region whole (Ok (node.List items end o))
    list_prepared items end stand lie k tail_stands tail_lies =
        let size : trees_size ts + tail_size tail + 1 ≡ tree_size whole = let e = ap (λ (t : Tree Identifier). tree_size t) is in omega (arith, e) in
        let kept = all_kept b c k.grows.trees ts (numbers items.items) stand in
        let here = lie_kept b c region k.grows.trees (numbers items.items) lie in (
          trees_size ts + tail_size tail,
          size,
          record {
            grows = grows_on a b c region h.grows k.grows;
            names = k.names ∙ together ∙ ap (λ (t : Tree Identifier). interned t a.symbols) (sym is);
            nodes = omega (arith, h.nodes, k.nodes);
          },
          (ts, tail, is, kept, tail_stands),
          list_names c region (numbers items.items) end o here tail_lies,
        )
