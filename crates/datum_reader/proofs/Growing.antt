-- What added nodes and names leave, and how that adds up.
use Rattle.std.proofs.Common.{◌≡◌, ℕ, ◌+◌, ◌^◌, ◌<◌, ◌≤◌, List, [], ◌∷◌, Option, Some, None, Result, Ok, Err, refl, sym, ap, ◌∙◌, subst, inl, inr, arith}
use Rattle.std.specs.Prelude.{Vec, IsErrAnd}
use Rattle.std.specs.List.{AllByRecursion}
use Rattle.std.specs.Option.{option_map}
use Rattle.std.specs.FinMap as map
use Rattle.std.specs.declared.alloc.Global.{Global}
use Rattle.ls_base.specs.declared.memory.Memory.{Memory}
use Rattle.scheme_model.specs.Trees.{Tree, Trees, no_trees, tree}
use Rattle.scheme_model.specs.Measures.{tree_size, trees_size}
use Rattle.scheme_model.specs.Ident.{Ident as Identifier}
use Rattle.syntax_tree.specs.Names.{Names, KeepsNames}
use Rattle.syntax_tree.specs.Nodes.{Lived, IsPut}
use Rattle.syntax_tree.specs.Regions.{itself, MayName}
use Rattle.syntax_tree.specs.Interned.{interned, all_interned}
use Rattle.syntax_tree.specs.Standing.{AllStand}
use Rattle.syntax_tree.specs.Works.{StandsFor, IsNodeOf, LiesIn, KeepsTrees, SameRegions, AddsIn, live_count, lived_in, with_names}
use Rattle.syntax_tree.specs.declared.trees.nodes.Node.{Node}
use Rattle.syntax_tree.specs.declared.trees.Work.{Work}
use Rattle.syntax_tree.specs.declared.trees.nodes.Tree as code
use Rattle.syntax_tree.specs.declared.trees.table.Region.{Region}
use Rattle.syntax_tree.specs.declared.trees.faults.PoolFault.{PoolFault}
use Rattle.syntax_tree.specs.declared.trees.faults.PoolFault.TheVariants as fault
use Rattle.syntax_tree.proofs.NodeLaws.{put_cases}
use Rattle.syntax_tree.proofs.WorkLaws.{names_keep}
use Rattle.syntax_tree.proofs.InternLaws.{interned_keeps}
use Rattle.datum_reader.specs.Seeding.{Grows, Adds, Begins, Fails, Seeds, SeedsAll, Prepares, Interns, AllLie}

pub names_itself : (a : Names) → KeepsNames a a
names_itself a = record { symbols = λ n s h. h; idents = λ n i h. h }

pub names_on : (a b c : Names) → KeepsNames a b → KeepsNames b c → KeepsNames a c
names_on a b c p q = record { symbols = λ n s h. q.symbols n s (p.symbols n s h); idents = λ n i h. q.idents n i (p.idents n i h) }

pub trees_on : (a b c : Work) → KeepsTrees a b → KeepsTrees b c → KeepsTrees a c
trees_on a b c p q = record {
  trees = λ n t h. q.trees n t (p.trees n t h);
  places = λ n r h. q.places n r (p.places n r h);
  regions = λ r h. q.regions r (p.regions r h);
  outlives = λ x y h. q.outlives x y (p.outlives x y h);
}

clash : {P : Type 0} {A : Type 0} (x : A) → None ≡ Some x → P
clash x h = absurd cc

-- where none lived later, none lived before
free_before : (a b : Work) → KeepsTrees a b → (n : ℕ) → map.get b.trees.nodes n ≡ None → map.get a.trees.nodes n ≡ None
free_before a b keeps n none = before (map.get a.trees.nodes n) refl
  where
    before : (o : Option Lived) → map.get a.trees.nodes n ≡ o → map.get a.trees.nodes n ≡ None
    before None at = at
    before (Some l) at =
        let there = keeps.places (record { number = n }) l.region (ap (option_map (λ (x : Lived). x.region)) at) in
        clash l.region (ap (option_map (λ (x : Lived). x.region)) (sym none) ∙ there)

added_on : (a b c : Work) (region : Region) → KeepsTrees a b → AddsIn a b region → AddsIn b c region → AddsIn a c region
added_on a b c region keeps p q n l at =
    elim (q n l at) [
      | inl was ↦ p n l was
      | inr new ↦ inr (free_before a b keeps n new.0, new.1)
    ]

-- ---- growing

pub grows_itself : (w : Work) (region : Region) → Grows w w region
grows_itself w region = record {
  trees = record { trees = λ n t h. h; places = λ n r h. h; regions = λ r h. h; outlives = λ x y h. h };
  names = names_itself w.symbols;
  added = λ n l h. inl h;
  regions = record { identity = refl; regions = refl };
}

pub grows_on : (a b c : Work) (region : Region) → Grows a b region → Grows b c region → Grows a c region
grows_on a b c region p q = record {
  trees = trees_on a b c p.trees q.trees;
  names = names_on a.symbols b.symbols c.symbols p.names q.names;
  added = added_on a b c region p.trees p.added q.added;
  regions = record { identity = q.regions.identity ∙ p.regions.identity; regions = q.regions.regions ∙ p.regions.regions };
}

-- names were added
pub grows_names : (w : Work) (names : Names) (region : Region) → KeepsNames w.symbols names → Grows w (with_names w names) region
grows_names w names region keeps = record { trees = names_keep w names keeps; names = keeps; added = λ n l h. inl h; regions = record { identity = refl; regions = refl } }

-- a node was added
pub grows_put : (a b : Work) (region : Region) (node : Node) (n : ℕ) → KeepsTrees a b → SameRegions a b → b.symbols ≡ a.symbols → IsPut a.trees.nodes b.trees.nodes n (lived_in a region node) → Grows a b region
grows_put a b region node n keeps same symbols put = record {
  trees = keeps;
  names = subst (λ (names : Names). KeepsNames a.symbols names) (sym symbols) (names_itself a.symbols);
  added = λ m l at.
      elim (put_cases a.trees.nodes b.trees.nodes n (lived_in a region node) put m l at) [
        | inl was ↦ inl was
        | inr is ↦ inr (ap (map.get a.trees.nodes) is.0 ∙ put.free, ap (λ (x : Lived). x.region) is.1)
      ];
  regions = same;
}

-- what stands still stands, and lies where it lay
pub all_kept : (a b : Work) → KeepsTrees a b → (ts : Trees Identifier) (ns : List ℕ) → AllStand a.trees.nodes a.symbols ts ns → AllStand b.trees.nodes b.symbols ts ns
all_kept a b keeps no_trees [] h = tt
all_kept a b keeps no_trees (n ∷ ns) h = h
all_kept a b keeps (tree t ts) [] h = h
all_kept a b keeps (tree t ts) (n ∷ ns) h = (keeps.trees (record { number = n }) t h.0, all_kept a b keeps ts ns h.1)

pub lie_kept : (a b : Work) (region : Region) → KeepsTrees a b → (ns : List ℕ) → AllLie a region ns → AllLie b region ns
lie_kept a b region keeps [] h = tt
lie_kept a b region keeps (n ∷ ns) h = (keeps.places (record { number = n }) region.in_pool.number h.0, lie_kept a b region keeps ns h.1)

-- nodes of the region may name what lies in it
pub may_name : (w : Work) (region : Region) (ns : List ℕ) → AllLie w region ns → AllByRecursion (MayName w.trees.nodes w.trees.regions region.in_pool.number) ns
may_name w region [] h = tt
may_name w region (n ∷ ns) h = ((region.in_pool.number, h.0, itself), may_name w region ns h.1)

-- ---- faults

pub fails_more : (a b : Work) (done part most : ℕ) (e : PoolFault) → live_count b ≡ live_count a + done → done + part ≤ most → Fails b part e → Fails a most e
fails_more a b done part most fault.Full count fits h = omega (arith, h, count, fits)
fails_more a b done part most fault.Memory count fits h = tt

-- a part failed, after others were added
pub begins_on : (a b c : Work) (region : Region) (before names total : Names) (done part most : ℕ) → Adds a b region before done → Begins b c region names part → KeepsNames names total → done + part ≤ most →
    Begins a c region total most
begins_on a b c region before names total done part most p q keeps fits = record {
  grows = grows_on a b c region p.grows q.grows;
  names = names_on c.symbols names total q.names keeps;
  nodes = omega (arith, p.nodes, q.nodes, fits);
}

-- all was added, and then memory ran out
pub adds_only : (a b : Work) (region : Region) (names total : Names) (count most : ℕ) → Adds a b region names count → KeepsNames names total → count < most → Begins a b region total most
adds_only a b region names total count most p keeps fits = record {
  grows = p.grows;
  names = subst (λ (n : Names). KeepsNames n total) (sym p.names) keeps;
  nodes = omega (arith, p.nodes, fits);
}

-- ---- a tree's outermost node, after its parts

module _ (a b : Work) (region : Region) (t : Tree Identifier) (node : Node) (h : Prepares a b region t (Ok node)) where
  -- it was added
  pub put_last : (c : Work) (n : code.Tree) → KeepsTrees b c → SameRegions b c → c.symbols ≡ b.symbols → IsPut b.trees.nodes c.trees.nodes n.number (lived_in b region node) →
      live_count c ≡ live_count b + 1 → StandsFor c n t → LiesIn c region n → Seeds a c region t (Ok n)
  put_last c n keeps same symbols put more stands lies = (
    record {
      grows = grows_on a b c region h.2.grows (grows_put b c region node n.number keeps same symbols put);
      names = symbols ∙ h.2.names;
      nodes = omega (arith, more, h.2.nodes, h.1);
    },
    stands,
    lies,
  )

  -- there was no room
  pub not_put : (c : Work) (e : PoolFault) → c ≡ b → (e ≡ fault.Full → live_count b ≡ 2 ^ 31) → Seeds a c region t (Err e)
  not_put c e same full = (
    subst (λ (w : Work). Begins a w region (interned t a.symbols) (tree_size t)) (sym same)
        (adds_only a b region (interned t a.symbols) (interned t a.symbols) h.0 (tree_size t) h.2 (names_itself (interned t a.symbols)) (omega (arith, h.1))),
    reason e full,
  )
    where
      reason : (e : PoolFault) → (e ≡ fault.Full → live_count b ≡ 2 ^ 31) → Fails a (tree_size t) e
      reason fault.Full full = let room : live_count b ≡ 2 ^ 31 = full refl in omega (arith, room, h.2.nodes, h.1)
      reason fault.Memory full = tt

-- ---- a fault that is handed on

pub handed_on : (a c : Work) (region : Region) (t : Tree Identifier) (r : Result code.Tree PoolFault) (e : PoolFault) → IsErrAnd r (λ f. f ≡ e) → Seeds a c region t (Err e) → Seeds a c region t r
handed_on a c region t (Ok n) e h p = absurd h
handed_on a c region t (Err f) e h p = (p.0, subst (Fails a (tree_size t)) (sym h) p.1)

pub node_handed_on : (a c : Work) (region : Region) (t : Tree Identifier) (r : Result Node PoolFault) (e : PoolFault) → IsErrAnd r (λ f. f ≡ e) → Prepares a c region t (Err e) → Prepares a c region t r
node_handed_on a c region t (Ok n) e h p = absurd h
node_handed_on a c region t (Err f) e h p = (p.0, subst (Fails a (tree_size t)) (sym h) p.1)

pub all_handed_on : (a c : Work) (region : Region) (ts : Trees Identifier) (r : Result (Vec code.Tree Global) PoolFault) (e : PoolFault) → IsErrAnd r (λ f. f ≡ e) →
    Begins a c region (all_interned ts a.symbols) (trees_size ts + 1) × Fails a (trees_size ts) e → SeedsAll a c region ts r
all_handed_on a c region ts (Ok v) e h p = absurd h
all_handed_on a c region ts (Err f) e h p = (p.0, subst (Fails a (trees_size ts)) (sym h) p.1)

-- a node of one tree is of the same tree
pub node_of : (w : Work) (node : Node) (t u : Tree Identifier) → u ≡ t → IsNodeOf w node t → IsNodeOf w node u
node_of w node t u e h = subst (λ (x : Tree Identifier). IsNodeOf w node x) (sym e) h

-- ---- leaves

-- a leaf's node was made, and its names were added
pub leaf_prepared : (w : Work) (names : Names) (region : Region) (t u : Tree Identifier) (node : Node) → u ≡ t → 0 + 1 ≡ tree_size u → KeepsNames w.symbols names → Interns w.symbols names t (Ok node) →
    Prepares w (with_names w names) region u (Ok node)
leaf_prepared w names region t u node same size keeps h =
    let made = with_names w names in (
      0,
      size,
      record { grows = grows_names w names region keeps; names = h.1 ∙ ap (λ (x : Tree Identifier). interned x w.symbols) (sym same); nodes = omega arith },
      subst (λ (x : Tree Identifier). IsNodeOf made node x) (sym same) (h.0.tree w.trees.nodes),
      subst (λ (ns : List ℕ). AllByRecursion (MayName made.trees.nodes made.trees.regions region.in_pool.number) ns) (sym h.0.alone) tt,
    )

pub leaf_failed : (w : Work) (names : Names) (region : Region) (t u : Tree Identifier) (e : Memory) → u ≡ t → 0 + 1 ≡ tree_size u → Interns w.symbols names t (Err e) →
    Prepares w (with_names w names) region u (Err fault.Memory)
leaf_failed w names region t u e same size h = (
  record {
    grows = grows_names w names region h.0;
    names = subst (λ (x : Tree Identifier). KeepsNames names (interned x w.symbols)) (sym same) h.1;
    nodes = omega (arith, size);
  },
  tt,
)

-- what interning leaves keeps its names
pub interns_keep : (old new : Names) (t : Tree Identifier) (r : Result Node Memory) → Interns old new t r → KeepsNames old new
interns_keep old new t (Ok node) h = subst (λ (n : Names). KeepsNames old n) (sym h.1) (interned_keeps t old)
interns_keep old new t (Err e) h = h.0
