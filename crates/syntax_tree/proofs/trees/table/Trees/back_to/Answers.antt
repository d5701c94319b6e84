use Rattle.std.proofs.Common.{◌≤◌, sym, ap, subst, ◌∙◌, arith}
use Rattle.std.specs.Prelude.{IsSome}
use Rattle.std.specs.FinMap as map
use Rattle.syntax_tree.specs.Nodes.{back_to}
use Rattle.syntax_tree.specs.Regions.{Forest, Regions, count_at, CanGoBack}
use Rattle.syntax_tree.specs.Kept.{KeptNodes, nodes_of, regions_of, IsTable}
use Rattle.syntax_tree.proofs.NodeLaws.{back_seen, count_seen}
use Rattle.syntax_tree.proofs.OuterLaws.{is_open, counted_again}
use Rattle.syntax_tree.proofs.EndLaws.{table_back}
use Rattle.syntax_tree.proofs.trees.table.Trees.back_to.Goals as goal

pub back_to-requires-clause-region : goal.back_to-requires-clause-region
back_to-requires-clause-region c =
    let r = c.args.region.now.in_pool.number in (
      ap (λ (f : Forest). f.identity) c.self.view_is ∙ c.requires.region.0,
      is_open c.self.inside.outers.items c.self.inside.pool.regions r (subst (λ (f : Forest). IsSome (map.get f.regions r)) (sym c.self.view_is) c.requires.region.1),
    )

pub back_to-requires-clause-mark : goal.back_to-requires-clause-mark
back_to-requires-clause-mark c = subst (λ (f : Forest). c.args.mark.count ≤ count_at f c.args.region.now.in_pool.number) (sym c.self.view_is) c.requires.mark

pub invariant_of-self : goal.invariant_of-self
invariant_of-self c =
    let ns = c.self.inside.pool.nodes in
    let vs = c.self.inside.outers.items in
    let counts = c.self.inside.pool.regions in
    let r = c.args.region.now.in_pool.number in
    let is = is_open vs counts r (subst (λ (f : Forest). IsSome (map.get f.regions r)) (sym c.self.view_is) c.requires.region.1) in
    let can = subst (λ (f : Forest). CanGoBack f.nodes r c.args.mark.count) (sym c.self.view_is) c.requires.unnamed in
    let same = ap (regions_of vs) c.back_to.ensures.regions ∙ counted_again vs counts r c.args.mark.count is in
    subst (λ (x : KeptNodes). IsTable x (regions_of vs c.back_to.new.self.regions)) (sym c.back_to.ensures.nodes)
    (subst (λ (rs : Regions). IsTable (back_to ns r c.args.mark.count) rs) (sym same) (table_back ns (regions_of vs counts) c.self.invariant r c.args.mark.count can))

pub returns-clause-nodes : goal.returns-clause-nodes
returns-clause-nodes c =
    let r = c.args.region.now.in_pool.number in
    ap (λ (x : KeptNodes). nodes_of x) c.back_to.ensures.nodes ∙ back_seen c.self.inside.pool.nodes r c.args.mark.count ∙ ap (λ (f : Forest). back_to f.nodes r c.args.mark.count) c.self.view_is

pub returns-clause-regions : goal.returns-clause-regions
returns-clause-regions c =
    let vs = c.self.inside.outers.items in
    let counts = c.self.inside.pool.regions in
    let r = c.args.region.now.in_pool.number in
    let is = is_open vs counts r (subst (λ (f : Forest). IsSome (map.get f.regions r)) (sym c.self.view_is) c.requires.region.1) in
    ap (regions_of vs) c.back_to.ensures.regions ∙ counted_again vs counts r c.args.mark.count is ∙ ap (λ (f : Forest). f.regions) c.self.view_is

pub returns-clause-counts : goal.returns-clause-counts
returns-clause-counts c = c.back_to.ensures.regions ∙ ap (λ (f : Forest). map.insert f.counts c.args.region.now.in_pool.number c.args.mark.count) c.self.view_is

pub returns-clause-live : goal.returns-clause-live
returns-clause-live c =
    let live = ap (λ (f : Forest). map.len f.nodes) c.self.view_is in
    let count = ap (λ (f : Forest). count_at f c.args.region.now.in_pool.number) c.self.view_is in
    omega (arith, live, count, count_seen c.self.inside.pool.nodes, count_seen c.back_to.new.self.nodes, c.back_to.ensures.live)

pub returns-clause-room : goal.returns-clause-room
returns-clause-room c =
    let live = ap (λ (f : Forest). map.len f.nodes) c.self.view_is in
    let spare = ap (λ (f : Forest). f.spare) c.self.view_is in
    omega (arith, live, spare, count_seen c.self.inside.pool.nodes, count_seen c.back_to.new.self.nodes, c.back_to.ensures.room)
