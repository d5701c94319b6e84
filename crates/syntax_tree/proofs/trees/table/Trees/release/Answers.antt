use Rattle.std.proofs.Common.{sym, ap, subst, ◌∙◌, arith}
use Rattle.std.specs.Prelude.{IsSome}
use Rattle.std.specs.FinMap as map
use Rattle.syntax_tree.specs.Nodes.{back_to}
use Rattle.syntax_tree.specs.Regions.{Forest, Regions, count_at, OutlivesNone}
use Rattle.syntax_tree.specs.Kept.{KeptNodes, nodes_of, regions_of, IsTable}
use Rattle.syntax_tree.proofs.NodeLaws.{back_seen, count_seen}
use Rattle.syntax_tree.proofs.OuterLaws.{is_open, region_ended}
use Rattle.syntax_tree.proofs.EndLaws.{table_ended}
use Rattle.syntax_tree.proofs.trees.table.Trees.release.Goals as goal

pub release-requires : goal.release-requires
release-requires c =
    let r = c.args.region.in_pool.number in (
      ap (λ (f : Forest). f.identity) c.self.view_is ∙ c.requires.region.0,
      is_open c.self.inside.outers.items c.self.inside.pool.regions r (subst (λ (f : Forest). IsSome (map.get f.regions r)) (sym c.self.view_is) c.requires.region.1),
    )

pub invariant_of-self : goal.invariant_of-self
invariant_of-self c =
    let ns = c.self.inside.pool.nodes in
    let vs = c.self.inside.outers.items in
    let counts = c.self.inside.pool.regions in
    let r = c.args.region.in_pool.number in
    let last = subst (λ (f : Forest). OutlivesNone f.regions r) (sym c.self.view_is) c.requires.last in
    let ended = ap (regions_of vs) c.release.ensures.regions ∙ region_ended vs counts r in
    subst (λ (x : KeptNodes). IsTable x (regions_of vs c.release.new.self.regions)) (sym c.release.ensures.nodes)
    (subst (λ (rs : Regions). IsTable (back_to ns r 0) rs) (sym ended) (table_ended ns (regions_of vs counts) r c.self.invariant last))

pub returns-clause-nodes : goal.returns-clause-nodes
returns-clause-nodes c =
    let r = c.args.region.in_pool.number in
    ap (λ (x : KeptNodes). nodes_of x) c.release.ensures.nodes ∙ back_seen c.self.inside.pool.nodes r 0 ∙ ap (λ (f : Forest). back_to f.nodes r 0) c.self.view_is

pub returns-clause-regions : goal.returns-clause-regions
returns-clause-regions c =
    let vs = c.self.inside.outers.items in
    let r = c.args.region.in_pool.number in
    ap (regions_of vs) c.release.ensures.regions ∙ region_ended vs c.self.inside.pool.regions r ∙ ap (λ (f : Forest). map.remove f.regions r) c.self.view_is

pub returns-clause-counts : goal.returns-clause-counts
returns-clause-counts c = c.release.ensures.regions ∙ ap (λ (f : Forest). map.remove f.counts c.args.region.in_pool.number) c.self.view_is

pub returns-clause-live : goal.returns-clause-live
returns-clause-live c =
    let live = ap (λ (f : Forest). map.len f.nodes) c.self.view_is in
    let count = ap (λ (f : Forest). count_at f c.args.region.in_pool.number) c.self.view_is in
    omega (arith, live, count, count_seen c.self.inside.pool.nodes, count_seen c.release.new.self.nodes, c.release.ensures.live)

pub returns-clause-room : goal.returns-clause-room
returns-clause-room c =
    let live = ap (λ (f : Forest). map.len f.nodes) c.self.view_is in
    let spare = ap (λ (f : Forest). f.spare) c.self.view_is in
    omega (arith, live, spare, count_seen c.self.inside.pool.nodes, count_seen c.release.new.self.nodes, c.release.ensures.room)
