use Rattle.std.proofs.Common.{◌+◌, Err, refl, sym, ap, subst, ◌∙◌, arith}
use Rattle.std.specs.Prelude.{IsSome, unwrap_or}
use Rattle.std.specs.FinMap as map
use Rattle.node_pool.specs.NodePool as pool
use Rattle.node_pool.specs.Pools.{HasRanks}
use Rattle.syntax_tree.specs.Nodes.{IsPut}
use Rattle.syntax_tree.specs.Regions.{Forest, Regions, count_at, MayNameParts}
use Rattle.syntax_tree.specs.Kept.{shape_of, nodes_of, regions_of, IsTable}
use Rattle.syntax_tree.specs.declared.trees.measures.Kept.{Kept}
use Rattle.syntax_tree.proofs.NodeLaws.{put_seen, ranks_seen, count_seen}
use Rattle.syntax_tree.proofs.OuterLaws.{is_open, counted_again, count_is}
use Rattle.syntax_tree.proofs.AddedLaws.{can_measure, parts_live, table_put}
use Rattle.syntax_tree.proofs.trees.table.Trees.add.Goals as goal

pub measure-size-requires-clause-live : goal.measure-size-requires-clause-live
measure-size-requires-clause-live c =
    let r = c.args.region.now.in_pool.number in
    parts_live c.self.inside.pool.nodes (regions_of c.self.inside.outers.items c.self.inside.pool.regions) r (shape_of c.args.node)
    (subst (λ (f : Forest). MayNameParts f.nodes f.regions r (shape_of c.args.node)) (sym c.self.view_is) c.requires.names)

pub measure-size-requires-clause-size : goal.measure-size-requires-clause-size
measure-size-requires-clause-size c =
    (can_measure c.self.inside.pool.nodes c.args.self.now.nodes (shape_of c.args.node) c.self.invariant.kept (ap (λ (f : Forest). f.nodes) c.self.view_is) c.requires.fits).size

pub measure-size-requires-clause-depth : goal.measure-size-requires-clause-depth
measure-size-requires-clause-depth c =
    (can_measure c.self.inside.pool.nodes c.args.self.now.nodes (shape_of c.args.node) c.self.invariant.kept (ap (λ (f : Forest). f.nodes) c.self.view_is) c.requires.fits).depth

pub put-requires : goal.put-requires
put-requires c =
    let r = c.args.region.now.in_pool.number in (
      ap (λ (f : Forest). f.identity) c.self.view_is ∙ c.requires.region.0,
      is_open c.self.inside.outers.items c.self.inside.pool.regions r (subst (λ (f : Forest). IsSome (map.get f.regions r)) (sym c.self.view_is) c.requires.region.1),
    )

pub invariant_of-self-2 : goal.invariant_of-self-2
invariant_of-self-2 c =
    let ns = c.self.inside.pool.nodes in
    let vs = c.self.inside.outers.items in
    let counts = c.self.inside.pool.regions in
    let regions = regions_of vs counts in
    let r = c.args.region.now.in_pool.number in
    let is = is_open vs counts r (subst (λ (f : Forest). IsSome (map.get f.regions r)) (sym c.self.view_is) c.requires.region.1) in
    let node : Kept = record { node = c.args.node; size = c.measure-size.result.0; depth = c.measure-size.result.1 } in
    let k : pool.Lived Kept = record { node = node; region = r; rank = unwrap_or (map.get counts r) 0 } in
    let m = can_measure ns c.args.self.now.nodes (shape_of c.args.node) c.self.invariant.kept (ap (λ (f : Forest). f.nodes) c.self.view_is) c.requires.fits in
    let names = subst (λ (f : Forest). MayNameParts f.nodes f.regions r (shape_of c.args.node)) (sym c.self.view_is) c.requires.names in
    let ranks : HasRanks (nodes_of ns) r k.rank = ranks_seen ns r k.rank (c.ranked.ensures.ranks r k.rank (count_is counts r is)) in
    let same = ap (regions_of vs) c.in-Ok.ensures.region ∙ counted_again vs counts r (k.rank + 1) is in
    subst (λ (rs : Regions). IsTable c.put.new.self.nodes rs) (sym same)
    (table_put ns c.put.new.self.nodes regions c.in-Ok.id.number k c.self.invariant c.in-Ok.ensures.put names c.measure-size.ensures.size c.measure-size.ensures.depth
    (omega (arith, c.measure-size.ensures.size, m.small.0), omega (arith, c.measure-size.ensures.depth, m.small.1)) ranks)

pub returns-clause-put : goal.returns-clause-put
returns-clause-put c =
    let r = c.args.region.now.in_pool.number in
    let node : Kept = record { node = c.args.node; size = c.measure-size.result.0; depth = c.measure-size.result.1 } in
    let k : pool.Lived Kept = record { node = node; region = r; rank = unwrap_or (map.get c.self.inside.pool.regions r) 0 } in
    subst (λ (f : Forest). IsPut f.nodes (nodes_of c.put.new.self.nodes) c.in-Ok.id.number (record { node = shape_of c.args.node; region = r; rank = count_at f r })) c.self.view_is
    (put_seen c.self.inside.pool.nodes c.put.new.self.nodes c.in-Ok.id.number k c.in-Ok.ensures.put)

pub returns-clause-regions : goal.returns-clause-regions
returns-clause-regions c =
    let vs = c.self.inside.outers.items in
    let counts = c.self.inside.pool.regions in
    let r = c.args.region.now.in_pool.number in
    let is = is_open vs counts r (subst (λ (f : Forest). IsSome (map.get f.regions r)) (sym c.self.view_is) c.requires.region.1) in
    ap (regions_of vs) c.in-Ok.ensures.region ∙ counted_again vs counts r (unwrap_or (map.get counts r) 0 + 1) is ∙ ap (λ (f : Forest). f.regions) c.self.view_is

pub returns-in-Err-Full-clause-full : goal.returns-in-Err-Full-clause-full
returns-in-Err-Full-clause-full c =
    let n = count_seen c.self.inside.pool.nodes in
    let live = ap (λ (f : Forest). map.len f.nodes) c.self.view_is in
    (λ e. omega (arith, n, live, c.put.ensures.full.0 (c.in-Err-Full.is ∙ ap Err c.in-Err-Full.field-0-is)), λ e. refl)

pub returns-in-Err-Memory-clause-full : goal.returns-in-Err-Memory-clause-full
returns-in-Err-Memory-clause-full c =
    let n = count_seen c.self.inside.pool.nodes in
    let live = ap (λ (f : Forest). map.len f.nodes) c.self.view_is in
    (λ e. absurd cc, λ e. let full = c.put.ensures.full.1 (omega (arith, n, live, e)) in let is = c.in-Err-Memory.is ∙ ap Err c.in-Err-Memory.field-0-is in absurd cc)

pub returns-clause-full : goal.returns-clause-full
returns-clause-full c =
    let n = count_seen c.self.inside.pool.nodes in
    let live = ap (λ (f : Forest). map.len f.nodes) c.self.view_is in
    (λ e. absurd cc, λ e. absurd (omega (arith, n, live, e, c.in-Ok.ensures.one_more, c.in-Ok.ensures.room)))

pub returns-clause-room : goal.returns-clause-room
returns-clause-room c = omega (arith, count_seen c.put.new.self.nodes, c.in-Ok.ensures.room)
