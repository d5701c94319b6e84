use Rattle.std.proofs.Common.{refl, sym, subst}
use Rattle.syntax_tree.specs.Regions.{Regions}
use Rattle.syntax_tree.specs.declared.trees.Work.{Work}
use Rattle.syntax_tree.proofs.RegionLaws.{KeepsOuters, outers_opened}
use Rattle.syntax_tree.proofs.WorkLaws.{regions_keep, still_open, not_open}
use Rattle.syntax_tree.proofs.trees.Work.open_region.Goals as goal

pub returns-clause-fresh : goal.returns-clause-fresh
returns-clause-fresh c h = not_open c.args.self.now.trees.regions c.in_ok-open_region.field-0.in_pool.number c.in_ok-open_region.ensures.fresh h.1

pub returns-clause-keeps : goal.returns-clause-keeps
returns-clause-keeps c =
    let old = c.args.self.now in
    let new : Work = record { trees = c.open_region.new.self; symbols = old.symbols } in
    let done = c.in_ok-open_region.ensures in
    let r = c.in_ok-open_region.field-0.in_pool.number in
    let keeps : KeepsOuters old.trees.regions new.trees.regions = subst (λ (rs : Regions). KeepsOuters old.trees.regions rs) (sym done.regions) (outers_opened old.trees.regions r done.fresh) in
    regions_keep old new done.nodes refl keeps (λ region h. (done.same region.in_pool.pool.value.name h.0, still_open old.trees.regions new.trees.regions keeps region.in_pool.number h.1))
