use Rattle.std.proofs.Common.{refl, sym, subst, ◌∙◌}
use Rattle.syntax_tree.specs.Regions.{Regions, Outlives}
use Rattle.syntax_tree.specs.declared.trees.Work.{Work}
use Rattle.syntax_tree.proofs.RegionLaws.{KeepsOuters, outers_more, outlives_more}
use Rattle.syntax_tree.proofs.WorkLaws.{regions_keep, still_open}
use Rattle.syntax_tree.proofs.trees.Work.outlive.Goals as goal

pub returns-clause-outlives : goal.returns-clause-outlives
returns-clause-outlives c =
    let a = c.args.outer.now.in_pool.number in
    let b = c.args.inner.now.in_pool.number in
    subst (λ (rs : Regions). Outlives rs a b) (sym c.in_ok-outlive.ensures.regions) (outlives_more c.args.self.now.trees.regions b a)

pub returns-clause-keeps : goal.returns-clause-keeps
returns-clause-keeps c =
    let old = c.args.self.now in
    let new : Work = record { trees = c.outlive.new.self; symbols = old.symbols } in
    let a = c.args.outer.now.in_pool.number in
    let b = c.args.inner.now.in_pool.number in
    let done = c.in_ok-outlive.ensures in
    let keeps : KeepsOuters old.trees.regions new.trees.regions = subst (λ (rs : Regions). KeepsOuters old.trees.regions rs) (sym done.regions) (outers_more old.trees.regions b a) in
    regions_keep old new done.nodes refl keeps (λ region h. (done.identity ∙ h.0, still_open old.trees.regions new.trees.regions keeps region.in_pool.number h.1))
