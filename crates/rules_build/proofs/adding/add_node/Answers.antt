use Rattle.syntax_tree.specs.Regions.{itself}
use Rattle.rules_build.proofs.AddLaws.{grows_put}
use Rattle.rules_build.proofs.adding.add_node.Goals as goal

pub returns : goal.returns
returns c = λ k t h.
    let d = c.in_ok-add.ensures in
    let r = c.args.region.now in
    (grows_put c.args.work.now c.add.new.self r k c.args.node c.in_ok-add.field-0.number d.keeps d.regions d.symbols d.put d.one_more, d.tree t h, (r.in_pool.number, d.region, itself))
