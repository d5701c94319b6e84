use Rattle.std.proofs.Common.{sym, subst, ◌∙◌}
use Rattle.std.specs.Prelude.{IsSome}
use Rattle.node_pool.proofs.BackLaws.{undone}
use Rattle.syntax_tree.specs.Nodes.{Nodes, shape_at}
use Rattle.syntax_tree.specs.Regions.{count_at}
use Rattle.syntax_tree.specs.Standing.{Stands}
use Rattle.syntax_tree.proofs.WorkLaws.{mark_reached, stands_back, lives_at}
use Rattle.syntax_tree.proofs.trees.Work.back_to.Goals as goal

pub back_to-requires-clause-mark : goal.back_to-requires-clause-mark
back_to-requires-clause-mark c =
    let f = c.args.self.now.trees in
    let r = c.args.region.now.in_pool.number in
    mark_reached f.nodes r (count_at f r) c.args.mark.count (c.closed.ensures.ranks r c.requires.region.1) c.requires.mark

pub returns-clause-undone : goal.returns-clause-undone
returns-clause-undone c before had adds =
    let f = c.args.self.now.trees in
    let r = c.args.region.now.in_pool.number in
    c.back_to.ensures.nodes ∙ undone before f.nodes r c.args.mark.count (count_at f r) had (c.closed.ensures.ranks r c.requires.region.1) adds

pub returns-clause-stays : goal.returns-clause-stays
returns-clause-stays c tree t h live =
    let f = c.args.self.now.trees in
    let r = c.args.region.now.in_pool.number in
    let new = c.back_to.ensures.nodes in
    subst (λ (x : Nodes). Stands x c.args.self.now.symbols t tree.number) (sym new)
    (stands_back f.nodes f.regions c.args.self.now.symbols r c.args.mark.count c.closed.ensures.closed c.closed.ensures.first c.requires.unnamed t tree.number h
    (lives_at _ tree.number (subst (λ (x : Nodes). IsSome (shape_at x tree.number)) new live)))
