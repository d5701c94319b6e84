use Rattle.std.proofs.Common.{sym, ap, subst, ◌∙◌}
use Rattle.std.specs.Prelude.{IsSome}
use Rattle.std.specs.FinMap as map
use Rattle.syntax_tree.specs.Nodes.{Lived, Nodes, region_at}
use Rattle.syntax_tree.specs.Regions.{Regions, Outlives}
use Rattle.syntax_tree.specs.Standing.{Stands}
use Rattle.syntax_tree.proofs.SeenLaws.{gone_there}
use Rattle.syntax_tree.proofs.NodeLaws.{map_some}
use Rattle.syntax_tree.proofs.RegionLaws.{outlives_left}
use Rattle.syntax_tree.proofs.EndLaws.{can_end, left_elsewhere}
use Rattle.syntax_tree.proofs.WorkLaws.{standing_lives, stands_back, elsewhere_left}
use Rattle.syntax_tree.proofs.trees.Work.release.Goals as goal

pub returns-clause-gone : goal.returns-clause-gone
returns-clause-gone c tree lies =
    let r = c.args.region.in_pool.number in
    let lies_there = ap (λ (x : Nodes). region_at x tree.number) c.release.ensures.nodes in
    let lies_back = sym lies_there ∙ lies in
    let p = map_some (λ (l : Lived). l.region) _ r lies_back in
    left_elsewhere c.args.self.now.trees.nodes r tree.number p.0 p.1 p.2

pub returns-clause-stays : goal.returns-clause-stays
returns-clause-stays c tree t h elsewhere =
    let f = c.args.self.now.trees in
    let r = c.args.region.in_pool.number in
    let live = standing_lives c.args.self.now tree (t, h) in
    subst (λ (x : Nodes). Stands x c.args.self.now.symbols t tree.number) (sym c.release.ensures.nodes)
    (stands_back f.nodes f.regions c.args.self.now.symbols r 0 c.closed.ensures.closed c.closed.ensures.first (can_end f.nodes f.regions r c.closed.ensures.closed c.requires.last) t tree.number h
    (elsewhere_left f.nodes r 0 tree.number live elsewhere))

pub returns-clause-others : goal.returns-clause-others
returns-clause-others c other ne h =
    let f = c.args.self.now.trees in
    let r = c.args.region.in_pool.number in
    let there = ap (λ (rs : Regions). map.get rs other.in_pool.number) c.release.ensures.regions ∙ gone_there f.regions r other.in_pool.number ne in
    (c.release.ensures.identity ∙ h.0, subst (λ o. IsSome o) (sym there) h.1)

pub returns-clause-outlives : goal.returns-clause-outlives
returns-clause-outlives c a b ne h =
    let f = c.args.self.now.trees in
    subst (λ (rs : Regions). Outlives rs a b) (sym c.release.ensures.regions) (outlives_left f.regions c.args.region.in_pool.number a b c.requires.last ne h)
