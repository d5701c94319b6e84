use Rattle.std.proofs.Common.{ap}
use Rattle.syntax_tree.specs.Regions.{Forest}
use Rattle.syntax_tree.proofs.AddedLaws.{kept_lives, depth_kept}
use Rattle.syntax_tree.proofs.trees.table.Trees.depth.Goals as goal

pub get-kept-requires : goal.get-kept-requires
get-kept-requires c = kept_lives c.self.inside.pool.nodes c.args.self.now.nodes c.args.tree.number (ap (λ (f : Forest). f.nodes) c.self.view_is) c.requires

pub returns : goal.returns
returns c =
    depth_kept c.self.inside.pool.nodes c.args.self.now.nodes c.args.tree.number c.get-kept.result.now c.self.invariant.kept (ap (λ (f : Forest). f.nodes) c.self.view_is) c.get-kept.ensures
