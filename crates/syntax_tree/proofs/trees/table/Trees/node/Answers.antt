use Rattle.std.proofs.Common.{ap, subst, ◌∙◌, Some}
use Rattle.std.specs.Option.{option_map}
use Rattle.syntax_tree.specs.Nodes.{Shape, Lived}
use Rattle.syntax_tree.specs.Regions.{Forest, MayNameParts, IsClosed}
use Rattle.syntax_tree.proofs.RegionLaws.{parts_named}
use Rattle.syntax_tree.proofs.AddedLaws.{kept_lives, node_read}
use Rattle.syntax_tree.proofs.trees.table.Trees.node.Goals as goal

pub get-kept-requires : goal.get-kept-requires
get-kept-requires c = kept_lives c.self.inside.pool.nodes c.args.self.now.nodes c.args.tree.number (ap (λ (f : Forest). f.nodes) c.self.view_is) c.requires

pub returns-clause-shape : goal.returns-clause-shape
returns-clause-shape c =
    let p = node_read c.self.inside.pool.nodes c.args.self.now.nodes c.args.tree.number c.get-kept.result.now (ap (λ (f : Forest). f.nodes) c.self.view_is) c.get-kept.ensures in
    ap (option_map (λ (l : Lived). l.node)) p.1 ∙ ap Some p.2

pub returns-clause-names : goal.returns-clause-names
returns-clause-names c r h =
    let f = c.args.self.now in
    let p = node_read c.self.inside.pool.nodes f.nodes c.args.tree.number c.get-kept.result.now (ap (λ (x : Forest). x.nodes) c.self.view_is) c.get-kept.ensures in
    subst (λ (s : Shape). MayNameParts f.nodes f.regions r s) p.2
    (parts_named f.nodes f.regions c.args.tree.number r p.0 (subst (λ (x : Forest). IsClosed x.nodes x.regions) c.self.view_is c.self.invariant.closed) p.1 h)
