use Rattle.std.proofs.Common.{refl, ap}
use Rattle.std.specs.Option.{option_map}
use Rattle.syntax_tree.specs.Nodes.{Lived}
use Rattle.syntax_tree.specs.Works.{lived_in, SameRegions}
use Rattle.syntax_tree.specs.declared.trees.Work.{Work}
use Rattle.syntax_tree.proofs.NodeLaws.{put_there, put_counts}
use Rattle.syntax_tree.proofs.WorkLaws.{added_keeps, added_stands}
use Rattle.syntax_tree.proofs.trees.Work.add.Goals as goal

pub returns-clause-tree : goal.returns-clause-tree
returns-clause-tree c =
    added_stands c.args.self.now c.add.new.self.nodes c.in_ok-add.field-0.number (lived_in c.args.self.now c.args.region.now c.args.node) c.args.node c.in_ok-add.ensures.put refl

pub returns-clause-region : goal.returns-clause-region
returns-clause-region c =
    ap (option_map (λ (l : Lived). l.region)) (put_there c.args.self.now.trees.nodes c.add.new.self.nodes c.in_ok-add.field-0.number (lived_in c.args.self.now c.args.region.now c.args.node) c.in_ok-add.ensures.put)

pub returns-clause-one_more : goal.returns-clause-one_more
returns-clause-one_more c = put_counts c.args.self.now.trees.nodes c.add.new.self.nodes c.in_ok-add.field-0.number (lived_in c.args.self.now c.args.region.now c.args.node) c.in_ok-add.ensures.put

pub returns-clause-keeps : goal.returns-clause-keeps
returns-clause-keeps c =
    let new : Work = record { trees = c.add.new.self; symbols = c.args.self.now.symbols } in
    let same : SameRegions c.args.self.now new = record { identity = c.in_ok-add.ensures.identity; regions = c.in_ok-add.ensures.regions } in
    added_keeps c.args.self.now new c.in_ok-add.field-0.number (lived_in c.args.self.now c.args.region.now c.args.node) c.in_ok-add.ensures.put same refl
