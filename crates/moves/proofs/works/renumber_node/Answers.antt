use Rattle.std.proofs.Common.{sym, ◌∙◌}
use Rattle.moves.specs.Numbers.{numbers_of}
use Rattle.moves.proofs.NodeLaws.{node_moved}
use Rattle.moves.proofs.works.renumber_node.Goals as goal

pub returns-in-Some-clause-here : goal.returns-in-Some-clause-here
returns-in-Some-clause-here c =
    (node_moved (numbers_of c.args.moves.now) c.args.trees.now.nodes c.set_place.new.self.nodes c.args.number c.in-Some.place c.place.result
    (sym c.in-Some.is ∙ c.place_at.ensures) c.place.ensures c.set_place.ensures.nodes).here

pub returns-in-Some-clause-others : goal.returns-in-Some-clause-others
returns-in-Some-clause-others c =
    (node_moved (numbers_of c.args.moves.now) c.args.trees.now.nodes c.set_place.new.self.nodes c.args.number c.in-Some.place c.place.result
    (sym c.in-Some.is ∙ c.place_at.ensures) c.place.ensures c.set_place.ensures.nodes).others
