use Rattle.std.proofs.Common.{sym, ap, subst}
use Rattle.syntax_tree.specs.Placed.{tree_place}
use Rattle.syntax_tree.specs.Works.{IsNodeOf}
use Rattle.syntax_tree.specs.declared.trees.nodes.Node.{Node}
use Rattle.syntax_tree.proofs.TreePlaces.{leaf_place}
use Rattle.syntax_tree.proofs.look.place_of.Goals as goal

pub returns-in-Atom : goal.returns-in-Atom
returns-in-Atom c = λ t stands.
    leaf_place c.args.work.now.symbols c.in-Atom.leaf c.in-Atom.occ t (subst (λ (node : Node). IsNodeOf c.args.work.now node t) c.in-Atom.is (c.node.ensures.tree t stands))

pub returns-in-List : goal.returns-in-List
returns-in-List c = λ t stands.
    let l = subst (λ (node : Node). IsNodeOf c.args.work.now node t) c.in-List.is (c.node.ensures.tree t stands) in
    sym (ap tree_place l.2)

pub returns-in-Vector : goal.returns-in-Vector
returns-in-Vector c = λ t stands.
    let l = subst (λ (node : Node). IsNodeOf c.args.work.now node t) c.in-Vector.is (c.node.ensures.tree t stands) in
    sym (ap tree_place l.1)
