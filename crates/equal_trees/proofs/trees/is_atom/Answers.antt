use Rattle.std.proofs.Common.{◌≡◌, false, refl, ◌∙◌}
use Rattle.scheme_model.specs.Trees.{name, atom, list, vector}
use Rattle.syntax_tree.specs.Placed.{tree_place}
use Rattle.rules_match.proofs.AtomLaws.{leaf_same}
use Rattle.equal_trees.proofs.EqualLaws.{is_not, atom_same}
use Rattle.equal_trees.proofs.trees.is_atom.Goals as goal

pub returns-in-Atom : goal.returns-in-Atom
returns-in-Atom c = λ a o u is stands.
    let l = c.in-Atom.ensures.look u stands in
    let e = leaf_same c.args.work.now.symbols c.told_apart.ensures.symbols c.args.leaf c.in-Atom.other a l.0 o o l.1 l.1 is l.3 in
    atom_same c.eq.result a l.0 l.1 u (c.eq.ensures ∙ e) l.2

pub returns-in-Name : goal.returns-in-Name
returns-in-Name c = λ a o u is stands. let l = c.in-Name.ensures.look u stands in is_not false refl (λ h. let z : atom a (tree_place u) ≡ name l.0 l.1 = h ∙ l.2 in absurd cc)

pub returns-in-List : goal.returns-in-List
returns-in-List c = λ a o u is stands. let l = c.in-List.ensures.look u stands in is_not false refl (λ h. let z : atom a (tree_place u) ≡ list l.0 l.1 l.2 = h ∙ l.3 in absurd cc)

pub returns-in-Vector : goal.returns-in-Vector
returns-in-Vector c = λ a o u is stands. let l = c.in-Vector.ensures.look u stands in is_not false refl (λ h. let z : atom a (tree_place u) ≡ vector l.0 l.1 = h ∙ l.2 in absurd cc)
