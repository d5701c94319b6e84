use Rattle.std.proofs.Common.{◌≡◌, false, refl, ◌∙◌}
use Rattle.scheme_model.specs.Trees.{name, atom, list, vector}
use Rattle.syntax_tree.specs.Placed.{tree_place}
use Rattle.equal_trees.proofs.EqualLaws.{is_not, name_same}
use Rattle.equal_trees.proofs.trees.is_name.Goals as goal

pub returns-in-Name : goal.returns-in-Name
returns-in-Name c = λ i u is stands. let l = c.in-Name.ensures.look u stands in name_same c.args.work.now.symbols c.told_apart.ensures.idents c.args.ident c.in-Name.other i l.0 l.1 u l.2 is l.3

pub returns-in-Atom : goal.returns-in-Atom
returns-in-Atom c = λ i u is stands. let l = c.in-Atom.ensures.look u stands in is_not false refl (λ h. let z : name i (tree_place u) ≡ atom l.0 l.1 = h ∙ l.2 in absurd cc)

pub returns-in-List : goal.returns-in-List
returns-in-List c = λ i u is stands. let l = c.in-List.ensures.look u stands in is_not false refl (λ h. let z : name i (tree_place u) ≡ list l.0 l.1 l.2 = h ∙ l.3 in absurd cc)

pub returns-in-Vector : goal.returns-in-Vector
returns-in-Vector c = λ i u is stands. let l = c.in-Vector.ensures.look u stands in is_not false refl (λ h. let z : name i (tree_place u) ≡ vector l.0 l.1 = h ∙ l.2 in absurd cc)
