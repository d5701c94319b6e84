use Rattle.std.proofs.Common.{◌≡◌, [], ◌∷◌, refl, sym, ap, ◌∙◌, subst, rules, arith}
use Rattle.std.specs.Prelude.{Option, Some, None, Bool, if◌then◌else◌, slice_get}
use Rattle.scheme_model.specs.declared.Occ.{Occ}
use Rattle.scheme_model.specs.Trees.{Atom, atom, Numeral, Quoted, Bytes, Character, Boolean}
use Rattle.rename_model.specs.Walks as walk
use Rattle.rename_model.specs.Walks.{AtShape, ShowsNothing, point, atom_points}
use Rattle.syntax_tree.specs.Standing.{leaf_tree}
use Rattle.syntax_tree.specs.declared.trees.nodes.Leaf.{Leaf}
use Rattle.program_leaves.proofs.AddLaws.{adds_none, adds_both, adds_same}
use Rattle.alpha_equal.specs.Points.{node_as, IsPoint}
use Rattle.alpha_equal.proofs.AtomLaws.{atom_told, text_told, no_name}
use Rattle.alpha_equal.proofs.quoted.add_atom.Goals as goal

pub returns-in-Name : goal.returns-in-Name
returns-in-Name c = λ names unit form a o is. absurd (no_name _ a o (subst (λ (x : Leaf). leaf_tree names x o ≡ Some (atom a o)) c.in-Name.is is))

pub returns-in_ok-add_shape-in-Numeral : goal.returns-in_ok-add_shape-in-Numeral
returns-in_ok-add_shape-in-Numeral c = λ names unit form a o is.
    let told = text_told names c.in-Numeral.text Numeral a o (subst (λ (x : Leaf). leaf_tree names x o ≡ Some (atom a o)) c.in-Numeral.is is) in
    adds_same (IsPoint names unit form) c.args.points.now.items c.add_shape.new.points.items _ (atom_points AtShape None a) (ap (atom_points AtShape None) (sym told.2))
    (c.in_ok-add_shape-in-Numeral.ensures names unit form (walk.OfName walk.IsNumeral told.0) (told.0, told.1, refl))

pub returns-in_ok-add_shape-in-Quoted : goal.returns-in_ok-add_shape-in-Quoted
returns-in_ok-add_shape-in-Quoted c = λ names unit form a o is.
    let told = text_told names c.in-Quoted.text Quoted a o (subst (λ (x : Leaf). leaf_tree names x o ≡ Some (atom a o)) c.in-Quoted.is is) in
    adds_same (IsPoint names unit form) c.args.points.now.items c.add_shape-in-Quoted.new.points.items _ (atom_points AtShape None a) (ap (atom_points AtShape None) (sym told.2))
    (c.in_ok-add_shape-in-Quoted.ensures names unit form (walk.OfName walk.IsString told.0) (told.0, told.1, refl))

pub returns-in_ok-add_shape-in-Bytes : goal.returns-in_ok-add_shape-in-Bytes
returns-in_ok-add_shape-in-Bytes c = λ names unit form a o is.
    let told = text_told names c.in-Bytes.text Bytes a o (subst (λ (x : Leaf). leaf_tree names x o ≡ Some (atom a o)) c.in-Bytes.is is) in
    adds_same (IsPoint names unit form) c.args.points.now.items c.add_shape-in-Bytes.new.points.items _ (atom_points AtShape None a) (ap (atom_points AtShape None) (sym told.2))
    (c.in_ok-add_shape-in-Bytes.ensures names unit form (walk.OfName walk.IsBytes told.0) (told.0, told.1, refl))

pub returns-in_ok-add_shape-in-Bool : goal.returns-in_ok-add_shape-in-Bool
returns-in_ok-add_shape-in-Bool c = λ names unit form a o is.
    let told = atom_told (Boolean c.in-Bool.holds) a o (subst (λ (x : Leaf). leaf_tree names x o ≡ Some (atom a o)) c.in-Bool.is is) in
    adds_same (IsPoint names unit form) c.args.points.now.items c.add_shape-in-Bool.new.points.items _ (atom_points AtShape None a) (ap (atom_points AtShape None) (sym told))
    (c.in_ok-add_shape-in-Bool.ensures names unit form (walk.OfNode (if c.in-Bool.holds then walk.IsTrue else walk.IsFalse)) (ap walk.OfNode (sym c.truth_node.ensures)))

pub returns-in_ok-add_shape-in-Char-2 : goal.returns-in_ok-add_shape-in-Char-2
returns-in_ok-add_shape-in-Char-2 c = λ names unit form a o is.
    let P = IsPoint names unit form in
    let told = atom_told (Character c.in-Char.c) a o (subst (λ (x : Leaf). leaf_tree names x o ≡ Some (atom a o)) c.in-Char.is is) in
    let code : c.in-Char.c ≡ c.from-in-Char.result = first_of (search rules, omega arith) in
    let old = c.args.points.now.items in
    let mid = c.add_shape-in-Char.new.points.items in
    let new = c.add_shape-in-Char-2.new.points.items in
    adds_same P old new (point AtShape (walk.OfNode walk.IsCharacter) None ShowsNothing ∷ point AtShape (walk.OfNumber c.in-Char.c) None ShowsNothing ∷ []) (atom_points AtShape None a) (ap (atom_points AtShape None) (sym told))
    (adds_both P old mid new (point AtShape (walk.OfNode walk.IsCharacter) None ShowsNothing ∷ []) (point AtShape (walk.OfNumber c.in-Char.c) None ShowsNothing ∷ [])
    (c.in_ok-add_shape-in-Char.ensures names unit form (walk.OfNode walk.IsCharacter) refl) (c.in_ok-add_shape-in-Char-2.ensures names unit form (walk.OfNumber c.in-Char.c) (ap walk.OfNumber code)))
