use Rattle.std.proofs.Common.{[], ◌∷◌, sym, ap, subst, refl}
use Rattle.std.specs.Prelude.{Some, None}
use Rattle.scheme_model.specs.Ident.{symbol_of}
use Rattle.rename_model.specs.Walks.{AtShape, OfNode, IsHole, node, atom_points, symbol_points, list_points, vector_points, data_point}
use Rattle.program_leaves.proofs.AddLaws.{adds_same}
use Rattle.alpha_equal.specs.declared.data.DatumNode.{DatumNode}
use Rattle.alpha_equal.specs.Data.{IsDatumNode}
use Rattle.alpha_equal.specs.Points.{IsPoint}
use Rattle.program_differences.proofs.forms.add_datum_node.Goals as goal

pub add_symbol-requires : goal.add_symbol-requires
add_symbol-requires c =
    let at = subst (λ (x : DatumNode). IsDatumNode c.args.work.now.symbols x c.requires.0) c.in-Name.is c.requires.1 in
    (at.0, at.2)

pub returns-in_ok-add_symbol-in-Name : goal.returns-in_ok-add_symbol-in-Name
returns-in_ok-add_symbol-in-Name c = λ unit form t is.
    let names = c.args.work.now.symbols in
    let at = subst (λ (x : DatumNode). IsDatumNode names x t) c.in-Name.is is in
    adds_same (IsPoint names unit form) c.args.points.now.items c.add_symbol.new.points.items (symbol_points (Some (symbol_of at.0)) c.in-Name.occ) (data_point t) (ap data_point (sym at.1)) (c.in_ok-add_symbol-in-Name.ensures unit form at.0 at.2)

pub returns-in_ok-add_shape-in-Hole : goal.returns-in_ok-add_shape-in-Hole
returns-in_ok-add_shape-in-Hole c = λ unit form t is.
    let names = c.args.work.now.symbols in
    let at = subst (λ (x : DatumNode). IsDatumNode names x t) c.in-Hole.is is in
    adds_same (IsPoint names unit form) c.args.points.now.items c.add_shape.new.points.items (node IsHole ∷ []) (data_point t) (ap data_point (sym at.1)) (c.in_ok-add_shape-in-Hole.ensures names unit form (OfNode IsHole) refl)

pub returns-in_ok-add_atom-in-Atom : goal.returns-in_ok-add_atom-in-Atom
returns-in_ok-add_atom-in-Atom c = λ unit form t is.
    let names = c.args.work.now.symbols in
    let at = subst (λ (x : DatumNode). IsDatumNode names x t) c.in-Atom.is is in
    adds_same (IsPoint names unit form) c.args.points.now.items c.add_atom.new.points.items (atom_points AtShape None at.0) (data_point t) (ap data_point (sym at.1)) (c.in_ok-add_atom-in-Atom.ensures names unit form at.0 c.in-Atom.occ at.2)

pub returns-in_ok-add_list-in-List : goal.returns-in_ok-add_list-in-List
returns-in_ok-add_list-in-List c = λ unit form t is.
    let names = c.args.work.now.symbols in
    let at = subst (λ (x : DatumNode). IsDatumNode names x t) c.in-List.is is in
    adds_same (IsPoint names unit form) c.args.points.now.items c.add_list.new.points.items (list_points AtShape c.in-List.parts c.in-List.dotted) (data_point t) (ap data_point (sym at)) (c.in_ok-add_list-in-List.ensures names unit form)

pub returns-in_ok-add_vector-in-Vector : goal.returns-in_ok-add_vector-in-Vector
returns-in_ok-add_vector-in-Vector c = λ unit form t is.
    let names = c.args.work.now.symbols in
    let at = subst (λ (x : DatumNode). IsDatumNode names x t) c.in-Vector.is is in
    adds_same (IsPoint names unit form) c.args.points.now.items c.add_vector.new.points.items (vector_points AtShape c.in-Vector.parts) (data_point t) (ap data_point (sym at)) (c.in_ok-add_vector-in-Vector.ensures names unit form)
