use Rattle.std.proofs.Common.{ℕ, [], ◌∷◌, ◌++◌, List, ap, refl}
use Rattle.rename_model.specs.Walks.{OfNode, IsList, Point, node, number, truth_number}
use Rattle.program_leaves.proofs.AddLaws.{adds_both, adds_same}
use Rattle.alpha_equal.specs.Points.{IsPoint}
use Rattle.program_differences.proofs.forms.add_list.Goals as goal

abbrev counted : ℕ → List Point
counted n = number n ∷ []

pub returns : goal.returns
returns c = λ names unit form.
    let P = IsPoint names unit form in
    let old = c.args.points.now.items in
    let one = c.add_shape.new.points.items in
    let two = c.add_number.new.points.items in
    let new = c.add_number-2.new.points.items in
    let tail = adds_same P two new (counted c.truth_number.result) (counted (truth_number c.args.dotted)) (ap counted c.truth_number.ensures) (c.in_ok-add_number-2.ensures names unit form) in
    adds_both P old one new (node IsList ∷ []) (counted c.args.parts ++ counted (truth_number c.args.dotted)) (c.in_ok-add_shape.ensures names unit form (OfNode IsList) refl)
    (adds_both P one two new (counted c.args.parts) (counted (truth_number c.args.dotted)) (c.in_ok-add_number.ensures names unit form) tail)
