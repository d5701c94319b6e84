use Rattle.std.proofs.Common.{[], ◌∷◌, refl}
use Rattle.rename_model.specs.Walks.{OfNode, IsVector, node, number}
use Rattle.program_leaves.proofs.AddLaws.{adds_both}
use Rattle.alpha_equal.specs.Points.{IsPoint}
use Rattle.program_differences.proofs.forms.add_vector.Goals as goal

pub returns : goal.returns
returns c = λ names unit form.
    adds_both (IsPoint names unit form) c.args.points.now.items c.add_shape.new.points.items c.add_number.new.points.items (node IsVector ∷ []) (number c.args.parts ∷ [])
    (c.in_ok-add_shape.ensures names unit form (OfNode IsVector) refl) (c.in_ok-add_number.ensures names unit form)
