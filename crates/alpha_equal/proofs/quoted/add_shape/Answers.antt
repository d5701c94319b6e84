use Rattle.std.proofs.Common.{refl}
use Rattle.std.specs.Prelude.{None}
use Rattle.rename_model.specs.Walks.{AtShape, ShowsNothing, point}
use Rattle.program_leaves.proofs.AddLaws.{adds_one}
use Rattle.alpha_equal.specs.Points.{IsPoint}
use Rattle.alpha_equal.proofs.quoted.add_shape.Goals as goal

pub returns : goal.returns
returns c = λ names unit form s is.
    adds_one (IsPoint names unit form) c.args.points.now.items c.push.new.self.items _ (point AtShape s None ShowsNothing) c.in_ok-push.ensures.items (record { told = record { spot = refl; place = refl; shown = refl }; seen = is })
