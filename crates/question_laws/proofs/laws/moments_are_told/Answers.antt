use Rattle.std.proofs.Common.{◌∙◌, sym}
use Rattle.question_laws.proofs.Roots.{outside_same, to_come_itself, to_come_there, before_same, alone_means}
use Rattle.question_laws.proofs.laws.moments_are_told.Goals as goal

pub returns : goal.returns
returns c = record {
  outside = λ w n i h e. outside_same n.table w.state.table w.state.entry i e ∙ before_same w.state w.state (to_come_itself w.state h) i;
  alone = λ w v n i h k same e. alone_means w.state v.state (to_come_there w v same k) n.table i e ∙ sym (alone_means w.state w.state (to_come_itself w.state h) n.table i e);
}
