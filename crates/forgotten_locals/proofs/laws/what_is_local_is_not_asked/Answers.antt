use Rattle.forgotten_locals.proofs.Outsides.{form_outside, rest_outside}
use Rattle.forgotten_locals.proofs.OneTurn.{pass_answers, left_answers, pass_kept, rest_kept_too}
use Rattle.forgotten_locals.proofs.laws.what_is_local_is_not_asked.Goals as goal

pub returns : goal.returns
returns c = record {
  pass = λ w v turns t h k. pass_answers w v turns h k t;
  left = λ w v turns r h k. left_answers w v turns h k r;
  pass_kept = λ v turns t o k. pass_kept v turns k t o;
  rest_kept = λ v turns o k. rest_kept_too v turns k o;
  begins = λ v t h. form_outside v t h;
  rest_begins = λ v r h. rest_outside v r h;
}
