use Rattle.kept_forms.proofs.MayBeKept.{pass_itself, rest_itself, form_fits, kept_fits}
use Rattle.kept_forms.proofs.laws.forms_may_be_kept.Goals as goal

pub returns : goal.returns
returns c = record {
  pass = λ w turns t parts new h. pass_itself w turns t parts new h;
  rest = λ w turns n l h. rest_itself w turns n l h;
  fits = λ w v turns t l h d e. form_fits w v turns t l h d e;
  fits_again = λ w v turns a m d e. kept_fits w v turns a m d e;
}
