use Rattle.carried_forms.proofs.NewBeginnings.{form_begins_new, left_begins_new}
use Rattle.carried_forms.proofs.laws.forms_begin_under_new_numbers.Goals as goal

pub returns : goal.returns
returns c = record {
  pass = λ r b w t h. form_begins_new r b w t h;
  left = λ r b w l h. left_begins_new r b w l h;
}
