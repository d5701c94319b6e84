use Rattle.mentioned_units.proofs.Units.{units_mention, units_kept}
use Rattle.mentioned_units.proofs.Forgetting.{units_forgetting, form_expanded, rest_expanded}
use Rattle.mentioned_units.proofs.laws.units_keep_their_forms.Goals as goal

pub returns : goal.returns
returns c = record {
  mentioned = λ mask all there units others known knows n m p q xs ready ready2 forms forms2 same libraries k. units_mention mask all there units others known knows n m p q xs ready ready2 forms forms2 same libraries k;
  kept = λ mask turns known xs s h. units_kept mask turns known xs s h;
  forgetting = λ mask all units known n h p xs o ready forms. units_forgetting mask all units known n h p xs o ready forms;
  expanded = λ mask v turns t parts new h closed m notes. form_expanded mask v turns t parts new h closed m notes;
  rest_expanded = λ mask v turns n l h closed m. rest_expanded mask v turns n l h closed m;
}
