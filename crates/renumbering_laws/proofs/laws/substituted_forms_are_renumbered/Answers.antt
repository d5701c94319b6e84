use Rattle.renumbering_laws.proofs.FormLaws.{named_set_aside, named_finished, named_unit}
use Rattle.renumbering_laws.proofs.laws.substituted_forms_are_renumbered.Goals as goal

pub returns : goal.returns
returns c = record {
  set_aside = λ r known u turns p s t o m. named_set_aside r o known u turns p s t m;
  finished = λ r known u turns l s t o m. named_finished r o known u turns l s t m;
  whole_unit = λ r known u turns ts s t o m. named_unit r o known u turns ts s t m;
}
