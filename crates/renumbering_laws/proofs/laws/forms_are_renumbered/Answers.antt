use Rattle.renumbering_laws.proofs.FormLaws.{scoped_set_aside, scoped_finished, scoped_unit}
use Rattle.renumbering_laws.proofs.laws.forms_are_renumbered.Goals as goal

pub returns : goal.returns
returns c = record {
  set_aside = λ r w known u turns p s t o m. scoped_set_aside r o w known u turns p s t m;
  finished = λ r w known u turns l s t o m. scoped_finished r o w known u turns l s t m;
  whole_unit = λ r w known u turns ts s t o m. scoped_unit r o w known u turns ts s t m;
}
