use Rattle.root_laws.proofs.RootRuns.{declared_root}
use Rattle.root_laws.proofs.OutsideItems.{met_macros, item_outside}
use Rattle.root_laws.proofs.laws.forms_stay_at_the_root.Goals as goal

pub returns : goal.returns
returns c = record {
  declared = λ known n t notes s macros at. declared_root known n t notes s macros at;
  met = λ known n us s. met_macros known n us s;
  expanded = λ known n i s. item_outside known n i s;
}
