use Rattle.carried_units.proofs.CarriedUnits.{unit_went, unit_whole, all_whole}
use Rattle.carried_units.proofs.laws.carried_forms_are_kept_whole.Goals as goal

pub returns : goal.returns
returns c = record {
  went = λ before after n f p l first fault i. unit_went before after n p l first fault f i;
  unit = λ before after n h p xs had kept_first l first fault o forms k are turns has. unit_whole before after n p l first fault h xs o forms k had kept_first are turns has;
  all = λ before after keep h. all_whole before after keep h;
}
