use Rattle.answers_at_turns.proofs.WholeUnits.{kept_whole, kept_has}
use Rattle.answers_at_turns.proofs.laws.what_has_its_answers_is_kept.Goals as goal

pub returns : goal.returns
returns c = record {
  whole = λ all units known n h p xs had kept_first fs end x g b o ready forms k went turns are i j e is st has. kept_whole all units known n h p xs o ready forms k had fs end went x i g j e b is st kept_first are turns has;
  only = λ all units known n h p xs had fs end x g b d o ready forms k went turns i j e is st kept. kept_has all units known n h p xs o ready forms k had fs end went x i g j e b is st turns d kept;
}
