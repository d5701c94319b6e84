use Rattle.kept_turns.proofs.ClosedTurns.{closed_outside, unit_closed, unit_ready}
use Rattle.kept_turns.proofs.laws.imports_stand_outside.Goals as goal

pub returns : goal.returns
returns c = record {
  outside = λ s h. closed_outside s h;
  turns = λ all units known n h p xs o ready forms k. unit_closed all units known n h p xs o ready forms k;
  ready = λ all units known n h p xs o ready forms k. unit_ready all units known n h p xs o ready forms k;
}
