use Rattle.searched_turns.proofs.KeptPrograms.{unit_searched, kept_searched, ready_searched, turns_import}
use Rattle.note_laws.specs.Told.{ImportsOthers}
use Rattle.kept_turns.proofs.NextTurn.{first_turn, second_turn}
use Rattle.searched_turns.proofs.laws.units_keep_while_they_search.Goals as goal

pub returns : goal.returns
returns c = record {
  same = λ all units known n h p xs o ready forms k. unit_searched all units known n h p xs o ready forms k;
  kept = λ all units known n h p xs o ready forms k. kept_searched all units known n h p xs o ready forms k;
  ready = λ all units known n h p xs o ready forms k. ready_searched all units known n h p xs o ready forms k;
  imports = λ all units known n h p xs o ready forms k. turns_import all units known n h p xs o ready forms k;
  first = λ way known ys zs x s h. first_turn way known ys zs x s (λ v x. ImportsOthers v.state) (λ v r. ImportsOthers v.state) h;
  second = λ way known xs s h. second_turn way known xs s (λ v x. ImportsOthers v.state) (λ v r. ImportsOthers v.state) h;
}
