use Rattle.answers_at_turns.proofs.LeftEntries.{entry_left}
use Rattle.answers_at_turns.proofs.laws.turns_leave_entries.Goals as goal

pub returns : goal.returns
returns c = λ all units known n h p xs now fs end x g b o ready forms k went turns i j e is st. entry_left all units known n h p xs o ready forms k now fs end went x i g j e b is st turns
