use Rattle.kept_turns.proofs.PutWhole.{rest_whole, rest_over}
use Rattle.kept_turns.proofs.laws.rests_are_put_at_once.Goals as goal

pub returns : goal.returns
returns c = record {
  whole = λ v turns fs l c k e. rest_whole v fs turns c k l e;
  over = λ v turns fs l c k some e. rest_over v fs turns c k l some e;
}
