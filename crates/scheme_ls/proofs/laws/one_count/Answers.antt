use Rattle.scheme_ls.proofs.OneCount.{one_count}
use Rattle.scheme_ls.proofs.laws.one_count.Goals as goal

pub returns : goal.returns
returns c = λ words old new steps others code memory write h k. one_count words old new steps others code memory write h k
