use Rattle.scheme_ls.proofs.Causes.{a_read_failed, a_write_failed}
use Rattle.scheme_ls.proofs.laws.faults_have_causes.Goals as goal

pub returns : goal.returns
returns c = record { reads = λ words old new run. a_read_failed old new words run; writes = λ words old new run. a_write_failed old new words run }
