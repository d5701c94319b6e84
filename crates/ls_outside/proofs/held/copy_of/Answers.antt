use Rattle.std.proofs.Common.{[]}
use Rattle.ls_outside.proofs.CallLaws.{take_none}
use Rattle.ls_outside.proofs.held.copy_of.Goals as goal

pub returns-in-Err-clause-read : goal.returns-in-Err-clause-read
returns-in-Err-clause-read c = ([], take_none _)
