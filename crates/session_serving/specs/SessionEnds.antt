-- How sessions end, and which status each end has.
use Rattle.scheme_model.specs.Session as session
use Rattle.session_serving.specs.declared.answering.Exit.{Exit}
use Rattle.session_serving.specs.declared.answering.Exit.TheVariants as exits
use Rattle.session_serving.specs.declared.serve.SessionEnd.{SessionEnd}
use Rattle.session_serving.specs.declared.serve.SessionEnd.TheVariants as serve
use Rattle.command_output.specs.declared.status.Status.{Status}
use Rattle.command_output.specs.declared.status.Status.TheVariants.{Done, Refused, SourceFault, NoMemory, SinkFault, FrameFault, Endless}

-- how `exit` ends a session, in the words of a session
abbrev pub said_exit : Exit → session.Ending
said_exit exits.Clean = session.Clean
said_exit exits.Early = session.Early

-- the status of a session that `exit` ends
abbrev pub exit_status : Exit → Status
exit_status exits.Clean = Done
exit_status exits.Early = Refused

-- the status of a session that ends so
abbrev pub session_status : SessionEnd → Status
session_status (serve.Exited exit) = exit_status exit
session_status serve.InputEnded = Refused
session_status serve.ReadFailed = SourceFault
session_status serve.WriteFailed = SinkFault
session_status serve.NoMemory = NoMemory
session_status serve.FrameFault = FrameFault
session_status serve.Endless = Endless
