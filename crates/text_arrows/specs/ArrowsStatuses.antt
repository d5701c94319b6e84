-- The statuses of the command `arrows`.
use Rattle.text_arrows.specs.declared.arrows.ArrowsEnd.{ArrowsEnd}
use Rattle.text_arrows.specs.declared.arrows.ArrowsEnd.TheVariants as arrows
use Rattle.text_arrows.specs.declared.arrows.TextEnd.{TextEnd}
use Rattle.text_arrows.specs.declared.arrows.TextEnd.TheVariants as text
use Rattle.command_output.specs.declared.status.Status.{Status}
use Rattle.command_output.specs.declared.status.Status.TheVariants.{Done, Refused, SourceFault, NoMemory, SinkFault, TooLong}

-- the status of `arrows`, by how the answer to its text ends
abbrev pub text_status : TextEnd → Status
text_status text.Printed = Done
text_status text.Refused = Refused
text_status text.WriteFailed = SinkFault
text_status text.NoMemory = NoMemory

-- the status of `arrows` where it ends so
abbrev pub arrows_status : ArrowsEnd → Status
arrows_status (arrows.Answered end) = text_status end
arrows_status arrows.TooLong = TooLong
arrows_status arrows.ReadFailed = SourceFault
arrows_status arrows.NoMemory = NoMemory
