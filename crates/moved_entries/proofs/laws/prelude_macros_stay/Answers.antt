use Rattle.moved_entries.proofs.PreludeStays.{prelude_stays}
use Rattle.moved_entries.proofs.laws.prelude_macros_stay.Goals as goal

pub returns : goal.returns
returns c = λ r old new macros keeps unit moves are. prelude_stays r unit keeps old new moves macros are
