-- Before `initialize` no document is open.
use Rattle.std.proofs.Common.{◌≡◌}
use Rattle.std.specs.FinMap.{empty}
use Rattle.scheme_model.specs.Session as session
use Rattle.scheme_model.specs.Texts.{Texts}
use Rattle.session_replies.specs.declared.mode.Mode.{Mode}
use Rattle.session_replies.specs.declared.mode.Mode.TheVariants as modes
use Rattle.session_replies.specs.States.{said_mode, IsBegun}

pub none_open : (mode : Mode) (texts : Texts) → said_mode mode ≡ session.Fresh → IsBegun mode texts → texts ≡ empty
none_open modes.Fresh texts fresh begun = begun
none_open modes.Running texts fresh begun = cc
none_open modes.Shut texts fresh begun = cc

-- a session that runs may have any
pub any_open : (mode : Mode) (texts : Texts) → said_mode mode ≡ session.Running → IsBegun mode texts
any_open modes.Fresh texts runs = cc
any_open modes.Running texts runs = tt
any_open modes.Shut texts runs = tt
