use Rattle.scheme_tokens.proofs.NamesTold.{texts_tell}
use Rattle.scheme_tokens.proofs.laws.texts_tell_proper.Goals as goal

pub returns : goal.returns
returns c = texts_tell
