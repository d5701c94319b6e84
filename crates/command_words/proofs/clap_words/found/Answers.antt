use Rattle.clap.specs.Simple.{app_of}
use Rattle.command_words.proofs.ClapLaws.{simple_of}
use Rattle.command_words.proofs.clap_words.found.Goals as goal

pub returns-in-Ok : goal.returns-in-Ok
returns-in-Ok c = (c.in-Ok.ensures.kinds c.requires, (c.in-Ok.ensures.matches (simple_of (app_of c.args.command) c.requires)).0)
