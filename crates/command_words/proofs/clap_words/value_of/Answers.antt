use Rattle.clap.specs.Matches.{found_of}
use Rattle.command_words.proofs.ClapLaws.{no_value, value_is}
use Rattle.command_words.proofs.clap_words.value_of.Goals as goal

pub unreachable-requires : goal.unreachable-requires
unreachable-requires c = no_value (found_of c.args.matches.now) c.args.id.now c.in-None.ensures c.requires

pub returns : goal.returns
returns c = value_is (found_of c.args.matches.now) c.args.id.now _ _ c.in-Some.ensures c.in_ok-copy-in-Some.ensures
