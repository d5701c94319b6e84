use Rattle.std.proofs.Common.{codes}
use Rattle.clap.specs.Matches.{found_of}
use Rattle.command_words.specs.ClapWords.{seen}
use Rattle.command_words.proofs.ClapLaws.{no_values, values_are}
use Rattle.command_words.proofs.clap_words.values_of.Goals as goal

pub unreachable-requires : goal.unreachable-requires
unreachable-requires c = no_values (found_of c.args.matches.now) (codes "words") c.in-None.ensures c.requires

pub returns : goal.returns
returns c = values_are (found_of c.args.matches.now) (codes "words") (seen c.in-Some.found.now) c.in_ok-all-in-Some.all c.in-Some.ensures c.in_ok-all-in-Some.ensures
