use Rattle.std.proofs.Common.{◌∙◌}
use Rattle.import_sets.proofs.SecondLaws.{second_places_same}
use Rattle.import_sets.proofs.seconds.second_places.Goals as goal

pub returns : goal.returns
returns c = λ s is. c.in_ok-seconds_in.ensures ∙ second_places_same c.args.set.now s is
