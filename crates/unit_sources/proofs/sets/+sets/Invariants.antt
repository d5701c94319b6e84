use Rattle.std.proofs.Common.{◌*◌, ◌+◌}
use Rattle.datum_reader.specs.Views.{datum_of, data_of}
use Rattle.known_libraries.specs.Weights.{weight, row_weight}
use Rattle.unit_sources.proofs.sets.+sets.Given as goal

abbrev pub decreases-set_of : goal.decreases-set_of
decreases-set_of l = 2 * weight (datum_of l.datum.now)

abbrev pub decreases-set_of_list : goal.decreases-set_of_list
decreases-set_of_list l = 2 * row_weight (data_of l.parts.now) + 1
