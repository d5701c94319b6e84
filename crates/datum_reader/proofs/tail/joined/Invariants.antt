use Rattle.std.proofs.Common.{◌≡◌, vec_len}
use Rattle.scheme_model.specs.Data.{Data, row}
use Rattle.datum_reader.specs.Views.{data_of}
use Rattle.datum_reader.specs.OpenViews.{chained}
use Rattle.datum_reader.proofs.tail.joined.Given as goal

abbrev pub invariant-loop-run : goal.invariant-loop-run
invariant-loop-run l =
    (end : Data) → row (data_of l.parts.items) (chained end l.runs.items) ≡ row (data_of l.initial.parts.items) (chained end l.initial.runs.items)

abbrev pub decreases-loop-run : goal.decreases-loop-run
decreases-loop-run l = vec_len l.runs
