use Rattle.import_sets.proofs.HeldPlaces.{row_read}
use Rattle.import_sets.proofs.places.row.Goals as goal

pub returns : goal.returns
returns c = row_read c.args.graph.now c.args.place c.index-graph-place.result c.as_slice.result.now c.requires c.as_slice.ensures c.index-graph-place.is
