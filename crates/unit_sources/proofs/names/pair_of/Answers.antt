use Rattle.std.proofs.Common.{ap}
use Rattle.scheme_model.specs.Entries.{pair_of}
use Rattle.import_sets.specs.Sets.{paired}
use Rattle.datum_reader.specs.Views.{datum_of}
use Rattle.datum_reader.specs.Looks.{tree_at, trees_at}
use Rattle.datum_reader.specs.Forms.{place}
use Rattle.unit_sources.specs.PartsRead.{pair_in}
use Rattle.unit_sources.proofs.Chaining.{reads_same}
use Rattle.datum_reader.proofs.LookLaws.{list_seen}
use Rattle.unit_sources.proofs.names.pair_of.Goals as goal

pub returns-in-List : goal.returns-in-List
returns-in-List c =
    let at = place c.args.home in
    let ds = c.in-List.parts.now in
    let t = list_seen at ds c.in-List.dotted (datum_of c.args.datum.now) c.in-List.ensures in
    reads_same paired c.pair_in.result (pair_in (trees_at at ds) t.end) (pair_of (tree_at at c.args.datum.now)) (ap pair_of t.whole) (c.pair_in.ensures t.end t.dotted)
