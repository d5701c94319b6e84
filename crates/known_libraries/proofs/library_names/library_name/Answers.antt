use Rattle.std.proofs.Common.{ap}
use Rattle.scheme_model.specs.Requirements.{library_name_of}
use Rattle.datum_reader.specs.Views.{datum_of}
use Rattle.datum_reader.specs.Looks.{tree_at, trees_at}
use Rattle.known_libraries.specs.PartsRead.{map_ok, library_text, name_in_list}
use Rattle.known_libraries.proofs.Chaining.{reads_same}
use Rattle.datum_reader.proofs.LookLaws.{list_seen}
use Rattle.known_libraries.proofs.library_names.library_name.Goals as goal

pub returns-in-List : goal.returns-in-List
returns-in-List c = λ at.
    let ds = c.in-List.parts.now in
    let t = list_seen at ds c.in-List.dotted (datum_of c.args.datum.now) c.in-List.ensures in
    reads_same (λ t. t) c.name_of_parts.result (map_ok library_text (name_in_list (trees_at at ds) t.end)) (map_ok library_text (library_name_of (λ s. s) (tree_at at c.args.datum.now)))
    (ap (λ x. map_ok library_text (library_name_of (λ s. s) x)) t.whole) (c.name_of_parts.ensures at t.end t.dotted)
