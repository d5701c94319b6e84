use Rattle.std.proofs.Common.{sym, ap, ◌∙◌}
use Rattle.std.specs.Prelude.{not}
use Rattle.scheme_model.specs.Data.{place_of}
use Rattle.scheme_model.specs.Declarations.{is_proper}
use Rattle.datum_reader.specs.Views.{datum_of, data_of}
use Rattle.datum_reader.proofs.DataRows.{proper_row}
use Rattle.datum_reader.proofs.heads.is_proper.Goals as goal

pub returns-in-List : goal.returns-in-List
returns-in-List c =
    let l = c.in-List.ensures in
    ap not l.2 ∙ sym (ap is_proper l.1 ∙ proper_row (place_of (datum_of c.args.datum.now)) (data_of c.in-List.field-0.now) l.0)
