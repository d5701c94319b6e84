use Rattle.std.proofs.Common.{sym, ap, ◌∙◌}
use Rattle.scheme_model.specs.Data.{place_of}
use Rattle.scheme_model.specs.Declarations.{is_headed}
use Rattle.datum_reader.specs.Views.{datum_of}
use Rattle.datum_reader.proofs.heads.is_headed.Goals as goal

pub returns-in-List : goal.returns-in-List
returns-in-List c =
    let l = c.in-List.ensures in
    c.is_headed_by.ensures l.0 (place_of (datum_of c.args.datum.now)) ∙ sym (ap (is_headed c.args.word.now) l.1)
