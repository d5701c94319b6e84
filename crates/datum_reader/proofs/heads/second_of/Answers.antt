use Rattle.std.proofs.Common.{◌∙◌}
use Rattle.datum_reader.specs.Views.{datum_of, data_of}
use Rattle.datum_reader.proofs.DataRows.{second_none, second_there}
use Rattle.datum_reader.proofs.heads.second_of.Goals as goal

pub returns-then-dotted : goal.returns-then-dotted
returns-then-dotted c = λ end e. second_none (datum_of c.args.datum.now) (data_of c.args.parts.now) end (e ∙ c.if-dotted.true)

pub returns-in-Parts-row_of : goal.returns-in-Parts-row_of
returns-in-Parts-row_of c = λ end e.
    second_there (datum_of c.args.datum.now) c.args.parts.now end c.in-Parts.field-0.now c.in-Parts.behind.now c.in-Parts-row_of.second.now c.in-Parts-row_of.field-1.now (e ∙ c.if-dotted.false) c.in-Parts.ensures c.in-Parts-row_of.ensures
