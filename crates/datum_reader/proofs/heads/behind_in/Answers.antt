use Rattle.std.proofs.Common.{◌∙◌}
use Rattle.datum_reader.specs.Views.{data_of}
use Rattle.datum_reader.proofs.DataRows.{behind_none, behind_there}
use Rattle.datum_reader.proofs.heads.behind_in.Goals as goal

pub returns-then-dotted : goal.returns-then-dotted
returns-then-dotted c = λ end e. behind_none (data_of c.args.parts.now) end (e ∙ c.if-dotted.true)

pub returns-in-Parts : goal.returns-in-Parts
returns-in-Parts c = λ end e. behind_there c.args.parts.now end c.in-Parts.field-0.now c.in-Parts.rest.now (e ∙ c.if-dotted.false) c.in-Parts.ensures
