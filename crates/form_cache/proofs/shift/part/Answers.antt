use Rattle.form_cache.proofs.Shifts.{values_shift, fields_shift}
use Rattle.form_cache.proofs.shift.part.Goals as goal

pub returns-in-Values : goal.returns-in-Values
returns-in-Values c =
    let q = c.in-Values in
    values_shift c.args.shift c.args.it.now q.names c.binders.new.all q.dotted q.value q.is c.binders.ensures

pub returns-in-Fields : goal.returns-in-Fields
returns-in-Fields c =
    let q = c.in-Fields in
    fields_shift c.args.shift c.args.it.now q.names c.binders-in-Fields.new.all q.fields q.modified q.used q.is c.binders-in-Fields.ensures
