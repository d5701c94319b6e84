use Rattle.std.proofs.Common.{Ok, Err}
use Rattle.std.specs.Str.{chars}
use Rattle.std.proofs.lemmas.Result.{err_from_is_err_and}
use Rattle.datum_reader.proofs.ReadLaws.{answers}
use Rattle.datum_reader.proofs.Stops as stopping
use Rattle.datum_reader.proofs.reader.read_all.Goals as goal

pub returns-in_err-data-clause-fault : goal.returns-in_err-data-clause-fault
returns-in_err-data-clause-fault c =
    let p = err_from_is_err_and c.from_residual.result c.from_residual.ensures.1 in
    rw (p.1, p.2) c.in_err-data.ensures.fault

pub returns-in_err-data-clause-only : goal.returns-in_err-data-clause-only
returns-in_err-data-clause-only c =
    let p = err_from_is_err_and c.from_residual.result c.from_residual.ensures.1 in
    rw (p.1, p.2) (λ ds h. answers (Err c.in_err-data.field-0.0) (chars c.args.text.now) ds c.in_err-data.ensures.exact h)

pub returns-in_err-data-clause-stops : goal.returns-in_err-data-clause-stops
returns-in_err-data-clause-stops c =
    let p = err_from_is_err_and c.from_residual.result c.from_residual.ensures.1 in
    rw (p.1, p.2) (λ f h. stopping.stops (Err c.in_err-data.field-0.0) (chars c.args.text.now) f c.in_err-data.ensures.exact h)

pub returns-clause-only : goal.returns-clause-only
returns-clause-only c = λ ds h. answers (Ok c.in_ok-data.data) (chars c.args.text.now) ds c.in_ok-data.ensures.exact h

pub returns-clause-stops : goal.returns-clause-stops
returns-clause-stops c = λ f h. stopping.stops (Ok c.in_ok-data.data) (chars c.args.text.now) f c.in_ok-data.ensures.exact h
