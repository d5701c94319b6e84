use Rattle.std.proofs.Common.{ap}
use Rattle.std.proofs.lemmas.Result.{err_from_is_err_and}
use Rattle.datum_reader.specs.OpenViews.{spot_of}
use Rattle.datum_reader.proofs.StepLaws.{close_fails, close_gives}
use Rattle.datum_reader.proofs.step.close.Goals as goal

pub returns-in_err-read : goal.returns-in_err-read
returns-in_err-read c =
    let p = err_from_is_err_and c.from_residual.result c.from_residual.ensures.1 in
    rw (p.1, p.2)
    (close_fails c.in_err-read.field-0.0 (spot_of c.args.spot) c.replace-items.result.items c.args.state.now.items.items c.args.state.now.stack.items c.pop.new.self.items c.in-Some.frame
    c.in-Some.ensures.items (ap (λ v. v.items) c.replace-items.ensures.value) c.in_err-read.ensures)

pub returns : goal.returns
returns c =
    close_gives c.in_ok-read.read (spot_of c.args.spot) c.replace-items.result.items c.args.state.now.items.items c.replace-items.new.dest.items c.args.state.now.stack.items c.pop.new.self.items
    c.in-Some.frame _ c.in-Some.ensures.items (ap (λ v. v.items) c.replace-items.ensures.value) (ap (λ v. v.items) c.replace-items.ensures.after) c.in_ok-read.ensures c.in_ok-complete.ensures
