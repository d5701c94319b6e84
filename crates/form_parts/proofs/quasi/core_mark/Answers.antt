use Rattle.form_parts.proofs.QuasiMarks.{no_mark, quasiquote_mark}
use Rattle.form_parts.proofs.quasi.core_mark.Goals as goal

pub returns-in-Quasiquote : goal.returns-in-Quasiquote
returns-in-Quasiquote c = λ k e. quasiquote_mark c.args.core k c.in-Quasiquote.is e

pub returns-in_default : goal.returns-in_default
returns-in_default c = λ k e. no_mark c.args.core k c.in_default.not-Quasiquote e
