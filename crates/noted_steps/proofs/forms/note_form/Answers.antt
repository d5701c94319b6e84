use Rattle.std.proofs.Common.{sym, subst}
use Rattle.noted_steps.specs.Noting.{Noting}
use Rattle.noted_steps.specs.Standing.{Stands}
use Rattle.noted_steps.proofs.FormLaws.{marks_there, libraries_there, none_there}
use Rattle.noted_steps.proofs.forms.note_form.Goals as goal

pub returns-in-Quasiquote-clause-noted : goal.returns-in-Quasiquote-clause-noted
returns-in-Quasiquote-clause-noted c = λ known ls s fs k head ts tail o knows e at is stands.
    subst (λ (t : Noting). Stands c.args.work.now c.note_marks.new.units ls t) (sym (marks_there known fs ts tail s c.args.core k c.in-Quasiquote.is is)) (c.note_marks.ensures.noted known ls s fs head ts tail o e at stands)

pub returns-in-CondExpand-clause-noted : goal.returns-in-CondExpand-clause-noted
returns-in-CondExpand-clause-noted c = λ known ls s fs k head ts tail o knows e at is stands.
    subst (λ (t : Noting). Stands c.args.work.now c.note_libraries.new.units ls t) (sym (libraries_there known fs ts tail s c.args.core k c.in-CondExpand.is is)) (c.note_libraries.ensures.noted known ls s head ts tail o knows e stands)

pub returns-in_default-clause-noted : goal.returns-in_default-clause-noted
returns-in_default-clause-noted c = λ known ls s fs k head ts tail o knows e at is stands.
    subst (λ (t : Noting). Stands c.args.work.now c.args.units.now ls t) (sym (none_there known fs ts tail s c.args.core k c.in_default.not-Quasiquote c.in_default.not-CondExpand is)) e
