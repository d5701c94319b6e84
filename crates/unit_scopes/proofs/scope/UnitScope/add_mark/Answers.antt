use Rattle.std.proofs.Common.{List, sym, subst}
use Rattle.scheme_model.specs.Ident.{same_ident}
use Rattle.core_forms.specs.declared.shape.QuasiMark.{QuasiMark}
use Rattle.form_parts.specs.Marked.{AddsMarks, mark_here}
use Rattle.form_parts.proofs.QuasiMarks.{adds_one, adds_no_mark}
use Rattle.unit_scopes.proofs.scope.UnitScope.add_mark.Goals as goal

pub returns-in_ok-push : goal.returns-in_ok-push
returns-in_ok-push c = λ ls s fs j stands at is.
    let w = c.args.work.now in
    subst (λ (ms : List QuasiMark). AddsMarks w.symbols c.args.marks.now ms (mark_here s fs) (λ i. same_ident i j)) (sym c.in_ok-push.ensures.ok)
    (adds_one w.symbols (mark_here s fs) c.told_apart.ensures.idents c.args.ident j is c.args.marks.now c.in-Some.keyword (c.in-Some.ensures ls s fs j stands at is))

pub returns-in_default : goal.returns-in_default
returns-in_default c = λ ls s fs j stands at is.
    let w = c.args.work.now in
    adds_no_mark w.symbols (mark_here s fs) c.told_apart.ensures.idents c.args.ident j is c.args.marks.now (c.in_default.ensures ls s fs j stands at is)
