use Rattle.std.proofs.Common.{List, subst, arith}
use Rattle.scheme_model.specs.Building.{stands_in}
use Rattle.scheme_model.specs.Ident.{same_ident}
use Rattle.core_forms.specs.declared.shape.QuasiMark.{QuasiMark}
use Rattle.form_parts.specs.Marked.{AddsMarks, mark_here}
use Rattle.form_parts.proofs.QuasiMarks.{are_marks}
use Rattle.unit_scopes.proofs.scope.UnitScope.marks.Goals as goal

pub add_marks-requires-clause-within : goal.add_marks-requires-clause-within
add_marks-requires-clause-within c =
    let e = c.depth-depth.ensures c.requires.form.0 c.requires.form.1 in
    (c.requires.form.0, c.requires.form.1, omega arith)

pub returns-clause-marks : goal.returns-clause-marks
returns-clause-marks c = λ is ls s fs t stands at h.
    let w = c.args.work.now in
    are_marks w c.add_marks.new.marks (mark_here s fs) t
    (subst (λ (ms : List QuasiMark). AddsMarks w.symbols ms c.add_marks.new.marks (mark_here s fs) (λ i. stands_in same_ident i t)) c.new-marks.ensures (c.in_ok-add_marks.ensures ls s fs t stands at h))
