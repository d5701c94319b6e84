use Rattle.std.proofs.Common.{ℕ, ◌<◌, List}
use Rattle.scheme_model.specs.Requirements.{Known}
use Rattle.scheme_model.specs.Order.{Pending}
use Rattle.scheme_model.specs.Ident.{Ident as Identifier}
use Rattle.scheme_model.specs.ScopedExpansion.{Frames, FramedIdent}
use Rattle.unit_scopes.specs.Kept.{NotesFor, PendingFor, left_with}
use Rattle.feature_requirements.specs.Judged.{Knows}
use Rattle.expander.proofs.PassLoop.{PassedSoFar}
use Rattle.expander.proofs.passes.pass.Given as goal
use Rattle.noted_steps.specs.Noting.{Noting}
use Rattle.noted_steps.specs.Standing.{Stands}
use Rattle.noted_steps.specs.Kept.{SpotFor}

abbrev pub invariant-forms : goal.invariant-forms
invariant-forms l =
    (known : Known) (ls : List Frames) (s : Noting) (fs : Frames) (p : Pending Identifier FramedIdent) (turns : ℕ) → Knows l.fn.units.libraries known → Stands l.fn.work l.fn.units ls s → SpotFor l.fn.work l.fn.units ls s l.spot fs →
    PendingFor l.fn.work l.region l.fn.units.unit l.fn.units.form.number l.fn.pending p → NotesFor l.fn.work ls l.fn.asked p.notes → left_with p.todo l.fn.units.form.budget.uses < turns →
    PassedSoFar known l.fn.work l.region l.fn.units ls l.spot fs s p turns l.work l.units l.pending l.asked l._turn
