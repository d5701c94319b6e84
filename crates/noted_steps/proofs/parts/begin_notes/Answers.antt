use Rattle.std.proofs.Common.{ℕ, sym, subst}
use Rattle.form_notes.specs.Noted.{beginning}
use Rattle.form_notes.specs.Standing.{HaveNotes}
use Rattle.noted_steps.specs.Noting.{going}
use Rattle.noted_steps.specs.Standing.{Stands}
use Rattle.noted_steps.proofs.parts.begin_notes.Goals as goal

pub returns-clause-begun : goal.returns-clause-begun
returns-clause-begun c = λ work ls s exact before editions ms p tells count have.
    let u = c.args.units.now in
    subst (λ (n : ℕ). Stands work c.begin_at.new.units ls (going exact before (beginning s.unit s.form n editions) ms s)) p.form.uses
    (c.begin_at.ensures.begun work ls s exact before editions ms p tells count (λ told. subst (λ (n : ℕ). HaveNotes work.symbols (beginning s.unit s.form n editions) u.form.trace.notes.notes ms) (sym p.form.uses) (have told)))
