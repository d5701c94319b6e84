use Rattle.std.proofs.Common.{ℕ, [], ◌∷◌, subst}
use Rattle.std.specs.Prelude.{Option, Some}
use Rattle.rename_model.specs.SameProgram.{error_stretch}
use Rattle.program_differences.specs.Apart.{FindsFirst}
use Rattle.program_differences.proofs.ListedLaws.{error_at, error_law}
use Rattle.program_differences.proofs.listed.error_apart.Goals as goal

pub returns-in-None : goal.returns-in-None
returns-in-None c = λ names live r h.
    subst (λ (o : Option ℕ). FindsFirst names live (error_stretch c.args.unit (Some r) ∷ []) (error_at c.args.unit o)) c.in-None.is
    (error_law names live c.args.unit c.args.errors.now r c.least_form.result h c.least_form.ensures)

pub returns-in-Some : goal.returns-in-Some
returns-in-Some c = λ names live r h.
    subst (λ (o : Option ℕ). FindsFirst names live (error_stretch c.args.unit (Some r) ∷ []) (error_at c.args.unit o)) c.in-Some.is
    (error_law names live c.args.unit c.args.errors.now r c.least_form.result h c.least_form.ensures)
