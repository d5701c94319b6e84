use Rattle.std.proofs.Common.{◌≡◌, ◌++◌, Bool, true, false, refl, nat_eq, subst}
use Rattle.std.specs.Prelude.{if◌then◌else◌}
use Rattle.scheme_model.specs.Questions.{Outcome}
use Rattle.form_notes.specs.Noted.{defined_as}
use Rattle.form_notes.specs.Standing.{NotingStands, outcome_as, failed_as}
use Rattle.form_notes.specs.declared.notes.Outcome.TheVariants as outcomes
use Rattle.noted_steps.proofs.defining.note_failed.Goals as goal

told_by : (redefines : Bool) → failed_as redefines ≡ outcome_as (if redefines then outcomes.Redefines else outcomes.StoodBefore)
told_by true = refl
told_by false = refl

pub returns-clause-noted : goal.returns-clause-noted
returns-clause-noted c = λ names r ms fs x rules ns out h is.
    subst (λ (o : Outcome). NotingStands names c.fail_definition.new.self r (defined_as r fs x rules ns o ++ ms)) (told_by (nat_eq c.args.number 41)) (c.fail_definition.ensures.noted names r ms fs x rules ns h is)
