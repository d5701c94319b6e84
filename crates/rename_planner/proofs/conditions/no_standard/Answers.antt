use Rattle.std.proofs.Common.{Some, refl, sym, ap, ◌∙◌}
use Rattle.rename_conditions.specs.Renames.{IsStandard, first_of, standard_names}
use Rattle.rename_answers.specs.ReadDocuments.{read_as}
use Rattle.rename_planner.proofs.BindLaws.{passes, refused}
use Rattle.rename_planner.proofs.StepLaws.{standard_first}
use Rattle.rename_planner.proofs.conditions.no_standard.Goals as goal

pub returns-in_ok-name-in-Some : goal.returns-in_ok-name-in-Some
returns-in_ok-name-in-Some c = λ e ds rs o is.
    refused _ e ds (first_of (standard_names (read_as ds rs) o)) IsStandard _ _ (standard_first ds rs o ∙ sym is.standard ∙ c.in-Some.is ∙ ap Some (sym c.in_ok-name-in-Some.ensures.cases)) refl

pub returns-in-None : goal.returns-in-None
returns-in-None c = λ e ds rs o is.
    passes e ds (first_of (standard_names (read_as ds rs) o)) IsStandard _ (standard_first ds rs o ∙ sym is.standard ∙ c.in-None.is)
