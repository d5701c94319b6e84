use Rattle.std.proofs.Common.{◌≡◌, List, sym, ap, ◌∙◌, subst, Ok, Err}
use Rattle.std.specs.FinMap.{entries}
use Rattle.scheme_model.specs.Diagnostics.{Diagnostic}
use Rattle.rename_conditions.specs.Renames.{broken, errors_in_reach, first_of, unless}
use Rattle.rename_planner.specs.Planning.{ComesTo, Holds}
use Rattle.rename_answers.specs.ReadDocuments.{read_as}
use Rattle.rename_planner.proofs.BindLaws.{err_goes}
use Rattle.rename_planner.proofs.StepLaws.{reach_errors}
use Rattle.rename_planner.proofs.conditions.all_whole.Goals as goal

pub returns-in_err-no_error : goal.returns-in_err-no_error
returns-in_err-no_error c = λ rs o are is.
    let ds = entries c.args.ws.now.texts in
    let e = c.args.ws.now.encoding in
    let units = reach_errors ds rs o c.args.class.now c.as_slice.result.now is (c.as_slice.ensures ∙ c.in_ok-units.ensures rs are) in
    err_goes e ds Holds (unless (first_of (errors_in_reach (read_as ds rs) o)) broken) c.from_residual-in_err-no_error.result c.in_err-no_error.field-0.0 c.from_residual-in_err-no_error.ensures.1
    (subst (λ (xs : List Diagnostic). ComesTo {B = Unit {0}} e ds Holds (unless (first_of xs) broken) (Err c.in_err-no_error.field-0.0)) units (c.in_err-no_error.ensures rs are))

pub returns : goal.returns
returns c = λ rs o are is.
    let ds = entries c.args.ws.now.texts in
    let units = reach_errors ds rs o c.args.class.now c.as_slice.result.now is (c.as_slice.ensures ∙ c.in_ok-units.ensures rs are) in
    subst (λ (xs : List Diagnostic). ComesTo {B = Unit {0}} c.args.ws.now.encoding ds Holds (unless (first_of xs) broken) (Ok c.in_ok-no_error.field-0)) units (c.in_ok-no_error.ensures rs are)
