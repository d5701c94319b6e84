use Rattle.std.proofs.Common.{◌≡◌, ℕ, List, Option, refl, sym, ap, ◌∙◌, subst}
use Rattle.std.specs.FinMap.{entries}
use Rattle.std.specs.Option.{option_map}
use Rattle.program_answers.specs.ToldAnswers.{facts_in}
use Rattle.class_edits.specs.DocumentEdits.{edits_of_class, seen, too_long}
use Rattle.rename_conditions.specs.Opened.{edited_in}
use Rattle.rename_conditions.specs.Renames.{TooLong, first_too_long}
use Rattle.rename_answers.specs.ReadDocuments.{read_as}
use Rattle.rename_answers.proofs.ConditionLaws.{IsNumbered, long_one}
use Rattle.rename_planner.proofs.StepLaws.{document_refuses, no_document}
use Rattle.rename_planner.proofs.conditions.fitting_edits.Goals as goal

pub returns-in_ok-of-in-Some-clause-exact : goal.returns-in_ok-of-in-Some-clause-exact
returns-in_ok-of-in-Some-clause-exact c = λ rs o stem are named.
    let ds = entries c.args.ws.now.texts in
    let made = rw c.open.ensures at c.in_ok-all.ensures.exact in
    let long = rw (c.open-2.ensures, c.as_slice.ensures) at c.first_too_long.ensures in
    let told = sym (ap (too_long ds) (made rs o stem are named)) ∙ sym long ∙ ap (option_map (λ uri. uri.now)) c.in-Some.is in
    let n = first_too_long 0 (edited_in (read_as ds rs) o stem) in
    document_refuses _ c.args.ws.now.encoding ds c.in-Some.uri.now n TooLong _
    (subst (λ (u : Option (List ℕ)). IsNumbered 0 ds u n) told (long_one (read_as ds rs) o stem 0 ds rs are)) (λ m q. (m, refl, c.in_ok-of-in-Some.ensures ∙ q))

pub returns-in-None-clause-exact : goal.returns-in-None-clause-exact
returns-in-None-clause-exact c = λ rs o stem are named.
    let ds = entries c.args.ws.now.texts in
    let made = rw c.open.ensures at c.in_ok-all.ensures.exact in
    let long = rw (c.open-2.ensures, c.as_slice.ensures) at c.first_too_long.ensures in
    let told = sym (ap (too_long ds) (made rs o stem are named)) ∙ sym long ∙ ap (option_map (λ uri. uri.now)) c.in-None.is in
    let n = first_too_long 0 (edited_in (read_as ds rs) o stem) in
    no_document c.args.ws.now.encoding ds n TooLong _ (subst (λ (u : Option (List ℕ)). IsNumbered 0 ds u n) told (long_one (read_as ds rs) o stem 0 ds rs are))

pub returns-in-None-clause-edits : goal.returns-in-None-clause-edits
returns-in-None-clause-edits c = λ rs o stem are named. (rw c.open.ensures at c.in_ok-all.ensures.exact) rs o stem are named
