use Rattle.std.proofs.Common.{sym, subst, map}
use Rattle.std.specs.FinMap.{entries}
use Rattle.scheme_model.specs.Program.{units_of}
use Rattle.scheme_tokens.specs.LibraryNames.{library_text}
use Rattle.read_documents.specs.Readings.{documents_in, program_in}
use Rattle.rename_model.specs.Difference as difference
use Rattle.program_differences.specs.Differences.{AreOne, plan_as}
use Rattle.workspace_state.specs.ProgramOfTexts.{IsProgramOfTexts}
use Rattle.document_changes.specs.Edited.{edited_texts}
use Rattle.rename_laws.proofs.GivenLaws.{exports_are_given}
use Rattle.rename_answers.specs.ToldRenames.{uris_of}
use Rattle.rename_planner.proofs.CompareLaws.{comparable, differs, new_stands, same_program}
use Rattle.rename_answers.proofs.DistinctLaws.{uris_distinct}
use Rattle.rename_answers.proofs.TellsLaws.{names_tell}
use Rattle.rename_planner.proofs.comparing.compare.Goals as goal

-- src/comparing.rt:37:9
pub first_difference-found-requires : goal.first_difference-found-requires
first_difference-found-requires g c =
    let was : IsProgramOfTexts c.args.ws.now.texts c.work.result.now c.program.result.now =
    subst (λ w. IsProgramOfTexts c.args.ws.now.texts w c.program.result.now) (sym c.work.ensures) (subst (λ t. IsProgramOfTexts t c.try_edits.new.self.expansion.work c.program.result.now) c.try_edits.ensures.texts c.program.ensures.of_texts) in
    let now : IsProgramOfTexts (edited_texts c.args.ws.now.encoding c.args.edits.now c.args.ws.now.texts) c.work.result.now c.program-2.result.now =
    subst (λ w. IsProgramOfTexts (edited_texts c.args.ws.now.encoding c.args.edits.now c.args.ws.now.texts) w c.program-2.result.now) (sym c.work.ensures)
    (subst (IsProgramOfTexts (edited_texts c.args.ws.now.encoding c.args.edits.now c.args.ws.now.texts) c.try_edits.new.self.expansion.work) (sym c.program-2.ensures) c.in_ok-trial.ensures.trial) in
    comparable c.args.ws.now.encoding c.args.edits.now c.args.ws.now.texts c.work.result.now c.program.result.now c.program-2.result.now was now

-- src/comparing.rt:22:1
pub returns-in-Some-clause-exact : goal.returns-in-Some-clause-exact
returns-in-Some-clause-exact g c = λ rs ts are there.
    let was : IsProgramOfTexts c.args.ws.now.texts c.work.result.now c.program.result.now =
    subst (λ w. IsProgramOfTexts c.args.ws.now.texts w c.program.result.now) (sym c.work.ensures) (subst (λ t. IsProgramOfTexts t c.try_edits.new.self.expansion.work c.program.result.now) c.try_edits.ensures.texts c.program.ensures.of_texts) in
    let now : IsProgramOfTexts (edited_texts c.args.ws.now.encoding c.args.edits.now c.args.ws.now.texts) c.work.result.now c.program-2.result.now =
    subst (λ w. IsProgramOfTexts (edited_texts c.args.ws.now.encoding c.args.edits.now c.args.ws.now.texts) w c.program-2.result.now) (sym c.work.ensures)
    (subst (IsProgramOfTexts (edited_texts c.args.ws.now.encoding c.args.edits.now c.args.ws.now.texts) c.try_edits.new.self.expansion.work) (sym c.program-2.ensures) c.in_ok-trial.ensures.trial) in
    let found = c.in_ok-difference.ensures library_text (uris_of (entries c.args.ws.now.texts)) (units_of (documents_in rs)) (units_of (documents_in ts)) (program_in rs) (program_in ts)
    (names_tell (documents_in rs) (documents_in ts)) (uris_distinct c.args.ws.now.texts) (was rs are)
    (new_stands c.args.ws.now.encoding c.args.edits.now c.args.ws.now.texts c.work.result.now c.program-2.result.now ts now there)
    (exports_are_given (documents_in rs)) (exports_are_given (documents_in ts)) in
    differs c.args.ws.now.encoding (entries c.args.ws.now.texts) c.in-Some.difference (difference.first_difference (units_of (documents_in rs)) (program_in rs) (program_in ts) (plan_as c.args.plan.now))
    (subst (λ f. AreOne f (difference.first_difference (units_of (documents_in rs)) (program_in rs) (program_in ts) (plan_as c.args.plan.now))) c.in-Some.is found)

-- src/comparing.rt:22:1
pub returns-in-None-clause-exact : goal.returns-in-None-clause-exact
returns-in-None-clause-exact g c = λ rs ts are there.
    let was : IsProgramOfTexts c.args.ws.now.texts c.work.result.now c.program.result.now =
    subst (λ w. IsProgramOfTexts c.args.ws.now.texts w c.program.result.now) (sym c.work.ensures) (subst (λ t. IsProgramOfTexts t c.try_edits.new.self.expansion.work c.program.result.now) c.try_edits.ensures.texts c.program.ensures.of_texts) in
    let now : IsProgramOfTexts (edited_texts c.args.ws.now.encoding c.args.edits.now c.args.ws.now.texts) c.work.result.now c.program-2.result.now =
    subst (λ w. IsProgramOfTexts (edited_texts c.args.ws.now.encoding c.args.edits.now c.args.ws.now.texts) w c.program-2.result.now) (sym c.work.ensures)
    (subst (IsProgramOfTexts (edited_texts c.args.ws.now.encoding c.args.edits.now c.args.ws.now.texts) c.try_edits.new.self.expansion.work) (sym c.program-2.ensures) c.in_ok-trial.ensures.trial) in
    let found = c.in_ok-difference.ensures library_text (uris_of (entries c.args.ws.now.texts)) (units_of (documents_in rs)) (units_of (documents_in ts)) (program_in rs) (program_in ts)
    (names_tell (documents_in rs) (documents_in ts)) (uris_distinct c.args.ws.now.texts) (was rs are)
    (new_stands c.args.ws.now.encoding c.args.edits.now c.args.ws.now.texts c.work.result.now c.program-2.result.now ts now there)
    (exports_are_given (documents_in rs)) (exports_are_given (documents_in ts)) in
    same_program (Unit {0}) tt c.args.ws.now.encoding (entries c.args.ws.now.texts) (difference.first_difference (units_of (documents_in rs)) (program_in rs) (program_in ts) (plan_as c.args.plan.now))
    (subst (λ f. AreOne f (difference.first_difference (units_of (documents_in rs)) (program_in rs) (program_in ts) (plan_as c.args.plan.now))) c.in-None.is found)
