use Rattle.std.proofs.Common.{◌+◌, ℕ, sym, ap, ◌∙◌, subst, Ok, Err}
use Rattle.std.specs.FinMap.{entries}
use Rattle.program_answers.proofs.TextLists.{some_row}
use Rattle.program_answers.specs.ToldAnswers.{name_there}
use Rattle.rename_conditions.proofs.ReaderLaws.{reader_is_there}
use Rattle.document_changes.specs.Edited.{edited_texts}
use Rattle.rename_answers.specs.ReadDocuments.{read_as}
use Rattle.rename_answers.specs.RenameOutcomes.{AnswersAs}
use Rattle.rename_answers.specs.ToldRenames.{rename_at, rename_uses}
use Rattle.rename_answers.specs.declared.faults.RenameFault.TheVariants as faults
use Rattle.rename_planner.proofs.RenameLaws.{adds_none, counted, fails, fault_in, handed, handed_as, never_differs, not_counted, refused_now, rename_is, renamed_now}
use Rattle.rename_planner.proofs.renaming.rename.Goals as goal

pub returns-in_err-edits-clause-answer : goal.returns-in_err-edits-clause-answer
returns-in_err-edits-clause-answer g c = λ r is.
    let e = c.args.ws.now.encoding in
    let texts = c.args.ws.now.texts in
    let row = some_row (entries texts) in
    let place = name_there e (entries texts) row.0 c.args.uri.now c.args.position in
    subst (AnswersAs e (entries texts) (rename_at r e (entries texts) c.args.uri.now c.args.position c.args.new_name.now)) (sym (handed c.from_residual.result c.in_err-edits.field-0.0 c.from_residual.ensures.1))
    (subst (λ a. AnswersAs e (entries texts) a (Err c.in_err-edits.field-0.0)) (sym (rename_is r is e texts row.0 row.1 c.args.uri.now c.args.position c.args.new_name.now))
    (fails r is e texts row.0 row.1 place c.args.new_name.now c.in_err-edits.field-0.0 ((rw (c.as_str.ensures, c.as_str-2.ensures) at c.in_err-edits.ensures.exact) r row.0 is row.1)))

pub returns-in_err-edits-clause-documents : goal.returns-in_err-edits-clause-documents
returns-in_err-edits-clause-documents g c = λ d h.
    let e = c.args.ws.now.encoding in
    let texts = c.args.ws.now.texts in
    let row = some_row (entries texts) in
    let r = reader_is_there in
    absurd (never_differs e (entries texts) (read_as (entries texts) row.0) (name_there e (entries texts) row.0 c.args.uri.now c.args.position) (r.0.symbol c.args.new_name.now) d c.in_err-edits.field-0.0
    (handed_as c.from_residual.result c.in_err-edits.field-0.0 (faults.Differs d) c.from_residual.ensures.1 h)
    ((rw (c.as_str.ensures, c.as_str-2.ensures) at c.in_err-edits.ensures.exact) r.0 row.0 r.1 row.1))

pub returns-in_err-edits-clause-steps : goal.returns-in_err-edits-clause-steps
returns-in_err-edits-clause-steps g c = λ r is free.
    let e = c.args.ws.now.encoding in
    let texts = c.args.ws.now.texts in
    let row = some_row (entries texts) in
    let none = not_counted r is e texts row.0 row.1 c.args.uri.now c.args.position c.args.new_name.now c.in_err-edits.field-0.0
    (λ q. free (handed c.from_residual.result c.in_err-edits.field-0.0 c.from_residual.ensures.1 ∙ ap (λ f. Err f) q)) ((rw (c.as_str.ensures, c.as_str-2.ensures) at c.in_err-edits.ensures.exact) r row.0 is row.1) in
    adds_none c.args.steps.now (rename_uses r e (entries texts) c.args.uri.now c.args.position c.args.new_name.now) none

pub returns-in_err-compare-clause-answer : goal.returns-in_err-compare-clause-answer
returns-in_err-compare-clause-answer g c = λ r is.
    let e = c.args.ws.now.encoding in
    let texts = c.args.ws.now.texts in
    let row = some_row (entries texts) in
    let then = some_row (entries (edited_texts e c.in_ok-edits.field-0.edits texts)) in
    let place = name_there e (entries texts) row.0 c.args.uri.now c.args.position in
    subst (AnswersAs e (entries texts) (rename_at r e (entries texts) c.args.uri.now c.args.position c.args.new_name.now)) (sym (handed c.from_residual-in_err-compare.result c.in_err-compare.field-0.0 c.from_residual-in_err-compare.ensures.1))
    (subst (λ a. AnswersAs e (entries texts) a (Err c.in_err-compare.field-0.0)) (sym (rename_is r is e texts row.0 row.1 c.args.uri.now c.args.position c.args.new_name.now))
    (refused_now r is e texts row.0 row.1 place c.args.new_name.now c.in_ok-edits.field-0 ((rw (c.as_str.ensures, c.as_str-2.ensures) at c.in_ok-edits.ensures.exact) r row.0 is row.1) then.0 then.1 c.in_err-compare.field-0.0
    (c.in_err-compare.ensures.exact row.0 then.0 row.1 then.1)))

pub returns-in_err-compare-clause-steps : goal.returns-in_err-compare-clause-steps
returns-in_err-compare-clause-steps g c = λ r is free.
    let e = c.args.ws.now.encoding in
    let texts = c.args.ws.now.texts in
    let row = some_row (entries texts) in
    let then = some_row (entries (edited_texts e c.in_ok-edits.field-0.edits texts)) in
    let some = counted r is e texts row.0 row.1 c.args.uri.now c.args.position c.args.new_name.now c.in_ok-edits.field-0 ((rw (c.as_str.ensures, c.as_str-2.ensures) at c.in_ok-edits.ensures.exact) r row.0 is row.1) then.0 then.1 in
    c.in_err-compare.ensures.steps then.0 then.1 (λ q. free (handed c.from_residual-in_err-compare.result c.in_err-compare.field-0.0 c.from_residual-in_err-compare.ensures.1 ∙ ap (λ f. Err f) (ap fault_in q))) ∙ sym (ap (λ (n : ℕ). c.args.steps.now + n) some)

pub returns-clause-answer : goal.returns-clause-answer
returns-clause-answer g c = λ r is.
    let e = c.args.ws.now.encoding in
    let texts = c.args.ws.now.texts in
    let row = some_row (entries texts) in
    let then = some_row (entries (edited_texts e c.in_ok-edits.field-0.edits texts)) in
    let place = name_there e (entries texts) row.0 c.args.uri.now c.args.position in
    subst (λ a. AnswersAs e (entries texts) a (Ok c.in_ok-edits.field-0.edits)) (sym (rename_is r is e texts row.0 row.1 c.args.uri.now c.args.position c.args.new_name.now))
    (renamed_now r is e texts row.0 row.1 place c.args.new_name.now c.in_ok-edits.field-0 ((rw (c.as_str.ensures, c.as_str-2.ensures) at c.in_ok-edits.ensures.exact) r row.0 is row.1) then.0 then.1
    (c.in_ok-compare.ensures.exact row.0 then.0 row.1 then.1))

pub returns-clause-steps : goal.returns-clause-steps
returns-clause-steps g c = λ r is free.
    let e = c.args.ws.now.encoding in
    let texts = c.args.ws.now.texts in
    let row = some_row (entries texts) in
    let then = some_row (entries (edited_texts e c.in_ok-edits.field-0.edits texts)) in
    let some = counted r is e texts row.0 row.1 c.args.uri.now c.args.position c.args.new_name.now c.in_ok-edits.field-0 ((rw (c.as_str.ensures, c.as_str-2.ensures) at c.in_ok-edits.ensures.exact) r row.0 is row.1) then.0 then.1 in
    c.in_ok-compare.ensures.steps then.0 then.1 (λ q. absurd cc) ∙ sym (ap (λ (n : ℕ). c.args.steps.now + n) some)
