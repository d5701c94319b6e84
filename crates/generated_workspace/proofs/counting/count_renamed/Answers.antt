-- The edits that the rename tells, or none.
use Rattle.std.proofs.Common.{length, ap, ◌∙◌}
use Rattle.std.specs.FinMap.{entries}
use Rattle.std.specs.List.{sum_by}
use Rattle.ls_base.specs.declared.answers.DocEdits.{DocEdits}
use Rattle.generated_workspace.specs.Selfrun.{defined_at}
use Rattle.generated_workspace.proofs.EditLaws.{edits_counted, fault_in, none_counted}
use Rattle.generated_workspace.proofs.counting.count_renamed.Goals as goal

pub returns-in_ok-edits_in-in-Ok-clause-edits : goal.returns-in_ok-edits_in-in-Ok-clause-edits
returns-in_ok-edits_in-in-Ok-clause-edits g c = λ r is.
    let w = c.args.workspace.now in
    edits_counted r w.encoding (entries w.texts) c.args.uri.now defined_at c.args.name.now c.in_ok-edits_in-in-Ok.field-0 c.in-Ok.edits
    (c.in_ok-edits_in-in-Ok.ensures ∙ ap (sum_by (λ (d : DocEdits). length d.edits)) c.as_slice.ensures) (c.in-Ok.ensures.answer r is)

pub returns-in_ok-no_edits-in-Err-clause-edits : goal.returns-in_ok-no_edits-in-Err-clause-edits
returns-in_ok-no_edits-in-Err-clause-edits g c = λ r is.
    let w = c.args.workspace.now in
    none_counted r w.encoding (entries w.texts) c.args.uri.now defined_at c.args.name.now c.in_ok-no_edits-in-Err.field-0 c.in-Err.fault c.in_ok-no_edits-in-Err.ensures.none c.in_ok-no_edits-in-Err.ensures.memory (c.in-Err.ensures.answer r is)

pub returns-in_ok-edits_in-in-Ok-clause-steps : goal.returns-in_ok-edits_in-in-Ok-clause-steps
returns-in_ok-edits_in-in-Ok-clause-steps g c = λ r is. c.in-Ok.ensures.steps r is (λ q. absurd cc)

pub returns-in_ok-no_edits-in-Err-clause-steps : goal.returns-in_ok-no_edits-in-Err-clause-steps
returns-in_ok-no_edits-in-Err-clause-steps g c = λ r is.
    c.in-Err.ensures.steps r is (λ q. c.in_ok-no_edits-in-Err.ensures.memory (ap fault_in q))
