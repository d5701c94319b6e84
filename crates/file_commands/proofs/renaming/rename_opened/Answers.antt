-- The edits or the refusal are those of the one text.
use Rattle.std.proofs.Common.{ap, ◌∙◌}
use Rattle.std.specs.FinMap.{entries}
use Rattle.command_lines.specs.Edits.{edit_lines, refusal_line}
use Rattle.file_commands.proofs.CountLaws.{edited_counted, fault_in}
use Rattle.file_commands.proofs.Told.{edits_printed, refusal_printed}
use Rattle.file_commands.proofs.renaming.rename_opened.Goals as goal

pub returns-in_ok-edit_lines-in-Ok-clause-renamed : goal.returns-in_ok-edit_lines-in-Ok-clause-renamed
returns-in_ok-edit_lines-in-Ok-clause-renamed g c = λ r text is one.
    let w = c.args.workspace.now in
    edits_printed w.encoding w.texts c.args.name.now text c.requires one c.args.position c.args.new_name.now r c.in-Ok.edits c.from_string.result
    (c.from_string.ensures ∙ c.in_ok-edit_lines-in-Ok.ensures ∙ ap edit_lines c.as_slice.ensures) (c.in-Ok.ensures.answer r is)

pub returns-in_ok-refusal_line-in-Err-clause-renamed : goal.returns-in_ok-refusal_line-in-Err-clause-renamed
returns-in_ok-refusal_line-in-Err-clause-renamed g c = λ r text is one.
    let w = c.args.workspace.now in
    refusal_printed w.encoding w.texts c.args.name.now text c.requires one c.args.position c.args.new_name.now r
    c.rename.new.ws.encoding c.rename.new.ws.texts c.in-Err.ensures.encoding c.in-Err.ensures.texts c.in-Err.fault c.in_ok-refusal-in-Err.refusal c.from_string-in-Err.result
    (c.from_string-in-Err.ensures ∙ c.in_ok-refusal_line-in-Err.ensures ∙ ap refusal_line c.as_str.ensures) (c.in-Err.ensures.answer r is) (λ a. c.in_ok-refusal-in-Err.ensures.text r a is)

pub returns-in_ok-edit_lines-in-Ok-clause-steps : goal.returns-in_ok-edit_lines-in-Ok-clause-steps
returns-in_ok-edit_lines-in-Ok-clause-steps g c = λ r text is one.
    let w = c.args.workspace.now in
    edited_counted w.encoding (entries w.texts) c.args.name.now text c.requires one c.args.position c.args.new_name.now r c.args.steps.now c.rename.new.steps (c.in-Ok.ensures.steps r is (λ q. absurd cc))

pub returns-in_ok-refusal_line-in-Err-clause-steps : goal.returns-in_ok-refusal_line-in-Err-clause-steps
returns-in_ok-refusal_line-in-Err-clause-steps g c = λ r text is one.
    let w = c.args.workspace.now in
    edited_counted w.encoding (entries w.texts) c.args.name.now text c.requires one c.args.position c.args.new_name.now r c.args.steps.now c.rename.new.steps
    (c.in-Err.ensures.steps r is (λ q. c.in_ok-refusal-in-Err.ensures.memory (ap fault_in q)))
