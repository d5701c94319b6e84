-- The content is a text, or it isn't UTF-8.
use Rattle.std.proofs.Common.{length, ap, arith}
use Rattle.file_commands.proofs.ContentLaws.{of_no_text, of_text}
use Rattle.file_commands.proofs.CountLaws.{of_no_text_counted, of_text_counted}
use Rattle.file_commands.proofs.renaming.rename_in.Goals as goal

pub rename_in_text-requires : goal.rename_in_text-requires
rename_in_text-requires g c = omega (arith, ap length c.in-Ok.ensures.cases.0, c.requires)

pub returns-in_ok-rename_in_text-in-Ok-clause-renamed : goal.returns-in_ok-rename_in_text-in-Ok-clause-renamed
returns-in_ok-rename_in_text-in-Ok-clause-renamed g c = λ r is.
    let a = c.args in
    of_text r a.name.now a.content.now a.position a.new_name.now c.in-Ok.text.now c.in_ok-rename_in_text-in-Ok.field-0 c.in-Ok.ensures.cases.1 c.in-Ok.ensures.cases.0 (c.in_ok-rename_in_text-in-Ok.ensures.renamed r is)

pub returns-in_ok-not_utf8_line-in-Err-clause-renamed : goal.returns-in_ok-not_utf8_line-in-Err-clause-renamed
returns-in_ok-not_utf8_line-in-Err-clause-renamed g c = λ r is.
    let a = c.args in
    of_no_text r a.name.now a.content.now a.position a.new_name.now c.in_ok-not_utf8_line-in-Err.field-0 c.in-Err.ensures.cases.0 c.in_ok-not_utf8_line-in-Err.ensures

pub returns-in_ok-rename_in_text-in-Ok-clause-steps : goal.returns-in_ok-rename_in_text-in-Ok-clause-steps
returns-in_ok-rename_in_text-in-Ok-clause-steps g c = λ r is.
    let a = c.args in
    of_text_counted r a.name.now a.content.now a.position a.new_name.now c.in-Ok.text.now a.steps.now c.rename_in_text.new.steps c.in-Ok.ensures.cases.1 c.in-Ok.ensures.cases.0 (c.in_ok-rename_in_text-in-Ok.ensures.steps r is)

pub returns-in_ok-not_utf8_line-in-Err-clause-steps : goal.returns-in_ok-not_utf8_line-in-Err-clause-steps
returns-in_ok-not_utf8_line-in-Err-clause-steps g c = λ r is.
    let a = c.args in
    of_no_text_counted r a.name.now a.content.now a.position a.new_name.now a.steps.now c.in-Err.ensures.cases.0
