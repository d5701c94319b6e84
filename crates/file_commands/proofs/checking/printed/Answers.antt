-- The lines of one list more are printed.
use Rattle.std.proofs.Common.{◌∙◌, Global, List, String, ap, string_bytes}
use Rattle.ls_base.specs.declared.answers.Diagnostic.{Diagnostic}
use Rattle.command_lines.specs.Diagnostics.{diagnostic_lines, has_error}
use Rattle.program_answers.specs.Updates.{entries_shown}
use Rattle.file_commands.specs.Checking.{printed}
use Rattle.file_commands.proofs.PrintedLaws.{all_printed, error_more, lines_more}
use Rattle.file_commands.proofs.checking.printed.Goals as goal

pub loop-name-preserved : goal.loop-name-preserved
loop-name-preserved c =
    let l = c.loop-name in
    let all = printed (entries_shown c.args.lists.now) in
    let e : String Global × List Diagnostic = (c.in-Some.name.now, c.in-Some.list.now) in
    record {
      lines = lines_more l.name-iterator c.next.new.self e (string_bytes l.text) (string_bytes c.push_str.new.self) c.as_str-in-loop-name.result.now all.lines c.in-Some.ensures.steps c.in_ok-push_str.ensures.bytes
          (c.as_str-in-loop-name.ensures.value ∙ c.in_ok-diagnostic_lines.ensures ∙ (λ i. diagnostic_lines (c.as_str.ensures.value i) (c.as_slice.ensures i))) l.invariant.lines;
      error = error_more l.name-iterator c.next.new.self e l.error c.has_error.result all.has_error c.in-Some.ensures.steps (c.has_error.ensures ∙ ap has_error c.as_slice-in-loop-name.ensures) l.invariant.error;
    }

pub returns : goal.returns
returns c =
    let l = c.loop-name in
    all_printed l.name-iterator (entries_shown c.args.lists.now) (string_bytes l.text) c.from_string.result l.error c.in-None.ensures.steps.0 c.from_string.ensures l.invariant.lines l.invariant.error
