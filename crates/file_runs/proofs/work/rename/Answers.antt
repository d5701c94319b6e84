-- The lines were printed, or memory ran out behind the fetch.
use Rattle.std.proofs.Common.{ap, refl, sym, subst, ◌∙◌, ℕ, List}
use Rattle.ls_base.specs.Limits.{max_text}
use Rattle.file_fetching.specs.FilesSeen.{files_seen}
use Rattle.file_fetching.specs.Fetching.{Fetches}
use Rattle.command_output.specs.Prints.{sink_seen}
use Rattle.file_runs.specs.WorkOutcome.{rename_status, renamed_lines, work_seen}
use Rattle.file_runs.proofs.WorkLaws.{renamed_out, renames}
use Rattle.file_runs.proofs.work.rename.Goals as goal

pub returns-in-Ok-Edits : goal.returns-in-Ok-Edits
returns-in-Ok-Edits g c =
    let a = c.args in
    let old = work_seen (files_seen (g.F.Files.held a.files.now) (g.F.Files.asked a.files.now) (g.F.Files.reads a.files.now) (g.F.Files.faults a.files.now)) (sink_seen (g.O.Sink.taken a.output.now) (g.O.Sink.faults a.output.now) (g.O.Sink.writes a.output.now)) a.steps.now in
    let f = c.fetch_text.new.files in
    let o = c.print_lines.new.output in
    let new = work_seen (files_seen (g.F.Files.held f) (g.F.Files.asked f) (g.F.Files.reads f) (g.F.Files.faults f)) (sink_seen (g.O.Sink.taken o) (g.O.Sink.faults o) (g.O.Sink.writes o)) c.rename_in.new.steps in
    renames a.name.now c.in-Ok.content.items a.position a.new_name.now old new c.print_lines.result c.as_slice.result.now c.in-Ok-Edits.field-0 c.as_str-in-Ok-Edits.result.now _
    (subst (λ (n : List ℕ). Fetches old.files new.files n max_text c.in-Ok.content.items) c.as_str.ensures c.in-Ok.ensures) c.as_slice.ensures.value
    c.in-Ok-Edits.ensures.renamed c.in-Ok-Edits.ensures.steps (c.as_str-in-Ok-Edits.ensures ∙ sym (ap renamed_lines c.in-Ok-Edits.field-0-is)) (sym (ap rename_status c.in-Ok-Edits.field-0-is)) c.print_lines.ensures

pub returns-in-Ok-Refused : goal.returns-in-Ok-Refused
returns-in-Ok-Refused g c =
    let a = c.args in
    let old = work_seen (files_seen (g.F.Files.held a.files.now) (g.F.Files.asked a.files.now) (g.F.Files.reads a.files.now) (g.F.Files.faults a.files.now)) (sink_seen (g.O.Sink.taken a.output.now) (g.O.Sink.faults a.output.now) (g.O.Sink.writes a.output.now)) a.steps.now in
    let f = c.fetch_text.new.files in
    let o = c.print_lines-in-Ok-Refused.new.output in
    let new = work_seen (files_seen (g.F.Files.held f) (g.F.Files.asked f) (g.F.Files.reads f) (g.F.Files.faults f)) (sink_seen (g.O.Sink.taken o) (g.O.Sink.faults o) (g.O.Sink.writes o)) c.rename_in.new.steps in
    renames a.name.now c.in-Ok.content.items a.position a.new_name.now old new c.print_lines-in-Ok-Refused.result c.as_slice.result.now c.in-Ok-Refused.field-0 c.as_str-in-Ok-Refused.result.now _
    (subst (λ (n : List ℕ). Fetches old.files new.files n max_text c.in-Ok.content.items) c.as_str.ensures c.in-Ok.ensures) c.as_slice.ensures.value
    c.in-Ok-Refused.ensures.renamed c.in-Ok-Refused.ensures.steps (c.as_str-in-Ok-Refused.ensures ∙ sym (ap renamed_lines c.in-Ok-Refused.field-0-is)) (sym (ap rename_status c.in-Ok-Refused.field-0-is)) c.print_lines-in-Ok-Refused.ensures

pub returns-in-Ok-NotUtf8 : goal.returns-in-Ok-NotUtf8
returns-in-Ok-NotUtf8 g c =
    let a = c.args in
    let old = work_seen (files_seen (g.F.Files.held a.files.now) (g.F.Files.asked a.files.now) (g.F.Files.reads a.files.now) (g.F.Files.faults a.files.now)) (sink_seen (g.O.Sink.taken a.output.now) (g.O.Sink.faults a.output.now) (g.O.Sink.writes a.output.now)) a.steps.now in
    let f = c.fetch_text.new.files in
    let o = c.print_lines-in-Ok-NotUtf8.new.output in
    let new = work_seen (files_seen (g.F.Files.held f) (g.F.Files.asked f) (g.F.Files.reads f) (g.F.Files.faults f)) (sink_seen (g.O.Sink.taken o) (g.O.Sink.faults o) (g.O.Sink.writes o)) c.rename_in.new.steps in
    renames a.name.now c.in-Ok.content.items a.position a.new_name.now old new c.print_lines-in-Ok-NotUtf8.result c.as_slice.result.now c.in-Ok-NotUtf8.field-0 c.as_str-in-Ok-NotUtf8.result.now _
    (subst (λ (n : List ℕ). Fetches old.files new.files n max_text c.in-Ok.content.items) c.as_str.ensures c.in-Ok.ensures) c.as_slice.ensures.value
    c.in-Ok-NotUtf8.ensures.renamed c.in-Ok-NotUtf8.ensures.steps (c.as_str-in-Ok-NotUtf8.ensures ∙ sym (ap renamed_lines c.in-Ok-NotUtf8.field-0-is)) (sym (ap rename_status c.in-Ok-NotUtf8.field-0-is)) c.print_lines-in-Ok-NotUtf8.ensures

pub returns : goal.returns
returns g c =
    let a = c.args in
    let old = work_seen (files_seen (g.F.Files.held a.files.now) (g.F.Files.asked a.files.now) (g.F.Files.reads a.files.now) (g.F.Files.faults a.files.now)) (sink_seen (g.O.Sink.taken a.output.now) (g.O.Sink.faults a.output.now) (g.O.Sink.writes a.output.now)) a.steps.now in
    let f = c.fetch_text.new.files in
    let new = work_seen (files_seen (g.F.Files.held f) (g.F.Files.asked f) (g.F.Files.reads f) (g.F.Files.faults f)) old.sink c.rename_in.new.steps in
    renamed_out a.name.now c.in-Ok.content.items a.position a.new_name.now old new _
    (subst (λ (n : List ℕ). Fetches old.files new.files n max_text c.in-Ok.content.items) c.as_str.ensures c.in-Ok.ensures) (refl, refl)
