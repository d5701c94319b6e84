-- The lines were printed, or memory ran out behind the last fetch.
use Rattle.std.proofs.Common.{ap, refl}
use Rattle.file_fetching.specs.FilesSeen.{files_seen}
use Rattle.file_fetching.specs.Fetching.{bytes_in}
use Rattle.command_output.specs.Prints.{sink_seen}
use Rattle.file_runs.specs.WorkOutcome.{work_seen}
use Rattle.file_runs.proofs.WorkLaws.{checked_out, checks}
use Rattle.file_runs.proofs.work.check.Goals as goal

pub returns-in-Ok-check_files : goal.returns-in-Ok-check_files
returns-in-Ok-check_files g c =
    let a = c.args in
    let old = work_seen (files_seen (g.F.Files.held a.files.now) (g.F.Files.asked a.files.now) (g.F.Files.reads a.files.now) (g.F.Files.faults a.files.now)) (sink_seen (g.O.Sink.taken a.output.now) (g.O.Sink.faults a.output.now) (g.O.Sink.writes a.output.now)) a.steps.now in
    let f = c.fetch_texts.new.files in
    let o = c.print_lines.new.output in
    let new = work_seen (files_seen (g.F.Files.held f) (g.F.Files.asked f) (g.F.Files.reads f) (g.F.Files.faults f)) (sink_seen (g.O.Sink.taken o) (g.O.Sink.faults o) (g.O.Sink.writes o)) c.check_files.new.steps in
    checks a.names.now (bytes_in c.in-Ok.contents) old new c.print_lines.result (bytes_in c.as_slice.result.now) c.in-Ok-check_files.checked c.as_str.result.now c.status_of_check.result
    c.in-Ok.ensures (ap bytes_in c.as_slice.ensures) c.in-Ok-check_files.ensures.checked c.in-Ok-check_files.ensures.steps c.as_str.ensures c.status_of_check.ensures c.print_lines.ensures

pub returns : goal.returns
returns g c =
    let a = c.args in
    let old = work_seen (files_seen (g.F.Files.held a.files.now) (g.F.Files.asked a.files.now) (g.F.Files.reads a.files.now) (g.F.Files.faults a.files.now)) (sink_seen (g.O.Sink.taken a.output.now) (g.O.Sink.faults a.output.now) (g.O.Sink.writes a.output.now)) a.steps.now in
    let f = c.fetch_texts.new.files in
    let new = work_seen (files_seen (g.F.Files.held f) (g.F.Files.asked f) (g.F.Files.reads f) (g.F.Files.faults f)) old.sink c.check_files.new.steps in
    checked_out a.names.now (bytes_in c.in-Ok.contents) old new _ c.in-Ok.ensures (refl, refl)
