-- The lines were printed, or memory ran out before.
use Rattle.std.proofs.Common.{refl}
use Rattle.command_output.specs.Prints.{sink_seen}
use Rattle.file_runs.specs.WorkOutcome.{work_seen}
use Rattle.file_runs.proofs.WorkLaws.{selfrun_out, selfruns}
use Rattle.file_runs.proofs.work.selfrun.Goals as goal

pub returns-in-Ok : goal.returns-in-Ok
returns-in-Ok g c = λ files.
    let a = c.args in
    let old = work_seen files (sink_seen (g.O.Sink.taken a.output.now) (g.O.Sink.faults a.output.now) (g.O.Sink.writes a.output.now)) a.steps.now in
    let o = c.print_lines.new.output in
    let new = work_seen files (sink_seen (g.O.Sink.taken o) (g.O.Sink.faults o) (g.O.Sink.writes o)) c.selfrun.new.steps in
    selfruns a.libraries old new c.print_lines.result c.in-Ok.lines c.as_str.result.now refl c.in-Ok.ensures.lines c.in-Ok.ensures.steps c.as_str.ensures c.print_lines.ensures

pub returns-in-Err : goal.returns-in-Err
returns-in-Err g c = λ files.
    let a = c.args in
    let old = work_seen files (sink_seen (g.O.Sink.taken a.output.now) (g.O.Sink.faults a.output.now) (g.O.Sink.writes a.output.now)) a.steps.now in
    let new = work_seen files old.sink c.selfrun.new.steps in
    selfrun_out a.libraries old new _ refl (refl, refl)
