-- What each command did is what it ends as.
use Rattle.std.proofs.Common.{◌∙◌, ap, refl, sym}
use Rattle.command_words.specs.declared.command.Command.TheVariants.{Check}
use Rattle.file_fetching.specs.FilesSeen.{files_seen}
use Rattle.command_output.specs.Prints.{sink_seen}
use Rattle.command_output.specs.Reads.{source_seen}
use Rattle.scheme_ls.specs.RunOutcome.{seen}
use Rattle.scheme_ls.proofs.Obeyed.{ahead_ended, arrows_ended, check_ended, rename_ended, replay_ended, selfrun_ended, serve_ended, too_many_ended, unknown_ended}
use Rattle.scheme_ls.proofs.run.obey.Goals as goal

pub returns-in-Arrows : goal.returns-in-Arrows
returns-in-Arrows g c =
    let a = c.args in
    let old = seen (source_seen (g.I.Source.left a.input.now) (g.I.Source.faults a.input.now) (g.I.Source.reads a.input.now)) (sink_seen (g.O.Sink.taken a.output.now) (g.O.Sink.faults a.output.now) (g.O.Sink.writes a.output.now)) (files_seen (g.F.Files.held a.files.now) (g.F.Files.asked a.files.now) (g.F.Files.reads a.files.now) (g.F.Files.faults a.files.now)) a.steps.now in
    let new = seen (source_seen (g.I.Source.left c.arrows.new.input) (g.I.Source.faults c.arrows.new.input) (g.I.Source.reads c.arrows.new.input)) (sink_seen (g.O.Sink.taken c.arrows.new.output) (g.O.Sink.faults c.arrows.new.output) (g.O.Sink.writes c.arrows.new.output)) old.files c.arrows.new.steps in
    arrows_ended a.command.now old new c.status.result c.in-Arrows.is
    (record { end = c.arrows.result; ends = c.arrows.ensures.ends; files = refl; uncounted = c.arrows.ensures.steps; status_is = c.status.ensures })

pub returns-in-Serve : goal.returns-in-Serve
returns-in-Serve g c =
    let a = c.args in
    let old = seen (source_seen (g.I.Source.left a.input.now) (g.I.Source.faults a.input.now) (g.I.Source.reads a.input.now)) (sink_seen (g.O.Sink.taken a.output.now) (g.O.Sink.faults a.output.now) (g.O.Sink.writes a.output.now)) (files_seen (g.F.Files.held a.files.now) (g.F.Files.asked a.files.now) (g.F.Files.reads a.files.now) (g.F.Files.faults a.files.now)) a.steps.now in
    let new = seen (source_seen (g.I.Source.left c.serve.new.input) (g.I.Source.faults c.serve.new.input) (g.I.Source.reads c.serve.new.input)) (sink_seen (g.O.Sink.taken c.serve.new.output) (g.O.Sink.faults c.serve.new.output) (g.O.Sink.writes c.serve.new.output)) old.files c.serve.new.steps in
    serve_ended a.command.now old new c.status-in-Serve.result c.in-Serve.is (record { end = c.serve.result; serves = c.serve.ensures; files = refl; status_is = c.status-in-Serve.ensures })

pub returns-in-ServeAhead : goal.returns-in-ServeAhead
returns-in-ServeAhead g c =
    let a = c.args in
    let old = seen (source_seen (g.I.Source.left a.input.now) (g.I.Source.faults a.input.now) (g.I.Source.reads a.input.now)) (sink_seen (g.O.Sink.taken a.output.now) (g.O.Sink.faults a.output.now) (g.O.Sink.writes a.output.now)) (files_seen (g.F.Files.held a.files.now) (g.F.Files.asked a.files.now) (g.F.Files.reads a.files.now) (g.F.Files.faults a.files.now)) a.steps.now in
    let new = seen (source_seen (g.I.Source.left c.serve_ahead.new.input) (g.I.Source.faults c.serve_ahead.new.input) (g.I.Source.reads c.serve_ahead.new.input)) (sink_seen (g.O.Sink.taken c.serve_ahead.new.output) (g.O.Sink.faults c.serve_ahead.new.output) (g.O.Sink.writes c.serve_ahead.new.output)) old.files c.serve_ahead.new.steps in
    ahead_ended a.command.now old new c.status-in-ServeAhead.result c.in-ServeAhead.is (record { end = c.serve_ahead.result; serves = c.serve_ahead.ensures; files = refl; status_is = c.status-in-ServeAhead.ensures })

pub returns-in-Replay : goal.returns-in-Replay
returns-in-Replay g c =
    let a = c.args in
    let old = seen (source_seen (g.I.Source.left a.input.now) (g.I.Source.faults a.input.now) (g.I.Source.reads a.input.now)) (sink_seen (g.O.Sink.taken a.output.now) (g.O.Sink.faults a.output.now) (g.O.Sink.writes a.output.now)) (files_seen (g.F.Files.held a.files.now) (g.F.Files.asked a.files.now) (g.F.Files.reads a.files.now) (g.F.Files.faults a.files.now)) a.steps.now in
    let new = seen old.streams.source (sink_seen (g.O.Sink.taken c.replay.new.output) (g.O.Sink.faults c.replay.new.output) (g.O.Sink.writes c.replay.new.output)) (files_seen (g.F.Files.held c.replay.new.files) (g.F.Files.asked c.replay.new.files) (g.F.Files.reads c.replay.new.files) (g.F.Files.faults c.replay.new.files)) c.replay.new.steps in
    replay_ended a.command.now old new c.replay.result c.in-Replay.file c.in-Replay.is (record { unread = refl; ends = c.replay.ensures })

pub returns-in-Check : goal.returns-in-Check
returns-in-Check g c =
    let a = c.args in
    let old = seen (source_seen (g.I.Source.left a.input.now) (g.I.Source.faults a.input.now) (g.I.Source.reads a.input.now)) (sink_seen (g.O.Sink.taken a.output.now) (g.O.Sink.faults a.output.now) (g.O.Sink.writes a.output.now)) (files_seen (g.F.Files.held a.files.now) (g.F.Files.asked a.files.now) (g.F.Files.reads a.files.now) (g.F.Files.faults a.files.now)) a.steps.now in
    let new = seen old.streams.source (sink_seen (g.O.Sink.taken c.check.new.output) (g.O.Sink.faults c.check.new.output) (g.O.Sink.writes c.check.new.output)) (files_seen (g.F.Files.held c.check.new.files) (g.F.Files.asked c.check.new.files) (g.F.Files.reads c.check.new.files) (g.F.Files.faults c.check.new.files)) c.check.new.steps in
    check_ended a.command.now old new c.check.result c.as_slice.result.now (c.in-Check.is ∙ ap Check (sym c.as_slice.ensures)) (record { unread = refl; ends = c.check.ensures })

pub returns-in-TooManyFiles : goal.returns-in-TooManyFiles
returns-in-TooManyFiles g c =
    let a = c.args in
    let old = seen (source_seen (g.I.Source.left a.input.now) (g.I.Source.faults a.input.now) (g.I.Source.reads a.input.now)) (sink_seen (g.O.Sink.taken a.output.now) (g.O.Sink.faults a.output.now) (g.O.Sink.writes a.output.now)) (files_seen (g.F.Files.held a.files.now) (g.F.Files.asked a.files.now) (g.F.Files.reads a.files.now) (g.F.Files.faults a.files.now)) a.steps.now in
    let new = old in
    too_many_ended a.command.now old old _ c.in-TooManyFiles.is refl refl

pub returns-in-Rename : goal.returns-in-Rename
returns-in-Rename g c =
    let a = c.args in
    let old = seen (source_seen (g.I.Source.left a.input.now) (g.I.Source.faults a.input.now) (g.I.Source.reads a.input.now)) (sink_seen (g.O.Sink.taken a.output.now) (g.O.Sink.faults a.output.now) (g.O.Sink.writes a.output.now)) (files_seen (g.F.Files.held a.files.now) (g.F.Files.asked a.files.now) (g.F.Files.reads a.files.now) (g.F.Files.faults a.files.now)) a.steps.now in
    let new = seen old.streams.source (sink_seen (g.O.Sink.taken c.rename.new.output) (g.O.Sink.faults c.rename.new.output) (g.O.Sink.writes c.rename.new.output)) (files_seen (g.F.Files.held c.rename.new.files) (g.F.Files.asked c.rename.new.files) (g.F.Files.reads c.rename.new.files) (g.F.Files.faults c.rename.new.files)) c.rename.new.steps in
    rename_ended a.command.now old new c.rename.result c.in-Rename.file c.in-Rename.position c.in-Rename.name c.in-Rename.is (record { unread = refl; ends = c.rename.ensures })

pub returns-in-Selfrun : goal.returns-in-Selfrun
returns-in-Selfrun g c =
    let a = c.args in
    let old = seen (source_seen (g.I.Source.left a.input.now) (g.I.Source.faults a.input.now) (g.I.Source.reads a.input.now)) (sink_seen (g.O.Sink.taken a.output.now) (g.O.Sink.faults a.output.now) (g.O.Sink.writes a.output.now)) (files_seen (g.F.Files.held a.files.now) (g.F.Files.asked a.files.now) (g.F.Files.reads a.files.now) (g.F.Files.faults a.files.now)) a.steps.now in
    let new = seen old.streams.source (sink_seen (g.O.Sink.taken c.selfrun.new.output) (g.O.Sink.faults c.selfrun.new.output) (g.O.Sink.writes c.selfrun.new.output)) old.files c.selfrun.new.steps in
    selfrun_ended a.command.now old new c.selfrun.result c.in-Selfrun.libraries c.in-Selfrun.is (record { unread = refl; ends = c.selfrun.ensures old.files })

pub returns-in-Unknown : goal.returns-in-Unknown
returns-in-Unknown g c =
    let a = c.args in
    let old = seen (source_seen (g.I.Source.left a.input.now) (g.I.Source.faults a.input.now) (g.I.Source.reads a.input.now)) (sink_seen (g.O.Sink.taken a.output.now) (g.O.Sink.faults a.output.now) (g.O.Sink.writes a.output.now)) (files_seen (g.F.Files.held a.files.now) (g.F.Files.asked a.files.now) (g.F.Files.reads a.files.now) (g.F.Files.faults a.files.now)) a.steps.now in
    let new = seen old.streams.source (sink_seen (g.O.Sink.taken c.print_lines.new.output) (g.O.Sink.faults c.print_lines.new.output) (g.O.Sink.writes c.print_lines.new.output)) old.files old.steps in
    unknown_ended a.command.now old new c.print_lines.result c.in-Unknown.is (record { unread = refl; prints = c.print_lines.ensures }) (record { files = refl; steps = refl })
