use Rattle.std.proofs.Common.{List, ℕ, ◌∙◌, ap, subst}
use Rattle.std.proofs.lemmas.Result.{err_from_is_err_and}
use Rattle.ls_base.specs.Frames.{frame_text}
use Rattle.command_output.specs.Prints.{Prints, PrintsFront, sink_seen}
use Rattle.reply_writing.proofs.Writes.{nothing_printed}
use Rattle.reply_writing.proofs.replies.write_reply.Goals as goal

pub returns-in_err-body : goal.returns-in_err-body
returns-in_err-body g c =
    let p = err_from_is_err_and c.from_residual.result c.from_residual.ensures.1 in
    rw (p.1, p.2) (nothing_printed _ _)

pub returns-in_err-frame : goal.returns-in_err-frame
returns-in_err-frame g c =
    let p = err_from_is_err_and c.from_residual-in_err-frame.result c.from_residual-in_err-frame.ensures.1 in
    rw (p.1, p.2) (nothing_printed _ _)

pub returns-in_err-print_all : goal.returns-in_err-print_all
returns-in_err-print_all g c =
    let p = err_from_is_err_and c.from_residual-in_err-print_all.result c.from_residual-in_err-print_all.ensures.1 in
    rw (p.1, p.2) (subst (λ (bytes : List ℕ). PrintsFront (sink_seen (g.O.Sink.taken c.args.output.now) (g.O.Sink.faults c.args.output.now) (g.O.Sink.writes c.args.output.now)) (sink_seen (g.O.Sink.taken c.print_all.new.output) (g.O.Sink.faults c.print_all.new.output) (g.O.Sink.writes c.print_all.new.output)) bytes)
    (c.deref-2.ensures.value ∙ c.in_ok-frame.ensures.written ∙ ap frame_text (c.deref.ensures.value ∙ c.in_ok-body.ensures.text))
    c.in_err-print_all.ensures)

pub returns : goal.returns
returns g c =
    subst (λ (bytes : List ℕ). Prints (sink_seen (g.O.Sink.taken c.args.output.now) (g.O.Sink.faults c.args.output.now) (g.O.Sink.writes c.args.output.now)) (sink_seen (g.O.Sink.taken c.print_all.new.output) (g.O.Sink.faults c.print_all.new.output) (g.O.Sink.writes c.print_all.new.output)) bytes)
    (c.deref-2.ensures.value ∙ c.in_ok-frame.ensures.written ∙ ap frame_text (c.deref.ensures.value ∙ c.in_ok-body.ensures.text))
    c.in_ok-print_all.ensures
