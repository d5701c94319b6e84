use Rattle.std.proofs.Common.{List, ℕ, ◌∙◌, subst}
use Rattle.std.proofs.lemmas.Result.{err_from_is_err_and}
use Rattle.lsp_messages.specs.declared.reply.Reply.TheVariants as replies
use Rattle.command_output.specs.Prints.{Prints, sink_seen}
use Rattle.reply_writing.specs.ReplyFrames.{frame_of_reply}
use Rattle.reply_writing.proofs.Writes.{nothing_printed}
use Rattle.reply_writing.proofs.replies.say_farewell.Goals as goal

pub returns-in_err-text : goal.returns-in_err-text
returns-in_err-text g c =
    let p = err_from_is_err_and c.from_residual.result c.from_residual.ensures.1 in
    rw (p.1, p.2) (nothing_printed _ _)

pub returns : goal.returns
returns g c =
    let old = sink_seen (g.O.Sink.taken c.args.output.now) (g.O.Sink.faults c.args.output.now) (g.O.Sink.writes c.args.output.now) in
    let new = sink_seen (g.O.Sink.taken c.write_reply.new.output) (g.O.Sink.faults c.write_reply.new.output) (g.O.Sink.writes c.write_reply.new.output) in
    subst (λ (text : List ℕ). Prints old new (frame_of_reply (replies.Log text))) (c.from_string.ensures ∙ c.in_ok-text.ensures) c.in_ok-write_reply.ensures
