use Rattle.std.proofs.Common.{List, drop, subst, ◌+◌}
use Rattle.std.proofs.lemmas.List.{drop_all}
use Rattle.std.proofs.lemmas.Result.{err_from_is_err_and}
use Rattle.lsp_messages.specs.declared.reply.Reply.{Reply}
use Rattle.command_output.specs.Prints.{sink_seen}
use Rattle.reply_writing.proofs.Items.{at_item}
use Rattle.reply_writing.proofs.Writes.{WroteFirst, wrote_all, wrote_more, wrote_none, wrote_some, stop_of, stop_as}
use Rattle.reply_writing.proofs.replies.write_replies.Goals as goal

pub loop-reply-init : goal.loop-reply-init
loop-reply-init g c = wrote_none _ _

pub returns : goal.returns
returns g c = wrote_all _ _ c.args.replies.now _ c.loop-reply.invariant (drop_all c.loop-reply.reply-index c.args.replies.now c.loop-reply-test.false)

pub loop-reply-preserved : goal.loop-reply-preserved
loop-reply-preserved g c =
    let replies = c.args.replies.now in
    let old = sink_seen (g.O.Sink.taken c.args.output.now) (g.O.Sink.faults c.args.output.now) (g.O.Sink.writes c.args.output.now) in
    let mid = sink_seen (g.O.Sink.taken c.loop-reply.output) (g.O.Sink.faults c.loop-reply.output) (g.O.Sink.writes c.loop-reply.output) in
    let now = subst (λ (rest : List Reply). WroteFirst old mid replies rest) (at_item replies c.loop-reply.reply-index c.reply-item.result c.loop-reply-test.true c.reply-item.is) c.loop-reply.invariant in
    wrote_more old mid _ replies (drop (c.loop-reply.reply-index + 1) replies) c.reply-item.result now c.in_ok-write_reply.ensures

pub returns-in_err-write_reply : goal.returns-in_err-write_reply
returns-in_err-write_reply g c =
    let replies = c.args.replies.now in
    let old = sink_seen (g.O.Sink.taken c.args.output.now) (g.O.Sink.faults c.args.output.now) (g.O.Sink.writes c.args.output.now) in
    let mid = sink_seen (g.O.Sink.taken c.loop-reply.output) (g.O.Sink.faults c.loop-reply.output) (g.O.Sink.writes c.loop-reply.output) in
    let new = sink_seen (g.O.Sink.taken c.write_reply.new.output) (g.O.Sink.faults c.write_reply.new.output) (g.O.Sink.writes c.write_reply.new.output) in
    let now = subst (λ (rest : List Reply). WroteFirst old mid replies rest) (at_item replies c.loop-reply.reply-index c.reply-item.result c.loop-reply-test.true c.reply-item.is) c.loop-reply.invariant in
    let p = err_from_is_err_and c.from_residual.result c.from_residual.ensures.1 in
    rw (p.1, p.2) (stop_as old new _ _ (wrote_some old mid new replies (drop (c.loop-reply.reply-index + 1) replies) c.reply-item.result _ now (stop_of mid new _ _ c.in_err-write_reply.ensures)))
