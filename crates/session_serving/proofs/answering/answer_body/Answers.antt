use Rattle.std.proofs.Common.{List, [], ◌∷◌, Err, sym, subst}
use Rattle.lsp_messages.specs.declared.reply.Reply.{Reply}
use Rattle.session_serving.specs.BodiesOutcome.{BodiesCountAs, BodiesEndAs}
use Rattle.reply_writing.specs.ReplyFrames.{frames_of}
use Rattle.command_output.specs.Prints.{sink_seen, Prints, PrintsFront, PrintsPart}
use Rattle.reply_writing.specs.Writing.{WritingEndsAs}
use Rattle.session_serving.specs.declared.answering.BodiesEnd.{BodiesEnd}
use Rattle.reply_writing.specs.declared.replies.WriteStop.{WriteStop}
use Rattle.session_serving.proofs.AnswerLaws.{one_answered, one_some, none_answered}
use Rattle.session_serving.proofs.CountLaws.{end_counts, one_counted, one_counts_some}
use Rattle.session_serving.proofs.answering.answer_body.Goals as goal

pub returns-in_default-clause-answers : goal.returns-in_default-clause-answers
returns-in_default-clause-answers g c = none_answered _ _ _

pub returns-in-Ok-write_replies-clause-answers : goal.returns-in-Ok-write_replies-clause-answers
returns-in-Ok-write_replies-clause-answers g c =
    let old = sink_seen (g.O.Sink.taken c.args.output.now) (g.O.Sink.faults c.args.output.now) (g.O.Sink.writes c.args.output.now) in
    let new = sink_seen (g.O.Sink.taken c.write_replies.new.output) (g.O.Sink.faults c.write_replies.new.output) (g.O.Sink.writes c.write_replies.new.output) in
    let written = subst (λ (replies : List Reply). Prints old new (frames_of replies)) c.as_slice.ensures c.in-Ok-write_replies.ensures in
    let ends = one_answered _ _ (c.args.body.now, c.args.cancelled) c.in-Ok.out old new c.in-Ok.ensures.step written in
    subst (λ (end : BodiesEnd). BodiesEndAs c.args.session.now ((c.args.body.now, c.args.cancelled) ∷ []) c.on_ahead.new.self old new end) (sym c.body_end.ensures) ends

pub returns-in-Err-Failed-clause-answers : goal.returns-in-Err-Failed-clause-answers
returns-in-Err-Failed-clause-answers g c =
    let old = sink_seen (g.O.Sink.taken c.args.output.now) (g.O.Sink.faults c.args.output.now) (g.O.Sink.writes c.args.output.now) in
    let new = sink_seen (g.O.Sink.taken c.write_replies.new.output) (g.O.Sink.faults c.write_replies.new.output) (g.O.Sink.writes c.write_replies.new.output) in
    let printed = subst (λ (stop : WriteStop). WritingEndsAs old new (frames_of c.as_slice.result.now) (Err stop)) c.in-Err-Failed.field-0-is c.in-Err-Failed.ensures in
    let written = subst (λ (replies : List Reply). PrintsFront old new (frames_of replies)) c.as_slice.ensures printed in
    one_some _ _ (c.args.body.now, c.args.cancelled) c.in-Ok.out (PrintsFront old new) c.in-Ok.ensures.step written

pub returns-clause-answers : goal.returns-clause-answers
returns-clause-answers g c =
    let old = sink_seen (g.O.Sink.taken c.args.output.now) (g.O.Sink.faults c.args.output.now) (g.O.Sink.writes c.args.output.now) in
    let new = sink_seen (g.O.Sink.taken c.write_replies.new.output) (g.O.Sink.faults c.write_replies.new.output) (g.O.Sink.writes c.write_replies.new.output) in
    let printed = subst (λ (stop : WriteStop). WritingEndsAs old new (frames_of c.as_slice.result.now) (Err stop)) c.in-Err-Memory.field-0-is c.in-Err-Memory.ensures in
    let written = subst (λ (replies : List Reply). PrintsPart old new (frames_of replies)) c.as_slice.ensures printed in
    one_some _ _ (c.args.body.now, c.args.cancelled) c.in-Ok.out (PrintsPart old new) c.in-Ok.ensures.step written

pub returns-in-Ok-write_replies-clause-counted : goal.returns-in-Ok-write_replies-clause-counted
returns-in-Ok-write_replies-clause-counted g c =
    let old = sink_seen (g.O.Sink.taken c.args.output.now) (g.O.Sink.faults c.args.output.now) (g.O.Sink.writes c.args.output.now) in
    let new = sink_seen (g.O.Sink.taken c.write_replies.new.output) (g.O.Sink.faults c.write_replies.new.output) (g.O.Sink.writes c.write_replies.new.output) in
    subst (λ (end : BodiesEnd). BodiesCountAs c.args.session.now ((c.args.body.now, c.args.cancelled) ∷ []) old new c.args.steps.now c.on_ahead.new.steps end) (sym c.body_end.ensures)
    (end_counts c.args.session.now ((c.args.body.now, c.args.cancelled) ∷ []) old new _ _ c.in-Ok.out.end (one_counted c.args.session.now (c.args.body.now, c.args.cancelled) _ _ c.in-Ok.ensures.counted))

pub returns-in-Err-Failed-clause-counted : goal.returns-in-Err-Failed-clause-counted
returns-in-Err-Failed-clause-counted g c =
    let old = sink_seen (g.O.Sink.taken c.args.output.now) (g.O.Sink.faults c.args.output.now) (g.O.Sink.writes c.args.output.now) in
    let new = sink_seen (g.O.Sink.taken c.write_replies.new.output) (g.O.Sink.faults c.write_replies.new.output) (g.O.Sink.writes c.write_replies.new.output) in
    let printed = subst (λ (stop : WriteStop). WritingEndsAs old new (frames_of c.as_slice.result.now) (Err stop)) c.in-Err-Failed.field-0-is c.in-Err-Failed.ensures in
    let written = subst (λ (replies : List Reply). PrintsFront old new (frames_of replies)) c.as_slice.ensures printed in
    one_counts_some _ _ (c.args.body.now, c.args.cancelled) c.in-Ok.out (PrintsFront old new) _ _ c.in-Ok.ensures.step written c.in-Ok.ensures.counted
