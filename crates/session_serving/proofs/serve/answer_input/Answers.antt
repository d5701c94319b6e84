use Rattle.std.proofs.Common.{◌≡◌, ℕ, ◌++◌, List, [], take, drop, length, length-append, ◌∙◌, refl, ap, subst, arith, Err}
use Rattle.std.proofs.lemmas.List.{length-take, length-drop}
use Rattle.session_serving.specs.PieceOutcome.{Serving, serving}
use Rattle.command_output.specs.Prints.{SinkSeen, sink_seen}
use Rattle.reply_writing.specs.Writing.{WritingEndsAs}
use Rattle.command_output.specs.Reads.{source_seen}
use Rattle.reply_writing.specs.ReplyFrames.{frame_of_reply}
use Rattle.reply_writing.specs.ReplyFrames.{fault_log}
use Rattle.command_output.specs.Streams.{Streams, streams}
use Rattle.reply_writing.specs.declared.replies.WriteStop.{WriteStop}
use Rattle.session_serving.proofs.CountLaws.{all_then, all_yet, counts_more, first_then}
use Rattle.session_serving.proofs.PieceEndsSession.{farewell_cut, farewell_lost, farewell_written, piece_cut, piece_exits, piece_lost}
use Rattle.session_serving.proofs.QuietLaws.{uncounted_more, uncounted_then, uncounted_yet}
use Rattle.session_serving.proofs.SessionSoFar.{Read, goes_first, going_more, input_ends, read_fails, read_piece, takes_most}
use Rattle.reply_writing.proofs.Writes.{take_first}
use Rattle.session_serving.proofs.serve.answer_input.Given.{Over}
use Rattle.session_serving.proofs.serve.answer_input.Goals as goal
use Rattle.session_serving.proofs.serve.answer_input.Goals.{After-take, After-say_farewell}

pub loop-taken-init : goal.loop-taken-init
loop-taken-init g c = record {
  going = goes_first c.args.looking _ (serving c.args.server.now.deframer c.args.server.now.session) 1099511627776 [] c.args.steps.now c.requires.start c.requires.end c.requires.state;
  few = omega arith;
  wide = refl;
}

-- ---- a piece that was read and taken

-- the streams when the session began, before the read, and behind what answers the piece
abbrev first : (g : Over) → After-take g → Streams
first g c = streams (source_seen (g.I.Source.left c.args.input.now) (g.I.Source.faults c.args.input.now) (g.I.Source.reads c.args.input.now))
    (sink_seen (g.O.Sink.taken c.args.output.now) (g.O.Sink.faults c.args.output.now) (g.O.Sink.writes c.args.output.now))

abbrev before : (g : Over) → After-take g → Streams
before g c = streams (source_seen (g.I.Source.left c.loop-taken.input) (g.I.Source.faults c.loop-taken.input) (g.I.Source.reads c.loop-taken.input))
    (sink_seen (g.O.Sink.taken c.loop-taken.output) (g.O.Sink.faults c.loop-taken.output) (g.O.Sink.writes c.loop-taken.output))

abbrev behind : (g : Over) → After-take g → Streams
behind g c = streams (source_seen (g.I.Source.left c.read.new.self) (g.I.Source.faults c.read.new.self) (g.I.Source.reads c.read.new.self))
    (sink_seen (g.O.Sink.taken c.take.new.output) (g.O.Sink.faults c.take.new.output) (g.O.Sink.writes c.take.new.output))

abbrev server : (g : Over) → After-take g → Serving
server g c = serving c.loop-taken.server.deframer c.loop-taken.server.session

-- the bytes behind the room that the read had stay as they were
abbrev others : (g : Over) → After-take g → List ℕ
others g c = drop c.min-room.result c.loop-taken.buf

abbrev piece : (g : Over) → After-take g → List ℕ
piece g c = take c.in-Some.count (c.read.new.buf ++ others g c)

filled : (g : Over) (c : After-take g) → length c.read.new.buf ≡ c.min-room.result
filled g c = c.read.auto.buf ∙ length-take c.min-room.result c.loop-taken.buf ∙ omega (arith, c.loop-taken.invariant.wide, c.min-room.ensures)

read : (g : Over) (c : After-take g) → Read (first g c) (before g c) (behind g c) (server g c) c.loop-taken.taken 1099511627776 (piece g c) c.loop-taken.invariant.going.so_far
read g c =
    read_piece (first g c) (before g c) (behind g c) (server g c) c.loop-taken.taken c.in-Some.count c.min-room.result c.read.new.buf (others g c) c.loop-taken.invariant.going.so_far c.loop-taken-test.true
    (g.met.I.Source.sized c.loop-taken.input) (filled g c) c.min-room.ensures c.in-Some.ensures.within.0 c.in-Some.ensures.within.1 c.in-Some.ensures.takes c.in-Some.ensures.counts c.in-Some.ensures.notes

pub returns-in-Exited : goal.returns-in-Exited
returns-in-Exited g c =
    let w = c.loop-taken.invariant.going in
    piece_exits _ _ _ _ _ _ _ c.in-Exited.exit _ w.so_far (read g (goal.at.returns-in-Exited g c).After-take) c.in-Exited.ensures.takes
    (all_then w.so_far w.counted c.in-Exited.ensures.counted) (uncounted_then w.so_far w.uncounted c.in-Exited.ensures.steps)

pub returns-in-WriteFailed : goal.returns-in-WriteFailed
returns-in-WriteFailed g c =
    let w = c.loop-taken.invariant.going in
    piece_cut _ _ _ _ _ _ _ _ w.so_far (read g (goal.at.returns-in-WriteFailed g c).After-take) c.in-WriteFailed.ensures.takes
    (first_then w.so_far _ w.counted c.in-WriteFailed.ensures.counted) (uncounted_then w.so_far w.uncounted c.in-WriteFailed.ensures.steps)

pub returns-in-NoMemory : goal.returns-in-NoMemory
returns-in-NoMemory g c =
    let w = c.loop-taken.invariant.going in
    piece_lost _ _ _ _ _ _ _ _ w.so_far (read g (goal.at.returns-in-NoMemory g c).After-take) c.in-NoMemory.ensures.takes
    (uncounted_then w.so_far w.uncounted c.in-NoMemory.ensures.steps)

-- ---- a fault of frames behind it

abbrev said : (g : Over) → After-say_farewell g → SinkSeen
said g c = sink_seen (g.O.Sink.taken c.say_farewell.new.output) (g.O.Sink.faults c.say_farewell.new.output) (g.O.Sink.writes c.say_farewell.new.output)

pub returns-in-Ok : goal.returns-in-Ok
returns-in-Ok g c =
    let w = c.loop-taken.invariant.going in
    farewell_written _ _ _ _ _ _ _ _ _ c.in-Faulty.fault w.so_far (read g (goal.at.returns-in-Ok g c).After-take) c.in-Faulty.ensures.takes c.in-Ok.ensures
    (all_then w.so_far w.counted c.in-Faulty.ensures.counted) (uncounted_then w.so_far w.uncounted c.in-Faulty.ensures.steps)

pub returns-in-Err-Failed : goal.returns-in-Err-Failed
returns-in-Err-Failed g c =
    let k = goal.at.returns-in-Err-Failed g c in
    let w = c.loop-taken.invariant.going in
    farewell_cut _ _ _ _ _ _ _ _ _ c.in-Faulty.fault w.so_far (read g k.After-take) c.in-Faulty.ensures.takes
    (subst (λ (stop : WriteStop). WritingEndsAs (behind g k.After-take).sink (said g k.After-say_farewell) (frame_of_reply (fault_log c.in-Faulty.fault.number c.in-Faulty.fault.offset)) (Err stop)) c.in-Err-Failed.field-0-is c.in-Err-Failed.ensures)
    (all_then w.so_far w.counted c.in-Faulty.ensures.counted) (uncounted_then w.so_far w.uncounted c.in-Faulty.ensures.steps)

pub returns-in-Err-Memory : goal.returns-in-Err-Memory
returns-in-Err-Memory g c =
    let k = goal.at.returns-in-Err-Memory g c in
    let w = c.loop-taken.invariant.going in
    farewell_lost _ _ _ _ _ _ _ _ _ c.in-Faulty.fault w.so_far (read g k.After-take) c.in-Faulty.ensures.takes
    (subst (λ (stop : WriteStop). WritingEndsAs (behind g k.After-take).sink (said g k.After-say_farewell) (frame_of_reply (fault_log c.in-Faulty.fault.number c.in-Faulty.fault.offset)) (Err stop)) c.in-Err-Memory.field-0-is c.in-Err-Memory.ensures)
    (uncounted_then w.so_far w.uncounted c.in-Faulty.ensures.steps)

-- ---- the session goes on

sized : (g : Over) (c : After-take g) → length (piece g c) ≡ c.in-Some.count
sized g c = ap length (take_first c.read.new.buf (others g c) c.in-Some.count c.in-Some.ensures.within.1) ∙ length-take c.in-Some.count c.read.new.buf ∙ omega (arith, c.in-Some.ensures.within.1)

refilled : (g : Over) (c : After-take g) → length (c.read.new.buf ++ others g c) ≡ 65536
refilled g c =
    length-append c.read.new.buf (others g c) ∙ omega (arith, length-drop c.min-room.result c.loop-taken.buf, filled g c, c.loop-taken.invariant.wide, c.min-room.ensures)

pub loop-taken-preserved : goal.loop-taken-preserved
loop-taken-preserved g c =
    let k = (goal.at.loop-taken-preserved g c).After-take in
    let w = c.loop-taken.invariant.going in
    record {
      going = going_more _ _ _ _ _ _ c.in-Some.count _ w.so_far (read g k) (sized g k) c.in-Answered.ensures.takes (counts_more _ _ _ w.so_far c.in-Answered.ensures.takes w.counted c.in-Answered.ensures.counted)
          (uncounted_more w.so_far c.in-Answered.ensures.takes w.uncounted c.in-Answered.ensures.steps);
      few = omega (arith, (read g k).few, sized g k);
      wide = refilled g k;
    }

-- ---- no piece more

pub returns-in-End : goal.returns-in-End
returns-in-End g c =
    input_ends _ _ _ _ _ 1099511627776 _ c.loop-taken.invariant.going.so_far c.loop-taken-test.true c.in-End.ensures.takes c.in-End.ensures.counts c.in-End.ensures.notes refl
    (all_yet c.loop-taken.invariant.going.so_far c.loop-taken.invariant.going.counted)
    (uncounted_yet c.loop-taken.invariant.going.so_far c.loop-taken.invariant.going.uncounted)

pub returns-in-Failed : goal.returns-in-Failed
returns-in-Failed g c =
    read_fails _ _ _ _ _ 1099511627776 _ c.loop-taken.invariant.going.so_far c.loop-taken-test.true c.in-Failed.ensures.takes c.in-Failed.ensures.counts c.in-Failed.ensures.notes refl
    (all_yet c.loop-taken.invariant.going.so_far c.loop-taken.invariant.going.counted)
    (uncounted_yet c.loop-taken.invariant.going.so_far c.loop-taken.invariant.going.uncounted)

pub returns : goal.returns
returns g c =
    takes_most _ _ _ _ 1099511627776 c.loop-taken.invariant.going.so_far (omega (arith, c.loop-taken.invariant.few))
    (all_yet c.loop-taken.invariant.going.so_far c.loop-taken.invariant.going.counted)
    (uncounted_yet c.loop-taken.invariant.going.so_far c.loop-taken.invariant.going.uncounted)
