-- How a session ends in a piece.
use Rattle.std.proofs.Common.{◌≡◌, ℕ, ◌+◌, ◌-◌, ◌<◌, ◌≤◌, List, [], ◌∷◌, ◌++◌, length, min, take, refl, sym, ap, ◌∙◌, arith, append_assoc, append-nil, Some, None, Option, subst, inl, inr, ◌⊎◌, length-append}
use Rattle.std.proofs.KnownBytes.{Appends-trans}
use Rattle.std.specs.Io.KnownBytes.{Appends}
use Rattle.std.specs.FinMap.{empty}
use Rattle.std.specs.Option.{IsSomeAnd}
use Rattle.ls_base.specs.Frames.{End, Fault, IsFrames, fault, fault_number, rest}
use Rattle.lsp_framing.specs.Feeds.{Feeds}
use Rattle.lsp_framing.proofs.EveryReading.{every_reading}
use Rattle.lsp_framing.proofs.OneReading.{bodies_grow}
use Rattle.lsp_framing.proofs.Written.{written_again}
use Rattle.lsp_messages.specs.declared.reply.Reply.{Reply}
use Rattle.ls_outside.specs.Calls.{CallsTake}
use Rattle.ls_outside.specs.Sources.{bytes_of}
use Rattle.ls_outside.proofs.CallLaws.{calls_then, last_none_all}
use Rattle.lookahead.specs.Looked.{Looked, looked}
use Rattle.lookahead.specs.declared.looking.Looking.{Looking}
use Rattle.scheme_model.specs.Session.{Run, begin}
use Rattle.session_replies.specs.Asked.{Question}
use Rattle.session_replies.specs.Counted.{AreCounted}
use Rattle.session_replies.specs.ToWire.{AreReplies}
use Rattle.session_serving.specs.AheadOutcome.{AnswersBeforeLast, CountsAllBy, CountsBeginBy, ServesBy}
use Rattle.session_serving.specs.AheadOutput.{AnswerFirstBy, IsOutputBy, looked_from, looked_over}
use Rattle.session_serving.specs.BodiesOutcome.{AnswersBodies}
use Rattle.session_serving.specs.PieceOutcome.{AnswersInPiece, EndsInPiece, HasFault, Serving, TakesPiece}
use Rattle.command_output.specs.Prints.{SinkSeen, Prints, PrintsFront, PrintsPart}
use Rattle.session_serving.specs.QuietBytes.{AreQuiet}
use Rattle.reply_writing.specs.ReplyFrames.{frame_of_reply, frames_of}
use Rattle.session_serving.specs.ServeOutcome.{WritesFront}
use Rattle.session_serving.specs.SessionOutput.{Output, written}
use Rattle.reply_writing.specs.ReplyFrames.{fault_log}
use Rattle.session_serving.specs.SessionEnds.{said_exit}
use Rattle.command_output.specs.Streams.{Streams}
use Rattle.session_serving.specs.declared.answering.Exit.{Exit}
use Rattle.session_serving.specs.declared.server.FaultAt.{FaultAt}
use Rattle.session_serving.specs.declared.serve.SessionEnd.TheVariants.{Exited, FrameFault, NoMemory, WriteFailed}
use Rattle.session_serving.proofs.AnswerLaws.{answers_then, are_first, ends_after}
use Rattle.session_serving.proofs.Pieces.{complete_more, joined_more, pieces_whole, reads_no_piece, whole_none}
use Rattle.session_serving.proofs.SessionSoFar.{Going, Read, frames_so_far, going_frames, is_output_so_far, joined_quiet, joined_run, output_so_far, without_farewell}
use Rattle.session_serving.proofs.Sessions.{frames_more}
use Rattle.reply_writing.proofs.Writes.{front_after, part_after, prints_nothing, prints_then, whole_part}

-- how the bytes end, where that is told
pub some_end : (e : Option End) (bytes : List ℕ) (bodies : List (List ℕ)) → IsSomeAnd e (IsFrames bytes bodies) → (end : End) × IsFrames bytes bodies end
some_end None bytes bodies h = absurd h
some_end (Some end) bytes bodies h = (end, h)

-- the frames of all bytes, however they end
pub frames_then : {looking : Looking} (old mid : Streams) (server next : Serving) (taken most : ℕ) (piece : List ℕ) (given : List (List ℕ)) (w : Going looking old mid server taken most) → Feeds server.frames piece given next.frames →
    (end : End) × IsFrames (w.bytes ++ piece) (w.bodies ++ given) end
frames_then old mid server next taken most piece given w feeds = some_end next.frames.end _ _ (feeds w.bytes w.bodies w.after).frames

-- ---- what the pieces come to, with the last one

few_bytes : {looking : Looking} (old mid new : Streams) (server : Serving) (taken most : ℕ) (piece : List ℕ) (w : Going looking old mid server taken most) (r : Read old mid new server taken most piece w) → length (bytes_of (w.pieces ++ piece ∷ [])) ≤ 1099511627776
few_bytes old mid new server taken most piece w r =
    let size : length (bytes_of (w.pieces ++ piece ∷ [])) ≡ length (w.bytes ++ piece) = ap length (joined_more piece [] w.joined).bytes_are in
    let m = length-append w.bytes piece in
    omega (arith, w.count, r.few)

-- the bodies of the last piece with those before it
run_then : {looking : Looking} (old mid : Streams) (server : Serving) (taken most : ℕ) (piece : List ℕ) (given : List (List ℕ)) (w : Going looking old mid server taken most) → looked_from (begin empty) (w.seen ++ looked looking given) ≡ looked_over looking (w.given ++ given ∷ [])
run_then old mid server taken most piece given w = joined_run (joined_more piece given w.joined)

pub output_then : {looking : Looking} (old mid : Streams) (server : Serving) (taken most : ℕ) (piece : List ℕ) (given : List (List ℕ)) (w : Going looking old mid server taken most) (output : Output) → IsFrames (w.bytes ++ piece) (w.bodies ++ given) output.end →
    AreReplies (looked_from (begin empty) (w.seen ++ looked looking given)).replies output.messages → (looked_from (begin empty) (w.seen ++ looked looking given)).end ≡ output.exit → IsOutputBy looking (w.pieces ++ piece ∷ []) output
output_then old mid server taken most piece given w output frames answered ends =
    let run = run_then old mid server taken most piece given w in
    record {
      given = w.given ++ given ∷ [];
      complete = complete_more piece given (rest w.kept) output.end w.joined w.complete frames;
      answered = subst (λ (r : Run Question). AreReplies r.replies output.messages) run answered;
      exits = sym ends ∙ ap (λ (r : Run Question). r.end) run;
    }

abbrev pub first_in : {looking : Looking} (old mid : Streams) (server : Serving) (taken most : ℕ) (piece : List ℕ) (given : List (List ℕ)) (w : Going looking old mid server taken most) (end : End) (first later : List Looked) (messages : List Reply) →
    IsFrames (w.bytes ++ piece) (w.bodies ++ given) end → looked looking given ≡ first ++ later → AreReplies (looked_from (begin empty) (w.seen ++ first)).replies messages → AnswerFirstBy looking (w.pieces ++ piece ∷ []) messages
first_in old mid server taken most piece given w end first later messages frames split answered = record {
  given = w.given ++ given ∷ [];
  end = end;
  complete = complete_more piece given (rest w.kept) end w.joined w.complete frames;
  first = w.seen ++ first;
  later = later;
  split = (joined_more piece given w.joined).seen_are ∙ ap (λ (all : List Looked). w.seen ++ all) split ∙ sym (append_assoc w.seen first later);
  answered = answered;
}

pub counts_all_then : {looking : Looking} (old mid : Streams) (server : Serving) (taken most : ℕ) (piece : List ℕ) (given : List (List ℕ)) (w : Going looking old mid server taken most) (end : End) (before now : ℕ) → IsFrames (w.bytes ++ piece) (w.bodies ++ given) end →
    AreCounted (looked_from (begin empty) (w.seen ++ looked looking given)).replies before now → CountsAllBy looking (w.pieces ++ piece ∷ []) before now
counts_all_then old mid server taken most piece given w end before now frames counted = record {
  given = w.given ++ given ∷ [];
  end = end;
  complete = complete_more piece given (rest w.kept) end w.joined w.complete frames;
  counted = subst (λ (r : Run Question). AreCounted r.replies before now) (run_then old mid server taken most piece given w) counted;
}

quiet_then : {looking : Looking} {before now : ℕ} (old mid : Streams) (server : Serving) (taken most : ℕ) (piece : List ℕ) (w : Going looking old mid server taken most) → (AreQuiet (w.bytes ++ piece) → now ≡ before) → AreQuiet (bytes_of (w.pieces ++ piece ∷ [])) → now ≡ before
quiet_then old mid server taken most piece w uncounted = joined_quiet (joined_more piece [] w.joined) uncounted

-- what was printed before the piece, and after it
before_written : {looking : Looking} (old mid : Streams) (server : Serving) (taken most : ℕ) (piece : List ℕ) (w : Going looking old mid server taken most) (more : List ℕ) (sink : SinkSeen) → Appends mid.sink.taken sink.taken more → CallsTake mid.sink.writes sink.writes more →
    AnswersBeforeLast looking old.sink sink (w.pieces ++ piece ∷ [])
before_written old mid server taken most piece w more sink printed writes = record {
  before = w.pieces;
  last = piece;
  split = refl;
  output = output_so_far old mid server taken most w;
  is = is_output_so_far old mid server taken most w;
  no_exit = refl;
  unfinished = tt;
  more = more;
  printed = Appends-trans old.sink.taken mid.sink.taken sink.taken _ more w.answers.prints.printed printed;
  writes = calls_then old.sink.writes mid.sink.writes sink.writes _ more w.answers.prints.calls.take writes;
}

-- `exit` stands in the piece
pub piece_exits : {looking : Looking} {before now : ℕ} (old mid new : Streams) (server next : Serving) (taken most : ℕ) (exit : Exit) (piece : List ℕ) (w : Going looking old mid server taken most) → Read old mid new server taken most piece w →
    EndsInPiece looking server next piece (said_exit exit) mid.sink new.sink → CountsAllBy looking (w.pieces ++ piece ∷ []) before now → (AreQuiet (w.bytes ++ piece) → now ≡ before) → ServesBy looking old new before now (Exited exit)
piece_exits {looking = looking} old mid new server next taken most exit piece w r e counted uncounted =
    let all = frames_then old mid server next taken most piece e.given w e.feeds in
    let ended = ends_after (begin empty) server.state w.seen (looked looking e.given) (said_exit exit) old.sink mid.sink new.sink w.answers e.ends in
    record {
      ends = record {
        pieces = w.pieces ++ piece ∷ [];
        taken = r.takes;
        source = (r.on, before_written old mid server taken most piece w _ new.sink e.ends.prints.printed e.ends.prints.calls.take);
        session = (
          few_bytes old mid new server taken most piece w r,
          record {
            writes = record {
              output = record { messages = ended.session.messages; exit = Some (said_exit exit); end = all.0 };
              is = output_then old mid server taken most piece e.given w (record { messages = ended.session.messages; exit = Some (said_exit exit); end = all.0 }) all.1 ended.session.answered ended.session.ends;
              prints = without_farewell old.sink new.sink ended.session.messages ended.prints;
            };
            exits = refl;
          },
        );
      };
      counted = counted;
      uncounted = quiet_then old mid server taken most piece w uncounted;
    }

-- ---- a fault stands in the piece

-- the answers to all bodies before the fault
abbrev all_answers : {looking : Looking} (old mid seen : Streams) (server next : Serving) (taken most : ℕ) (piece : List ℕ) (at : FaultAt) (w : Going looking old mid server taken most) (e : TakesPiece looking server next piece (HasFault at) mid.sink seen.sink) →
    AnswersBodies (begin empty) (w.seen ++ looked looking e.given) next.state old.sink seen.sink
all_answers {looking = looking} old mid seen server next taken most piece at w e =
    answers_then (begin empty) server.state next.state w.seen (looked looking e.given) old.sink mid.sink seen.sink w.answers e.answers

-- the output of the bytes up to the fault
abbrev faulty_output : {looking : Looking} (old mid seen : Streams) (server next : Serving) (taken most : ℕ) (piece : List ℕ) (at : FaultAt) (w : Going looking old mid server taken most) (e : TakesPiece looking server next piece (HasFault at) mid.sink seen.sink) → Output
faulty_output old mid seen server next taken most piece at w e =
    record { messages = (all_answers old mid seen server next taken most piece at w e).session.messages; exit = None; end = fault e.end.0 at.offset }

is_faulty_output : {looking : Looking} (old mid seen : Streams) (server next : Serving) (taken most : ℕ) (piece : List ℕ) (at : FaultAt) (w : Going looking old mid server taken most) (e : TakesPiece looking server next piece (HasFault at) mid.sink seen.sink) →
    IsOutputBy looking (w.pieces ++ piece ∷ []) (faulty_output old mid seen server next taken most piece at w e)
is_faulty_output old mid seen server next taken most piece at w e =
    let answers = all_answers old mid seen server next taken most piece at w e in
    output_then old mid server taken most piece e.given w (faulty_output old mid seen server next taken most piece at w e)
    (frames_so_far (w.bytes ++ piece) (w.bodies ++ e.given) next.frames (fault e.end.0 at.offset) (e.feeds w.bytes w.bodies w.after) e.end.1) answers.session.answered answers.session.ends

-- the frames of messages and of the farewell
farewell_frames : (messages : List Reply) (number offset : ℕ) (kind : Fault) → number ≡ fault_number kind → frames_of messages ++ frame_of_reply (fault_log number offset) ≡ frames_of (messages ++ fault_log (fault_number kind) offset ∷ [])
farewell_frames messages number offset kind is =
    ap (λ (k : ℕ). frames_of messages ++ frame_of_reply (fault_log k offset)) is
    ∙ ap (λ (last : List ℕ). frames_of messages ++ last) (sym (append-nil (frame_of_reply (fault_log (fault_number kind) offset))))
    ∙ sym (frames_more messages (fault_log (fault_number kind) offset ∷ []))

-- the farewell is written
pub farewell_written : {looking : Looking} {before now : ℕ} (old mid seen : Streams) (sink : SinkSeen) (server next : Serving) (taken most : ℕ) (piece : List ℕ) (at : FaultAt) (w : Going looking old mid server taken most) → Read old mid seen server taken most piece w →
    TakesPiece looking server next piece (HasFault at) mid.sink seen.sink → Prints seen.sink sink (frame_of_reply (fault_log at.number at.offset)) → CountsAllBy looking (w.pieces ++ piece ∷ []) before now → (AreQuiet (w.bytes ++ piece) → now ≡ before) →
    ServesBy looking old (record { source = seen.source; sink = sink }) before now FrameFault
farewell_written old mid seen sink server next taken most piece at w r e p counted uncounted =
    let answers = all_answers old mid seen server next taken most piece at w e in
    record {
      ends = record {
        pieces = w.pieces ++ piece ∷ [];
        taken = r.takes;
        source = (
          r.on,
          before_written old mid server taken most piece w _ sink (Appends-trans mid.sink.taken seen.sink.taken sink.taken _ _ e.answers.prints.printed p.printed)
              (calls_then mid.sink.writes seen.sink.writes sink.writes _ _ e.answers.prints.calls.take p.calls.take),
        );
        session = (
          few_bytes old mid seen server taken most piece w r,
          record {
            writes = record {
              output = faulty_output old mid seen server next taken most piece at w e;
              is = is_faulty_output old mid seen server next taken most piece at w e;
              prints = subst (Prints old.sink sink) (farewell_frames answers.session.messages at.number at.offset e.end.0 e.end.2)
                  (prints_then old.sink seen.sink sink (frames_of answers.session.messages) (frame_of_reply (fault_log at.number at.offset)) answers.prints p);
            };
            no_exit = refl;
            faulty = tt;
          },
        );
      };
      counted = counted;
      uncounted = quiet_then old mid server taken most piece w uncounted;
    }

-- a write of the farewell fails
pub farewell_cut : {looking : Looking} {before now : ℕ} (old mid seen : Streams) (sink : SinkSeen) (server next : Serving) (taken most : ℕ) (piece : List ℕ) (at : FaultAt) (w : Going looking old mid server taken most) → Read old mid seen server taken most piece w →
    TakesPiece looking server next piece (HasFault at) mid.sink seen.sink → PrintsFront seen.sink sink (frame_of_reply (fault_log at.number at.offset)) → CountsAllBy looking (w.pieces ++ piece ∷ []) before now → (AreQuiet (w.bytes ++ piece) → now ≡ before) →
    ServesBy looking old (record { source = seen.source; sink = sink }) before now WriteFailed
farewell_cut old mid seen sink server next taken most piece at w r e p counted uncounted =
    let answers = all_answers old mid seen server next taken most piece at w e in
    let output = faulty_output old mid seen server next taken most piece at w e in
    let is = is_faulty_output old mid seen server next taken most piece at w e in
    let prints : PrintsFront old.sink sink (frames_of (written output)) = subst (PrintsFront old.sink sink) (farewell_frames answers.session.messages at.number at.offset e.end.0 e.end.2)
    (front_after old.sink seen.sink sink (frames_of answers.session.messages) (frame_of_reply (fault_log at.number at.offset)) answers.prints p) in
    record {
      ends = record {
        pieces = w.pieces ++ piece ∷ [];
        taken = r.takes;
        source = (
          r.on,
          before_written old mid server taken most piece w _ sink (Appends-trans mid.sink.taken seen.sink.taken sink.taken _ _ e.answers.prints.printed p.printed)
              (calls_then mid.sink.writes seen.sink.writes sink.writes _ _ e.answers.prints.calls.take (last_none_all seen.sink.writes sink.writes _ p.calls)),
        );
        session = (few_bytes old mid seen server taken most piece w r, record { messages = written output; begin = inr (output, is, refl); prints = prints });
      };
      counted = record { messages = written output; begin = inr (output, is, refl, counted); prints = prints };
      uncounted = quiet_then old mid server taken most piece w uncounted;
    }

-- memory runs out in the farewell
pub farewell_lost : {looking : Looking} {before now : ℕ} (old mid seen : Streams) (sink : SinkSeen) (server next : Serving) (taken most : ℕ) (piece : List ℕ) (at : FaultAt) (w : Going looking old mid server taken most) → Read old mid seen server taken most piece w →
    TakesPiece looking server next piece (HasFault at) mid.sink seen.sink → PrintsPart seen.sink sink (frame_of_reply (fault_log at.number at.offset)) → (AreQuiet (w.bytes ++ piece) → now ≡ before) →
    ServesBy looking old (record { source = seen.source; sink = sink }) before now NoMemory
farewell_lost old mid seen sink server next taken most piece at w r e p uncounted =
    let answers = all_answers old mid seen server next taken most piece at w e in
    let output = faulty_output old mid seen server next taken most piece at w e in
    record {
      ends = record {
        pieces = w.pieces ++ piece ∷ [];
        taken = r.takes;
        source = r.on;
        session = (
          few_bytes old mid seen server taken most piece w r,
          record {
            messages = written output;
            begin = inr (output, is_faulty_output old mid seen server next taken most piece at w e, refl);
            prints = subst (PrintsPart old.sink sink) (farewell_frames answers.session.messages at.number at.offset e.end.0 e.end.2)
                (part_after old.sink seen.sink sink (frames_of answers.session.messages) (frame_of_reply (fault_log at.number at.offset)) answers.prints p);
          },
        );
      };
      counted = tt;
      uncounted = quiet_then old mid server taken most piece w uncounted;
    }

-- ---- a part of the piece is answered

-- memory runs out while a body of the piece is answered
piece_memory : {looking : Looking} {before now : ℕ} (old mid new : Streams) (server next : Serving) (taken most : ℕ) (piece : List ℕ) (w : Going looking old mid server taken most) → Read old mid new server taken most piece w →
    AnswersInPiece looking server next piece (PrintsPart mid.sink new.sink) → (AreQuiet (w.bytes ++ piece) → now ≡ before) → ServesBy looking old new before now NoMemory
piece_memory {looking = looking} old mid new server next taken most piece w r e uncounted =
    let all = frames_then old mid server next taken most piece e.given w e.feeds in
    let first = w.answers.session.messages in
    let some = e.answers in
    record {
      ends = record {
        pieces = w.pieces ++ piece ∷ [];
        taken = r.takes;
        source = r.on;
        session = (
          few_bytes old mid new server taken most piece w r,
          record {
            messages = first ++ some.messages;
            begin = inl (first_in old mid server taken most piece e.given w all.0 some.first some.later (first ++ some.messages) all.1 some.split
                (are_first (begin empty) server.state w.seen some.first old.sink mid.sink some.messages w.answers some.answered));
            prints = subst (PrintsPart old.sink new.sink) (sym (frames_more first some.messages)) (part_after old.sink mid.sink new.sink (frames_of first) (frames_of some.messages) w.answers.prints some.prints);
          },
        );
      };
      counted = tt;
      uncounted = quiet_then old mid server taken most piece w uncounted;
    }

-- memory runs out before a body of the piece is answered
no_memory : {looking : Looking} {before now : ℕ} (old mid new : Streams) (server : Serving) (taken most : ℕ) (piece : List ℕ) (w : Going looking old mid server taken most) → Read old mid new server taken most piece w → new.sink ≡ mid.sink →
    (AreQuiet (w.bytes ++ piece) → now ≡ before) → ServesBy looking old new before now NoMemory
no_memory {looking = looking} old mid new server taken most piece w r same uncounted =
    let all = every_reading (w.bytes ++ piece) in
    let more = bodies_grow w.bytes piece w.bodies all.0 (rest w.kept) all.1 (going_frames old mid server taken most w) all.2 in
    let messages = w.answers.session.messages in
    record {
      ends = record {
        pieces = w.pieces ++ piece ∷ [];
        taken = r.takes;
        source = r.on;
        session = (
          few_bytes old mid new server taken most piece w r,
          record {
            messages = messages;
            begin = inl (first_in old mid server taken most piece more.0 w all.1 [] (looked looking more.0) messages (subst (λ (bodies : List (List ℕ)). IsFrames (w.bytes ++ piece) bodies all.1) more.1 all.2) refl
                (subst (λ (bodies : List Looked). AreReplies (looked_from (begin empty) bodies).replies messages) (sym (append-nil w.seen)) w.answers.session.answered));
            prints = subst (λ (sink : SinkSeen). PrintsPart old.sink sink (frames_of messages)) (sym same) (whole_part old.sink mid.sink (frames_of messages) w.answers.prints);
          },
        );
      };
      counted = tt;
      uncounted = quiet_then old mid server taken most piece w uncounted;
    }

pub piece_lost : {looking : Looking} {before now : ℕ} (old mid new : Streams) (server next : Serving) (taken most : ℕ) (piece : List ℕ) (w : Going looking old mid server taken most) → Read old mid new server taken most piece w →
    AnswersInPiece looking server next piece (PrintsPart mid.sink new.sink) ⊎ (new.sink ≡ mid.sink) → (AreQuiet (w.bytes ++ piece) → now ≡ before) → ServesBy looking old new before now NoMemory
piece_lost old mid new server next taken most piece w r (inl some) uncounted = piece_memory old mid new server next taken most piece w r some uncounted
piece_lost old mid new server next taken most piece w r (inr same) uncounted = no_memory old mid new server taken most piece w r same uncounted

-- a write fails while a body of the piece is answered
pub piece_cut : {looking : Looking} {before now : ℕ} (old mid new : Streams) (server next : Serving) (taken most : ℕ) (piece : List ℕ) (w : Going looking old mid server taken most) → Read old mid new server taken most piece w →
    AnswersInPiece looking server next piece (PrintsFront mid.sink new.sink) → WritesFront (CountsBeginBy looking (w.pieces ++ piece ∷ []) before now) old.sink new.sink → (AreQuiet (w.bytes ++ piece) → now ≡ before) → ServesBy looking old new before now WriteFailed
piece_cut old mid new server next taken most piece w r e counted uncounted =
    let all = frames_then old mid server next taken most piece e.given w e.feeds in
    let first = w.answers.session.messages in
    let some = e.answers in
    record {
      ends = record {
        pieces = w.pieces ++ piece ∷ [];
        taken = r.takes;
        source = (r.on, before_written old mid server taken most piece w _ new.sink some.prints.printed (last_none_all mid.sink.writes new.sink.writes _ some.prints.calls));
        session = (
          few_bytes old mid new server taken most piece w r,
          record {
            messages = first ++ some.messages;
            begin = inl (first_in old mid server taken most piece e.given w all.0 some.first some.later (first ++ some.messages) all.1 some.split
                (are_first (begin empty) server.state w.seen some.first old.sink mid.sink some.messages w.answers some.answered));
            prints = subst (PrintsFront old.sink new.sink) (sym (frames_more first some.messages)) (front_after old.sink mid.sink new.sink (frames_of first) (frames_of some.messages) w.answers.prints some.prints);
          },
        );
      };
      counted = counted;
      uncounted = quiet_then old mid server taken most piece w uncounted;
    }

-- memory runs out before anything is read
pub nothing_served : (looking : Looking) (a : Streams) (now : ℕ) → ServesBy looking a a now now NoMemory
nothing_served looking a now = record {
  ends = record {
    pieces = [];
    taken = pieces_whole a.source.left a.source.left [] (whole_none a.source.left);
    source = reads_no_piece a.source;
    session = (
      omega arith,
      record {
        messages = [];
        begin = inl (record { given = []; end = rest []; complete = written_again [] tt; first = []; later = []; split = refl; answered = refl });
        prints = whole_part a.sink a.sink [] (prints_nothing a.sink);
      },
    );
  };
  counted = tt;
  uncounted = λ q. refl;
}
