-- A session that doesn't look ahead is that of the bytes of its pieces.
use Rattle.std.proofs.Common.{◌≡◌, inl, inr, ℕ, ◌<◌, List, [], ◌∷◌, ◌++◌, length, Option, Some, None, refl, sym, ap, ◌∙◌, subst, append_assoc, append-nil}
use Rattle.std.specs.FinMap.{empty}
use Rattle.std.specs.List.{AllByRecursion}
use Rattle.std.proofs.lemmas.List.{map-append}
use Rattle.ls_base.specs.Frames.{End, IsFrames}
use Rattle.lsp_messages.specs.declared.reply.Reply.{Reply}
use Rattle.ls_outside.specs.Sources.{bytes_of, left_over}
use Rattle.ls_outside.proofs.CallLaws.{bytes_more}
use Rattle.lookahead.specs.Completed.{Complete, Completes}
use Rattle.lookahead.specs.Looked.{Looked, looked, uncancelled}
use Rattle.lookahead.specs.declared.looking.Looking.TheVariants.{OneByOne}
use Rattle.scheme_model.specs.Session.{Run, begin}
use Rattle.session_replies.specs.Asked.{Question}
use Rattle.session_replies.specs.Counted.{AreCounted}
use Rattle.session_replies.specs.ToWire.{AreReplies}
use Rattle.session_serving.specs.AheadOutcome.{AnswersBeforeLast, CountsAllBy, CountsBeginBy, CountsBy, IsNonempty, IsOver, PiecesEndAs, ReadsPieces, ServesBy, TakesPieces}
use Rattle.session_serving.specs.AheadOutput.{AnswerFirstBy, BeginBy, IsOutputBy, looked_from, looked_in, looked_over}
use Rattle.session_serving.specs.CountedBytes.{CountsAll, CountsBegin}
use Rattle.command_output.specs.Prints.{SinkSeen}
use Rattle.command_output.specs.Reads.{ReadsOn, SourceSeen, TakesAll, TakesBytes}
use Rattle.session_serving.specs.ServeOutcome.{AnswersPiecesBefore, AreBeforeLast, CountsAs, Serves, SessionEndsAs, SourceEndsAs, WritesWhole}
use Rattle.session_serving.specs.SessionOutput.{AnswerFirst, BeginOutput, IsOutputOf, Output, session_over}
use Rattle.command_output.specs.Streams.{Streams}
use Rattle.session_serving.specs.declared.serve.SessionEnd.{SessionEnd}
use Rattle.session_serving.specs.declared.serve.SessionEnd.TheVariants.{Exited, InputEnded, ReadFailed, WriteFailed, NoMemory, FrameFault, Endless}
use Rattle.session_serving.proofs.Pieces.{all_bodies}
use Rattle.session_serving.proofs.Sessions.{uncancelled_session}
use Rattle.command_output.proofs.Taken.{bytes_of-left_over}

-- ---- the bodies of all pieces

completed_frames : (pieces : List (List ℕ)) (given : List (List (List ℕ))) (bytes : List ℕ) (bodies : List (List ℕ)) (end : End) → Completes bytes bodies pieces given end → IsFrames (bytes ++ bytes_of pieces) (bodies ++ all_bodies given) end
completed_frames [] [] bytes bodies end frames = subst (λ (p : List ℕ × List (List ℕ)). IsFrames p.0 p.1 end) (λ j. (sym (append-nil bytes) j, sym (append-nil bodies) j)) frames
completed_frames [] (g ∷ given) bytes bodies end frames = absurd frames
completed_frames (p ∷ pieces) [] bytes bodies end frames = absurd frames
completed_frames (p ∷ pieces) (g ∷ given) bytes bodies end frames =
    subst (λ (q : List ℕ × List (List ℕ)). IsFrames q.0 q.1 end) (λ j. (append_assoc bytes p (bytes_of pieces) j, append_assoc bodies g (all_bodies given) j)) (completed_frames pieces given (bytes ++ p) (bodies ++ g) end frames.1)

all_frames : (pieces : List (List ℕ)) (given : List (List (List ℕ))) (end : End) → Complete pieces given end → IsFrames (bytes_of pieces) (all_bodies given) end
all_frames pieces given end complete = completed_frames pieces given [] [] end complete

all_uncancelled : (given : List (List (List ℕ))) → looked_in OneByOne given ≡ looked OneByOne (all_bodies given)
all_uncancelled [] = refl
all_uncancelled (completed ∷ given) = ap (λ (rest : List Looked). looked OneByOne completed ++ rest) (all_uncancelled given) ∙ sym (map-append uncancelled completed (all_bodies given))

same_run : (given : List (List (List ℕ))) → looked_over OneByOne given ≡ session_over (all_bodies given)
same_run given = ap (looked_from (begin empty)) (all_uncancelled given) ∙ sym (uncancelled_session (all_bodies given) (begin empty))

-- ---- outputs

pub output_as : (pieces : List (List ℕ)) (output : Output) → IsOutputBy OneByOne pieces output → IsOutputOf (bytes_of pieces) output
output_as pieces output is = record {
  bodies = all_bodies is.given;
  frames = all_frames pieces is.given output.end is.complete;
  answered = subst (λ (run : Run Question). AreReplies run.replies output.messages) (same_run is.given) is.answered;
  exits = is.exits ∙ ap (λ (run : Run Question). run.end) (same_run is.given);
}

same_heads : {A : Type 0} (x y : A) (a b : List A) → x ∷ a ≡ y ∷ b → x ≡ y
same_heads x y a b same = cc

same_tails : {A : Type 0} (x y : A) (a b : List A) → x ∷ a ≡ y ∷ b → a ≡ b
same_tails x y a b same = cc

-- the first of bodies of which none is cancelled
record First (bodies : List (List ℕ)) (first : List Looked) : Type 0 where
  pub front : List (List ℕ)
  pub later : List (List ℕ)
  pub split : bodies ≡ front ++ later
  pub are : first ≡ looked OneByOne front

first_of : (bodies : List (List ℕ)) (first later : List Looked) → looked OneByOne bodies ≡ first ++ later → First bodies first
first_of bodies [] later same = record { front = []; later = bodies; split = refl; are = refl }
first_of [] (body ∷ first) later same = absurd cc
first_of (b ∷ bodies) (body ∷ first) later same =
    let rest = first_of bodies first later (same_tails (uncancelled b) body (looked OneByOne bodies) (first ++ later) same) in
    let head = same_heads (uncancelled b) body (looked OneByOne bodies) (first ++ later) same in
    record { front = b ∷ rest.front; later = rest.later; split = ap (λ (more : List (List ℕ)). b ∷ more) rest.split; are = λ j. sym head j ∷ rest.are j }

-- the first bodies of all pieces
first_in : {pieces : List (List ℕ)} {messages : List Reply} (a : AnswerFirstBy OneByOne pieces messages) → First (all_bodies a.given) a.first
first_in a = first_of (all_bodies a.given) a.first a.later (sym (all_uncancelled a.given) ∙ a.split)

first_run : {bodies : List (List ℕ)} {first : List Looked} (f : First bodies first) → looked_from (begin empty) first ≡ session_over f.front
first_run f = ap (looked_from (begin empty)) f.are ∙ sym (uncancelled_session f.front (begin empty))

abbrev first_as : (pieces : List (List ℕ)) (messages : List Reply) → AnswerFirstBy OneByOne pieces messages → AnswerFirst (bytes_of pieces) messages
first_as pieces messages a = record {
  bodies = (first_in a).front;
  later = (first_in a).later;
  end = a.end;
  frames = subst (λ (bodies : List (List ℕ)). IsFrames (bytes_of pieces) bodies a.end) (first_in a).split (all_frames pieces a.given a.end a.complete);
  answered = subst (λ (run : Run Question). AreReplies run.replies messages) (first_run (first_in a)) a.answered;
}

begin_as : (pieces : List (List ℕ)) (messages : List Reply) → BeginBy OneByOne pieces messages → BeginOutput (bytes_of pieces) messages
begin_as pieces messages (inl first) = inl (first_as pieces messages first)
begin_as pieces messages (inr whole) = inr (whole.0, output_as pieces whole.0 whole.1, whole.2)

-- ---- how a session ends

written_as : (IsOutput AsOutput : Output → Type 0) (old new : SinkSeen) → ((output : Output) → IsOutput output → AsOutput output) → WritesWhole IsOutput old new → WritesWhole AsOutput old new
written_as IsOutput AsOutput old new carry w = record { output = w.output; is = carry w.output w.is; prints = w.prints }

session_as : (pieces : List (List ℕ)) (old new : SinkSeen) (end : SessionEnd) → SessionEndsAs (length (bytes_of pieces)) (IsOutputBy OneByOne pieces) (BeginBy OneByOne pieces) old new end →
    SessionEndsAs (length (bytes_of pieces)) (IsOutputOf (bytes_of pieces)) (BeginOutput (bytes_of pieces)) old new end
unfolding written_as
session_as pieces old new (Exited exit) h = (h.0, record { writes = written_as (IsOutputBy OneByOne pieces) (IsOutputOf (bytes_of pieces)) old new (output_as pieces) h.1.writes; exits = h.1.exits })
session_as pieces old new InputEnded h = (h.0, record { writes = written_as (IsOutputBy OneByOne pieces) (IsOutputOf (bytes_of pieces)) old new (output_as pieces) h.1.writes; no_exit = h.1.no_exit; unfinished = h.1.unfinished })
session_as pieces old new ReadFailed h = (h.0, record { writes = written_as (IsOutputBy OneByOne pieces) (IsOutputOf (bytes_of pieces)) old new (output_as pieces) h.1.writes; no_exit = h.1.no_exit; unfinished = h.1.unfinished })
session_as pieces old new WriteFailed h = (h.0, record { messages = h.1.messages; begin = begin_as pieces h.1.messages h.1.begin; prints = h.1.prints })
session_as pieces old new NoMemory h = (h.0, record { messages = h.1.messages; begin = begin_as pieces h.1.messages h.1.begin; prints = h.1.prints })
session_as pieces old new FrameFault h = (h.0, record { writes = written_as (IsOutputBy OneByOne pieces) (IsOutputOf (bytes_of pieces)) old new (output_as pieces) h.1.writes; no_exit = h.1.no_exit; faulty = h.1.faulty })
session_as pieces old new Endless h = (h.0, record { writes = written_as (IsOutputBy OneByOne pieces) (IsOutputOf (bytes_of pieces)) old new (output_as pieces) h.1.writes; no_exit = h.1.no_exit; unfinished = h.1.unfinished })

-- ---- what is left of the source

-- the bytes of a piece that is taken in part
part_bytes : (before after : List (List ℕ)) (last unread : List ℕ) → bytes_of (before ++ (last ++ unread) ∷ after) ≡ bytes_of (before ++ last ∷ []) ++ bytes_of (left_over unread after)
part_bytes before after last unread =
    bytes_more before ((last ++ unread) ∷ after)
    ∙ ap (λ (rest : List ℕ). bytes_of before ++ rest) (append_assoc last unread (bytes_of after) ∙ ap (λ (rest : List ℕ). last ++ rest) (sym (bytes_of-left_over unread after)))
    ∙ sym (append_assoc (bytes_of before) last (bytes_of (left_over unread after)))
    ∙ ap (λ (front : List ℕ). front ++ bytes_of (left_over unread after)) (sym (bytes_more before (last ∷ []) ∙ ap (λ (rest : List ℕ). bytes_of before ++ rest) (append-nil last)))

taken_as : (old new : Option (List (List ℕ))) (pieces : List (List ℕ)) → TakesPieces old new pieces → TakesBytes old new (bytes_of pieces)
taken_as None new pieces takes = tt
taken_as (Some old) None pieces takes = absurd takes
taken_as (Some old) (Some new) pieces (inl whole) = ap bytes_of whole ∙ bytes_more pieces new
taken_as (Some old) (Some new) pieces (inr part) =
    ap bytes_of part.was ∙ part_bytes part.before part.after part.last part.unread ∙ λ j. bytes_of (sym part.split j) ++ bytes_of (sym part.is j)

all_as : (old new : Option (List (List ℕ))) (pieces : List (List ℕ)) → TakesPieces old new pieces → IsOver old new → TakesAll old new (bytes_of pieces)
all_as None new pieces takes over = tt
all_as (Some old) None pieces takes over = absurd takes
all_as (Some old) (Some new) pieces takes over =
    let bytes = taken_as (Some old) (Some new) pieces takes in
    (sym (bytes ∙ ap (λ (left : List (List ℕ)). bytes_of pieces ++ bytes_of left) over ∙ append-nil (bytes_of pieces)), over)

-- ---- what reads took

reads_as : (old new : SourceSeen) (pieces : List (List ℕ)) → ReadsPieces old new pieces → ReadsOn old new (bytes_of pieces)
reads_as old new pieces r = record { no_fault = r.no_fault; calls = record { take = record { calls = pieces; more = r.reads; whole = refl }; some = r.some } }

front_some : (before : List (List ℕ)) (last : List ℕ) → AllByRecursion IsNonempty (before ++ last ∷ []) → AllByRecursion IsNonempty before × IsNonempty last
front_some [] last all = (tt, all.0)
front_some (piece ∷ before) last all = let rest = front_some before last all.1 in ((all.0, rest.0), rest.1)

-- lists that end in one item each
same_fronts : {A : Type 0} (a b : List A) (x y : A) → a ++ x ∷ [] ≡ b ++ y ∷ [] → (a ≡ b) × (x ≡ y)
same_fronts [] [] x y same = (refl, same_heads x y [] [] same)
same_fronts [] (z ∷ []) x y same = absurd cc
same_fronts [] (z ∷ v ∷ b) x y same = absurd cc
same_fronts (z ∷ []) [] x y same = absurd cc
same_fronts (z ∷ v ∷ a) [] x y same = absurd cc
same_fronts (z ∷ a) (v ∷ b) x y same =
    let rest = same_fronts a b x y (same_tails z v (a ++ x ∷ []) (b ++ y ∷ []) same) in
    (λ j. same_heads z v (a ++ x ∷ []) (b ++ y ∷ []) same j ∷ rest.0 j, rest.1)

-- the piece that the last read took from
last_as : (old new : Option (List (List ℕ))) (pieces before : List (List ℕ)) (last : List ℕ) → TakesPieces old new pieces → pieces ≡ before ++ last ∷ [] → 0 < length last → AreBeforeLast old (bytes_of before) last
last_as None new pieces before last takes split some = tt
last_as (Some old) None pieces before last takes split some = absurd takes
last_as (Some old) (Some new) pieces before last (inl whole) split some = record {
  before = before;
  unread = [];
  after = new;
  split = whole ∙ ap (λ (all : List (List ℕ)). all ++ new) split ∙ append_assoc before (last ∷ []) new ∙ ap (λ (piece : List ℕ). before ++ piece ∷ new) (sym (append-nil last));
  whole = refl;
  some = some;
}
last_as (Some old) (Some new) pieces before last (inr part) split some =
    let same = same_fronts part.before before part.last last (sym part.split ∙ split) in
    record {
      before = before;
      unread = part.unread;
      after = part.after;
      split = part.was ∙ λ j. same.0 j ++ (same.1 j ++ part.unread) ∷ part.after;
      whole = refl;
      some = some;
    }

before_as : (old new : Streams) (pieces : List (List ℕ)) → TakesPieces old.source.left new.source.left pieces → ReadsPieces old.source new.source pieces → AnswersBeforeLast OneByOne old.sink new.sink pieces → AnswersPiecesBefore old new (bytes_of pieces)
before_as old new pieces takes r a =
    let some = front_some a.before a.last (subst (AllByRecursion IsNonempty) a.split r.some) in
    record {
      before = bytes_of a.before;
      last = a.last;
      split = ap bytes_of a.split ∙ bytes_more a.before (a.last ∷ []) ∙ ap (λ (rest : List ℕ). bytes_of a.before ++ rest) (append-nil a.last);
      reads = record {
        mid = old.source.reads ++ a.before;
        earlier = record { take = record { calls = a.before; more = refl; whole = refl }; some = some.0 };
        call = r.reads ∙ ap (λ (all : List (List ℕ)). old.source.reads ++ all) a.split ∙ sym (append_assoc old.source.reads a.before (a.last ∷ []));
      };
      pieces = last_as old.source.left new.source.left pieces a.before a.last takes a.split some.1;
      output = a.output;
      is = output_as a.before a.output a.is;
      no_exit = a.no_exit;
      unfinished = a.unfinished;
      more = a.more;
      printed = a.printed;
      writes = a.writes;
    }

source_as : (old new : Streams) (pieces : List (List ℕ)) (end : SessionEnd) → TakesPieces old.source.left new.source.left pieces → PiecesEndAs OneByOne old new pieces end → SourceEndsAs old new (bytes_of pieces) end
source_as old new pieces (Exited exit) takes h = (reads_as old.source new.source pieces h.0, before_as old new pieces takes h.0 h.1)
source_as old new pieces InputEnded takes r = record {
  all = all_as old.source.left new.source.left pieces takes r.over;
  no_fault = r.no_fault;
  calls = record {
    mid = old.source.reads ++ pieces;
    earlier = record { take = record { calls = pieces; more = refl; whole = refl }; some = r.some };
    call = r.reads ∙ sym (append_assoc old.source.reads pieces ([] ∷ []));
  };
}
source_as old new pieces ReadFailed takes r = record {
  failed = r.failed;
  calls = record {
    mid = old.source.reads ++ pieces;
    earlier = record { take = record { calls = pieces; more = refl; whole = refl }; some = r.some };
    call = r.reads ∙ sym (append_assoc old.source.reads pieces ([] ∷ []));
  };
}
source_as old new pieces WriteFailed takes h = (reads_as old.source new.source pieces h.0, before_as old new pieces takes h.0 h.1)
source_as old new pieces NoMemory takes r = reads_as old.source new.source pieces r
source_as old new pieces FrameFault takes h = (reads_as old.source new.source pieces h.0, before_as old new pieces takes h.0 h.1)
source_as old new pieces Endless takes r = reads_as old.source new.source pieces r

-- ---- the macro uses that are counted

counts_all_as : (pieces : List (List ℕ)) (before now : ℕ) → CountsAllBy OneByOne pieces before now → CountsAll (bytes_of pieces) before now
counts_all_as pieces before now c = record {
  bodies = all_bodies c.given;
  end = c.end;
  frames = all_frames pieces c.given c.end c.complete;
  counted = subst (λ (run : Run Question). AreCounted run.replies before now) (same_run c.given) c.counted;
}

counts_begin_as : (pieces : List (List ℕ)) (before now : ℕ) (messages : List Reply) → CountsBeginBy OneByOne pieces before now messages → CountsBegin (bytes_of pieces) before now messages
counts_begin_as pieces before now messages (inl c) = inl (record {
  first = first_as pieces messages c.answers;
  counted = subst (λ (run : Run Question). AreCounted run.replies before now) (first_run (first_in c.answers)) c.counted;
})
counts_begin_as pieces before now messages (inr whole) = inr (whole.0, output_as pieces whole.0 whole.1, whole.2, counts_all_as pieces before now whole.3)

counts_as : (old new : SinkSeen) (pieces : List (List ℕ)) (before now : ℕ) (end : SessionEnd) → CountsBy OneByOne old new pieces before now end → CountsAs old new (bytes_of pieces) before now end
counts_as old new pieces before now (Exited exit) c = counts_all_as pieces before now c
counts_as old new pieces before now InputEnded c = counts_all_as pieces before now c
counts_as old new pieces before now ReadFailed c = counts_all_as pieces before now c
counts_as old new pieces before now WriteFailed c = record { messages = c.messages; begin = counts_begin_as pieces before now c.messages c.begin; prints = c.prints }
counts_as old new pieces before now NoMemory c = tt
counts_as old new pieces before now FrameFault c = counts_all_as pieces before now c
counts_as old new pieces before now Endless c = counts_all_as pieces before now c

pub serves_as : (old new : Streams) (before now : ℕ) (end : SessionEnd) → ServesBy OneByOne old new before now end → Serves old new before now end
serves_as old new before now end s = record {
  ends = record {
    bytes = bytes_of s.ends.pieces;
    taken = taken_as old.source.left new.source.left s.ends.pieces s.ends.taken;
    source = source_as old new s.ends.pieces end s.ends.taken s.ends.source;
    session = session_as s.ends.pieces old.sink new.sink end s.ends.session;
  };
  counted = counts_as old.sink new.sink s.ends.pieces before now end s.counted;
  uncounted = s.uncounted;
}
