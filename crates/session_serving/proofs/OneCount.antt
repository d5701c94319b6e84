-- What a session counts is told by what it read, unless memory ran out or a write failed.
use Rattle.std.proofs.Common.{◌≡◌, ◌∙◌, ◌⊎◌, inl, inr, ◌<◌, ℕ, List, [], ◌∷◌, ◌++◌, length, Option, Some, None, refl, sym, ap, subst, append_assoc, append-nil, arith}
use Rattle.std.specs.FinMap.{empty}
use Rattle.std.specs.List.{AllByRecursion}
use Rattle.std.proofs.lemmas.List.{append_cancel_left, append_cancel_right, length-append, map-append}
use Rattle.ls_base.specs.Frames.{End, IsFrames, fault, rest}
use Rattle.ls_outside.specs.Calls.{CallsTake, LastTakesNone}
use Rattle.ls_outside.specs.Sources.{bytes_of}
use Rattle.ls_outside.proofs.CallLaws.{bytes_more}
use Rattle.lsp_framing.proofs.EveryReading.{every_reading}
use Rattle.lsp_framing.proofs.Feeding.{fault_stays}
use Rattle.lsp_framing.proofs.OneReading.{bodies_grow, one_reading}
use Rattle.lookahead.specs.Looked.{looked, uncancelled}
use Rattle.lookahead.specs.declared.looking.Looking.{Looking}
use Rattle.lookahead.specs.declared.looking.Looking.TheVariants.{Ahead, OneByOne}
use Rattle.lookahead.proofs.OneCompletion.{only_completion}
use Rattle.scheme_model.specs.Session.{Ending, Run, begin}
use Rattle.session_replies.specs.Asked.{Question}
use Rattle.session_replies.specs.Counted.{AreCounted}
use Rattle.session_replies.proofs.CountedLaws.{one_count}
use Rattle.command_output.specs.Prints.{SinkSeen}
use Rattle.command_output.specs.Reads.{TakesAll, TakesBytes, source_seen}
use Rattle.command_output.specs.Streams.{Streams, streams}
use Rattle.session_serving.specs.AheadOutcome.{CountsAllBy, CountsBy, IsNonempty, PiecesEndAs, ServesAhead}
use Rattle.session_serving.specs.AheadOutput.{looked_from, looked_over}
use Rattle.session_serving.specs.CountedBytes.{CountsAll}
use Rattle.session_serving.specs.ServeOutcome.{CountsAs, IsFaulty, Serves, SourceEndsAs, max_stream}
use Rattle.session_serving.specs.SessionOutput.{session_over}
use Rattle.session_serving.specs.declared.serve.SessionEnd.{SessionEnd}
use Rattle.session_serving.specs.declared.serve.SessionEnd.TheVariants.{Exited, InputEnded, ReadFailed, WriteFailed, NoMemory, FrameFault, Endless}
use Rattle.session_serving.proofs.Sessions.{ended_session, uncancelled_session}

-- ---- bytes and pieces

pub one_of_bytes : (bytes : List ℕ) (from a b : ℕ) → CountsAll bytes from a → CountsAll bytes from b → a ≡ b
one_of_bytes bytes from a b h k =
    one_count (session_over h.bodies).replies from a b h.counted
    (subst (λ (bodies : List (List ℕ)). AreCounted (session_over bodies).replies from b) (sym (one_reading bytes h.bodies k.bodies h.end k.end h.frames k.frames).0) k.counted)

one_of_pieces : (looking : Looking) (pieces : List (List ℕ)) (from a b : ℕ) → CountsAllBy looking pieces from a → CountsAllBy looking pieces from b → a ≡ b
one_of_pieces looking pieces from a b h k =
    one_count (looked_over looking h.given).replies from a b h.counted
    (subst (λ (given : List (List (List ℕ))). AreCounted (looked_over looking given).replies from b) (sym (only_completion pieces [] [] h.given k.given h.end k.end h.complete k.complete).0) k.counted)

-- ---- what was read

took_last : (old new : List (List ℕ)) (bytes : List ℕ) → LastTakesNone old new bytes → CallsTake old new bytes
took_last old new bytes h =
    let calls = h.earlier.take.calls in
    record {
      calls = calls ++ [] ∷ [];
      more = h.call ∙ ap (λ (first : List (List ℕ)). first ++ [] ∷ []) h.earlier.take.more ∙ append_assoc old calls ([] ∷ []);
      whole = h.earlier.take.whole ∙ sym (bytes_more calls ([] ∷ []) ∙ append-nil (bytes_of calls));
    }

pub one_taking : (old new : List (List ℕ)) (x y : List ℕ) → CallsTake old new x → CallsTake old new y → x ≡ y
one_taking old new x y h k = h.whole ∙ ap bytes_of (append_cancel_left old h.calls k.calls (sym h.more ∙ k.more)) ∙ sym k.whole

pub one_reading_whole : (old new : List (List ℕ)) (x y : List ℕ) → LastTakesNone old new x → LastTakesNone old new y → x ≡ y
one_reading_whole old new x y h k = one_taking old new x y (took_last old new x h) (took_last old new y k)

-- an end at which the count is told
abbrev pub IsTold : SessionEnd → Type 0
IsTold (Exited exit) = Unit {0}
IsTold InputEnded = Unit {0}
IsTold ReadFailed = Unit {0}
IsTold WriteFailed = ⊥
IsTold NoMemory = ⊥
IsTold FrameFault = Unit {0}
IsTold Endless = Unit {0}

session_took : (old new : Streams) (bytes : List ℕ) (end : SessionEnd) → SourceEndsAs old new bytes end → CallsTake old.source.reads new.source.reads bytes
session_took old new bytes (Exited exit) ends = ends.0.calls.take
session_took old new bytes InputEnded ends = took_last old.source.reads new.source.reads bytes ends.calls
session_took old new bytes ReadFailed ends = took_last old.source.reads new.source.reads bytes ends.calls
session_took old new bytes WriteFailed ends = ends.0.calls.take
session_took old new bytes NoMemory ends = ends.calls.take
session_took old new bytes FrameFault ends = ends.0.calls.take
session_took old new bytes Endless ends = ends.calls.take

all_told : (old new : SinkSeen) (bytes : List ℕ) (before now : ℕ) (end : SessionEnd) → IsTold end → CountsAs old new bytes before now end → CountsAll bytes before now
all_told old new bytes before now (Exited exit) told counted = counted
all_told old new bytes before now InputEnded told counted = counted
all_told old new bytes before now ReadFailed told counted = counted
all_told old new bytes before now WriteFailed told counted = absurd told
all_told old new bytes before now NoMemory told counted = absurd told
all_told old new bytes before now FrameFault told counted = counted
all_told old new bytes before now Endless told counted = counted

pub one_session : (old new : Streams) (before a b : ℕ) (e f : SessionEnd) → IsTold e → IsTold f → Serves old new before a e → Serves old new before b f → a ≡ b
one_session old new before a b e f is_told told h k =
    let same = one_taking old.source.reads new.source.reads h.ends.bytes k.ends.bytes (session_took old new h.ends.bytes e h.ends.source) (session_took old new k.ends.bytes f k.ends.source) in
    one_of_bytes h.ends.bytes before a b (all_told old.sink new.sink h.ends.bytes before a e is_told h.counted)
    (subst (λ (bytes : List ℕ). CountsAll bytes before b) (sym same) (all_told old.sink new.sink k.ends.bytes before b f told k.counted))

-- ---- pieces that were read

-- the reads took these, and then perhaps nothing
record TookPieces (old new pieces : List (List ℕ)) : Type 0 where
  last : List (List ℕ)
  is_last : (last ≡ []) ⊎ (last ≡ [] ∷ [])
  reads : new ≡ old ++ (pieces ++ last)
  some : AllByRecursion IsNonempty pieces

pieces_took : (looking : Looking) (old new : Streams) (pieces : List (List ℕ)) (end : SessionEnd) → PiecesEndAs looking old new pieces end → TookPieces old.source.reads new.source.reads pieces
pieces_took looking old new pieces (Exited exit) ends = record { last = []; is_last = inl refl; reads = ends.0.reads ∙ ap (λ (ps : List (List ℕ)). old.source.reads ++ ps) (sym (append-nil pieces)); some = ends.0.some }
pieces_took looking old new pieces InputEnded ends = record { last = [] ∷ []; is_last = inr refl; reads = ends.reads; some = ends.some }
pieces_took looking old new pieces ReadFailed ends = record { last = [] ∷ []; is_last = inr refl; reads = ends.reads; some = ends.some }
pieces_took looking old new pieces WriteFailed ends = record { last = []; is_last = inl refl; reads = ends.0.reads ∙ ap (λ (ps : List (List ℕ)). old.source.reads ++ ps) (sym (append-nil pieces)); some = ends.0.some }
pieces_took looking old new pieces NoMemory ends = record { last = []; is_last = inl refl; reads = ends.reads ∙ ap (λ (ps : List (List ℕ)). old.source.reads ++ ps) (sym (append-nil pieces)); some = ends.some }
pieces_took looking old new pieces FrameFault ends = record { last = []; is_last = inl refl; reads = ends.0.reads ∙ ap (λ (ps : List (List ℕ)). old.source.reads ++ ps) (sym (append-nil pieces)); some = ends.0.some }
pieces_took looking old new pieces Endless ends = record { last = []; is_last = inl refl; reads = ends.reads ∙ ap (λ (ps : List (List ℕ)). old.source.reads ++ ps) (sym (append-nil pieces)); some = ends.some }

none_is_last : (pieces : List (List ℕ)) → AllByRecursion IsNonempty (pieces ++ [] ∷ []) → ⊥
none_is_last [] all = let none = all.0 in omega (arith, none)
none_is_last (piece ∷ pieces) all = none_is_last pieces all.1

same_pieces : (p q last more : List (List ℕ)) → (last ≡ []) ⊎ (last ≡ [] ∷ []) → (more ≡ []) ⊎ (more ≡ [] ∷ []) → AllByRecursion IsNonempty p → AllByRecursion IsNonempty q → p ++ last ≡ q ++ more → p ≡ q
same_pieces p q last more (inl x) (inl y) all others is =
    sym (append-nil p) ∙ ap (λ (l : List (List ℕ)). p ++ l) (sym x) ∙ is ∙ ap (λ (l : List (List ℕ)). q ++ l) y ∙ append-nil q
same_pieces p q last more (inr x) (inr y) all others is =
    append_cancel_right p q ([] ∷ []) (ap (λ (l : List (List ℕ)). p ++ l) (sym x) ∙ is ∙ ap (λ (l : List (List ℕ)). q ++ l) y)
same_pieces p q last more (inl x) (inr y) all others is =
    absurd (none_is_last q (subst (AllByRecursion IsNonempty) (sym (append-nil p) ∙ ap (λ (l : List (List ℕ)). p ++ l) (sym x) ∙ is ∙ ap (λ (l : List (List ℕ)). q ++ l) y) all))
same_pieces p q last more (inr x) (inl y) all others is =
    absurd (none_is_last p (subst (AllByRecursion IsNonempty) (sym (append-nil q) ∙ ap (λ (l : List (List ℕ)). q ++ l) (sym y) ∙ sym is ∙ ap (λ (l : List (List ℕ)). p ++ l) x) others))

one_taking_pieces : (old new p q : List (List ℕ)) → TookPieces old new p → TookPieces old new q → p ≡ q
one_taking_pieces old new p q h k = same_pieces p q h.last k.last h.is_last k.is_last h.some k.some (append_cancel_left old (p ++ h.last) (q ++ k.last) (sym h.reads ∙ k.reads))

all_told_by : (looking : Looking) (old new : SinkSeen) (pieces : List (List ℕ)) (before now : ℕ) (end : SessionEnd) → IsTold end → CountsBy looking old new pieces before now end → CountsAllBy looking pieces before now
all_told_by looking old new pieces before now (Exited exit) told counted = counted
all_told_by looking old new pieces before now InputEnded told counted = counted
all_told_by looking old new pieces before now ReadFailed told counted = counted
all_told_by looking old new pieces before now WriteFailed told counted = absurd told
all_told_by looking old new pieces before now NoMemory told counted = absurd told
all_told_by looking old new pieces before now FrameFault told counted = counted
all_told_by looking old new pieces before now Endless told counted = counted

pub one_session_ahead : (old new : Streams) (before a b : ℕ) (e f : SessionEnd) → IsTold e → IsTold f → ServesAhead old new before a e → ServesAhead old new before b f → a ≡ b
one_session_ahead old new before a b e f is_told told h k =
    let same = one_taking_pieces old.source.reads new.source.reads h.ends.pieces k.ends.pieces (pieces_took Ahead old new h.ends.pieces e h.ends.source) (pieces_took Ahead old new k.ends.pieces f k.ends.source) in
    one_of_pieces Ahead h.ends.pieces before a b (all_told_by Ahead old.sink new.sink h.ends.pieces before a e is_told h.counted)
    (subst (λ (pieces : List (List ℕ)). CountsAllBy Ahead pieces before b) (sym same) (all_told_by Ahead old.sink new.sink k.ends.pieces before b f told k.counted))

-- ---- bytes of which a session took the first

ended_over : (first later : List (List ℕ)) (exit : Ending) → (session_over first).end ≡ Some exit → session_over (first ++ later) ≡ session_over first
ended_over first later exit ended =
    uncancelled_session (first ++ later) (begin empty) ∙ ap (looked_from (begin empty)) (map-append uncancelled first later)
    ∙ ended_session (looked OneByOne first) (looked OneByOne later) (begin empty) exit (sym (ap (λ (run : Run Question). run.end) (uncancelled_session first (begin empty))) ∙ ended)
    ∙ sym (uncancelled_session first (begin empty))

-- behind an `exit` nothing counts
exit_counts : (bytes more : List ℕ) (exit : Ending) (before now : ℕ) (counts : CountsAll bytes before now) → (session_over counts.bodies).end ≡ Some exit → CountsAll (bytes ++ more) before now
exit_counts bytes more exit before now counts ended =
    let all = every_reading (bytes ++ more) in
    let grown = bodies_grow bytes more counts.bodies all.0 counts.end all.1 counts.frames all.2 in
    record {
      bodies = all.0;
      end = all.1;
      frames = all.2;
      counted = subst (λ (run : Run Question). AreCounted run.replies before now) (sym (ap session_over grown.1 ∙ ended_over counts.bodies grown.0 exit ended)) counts.counted;
    }

-- nor behind a fault of frames
fault_counts : (bytes more : List ℕ) (before now : ℕ) (bodies : List (List ℕ)) (end : End) → IsFaulty end → IsFrames bytes bodies end → AreCounted (session_over bodies).replies before now → CountsAll (bytes ++ more) before now
fault_counts bytes more before now bodies (rest kept) faulty frames counted = absurd faulty
fault_counts bytes more before now bodies (fault kind at) faulty frames counted = record { bodies = bodies; end = fault kind at; frames = fault_stays bytes more bodies kind at frames; counted = counted }

front_taken : (pieces : List (List ℕ)) (left : Option (List (List ℕ))) (bytes : List ℕ) → TakesBytes (Some pieces) left bytes → (more : List ℕ) × (bytes_of pieces ≡ bytes ++ more)
front_taken pieces None bytes taken = absurd taken
front_taken pieces (Some left) bytes taken = (bytes_of left, taken)

all_taken : (pieces : List (List ℕ)) (left : Option (List (List ℕ))) (bytes : List ℕ) → TakesAll (Some pieces) left bytes → bytes ≡ bytes_of pieces
all_taken pieces None bytes taken = absurd taken
all_taken pieces (Some left) bytes taken = taken.0

module _ (pieces : List (List ℕ)) (sink : SinkSeen) (new : Streams) (before now : ℕ) where
  abbrev Began : Streams
  Began = streams (source_seen (Some pieces) 0 []) sink

  -- what a session over pieces counts is what all their bytes count
  pub all_over : (end : SessionEnd) → IsTold end → (end ≡ ReadFailed → ⊥) → length (bytes_of pieces) < max_stream → Serves Began new before now end → CountsAll (bytes_of pieces) before now
  all_over (Exited exit) told read short h =
      let front = front_taken pieces new.source.left h.ends.bytes h.ends.taken in
      let is = h.ends.session.1.writes.is in
      let same = one_reading h.ends.bytes h.counted.bodies is.bodies h.counted.end h.ends.session.1.writes.output.end h.counted.frames is.frames in
      subst (λ (bytes : List ℕ). CountsAll bytes before now) (sym front.1)
      (exit_counts h.ends.bytes front.0 _ before now h.counted (ap (λ (bodies : List (List ℕ)). (session_over bodies).end) same.0 ∙ sym is.exits ∙ h.ends.session.1.exits))
  all_over InputEnded told read short h = subst (λ (bytes : List ℕ). CountsAll bytes before now) (all_taken pieces new.source.left h.ends.bytes h.ends.source.all) h.counted
  all_over ReadFailed told read short h = absurd (read refl)
  all_over WriteFailed told read short h = absurd told
  all_over NoMemory told read short h = absurd told
  all_over FrameFault told read short h =
      let front = front_taken pieces new.source.left h.ends.bytes h.ends.taken in
      let is = h.ends.session.1.writes.is in
      let same = one_reading h.ends.bytes is.bodies h.counted.bodies h.ends.session.1.writes.output.end h.counted.end is.frames h.counted.frames in
      subst (λ (bytes : List ℕ). CountsAll bytes before now) (sym front.1)
      (fault_counts h.ends.bytes front.0 before now h.counted.bodies h.counted.end (subst IsFaulty same.1 h.ends.session.1.faulty) h.counted.frames h.counted.counted)
  all_over Endless told read short h =
      let front = front_taken pieces new.source.left h.ends.bytes h.ends.taken in
      let long = ap length front.1 ∙ length-append h.ends.bytes front.0 in
      let full = h.ends.session.0 in
      absurd (omega (arith, long, full, short))
