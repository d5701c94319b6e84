-- A session that goes on, read by read.
use Rattle.std.proofs.Common.{◌≡◌, ℕ, ◌+◌, ◌-◌, ◌<◌, ◌≤◌, List, [], ◌∷◌, ◌++◌, length, min, take, drop, refl, sym, ap, ◌∙◌, arith, append_assoc, append-nil, Some, None, Option, subst, true, Bool, false, ◌&&◌, length-append, inl, inr, ◌⊎◌, nat_lt, nat_le}
use Rattle.std.proofs.lemmas.List.{take_all, length-take, drop_all}
use Rattle.std.proofs.lemmas.Bool.{cases_lt}
use Rattle.std.proofs.lemmas.Bool.Decides.{nat_tests}
use Rattle.std.specs.List.{AllByRecursion, list_all}
use Rattle.std.specs.Option.{IsSomeAnd}
use Rattle.ls_base.specs.Frames.{End, IsFrames, rest}
use Rattle.lsp_framing.specs.Deframed.{Deframed, After}
use Rattle.lsp_messages.specs.declared.reply.Reply.{Reply}
use Rattle.ls_outside.specs.Counts.{Fails}
use Rattle.ls_outside.specs.Sources.{ArePieces, GotTakes, bytes_of, is_piece, left_over}
use Rattle.ls_outside.specs.declared.source.Got.TheVariants as got
use Rattle.std.specs.FinMap.{empty}
use Rattle.lookahead.specs.Completed.{Complete}
use Rattle.lookahead.specs.Looked.{Looked, looked}
use Rattle.lookahead.specs.declared.looking.Looking.{Looking}
use Rattle.scheme_model.specs.Session.{Run, State, begin}
use Rattle.session_replies.specs.Asked.{Question}
use Rattle.session_replies.specs.Counted.{AreCounted}
use Rattle.session_replies.specs.Stepped.{IsQuiet}
use Rattle.session_replies.specs.ToWire.{AreReplies}
use Rattle.session_serving.specs.AheadOutcome.{CountsAllBy, ReadsPieces, ServesBy, TakesPieces}
use Rattle.session_serving.specs.AheadOutput.{IsOutputBy, looked_from, looked_over}
use Rattle.session_serving.specs.BodiesOutcome.{AnswersBodies}
use Rattle.session_serving.specs.PieceOutcome.{IsOpen, Serving, TakesPiece}
use Rattle.command_output.specs.Prints.{Prints, SinkSeen}
use Rattle.session_serving.specs.QuietBytes.{AreQuiet}
use Rattle.reply_writing.specs.ReplyFrames.{frames_of}
use Rattle.session_serving.specs.ServeOutcome.{GoesOn}
use Rattle.session_serving.specs.SessionOutput.{Output}
use Rattle.command_output.specs.Streams.{Streams}
use Rattle.session_serving.specs.declared.serve.SessionEnd.TheVariants.{InputEnded, ReadFailed, Endless}
use Rattle.session_serving.proofs.AnswerLaws.{none_yet, answers_then}
use Rattle.session_serving.proofs.Pieces.{Joined, TakesWhole, complete_more, joined_more, joined_none, pieces_more, pieces_over, pieces_stay, pieces_whole, reads_end, reads_failing, reads_no_piece, reads_piece, whole_none}
use Rattle.reply_writing.proofs.Writes.{take_first}

-- a session that read pieces, answered all the bodies that they complete and goes on
pub record Going (looking : Looking) (old now : Streams) (server : Serving) (taken most : ℕ) : Type 0 where
  pub pieces : List (List ℕ)
  pub given : List (List (List ℕ))
  pub bytes : List ℕ
  pub bodies : List (List ℕ)
  pub seen : List Looked
  pub joined : Joined looking pieces given bytes bodies seen
  pub takes : TakesPieces old.source.left now.source.left pieces
  pub whole : taken < most → TakesWhole old.source.left now.source.left pieces
  pub after : After bytes bodies server.frames
  pub kept : List ℕ
  pub open_end : server.frames.end ≡ Some (rest kept)
  pub complete : Complete pieces given (rest kept)
  pub answers : AnswersBodies (begin empty) seen server.state old.sink now.sink
  pub count : length bytes ≡ taken
  pub on : ReadsPieces old.source now.source pieces

-- and the macro uses of the bodies were counted, none over quiet bodies
pub record GoesUncounted (looking : Looking) (old now : Streams) (server : Serving) (taken most before steps : ℕ) : Type 0 where
  pub so_far : Going looking old now server taken most
  pub counted : AreCounted (looked_from (begin empty) so_far.seen).replies before steps
  pub uncounted : AllByRecursion IsQuiet so_far.bodies → steps ≡ before

-- ---- the bytes so far

pub frames_so_far : (bytes : List ℕ) (bodies : List (List ℕ)) (d : Deframed) (end : End) → After bytes bodies d → d.end ≡ Some end → IsFrames bytes bodies end
frames_so_far bytes bodies d end after is = subst (λ (e : Option End). IsSomeAnd e (IsFrames bytes bodies)) is after.frames

pub going_frames : {looking : Looking} (old now : Streams) (server : Serving) (taken most : ℕ) (w : Going looking old now server taken most) → IsFrames w.bytes w.bodies (rest w.kept)
going_frames old now server taken most w = frames_so_far w.bytes w.bodies server.frames (rest w.kept) w.after w.open_end

-- nothing was taken
pub going_first : (looking : Looking) (a : Streams) (server : Serving) (most : ℕ) (kept : List ℕ) → After [] [] server.frames → server.frames.end ≡ Some (rest kept) → server.state ≡ begin empty → Going looking a a server 0 most
going_first looking a server most kept after end state = record {
  pieces = [];
  given = [];
  bytes = [];
  bodies = [];
  seen = [];
  joined = joined_none looking;
  takes = pieces_whole a.source.left a.source.left [] (whole_none a.source.left);
  whole = λ _. whole_none a.source.left;
  after = after;
  kept = kept;
  open_end = end;
  complete = frames_so_far [] [] server.frames (rest kept) after end;
  answers = subst (λ (s : State). AnswersBodies (begin empty) [] s a.sink a.sink) (sym state) (none_yet (begin empty) a.sink);
  count = refl;
  on = reads_no_piece a.source;
}

-- and nothing counted
pub goes_first : (looking : Looking) (a : Streams) (server : Serving) (most : ℕ) (kept : List ℕ) (n : ℕ) → After [] [] server.frames → server.frames.end ≡ Some (rest kept) → server.state ≡ begin empty → GoesUncounted looking a a server 0 most n n
unfolding going_first
goes_first looking a server most kept n after end state = record { so_far = going_first looking a server most kept after end state; counted = refl; uncounted = λ q. refl }

-- ---- the output so far

-- what bodies lead to, also as those that pieces complete
pub joined_run : {looking : Looking} {pieces : List (List ℕ)} {given : List (List (List ℕ))} {bytes : List ℕ} {bodies : List (List ℕ)} {seen : List Looked} → Joined looking pieces given bytes bodies seen → looked_from (begin empty) seen ≡ looked_over looking given
joined_run w = ap (looked_from (begin empty)) (sym w.seen_are)

abbrev pub output_so_far : {looking : Looking} (old now : Streams) (server : Serving) (taken most : ℕ) (w : Going looking old now server taken most) → Output
output_so_far old now server taken most w = record { messages = w.answers.session.messages; exit = None; end = rest w.kept }

pub is_output_so_far : {looking : Looking} (old now : Streams) (server : Serving) (taken most : ℕ) (w : Going looking old now server taken most) → IsOutputBy looking w.pieces (output_so_far old now server taken most w)
is_output_so_far old now server taken most w = record {
  given = w.given;
  complete = w.complete;
  answered = subst (λ (run : Run Question). AreReplies run.replies w.answers.session.messages) (joined_run w.joined) w.answers.session.answered;
  exits = sym w.answers.session.ends ∙ ap (λ (run : Run Question). run.end) (joined_run w.joined);
}

-- no farewell follows these messages
pub without_farewell : (a b : SinkSeen) (messages : List Reply) → Prints a b (frames_of messages) → Prints a b (frames_of (messages ++ []))
without_farewell a b messages p = subst (λ (all : List Reply). Prints a b (frames_of all)) (sym (append-nil messages)) p

-- ---- one read more

both : (a b : Bool) → (a && b) ≡ true → (a ≡ true) × (b ≡ true)
both true true h = (refl, refl)
both true false h = cc
both false b h = cc

piece_short : (piece : List ℕ) → is_piece piece ≡ true → length piece ≤ 65536
piece_short piece sized =
    let short : nat_le (length piece) 65536 ≡ true = (both (nat_lt 0 (length piece)) (nat_le (length piece) 65536) sized).1 in
    grind (arith, nat_tests)

-- a read of as many bytes as the first piece has takes it whole
whole_piece : (piece buffer : List ℕ) (pieces new : List (List ℕ)) (n : ℕ) → n ≡ length piece → take n buffer ≡ take n piece → new ≡ left_over (drop n piece) pieces → (take n buffer ≡ piece) × (new ≡ pieces)
whole_piece piece buffer pieces new n count same left =
    let all : length piece ≤ n = omega arith in
    (same ∙ take_all n piece all, left ∙ ap (λ (rest : List ℕ). left_over rest pieces) (drop_all n piece all))

-- where pieces are told, a read that takes a whole piece
whole_more : (old mid new : Option (List (List ℕ))) (pieces : List (List ℕ)) (buffer : List ℕ) (n room : ℕ) → ArePieces mid → length buffer ≡ room → (n < room) ⊎ (65536 ≤ room) → TakesWhole old mid pieces → GotTakes mid new (got.Some n) buffer →
    TakesWhole old new (pieces ++ take n buffer ∷ [])
whole_more None mid new pieces buffer n room sized size wide w takes = tt
whole_more (Some old) None new pieces buffer n room sized size wide w takes = absurd w
whole_more (Some old) (Some mid) None pieces buffer n room sized size wide w takes = absurd takes
whole_more (Some old) (Some []) (Some new) pieces buffer n room sized size wide w takes = absurd takes
whole_more (Some old) (Some (piece ∷ others)) (Some new) pieces buffer n room sized size wide w takes =
    let short = piece_short piece (both (is_piece piece) (list_all is_piece others) sized).0 in
    let count : n ≡ length piece = elim wide as (λ _. n ≡ length piece) [
      | inl below ↦ omega (arith, takes.count)
      | inr above ↦ omega (arith, takes.count)
    ] in
    let p = whole_piece piece buffer others new n count takes.bytes takes.rest in
    w ∙ sym (append_assoc pieces (piece ∷ []) others) ∙ λ j. (pieces ++ sym p.0 j ∷ []) ++ sym p.1 j

-- a read that doesn't take the last byte that a session may take has room for a whole piece, or fills none
wide_read : (n room taken most : ℕ) → taken + n < most → taken < most → n ≤ room → room ≡ min 65536 (most - taken) → (n < room) ⊎ (65536 ≤ room)
wide_read n room taken most more below within space = elim (cases_lt room 65536) as (λ _. (n < room) ⊎ (65536 ≤ room)) [
  | inl narrow ↦ inl (omega arith)
  | inr wide ↦ inr wide
]

-- a read leaves room for a whole piece, or fills what a session may take
takes_more : {looking : Looking} (old mid new : Streams) (server : Serving) (taken n room : ℕ) (buffer : List ℕ) (w : Going looking old mid server taken 1099511627776) → taken < 1099511627776 → ArePieces mid.source.left → length buffer ≡ room → n ≤ room →
    room ≡ min 65536 (1099511627776 - taken) → GotTakes mid.source.left new.source.left (got.Some n) buffer → TakesPieces old.source.left new.source.left (w.pieces ++ take n buffer ∷ [])
takes_more old mid new server taken n room buffer w below sized size within space takes =
    pieces_more old.source.left mid.source.left new.source.left w.pieces buffer n (w.whole below) takes
    (elim (cases_lt (taken + n) 1099511627776) as (λ _. TakesWhole old.source.left new.source.left (w.pieces ++ take n buffer ∷ []) ⊎ (length (bytes_of (w.pieces ++ take n buffer ∷ [])) ≡ 1099511627776)) [
      | inl more ↦ inl (whole_more old.source.left mid.source.left new.source.left w.pieces buffer n room sized size (wide_read n room taken 1099511627776 more below within space) (w.whole below) takes)
      | inr full ↦ inr (ap length (joined_more (take n buffer) [] w.joined).bytes_are ∙ length-append w.bytes (take n buffer) ∙ (let l = length-take n buffer in omega (arith, w.count)))
    ])

-- a piece that is read behind those so far, before what it completes is answered
pub record Read {looking : Looking} (old mid new : Streams) (server : Serving) (taken most : ℕ) (piece : List ℕ) (w : Going looking old mid server taken most) : Type 0 where
  pub takes : TakesPieces old.source.left new.source.left (w.pieces ++ piece ∷ [])
  pub whole : taken + length piece < most → TakesWhole old.source.left new.source.left (w.pieces ++ piece ∷ [])
  pub few : taken + length piece ≤ 1099511627776
  pub on : ReadsPieces old.source new.source (w.pieces ++ piece ∷ [])

-- the bytes that a read puts at the front of the buffer are such a piece
pub read_piece : {looking : Looking} (old mid new : Streams) (server : Serving) (taken n room : ℕ) (buffer others : List ℕ) (w : Going looking old mid server taken 1099511627776) → taken < 1099511627776 → ArePieces mid.source.left → length buffer ≡ room → room ≡ min 65536 (1099511627776 - taken) →
    1 ≤ n → n ≤ length buffer → GotTakes mid.source.left new.source.left (got.Some n) buffer → new.source.faults ≡ mid.source.faults → new.source.reads ≡ mid.source.reads ++ take n buffer ∷ [] → Read old mid new server taken 1099511627776 (take n (buffer ++ others)) w
read_piece old mid new server taken n room buffer others w below sized size space some within takes counts notes =
    let l = length-take n buffer in
    let fits : n ≤ room = omega arith in
    subst (λ (piece : List ℕ). Read old mid new server taken 1099511627776 piece w) (sym (take_first buffer others n within)) (record {
      takes = takes_more old mid new server taken n room buffer w below sized size fits space takes;
      whole = λ more. whole_more old.source.left mid.source.left new.source.left w.pieces buffer n room sized size (wide_read n room taken 1099511627776 (omega arith) below fits space) (w.whole below) takes;
      few = omega arith;
      on = reads_piece old.source mid.source new.source w.pieces buffer n w.on counts notes some within;
    })

-- and what answers it: the session goes on
pub going_more : {looking : Looking} {before steps : ℕ} (old mid new : Streams) (server next : Serving) (taken n : ℕ) (piece : List ℕ) (w : Going looking old mid server taken 1099511627776) → Read old mid new server taken 1099511627776 piece w → length piece ≡ n →
    (answered : TakesPiece looking server next piece IsOpen mid.sink new.sink) → AreCounted (looked_from (begin empty) (w.seen ++ looked looking answered.given)).replies before steps →
    (AllByRecursion IsQuiet (w.bodies ++ answered.given) → steps ≡ before) → GoesUncounted looking old new next (taken + n) 1099511627776 before steps
going_more {looking = looking} old mid new server next taken n piece w r size answered counted uncounted =
    let after = answered.feeds w.bytes w.bodies w.after in
    record {
      so_far = record {
        pieces = w.pieces ++ piece ∷ [];
        given = w.given ++ answered.given ∷ [];
        bytes = w.bytes ++ piece;
        bodies = w.bodies ++ answered.given;
        seen = w.seen ++ looked looking answered.given;
        joined = joined_more piece answered.given w.joined;
        takes = r.takes;
        whole = λ more. r.whole (omega arith);
        after = after;
        kept = answered.end.0;
        open_end = answered.end.1;
        complete = complete_more piece answered.given (rest w.kept) (rest answered.end.0) w.joined w.complete
            (frames_so_far (w.bytes ++ piece) (w.bodies ++ answered.given) next.frames (rest answered.end.0) after answered.end.1);
        answers = answers_then (begin empty) server.state next.state w.seen (looked looking answered.given) old.sink mid.sink new.sink w.answers answered.answers;
        count = length-append w.bytes piece ∙ omega (arith, w.count);
        on = r.on;
      };
      counted = counted;
      uncounted = uncounted;
    }

-- ---- a session that ends between two pieces

-- quiet bytes, also as those of the pieces
pub joined_quiet : {looking : Looking} {pieces : List (List ℕ)} {given : List (List (List ℕ))} {bytes : List ℕ} {bodies : List (List ℕ)} {seen : List Looked} {before now : ℕ} → Joined looking pieces given bytes bodies seen → (AreQuiet bytes → now ≡ before) → AreQuiet (bytes_of pieces) → now ≡ before
joined_quiet {before = before} {now = now} w uncounted = subst (λ (b : List ℕ). AreQuiet b → now ≡ before) (sym w.bytes_are) uncounted

-- as many as were taken
pub taken_bytes : {looking : Looking} (old mid : Streams) (server : Serving) (taken most : ℕ) (w : Going looking old mid server taken most) → length (bytes_of w.pieces) ≡ taken
taken_bytes old mid server taken most w = ap length w.joined.bytes_are ∙ w.count

-- what was taken so far is answered, and the session goes on
goes_on : {looking : Looking} (old mid : Streams) (sink : SinkSeen) (server : Serving) (taken most : ℕ) (w : Going looking old mid server taken most) → sink ≡ mid.sink → GoesOn (IsOutputBy looking w.pieces) old.sink sink
goes_on old mid sink server taken most w same = record {
  writes = record {
    output = output_so_far old mid server taken most w;
    is = is_output_so_far old mid server taken most w;
    prints = subst (λ (s : SinkSeen). Prints old.sink s (frames_of (w.answers.session.messages ++ []))) (sym same) (without_farewell old.sink mid.sink w.answers.session.messages w.answers.prints);
  };
  no_exit = refl;
  unfinished = tt;
}

-- the input ends
pub input_ends : {looking : Looking} {before now : ℕ} (old mid new : Streams) (server : Serving) (taken most : ℕ) (buffer : List ℕ) (w : Going looking old mid server taken most) → taken < 1099511627776 → GotTakes mid.source.left new.source.left got.End buffer →
    new.source.faults ≡ mid.source.faults → new.source.reads ≡ mid.source.reads ++ [] ∷ [] → new.sink ≡ mid.sink → CountsAllBy looking w.pieces before now → (AreQuiet w.bytes → now ≡ before) → ServesBy looking old new before now InputEnded
input_ends old mid new server taken most buffer w fewer takes counts notes same counted uncounted =
    let p = pieces_over old.source.left mid.source.left new.source.left w.pieces buffer w.takes takes in
    let size = taken_bytes old mid server taken most w in
    record {
      ends = record {
        pieces = w.pieces;
        taken = p.0;
        source = reads_end old.source mid.source new.source w.pieces w.on p.1 counts notes;
        session = (omega (arith, size), goes_on old mid new.sink server taken most w same);
      };
      counted = counted;
      uncounted = joined_quiet w.joined uncounted;
    }

-- a read fails
pub read_fails : {looking : Looking} {before now : ℕ} (old mid new : Streams) (server : Serving) (taken most : ℕ) (buffer : List ℕ) (w : Going looking old mid server taken most) → taken < 1099511627776 → GotTakes mid.source.left new.source.left got.Failed buffer →
    Fails mid.source.faults new.source.faults → new.source.reads ≡ mid.source.reads ++ [] ∷ [] → new.sink ≡ mid.sink → CountsAllBy looking w.pieces before now → (AreQuiet w.bytes → now ≡ before) → ServesBy looking old new before now ReadFailed
read_fails old mid new server taken most buffer w fewer takes failed notes same counted uncounted =
    let size = taken_bytes old mid server taken most w in
    record {
      ends = record {
        pieces = w.pieces;
        taken = pieces_stay old.source.left mid.source.left new.source.left w.pieces buffer w.takes takes;
        source = reads_failing old.source mid.source new.source w.pieces w.on failed notes;
        session = (omega (arith, size), goes_on old mid new.sink server taken most w same);
      };
      counted = counted;
      uncounted = joined_quiet w.joined uncounted;
    }

-- a session has taken all that one may
pub takes_most : {looking : Looking} {before steps : ℕ} (old now : Streams) (server : Serving) (taken most : ℕ) (w : Going looking old now server taken most) → taken ≡ 1099511627776 → CountsAllBy looking w.pieces before steps → (AreQuiet w.bytes → steps ≡ before) →
    ServesBy looking old now before steps Endless
takes_most old now server taken most w all counted uncounted =
    record {
      ends = record { pieces = w.pieces; taken = w.takes; source = w.on; session = (taken_bytes old now server taken most w ∙ all, goes_on old now now.sink server taken most w refl) };
      counted = counted;
      uncounted = joined_quiet w.joined uncounted;
    }
