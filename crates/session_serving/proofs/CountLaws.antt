-- The macro uses that are counted over bodies and pieces.
use Rattle.std.proofs.Common.{◌≡◌, ℕ, zero, suc, List, [], ◌∷◌, ◌++◌, refl, sym, ap, ◌∙◌, append_assoc, append-nil, Some, None, Option, subst, inl}
use Rattle.std.specs.FinMap.{empty}
use Rattle.ls_base.specs.Frames.{rest}
use Rattle.lsp_framing.specs.Feeds.{Feeds}
use Rattle.lsp_framing.proofs.OneReading.{one_reading}
use Rattle.lookahead.specs.Looked.{Looked, looked}
use Rattle.lookahead.specs.declared.looking.Looking.{Looking}
use Rattle.scheme_model.specs.Session as model
use Rattle.scheme_model.specs.Session.{Run, State, begin}
use Rattle.session_replies.specs.Asked.{Question}
use Rattle.session_replies.specs.Counted.{AreCounted}
use Rattle.session_replies.specs.Stepped.{IsOutcome}
use Rattle.session_replies.specs.declared.out.Out.{Out}
use Rattle.session_replies.proofs.CountedLaws.{counted_then}
use Rattle.session_serving.specs.AheadOutcome.{CountsAllBy, CountsBeginBy}
use Rattle.session_serving.specs.AheadOutput.{looked_from, looked_step}
use Rattle.session_serving.specs.BodiesOutcome.{AnswersBodies, BodiesCountAs, CountsSome, EndsSession, body_end_of}
use Rattle.session_serving.specs.PieceOutcome.{CountsInPiece, CountsPiece, IsOpen, Serving, TakesPiece}
use Rattle.command_output.specs.Prints.{PrintsFront, SinkSeen}
use Rattle.reply_writing.specs.ReplyFrames.{frames_of}
use Rattle.session_serving.specs.ServeOutcome.{WritesFront}
use Rattle.session_serving.specs.SessionEnds.{said_exit}
use Rattle.command_output.specs.Streams.{Streams}
use Rattle.session_serving.specs.declared.answering.Exit.{Exit}
use Rattle.session_serving.proofs.AnswerLaws.{AnsweredSoFar, answered_one, answers_then, are_first, none_yet}
use Rattle.session_serving.proofs.PieceEndsSession.{counts_all_then, first_in, frames_then}
use Rattle.session_serving.proofs.QuietLaws.{same_rest}
use Rattle.session_serving.proofs.SessionSoFar.{Going, frames_so_far, joined_run}
use Rattle.session_serving.proofs.Sessions.{ended_session, frames_more, more_bodies, replies_of_one}
use Rattle.reply_writing.proofs.Writes.{front_after}

-- ---- one body

pub one_counted : (state : State) (body : Looked) (before now : ℕ) → AreCounted (looked_step state body).replies before now → AreCounted (looked_from state (body ∷ [])).replies before now
one_counted state body before now c = subst (λ (rs : List (model.Reply Question)). AreCounted rs before now) (sym (replies_of_one state body)) c

-- however it leaves the session
pub end_counts : (state : State) (bodies : List Looked) (old new : SinkSeen) (before now : ℕ) (code : Option ℕ) → AreCounted (looked_from state bodies).replies before now → BodiesCountAs state bodies old new before now (body_end_of code)
end_counts state bodies old new before now None c = c
end_counts state bodies old new before now (Some zero) c = c
end_counts state bodies old new before now (Some (suc n)) c = c

pub one_counts_some : (state next : State) (body : Looked) (out : Out) (IsPrinted : List ℕ → Type 0) (before now : ℕ) → IsOutcome (looked_step state body) out next → IsPrinted (frames_of out.replies) → AreCounted (looked_step state body).replies before now →
    CountsSome state (body ∷ []) IsPrinted before now
one_counts_some state next body out IsPrinted before now s p c = record {
  some = record { first = body ∷ []; later = []; split = refl; messages = out.replies; answered = answered_one state next body out s; prints = p };
  counted = one_counted state body before now c;
}

-- ---- several bodies

-- those of bodies that don't end the session, and of those behind them
counts_then : (state mid : State) (a b : List Looked) (before between now : ℕ) → (looked_from state a).end ≡ None → mid ≡ (looked_from state a).state → AreCounted (looked_from state a).replies before between →
    AreCounted (looked_from mid b).replies between now → AreCounted (looked_from state (a ++ b)).replies before now
counts_then state mid a b before between now goes_on is first second =
    let r = looked_from state a in
    let from : looked_from mid b ≡ looked_from r.state b = ap (λ (s : State). looked_from s b) is in
    subst (λ (run : Run Question). AreCounted run.replies before now) (sym (more_bodies a b state goes_on))
    (counted_then r.replies (looked_from r.state b).replies before between now first (subst (λ (run : Run Question). AreCounted run.replies between now) from second))

-- ---- the loop over bodies

-- the first of these bodies are answered and counted, and the rest isn't
pub record CountedSoFar (state : State) (all later : List Looked) (now : State) (old new : SinkSeen) (before steps : ℕ) : Type 0 where
  pub so_far : AnsweredSoFar state all later now old new
  pub counted : AreCounted (looked_from state so_far.first).replies before steps

pub counted_none : (state : State) (all : List Looked) (a : SinkSeen) (n : ℕ) → CountedSoFar state all all state a a n n
counted_none state all a n = record { so_far = record { first = []; split = refl; answers = none_yet state a }; counted = refl }

pub counted_more : (state mid next : State) (all later : List Looked) (body : Looked) (old seen new : SinkSeen) (before between now : ℕ) → CountedSoFar state all (body ∷ later) mid old seen before between → AnswersBodies mid (body ∷ []) next seen new →
    AreCounted (looked_from mid (body ∷ [])).replies between now → CountedSoFar state all later next old new before now
counted_more state mid next all later body old seen new before between now w one c = record {
  so_far = record {
    first = w.so_far.first ++ (body ∷ []);
    split = append_assoc w.so_far.first (body ∷ []) later ∙ w.so_far.split;
    answers = answers_then state mid next w.so_far.first (body ∷ []) old seen new w.so_far.answers one;
  };
  counted = counts_then state mid w.so_far.first (body ∷ []) before between now w.so_far.answers.session.ends w.so_far.answers.now w.counted c;
}

pub counted_all : (state now : State) (all : List Looked) (old new : SinkSeen) (before steps : ℕ) → CountedSoFar state all [] now old new before steps → AreCounted (looked_from state all).replies before steps
counted_all state now all old new before steps w =
    subst (λ (bodies : List Looked). AreCounted (looked_from state bodies).replies before steps) (sym (append-nil w.so_far.first) ∙ w.so_far.split) w.counted

pub counted_ends : (state mid : State) (all later : List Looked) (body : Looked) (exit : Exit) (old seen new : SinkSeen) (before between now : ℕ) → CountedSoFar state all (body ∷ later) mid old seen before between →
    EndsSession mid (body ∷ []) (said_exit exit) seen new → AreCounted (looked_from mid (body ∷ [])).replies between now → AreCounted (looked_from state all).replies before now
counted_ends state mid all later body exit old seen new before between now w one c =
    let over = ended_session (body ∷ []) later mid (said_exit exit) one.session.ends in
    subst (λ (bodies : List Looked). AreCounted (looked_from state bodies).replies before now) w.so_far.split
    (counts_then state mid w.so_far.first (body ∷ later) before between now w.so_far.answers.session.ends w.so_far.answers.now w.counted (subst (λ (run : Run Question). AreCounted run.replies between now) (sym over) c))

pub counted_some : (state mid : State) (all later : List Looked) (body : Looked) (old seen new : SinkSeen) (before between now : ℕ) → CountedSoFar state all (body ∷ later) mid old seen before between →
    CountsSome mid (body ∷ []) (PrintsFront seen new) between now → CountsSome state all (PrintsFront old new) before now
counted_some state mid all later body old seen new before between now w c =
    let first = w.so_far.answers.session.messages in
    let some = c.some in
    let parts : body ∷ later ≡ some.first ++ (some.later ++ later) = ap (λ (b : List Looked). b ++ later) some.split ∙ append_assoc some.first some.later later in
    record {
      some = record {
        first = w.so_far.first ++ some.first;
        later = some.later ++ later;
        split = sym w.so_far.split ∙ ap (λ (b : List Looked). w.so_far.first ++ b) parts ∙ sym (append_assoc w.so_far.first some.first (some.later ++ later));
        messages = first ++ some.messages;
        answered = are_first state mid w.so_far.first some.first old seen some.messages w.so_far.answers some.answered;
        prints = subst (PrintsFront old new) (sym (frames_more first some.messages)) (front_after old seen new (frames_of first) (frames_of some.messages) w.so_far.answers.prints some.prints);
      };
      counted = counts_then state mid w.so_far.first some.first before between now w.so_far.answers.session.ends w.so_far.answers.now w.counted c.counted;
    }

-- ---- the bodies of a piece

pub piece_counts : {looking : Looking} (old new : Serving) (piece : List ℕ) (bodies : List Looked) (given : List (List ℕ)) (before now : ℕ) → Feeds old.frames piece given new.frames → bodies ≡ looked looking given →
    AreCounted (looked_from old.state bodies).replies before now → CountsPiece looking old new piece before now
piece_counts old new piece bodies given before now feeds same c = record {
  given = given;
  feeds = feeds;
  counted = subst (λ (all : List Looked). AreCounted (looked_from old.state all).replies before now) same c;
}

pub part_counts : {looking : Looking} (old new : Serving) (piece : List ℕ) (bodies : List Looked) (given : List (List ℕ)) (IsPrinted : List ℕ → Type 0) (before now : ℕ) → Feeds old.frames piece given new.frames → bodies ≡ looked looking given →
    CountsSome old.state bodies IsPrinted before now → CountsInPiece looking old new piece IsPrinted before now
part_counts old new piece bodies given IsPrinted before now feeds same c = record {
  given = given;
  feeds = feeds;
  counts = subst (λ (all : List Looked). CountsSome old.state all IsPrinted before now) same c;
}

-- ---- all pieces so far

pub all_yet : {looking : Looking} {old mid : Streams} {server : Serving} {taken most before now : ℕ} (w : Going looking old mid server taken most) → AreCounted (looked_from (begin empty) w.seen).replies before now → CountsAllBy looking w.pieces before now
all_yet {before = before} {now = now} w c = record {
  given = w.given;
  end = rest w.kept;
  complete = w.complete;
  counted = subst (λ (run : Run Question). AreCounted run.replies before now) (joined_run w.joined) c;
}

-- with one piece more
pub all_then : {looking : Looking} {old mid : Streams} {server next : Serving} {taken most before between now : ℕ} {piece : List ℕ} (w : Going looking old mid server taken most) → AreCounted (looked_from (begin empty) w.seen).replies before between →
    CountsPiece looking server next piece between now → CountsAllBy looking (w.pieces ++ piece ∷ []) before now
all_then {looking = looking} {old = old} {mid = mid} {server = server} {next = next} {taken = taken} {most = most} {before = before} {between = between} {now = now} {piece = piece} w so_far p =
    let all = frames_then old mid server next taken most piece p.given w p.feeds in
    counts_all_then old mid server taken most piece p.given w all.0 before now all.1
    (counts_then (begin empty) server.state w.seen (looked looking p.given) before between now w.answers.session.ends w.answers.now so_far p.counted)

-- with a part of one, within whose answers a write failed
pub first_then : {looking : Looking} {old mid : Streams} {server next : Serving} {taken most before between now : ℕ} {piece : List ℕ} (w : Going looking old mid server taken most) (new : SinkSeen) → AreCounted (looked_from (begin empty) w.seen).replies before between →
    CountsInPiece looking server next piece (PrintsFront mid.sink new) between now → WritesFront (CountsBeginBy looking (w.pieces ++ piece ∷ []) before now) old.sink new
first_then {looking = looking} {old = old} {mid = mid} {server = server} {next = next} {taken = taken} {most = most} {before = before} {between = between} {now = now} {piece = piece} w new so_far p =
    let all = frames_then old mid server next taken most piece p.given w p.feeds in
    let first = w.answers.session.messages in
    let some = p.counts.some in
    record {
      messages = first ++ some.messages;
      begin = inl (record {
        answers = first_in old mid server taken most piece p.given w all.0 some.first some.later (first ++ some.messages) all.1 some.split
            (are_first (begin empty) server.state w.seen some.first old.sink mid.sink some.messages w.answers some.answered);
        counted = counts_then (begin empty) server.state w.seen some.first before between now w.answers.session.ends w.answers.now so_far p.counts.counted;
      });
      prints = subst (PrintsFront old.sink new) (sym (frames_more first some.messages)) (front_after old.sink mid.sink new (frames_of first) (frames_of some.messages) w.answers.prints some.prints);
    }

-- the session goes on after the piece
pub counts_more : {looking : Looking} {old mid : Streams} {server next : Serving} {taken most : ℕ} {piece : List ℕ} {seen sink : SinkSeen} (before between now : ℕ) (w : Going looking old mid server taken most) (answered : TakesPiece looking server next piece IsOpen seen sink) →
    AreCounted (looked_from (begin empty) w.seen).replies before between → CountsPiece looking server next piece between now → AreCounted (looked_from (begin empty) (w.seen ++ looked looking answered.given)).replies before now
counts_more {looking = looking} {old = old} {mid = mid} {server = server} {next = next} {taken = taken} {most = most} {piece = piece} before between now w answered so_far p =
    let all = frames_then old mid server next taken most piece p.given w p.feeds in
    let frames = frames_so_far (w.bytes ++ piece) (w.bodies ++ answered.given) next.frames (rest answered.end.0) (answered.feeds w.bytes w.bodies w.after) answered.end.1 in
    let one = (one_reading (w.bytes ++ piece) (w.bodies ++ p.given) (w.bodies ++ answered.given) all.0 (rest answered.end.0) all.1 frames).0 in
    let counted = subst (λ (given : List (List ℕ)). AreCounted (looked_from server.state (looked looking given)).replies between now) (same_rest w.bodies p.given answered.given one) p.counted in
    counts_then (begin empty) server.state w.seen (looked looking answered.given) before between now w.answers.session.ends w.answers.now so_far counted
