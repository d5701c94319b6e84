-- No step is counted over quiet bytes.
use Rattle.std.proofs.Common.{◌≡◌, ℕ, List, [], ◌∷◌, ◌++◌, Option, map, sym, ◌∙◌, subst}
use Rattle.std.specs.Prelude.{zip}
use Rattle.std.specs.List.{AllByRecursion}
use Rattle.ls_base.specs.Frames.{IsFrames, rest}
use Rattle.lsp_framing.specs.Deframed.{Deframed}
use Rattle.lsp_framing.specs.Feeds.{Feeds}
use Rattle.lsp_framing.proofs.OneReading.{bodies_grow, one_reading}
use Rattle.lookahead.specs.Cancelled.{cancelled_in}
use Rattle.lookahead.specs.Looked.{Looked, looked, uncancelled}
use Rattle.lookahead.specs.declared.looking.Looking.{Looking}
use Rattle.lookahead.specs.declared.looking.Looking.TheVariants.{Ahead, OneByOne}
use Rattle.lsp_messages.specs.declared.message.Id.{Id}
use Rattle.session_replies.specs.Stepped.{IsQuiet}
use Rattle.session_serving.specs.BodiesOutcome.{IsQuietBody}
use Rattle.session_serving.specs.PieceOutcome.{IsOpen, IsQuietPiece, Serving, TakesPiece}
use Rattle.command_output.specs.Prints.{SinkSeen}
use Rattle.session_serving.specs.QuietBytes.{AreQuiet}
use Rattle.command_output.specs.Streams.{Streams}
use Rattle.session_serving.proofs.PieceEndsSession.{some_end}
use Rattle.session_serving.proofs.SessionSoFar.{Going, frames_so_far, going_frames}

all_parts : (a b : List (List ℕ)) → AllByRecursion IsQuiet (a ++ b) → AllByRecursion IsQuiet a × AllByRecursion IsQuiet b
all_parts [] b q = (tt, q)
all_parts (body ∷ a) b q = let h = all_parts a b q.1 in ((q.0, h.0), h.1)

same_tails : (body : List ℕ) (a b : List (List ℕ)) → body ∷ a ≡ body ∷ b → a ≡ b
same_tails body a b same = cc

pub same_rest : (first a b : List (List ℕ)) → first ++ a ≡ first ++ b → a ≡ b
same_rest [] a b same = same
same_rest (body ∷ first) a b same = same_rest first a b (same_tails body (first ++ a) (first ++ b) same)

-- ---- one piece

-- the bodies that a piece completes are quiet where they were cut out of a quiet piece
cut_quiet : (old new : Deframed) (piece : List ℕ) (cut : List (List ℕ)) → Feeds old piece cut new → IsQuietPiece old piece → AllByRecursion IsQuiet cut
cut_quiet old new piece cut feeds q =
    let all = some_end new.end (q.past ++ piece) (q.before ++ cut) (feeds q.past q.before q.after).frames in
    let same = (one_reading (q.past ++ piece) (q.before ++ cut) (q.before ++ q.given) all.0 q.end all.1 q.frames).0 in
    subst (λ (bodies : List (List ℕ)). AllByRecursion IsQuiet bodies) (sym (same_rest q.before cut q.given same)) q.quiet

-- looked at ahead or not, they stay quiet
quiet_beside : (bodies : List (List ℕ)) (ids : List (Option Id)) → AllByRecursion IsQuiet bodies → AllByRecursion IsQuietBody (zip bodies ids)
quiet_beside [] ids quiet = tt
quiet_beside (body ∷ bodies) [] quiet = tt
quiet_beside (body ∷ bodies) (id ∷ ids) quiet = (quiet.0, quiet_beside bodies ids quiet.1)

quiet_alone : (bodies : List (List ℕ)) → AllByRecursion IsQuiet bodies → AllByRecursion IsQuietBody (map uncancelled bodies)
quiet_alone [] quiet = tt
quiet_alone (body ∷ bodies) quiet = (quiet.0, quiet_alone bodies quiet.1)

quiet_looked : (looking : Looking) (bodies : List (List ℕ)) → AllByRecursion IsQuiet bodies → AllByRecursion IsQuietBody (looked looking bodies)
quiet_looked Ahead bodies quiet = quiet_beside bodies (cancelled_in bodies) quiet
quiet_looked OneByOne bodies quiet = quiet_alone bodies quiet

pub piece_uncounted : (looking : Looking) (old new : Deframed) (piece : List ℕ) (bodies : List Looked) (given : List (List ℕ)) (before now : ℕ) → Feeds old piece given new → bodies ≡ looked looking given → (AllByRecursion IsQuietBody bodies → now ≡ before) →
    IsQuietPiece old piece → now ≡ before
piece_uncounted looking old new piece bodies given before now feeds same steps q =
    subst (λ (all : List Looked). AllByRecursion IsQuietBody all → now ≡ before) same steps (quiet_looked looking given (cut_quiet old new piece given feeds q))

-- ---- all pieces so far

-- quiet bytes have quiet bodies
pub uncounted_yet : {looking : Looking} {old mid : Streams} {server : Serving} {taken most before now : ℕ} (w : Going looking old mid server taken most) → (AllByRecursion IsQuiet w.bodies → now ≡ before) → AreQuiet w.bytes → now ≡ before
uncounted_yet {old = old} {mid = mid} {server = server} {taken = taken} {most = most} w steps q =
    let same = (one_reading w.bytes q.bodies w.bodies q.end (rest w.kept) q.frames (going_frames old mid server taken most w)).0 in
    steps (subst (λ (bodies : List (List ℕ)). AllByRecursion IsQuiet bodies) same q.quiet)

-- so have quiet bytes with one piece more
pub uncounted_then : {looking : Looking} {old mid : Streams} {server : Serving} {taken most before between now : ℕ} {piece : List ℕ} (w : Going looking old mid server taken most) → (AllByRecursion IsQuiet w.bodies → between ≡ before) →
    (IsQuietPiece server.frames piece → now ≡ between) → AreQuiet (w.bytes ++ piece) → now ≡ before
uncounted_then {old = old} {mid = mid} {server = server} {taken = taken} {most = most} {piece = piece} w so_far steps q =
    let more = bodies_grow w.bytes piece w.bodies q.bodies (rest w.kept) q.end (going_frames old mid server taken most w) q.frames in
    let parts = all_parts w.bodies more.0 (subst (λ (bodies : List (List ℕ)). AllByRecursion IsQuiet bodies) more.1 q.quiet) in
    steps (record {
      past = w.bytes;
      before = w.bodies;
      given = more.0;
      end = q.end;
      after = w.after;
      frames = subst (λ (bodies : List (List ℕ)). IsFrames (w.bytes ++ piece) bodies q.end) more.1 q.frames;
      quiet = parts.1;
    })
    ∙ so_far parts.0

-- the session goes on after the piece
pub uncounted_more : {looking : Looking} {old mid : Streams} {server next : Serving} {taken most before between now : ℕ} {piece : List ℕ} {seen sink : SinkSeen} (w : Going looking old mid server taken most) (answered : TakesPiece looking server next piece IsOpen seen sink) →
    (AllByRecursion IsQuiet w.bodies → between ≡ before) → (IsQuietPiece server.frames piece → now ≡ between) → AllByRecursion IsQuiet (w.bodies ++ answered.given) → now ≡ before
uncounted_more {next = next} {piece = piece} w answered so_far steps q =
    let parts = all_parts w.bodies answered.given q in
    steps (record {
      past = w.bytes;
      before = w.bodies;
      given = answered.given;
      end = rest answered.end.0;
      after = w.after;
      frames = frames_so_far (w.bytes ++ piece) (w.bodies ++ answered.given) next.frames (rest answered.end.0) (answered.feeds w.bytes w.bodies w.after) answered.end.1;
      quiet = parts.1;
    })
    ∙ so_far parts.0
