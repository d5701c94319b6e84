-- Pieces that are read one after another, and the bodies that they complete.
use Rattle.std.proofs.Common.{◌≡◌, ◌⊎◌, inl, inr, ℕ, ◌≤◌, List, [], ◌∷◌, ◌++◌, length, take, drop, Option, Some, None, refl, sym, ap, ◌∙◌, subst, append_assoc, append-nil, arith}
use Rattle.std.specs.List.{AllByRecursion}
use Rattle.std.proofs.lemmas.List.{length-take, take-append-drop}
use Rattle.std.proofs.lemmas.Grind.{flat_map-append}
use Rattle.ls_base.specs.Frames.{End, IsFrames}
use Rattle.ls_outside.specs.Counts.{Fails}
use Rattle.ls_outside.specs.Sources.{GotTakes, bytes_of}
use Rattle.ls_outside.specs.declared.source.Got.TheVariants as got
use Rattle.ls_outside.proofs.CallLaws.{bytes_more}
use Rattle.lookahead.specs.Completed.{Complete, Completes}
use Rattle.lookahead.specs.Looked.{Looked, looked}
use Rattle.lookahead.specs.declared.looking.Looking.{Looking}
use Rattle.session_serving.specs.AheadOutcome.{FailsBehind, IsNonempty, IsOver, ReadsAllPieces, ReadsPieces, TakesPieces}
use Rattle.session_serving.specs.AheadOutput.{looked_in}
use Rattle.command_output.specs.Reads.{SourceSeen}
use Rattle.session_serving.specs.ServeOutcome.{max_stream}

-- ---- all pieces together

-- the bodies that they complete
abbrev pub all_bodies : (given : List (List (List ℕ))) → List (List ℕ)
all_bodies [] = []
all_bodies (completed ∷ given) = completed ++ all_bodies given

-- their bytes, those bodies, and each of them looked at with those of its piece
pub record Joined (looking : Looking) (pieces : List (List ℕ)) (given : List (List (List ℕ))) (bytes : List ℕ) (bodies : List (List ℕ)) (seen : List Looked) : Type 0 where
  pub bytes_are : bytes_of pieces ≡ bytes
  pub bodies_are : all_bodies given ≡ bodies
  pub seen_are : looked_in looking given ≡ seen

pub joined_none : (looking : Looking) → Joined looking [] [] [] [] []
joined_none looking = record { bytes_are = refl; bodies_are = refl; seen_are = refl }

more_bodies : (given : List (List (List ℕ))) (completed : List (List ℕ)) → all_bodies (given ++ completed ∷ []) ≡ all_bodies given ++ completed
more_bodies [] completed = append-nil completed
more_bodies (first ∷ given) completed = ap (λ (rest : List (List ℕ)). first ++ rest) (more_bodies given completed) ∙ sym (append_assoc first (all_bodies given) completed)

-- one piece more
pub joined_more : {looking : Looking} {pieces : List (List ℕ)} {given : List (List (List ℕ))} {bytes : List ℕ} {bodies : List (List ℕ)} {seen : List Looked} (piece : List ℕ) (completed : List (List ℕ)) → Joined looking pieces given bytes bodies seen →
    Joined looking (pieces ++ piece ∷ []) (given ++ completed ∷ []) (bytes ++ piece) (bodies ++ completed) (seen ++ looked looking completed)
joined_more {looking = looking} {pieces = pieces} {given = given} piece completed w = record {
  bytes_are = bytes_more pieces (piece ∷ []) ∙ λ j. w.bytes_are j ++ append-nil piece j;
  bodies_are = more_bodies given completed ∙ ap (λ (first : List (List ℕ)). first ++ completed) w.bodies_are;
  seen_are = flat_map-append (looked looking) given (completed ∷ []) ∙ λ j. w.seen_are j ++ append-nil (looked looking completed) j;
}

completes_more : (pieces : List (List ℕ)) (given : List (List (List ℕ))) (bytes piece : List ℕ) (bodies completed : List (List ℕ)) (end after : End) → Completes bytes bodies pieces given end →
    IsFrames ((bytes ++ bytes_of pieces) ++ piece) ((bodies ++ all_bodies given) ++ completed) after → Completes bytes bodies (pieces ++ piece ∷ []) (given ++ completed ∷ []) after
completes_more [] [] bytes piece bodies completed end after so_far frames =
    let here : IsFrames (bytes ++ piece) (bodies ++ completed) after = subst (λ (p : List ℕ × List (List ℕ)). IsFrames (p.0 ++ piece) (p.1 ++ completed) after) (λ j. (append-nil bytes j, append-nil bodies j)) frames in
    ((after, here), here)
completes_more [] (g ∷ given) bytes piece bodies completed end after so_far frames = absurd so_far
completes_more (p ∷ pieces) [] bytes piece bodies completed end after so_far frames = absurd so_far
completes_more (p ∷ pieces) (g ∷ given) bytes piece bodies completed end after so_far frames = (
  so_far.0,
  completes_more pieces given (bytes ++ p) piece (bodies ++ g) completed end after so_far.1
      (subst (λ (q : List ℕ × List (List ℕ)). IsFrames (q.0 ++ piece) (q.1 ++ completed) after) (λ j. (sym (append_assoc bytes p (bytes_of pieces)) j, sym (append_assoc bodies g (all_bodies given)) j)) frames),
)

pub complete_more : {looking : Looking} {pieces : List (List ℕ)} {given : List (List (List ℕ))} {bytes : List ℕ} {bodies : List (List ℕ)} {seen : List Looked} (piece : List ℕ) (completed : List (List ℕ)) (end after : End) → Joined looking pieces given bytes bodies seen →
    Complete pieces given end → IsFrames (bytes ++ piece) (bodies ++ completed) after → Complete (pieces ++ piece ∷ []) (given ++ completed ∷ []) after
complete_more {pieces = pieces} {given = given} piece completed end after w so_far frames =
    completes_more pieces given [] piece [] completed end after so_far
    (subst (λ (p : List ℕ × List (List ℕ)). IsFrames (p.0 ++ piece) (p.1 ++ completed) after) (λ j. (sym w.bytes_are j, sym w.bodies_are j)) frames)

-- ---- reads one after another

all_more : (pieces : List (List ℕ)) (piece : List ℕ) → AllByRecursion IsNonempty pieces → IsNonempty piece → AllByRecursion IsNonempty (pieces ++ piece ∷ [])
all_more [] piece all one = (one, tt)
all_more (p ∷ pieces) piece all one = (all.0, all_more pieces piece all.1 one)

pub reads_no_piece : (a : SourceSeen) → ReadsPieces a a []
reads_no_piece a = record { no_fault = refl; reads = sym (append-nil a.reads); some = tt }

noted : (a b c pieces : List (List ℕ)) (piece : List ℕ) → b ≡ a ++ pieces → c ≡ b ++ piece ∷ [] → c ≡ a ++ (pieces ++ piece ∷ [])
noted a b c pieces piece first then = then ∙ ap (λ (r : List (List ℕ)). r ++ piece ∷ []) first ∙ append_assoc a pieces (piece ∷ [])

pub reads_piece : (a b c : SourceSeen) (pieces : List (List ℕ)) (buffer : List ℕ) (n : ℕ) → ReadsPieces a b pieces → c.faults ≡ b.faults → c.reads ≡ b.reads ++ take n buffer ∷ [] → 1 ≤ n → n ≤ length buffer →
    ReadsPieces a c (pieces ++ take n buffer ∷ [])
reads_piece a b c pieces buffer n on counts notes some within = record {
  no_fault = counts ∙ on.no_fault;
  reads = noted a.reads b.reads c.reads pieces (take n buffer) on.reads notes;
  some = all_more pieces (take n buffer) on.some (let l = length-take n buffer in omega arith);
}

pub reads_end : (a b c : SourceSeen) (pieces : List (List ℕ)) → ReadsPieces a b pieces → IsOver a.left c.left → c.faults ≡ b.faults → c.reads ≡ b.reads ++ [] ∷ [] → ReadsAllPieces a c pieces
reads_end a b c pieces on over counts notes = record { over = over; no_fault = counts ∙ on.no_fault; reads = noted a.reads b.reads c.reads pieces [] on.reads notes; some = on.some }

pub reads_failing : (a b c : SourceSeen) (pieces : List (List ℕ)) → ReadsPieces a b pieces → Fails b.faults c.faults → c.reads ≡ b.reads ++ [] ∷ [] → FailsBehind a c pieces
reads_failing a b c pieces on failed notes = record { failed = subst (λ (n : ℕ). Fails n c.faults) on.no_fault failed; reads = noted a.reads b.reads c.reads pieces [] on.reads notes; some = on.some }

-- ---- what is left

-- these pieces were taken, and the rest is left
abbrev pub TakesWhole : Option (List (List ℕ)) → Option (List (List ℕ)) → List (List ℕ) → Type 0
TakesWhole None new pieces = Unit {0}
TakesWhole (Some old) None pieces = ⊥
TakesWhole (Some old) (Some new) pieces = old ≡ pieces ++ new

pub whole_none : (left : Option (List (List ℕ))) → TakesWhole left left []
whole_none None = tt
whole_none (Some pieces) = refl

pub pieces_whole : (old new : Option (List (List ℕ))) (pieces : List (List ℕ)) → TakesWhole old new pieces → TakesPieces old new pieces
pieces_whole None new pieces whole = tt
pieces_whole (Some old) None pieces whole = absurd whole
pieces_whole (Some old) (Some new) pieces whole = inl whole

-- a read behind whole pieces takes a whole piece, or the session has taken all that it may
pub pieces_more : (old mid new : Option (List (List ℕ))) (pieces : List (List ℕ)) (buffer : List ℕ) (n : ℕ) → TakesWhole old mid pieces → GotTakes mid new (got.Some n) buffer →
    TakesWhole old new (pieces ++ take n buffer ∷ []) ⊎ (length (bytes_of (pieces ++ take n buffer ∷ [])) ≡ max_stream) → TakesPieces old new (pieces ++ take n buffer ∷ [])
pieces_more None mid new pieces buffer n w takes ends = tt
pieces_more (Some old) None new pieces buffer n w takes ends = absurd w
pieces_more (Some old) (Some mid) None pieces buffer n w takes ends = absurd takes
pieces_more (Some old) (Some []) (Some new) pieces buffer n w takes ends = absurd takes
pieces_more (Some old) (Some (piece ∷ rest)) (Some new) pieces buffer n w takes (inl whole) = inl whole
pieces_more (Some old) (Some (piece ∷ rest)) (Some new) pieces buffer n w takes (inr full) =
    let front : take n buffer ++ drop n piece ≡ piece = ap (λ (first : List ℕ). first ++ drop n piece) takes.bytes ∙ take-append-drop n piece in
    inr (record {
      before = pieces;
      last = take n buffer;
      unread = drop n piece;
      after = rest;
      split = refl;
      was = w ∙ ap (λ (first : List ℕ). pieces ++ (first ∷ rest)) (sym front);
      is = takes.rest;
      full = full;
    })

-- nothing is left
pub pieces_over : (old mid new : Option (List (List ℕ))) (pieces : List (List ℕ)) (buffer : List ℕ) → TakesPieces old mid pieces → GotTakes mid new got.End buffer → TakesPieces old new pieces × IsOver old new
pieces_over None mid new pieces buffer front takes = (tt, tt)
pieces_over (Some old) None new pieces buffer front takes = absurd front
pieces_over (Some old) (Some mid) None pieces buffer front takes = absurd takes
pieces_over (Some old) (Some []) (Some new) pieces buffer front takes = (subst (λ (left : List (List ℕ)). TakesPieces (Some old) (Some left) pieces) (sym takes) front, takes)
pieces_over (Some old) (Some (piece ∷ rest)) (Some new) pieces buffer front takes = absurd takes

-- what is left stays
pub pieces_stay : (old mid new : Option (List (List ℕ))) (pieces : List (List ℕ)) (buffer : List ℕ) → TakesPieces old mid pieces → GotTakes mid new got.Failed buffer → TakesPieces old new pieces
pieces_stay None mid new pieces buffer front takes = tt
pieces_stay (Some old) None new pieces buffer front takes = absurd front
pieces_stay (Some old) (Some mid) None pieces buffer front takes = absurd takes
pieces_stay (Some old) (Some []) (Some new) pieces buffer front takes = subst (λ (left : List (List ℕ)). TakesPieces (Some old) (Some left) pieces) (sym takes) front
pieces_stay (Some old) (Some (piece ∷ rest)) (Some new) pieces buffer front takes = subst (λ (left : List (List ℕ)). TakesPieces (Some old) (Some left) pieces) (sym takes) front
