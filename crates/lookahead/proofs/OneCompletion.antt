-- Pieces complete bodies in one way.
use Rattle.std.proofs.Common.{◌≡◌, ℕ, List, [], ◌∷◌, ◌++◌, refl, sym, subst}
use Rattle.std.proofs.lemmas.List.{append_cancel_left}
use Rattle.ls_base.specs.Frames.{End, IsFrames, rest}
use Rattle.lsp_framing.proofs.EveryReading.{every_reading}
use Rattle.lsp_framing.proofs.OneReading.{one_reading, bodies_grow}
use Rattle.lsp_framing.proofs.Written.{written_again}
use Rattle.lookahead.specs.Completed.{Completes}

-- some bodies
abbrev HasCompletion : List ℕ → List (List ℕ) → List (List ℕ) → Type 0
HasCompletion bytes bodies pieces = (given : List (List (List ℕ))) × (end : End) × Completes bytes bodies pieces given end

with_piece : (bytes piece : List ℕ) (bodies all completed : List (List ℕ)) (pieces : List (List ℕ)) (after : End) → IsFrames (bytes ++ piece) all after → all ≡ bodies ++ completed
    → ((more : List (List ℕ)) (end : End) → IsFrames (bytes ++ piece) more end → HasCompletion (bytes ++ piece) more pieces) → HasCompletion bytes bodies (piece ∷ pieces)
with_piece bytes piece bodies all completed pieces after frames is onward =
    let here : IsFrames (bytes ++ piece) (bodies ++ completed) after = subst (λ (b : List (List ℕ)). IsFrames (bytes ++ piece) b after) is frames in
    let more = onward (bodies ++ completed) after here in
    (completed ∷ more.0, more.1, ((after, here), more.2))

completion_from : (pieces : List (List ℕ)) (bytes : List ℕ) (bodies : List (List ℕ)) (end : End) → IsFrames bytes bodies end → HasCompletion bytes bodies pieces
completion_from [] bytes bodies end frames = ([], end, frames)
completion_from (piece ∷ pieces) bytes bodies end frames =
    let next = every_reading (bytes ++ piece) in
    let grown = bodies_grow bytes piece bodies next.0 end next.1 frames next.2 in
    with_piece bytes piece bodies next.0 grown.0 pieces next.1 next.2 grown.1 (completion_from pieces (bytes ++ piece))

pub some_completion : (pieces : List (List ℕ)) → HasCompletion [] [] pieces
some_completion pieces = completion_from pieces [] [] (rest []) (written_again [] tt)

pub only_completion : (pieces : List (List ℕ)) (bytes : List ℕ) (bodies : List (List ℕ)) (given others : List (List (List ℕ))) (end other : End)
    → Completes bytes bodies pieces given end → Completes bytes bodies pieces others other → (given ≡ others) × (end ≡ other)
only_completion [] bytes bodies [] [] end other one two = (refl, (one_reading bytes bodies bodies end other one two).1)
only_completion [] bytes bodies [] (o ∷ os) end other one two = absurd two
only_completion [] bytes bodies (g ∷ gs) os end other one two = absurd one
only_completion (piece ∷ pieces) bytes bodies [] os end other one two = absurd one
only_completion (piece ∷ pieces) bytes bodies (g ∷ gs) [] end other one two = absurd two
only_completion (piece ∷ pieces) bytes bodies (g ∷ gs) (o ∷ os) end other one two =
    let e = (one_reading (bytes ++ piece) (bodies ++ g) (bodies ++ o) one.0.0 two.0.0 one.0.1 two.0.1).0 in
    let same = append_cancel_left bodies g o e in
    let more = only_completion pieces (bytes ++ piece) (bodies ++ g) gs os end other one.1
    (subst (λ (b : List (List ℕ)). Completes (bytes ++ piece) b pieces os other) (sym e) two.1) in
    (λ j. same j ∷ more.0 j, more.1)
