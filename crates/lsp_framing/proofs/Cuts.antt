-- How a stream is cut doesn't matter.
use Rattle.std.proofs.Common.{◌≡◌, ℕ, List, [], ◌∷◌, ◌++◌, sym, ap, ◌∙◌, length, subst, append_assoc, append-nil, Option, Some, None}
use Rattle.std.specs.Option.{IsSomeAnd}
use Rattle.ls_base.specs.Frames.{End, IsFrames}
use Rattle.lsp_framing.specs.Deframed.{Deframed, After}
use Rattle.lsp_framing.specs.Runs.{Fed, Runs, all_pieces, all_given}
use Rattle.lsp_framing.proofs.OneReading.{one_reading}

alike : (past more : List ℕ) (bodies others : List (List ℕ)) (d : Deframed) → past ≡ more → bodies ≡ others → After past bodies d → After more others d
alike past more bodies others d e k a = subst (λ (q : List ℕ). After q others d) e (subst (λ (q : List (List ℕ)). After past q d) k a)

fed_on : (fs : List Fed) (past : List ℕ) (bodies : List (List ℕ)) (old new : Deframed) → After past bodies old → Runs old fs new → After (past ++ all_pieces fs) (bodies ++ all_given fs) new
fed_on [] past bodies old new a r = alike past (past ++ []) bodies (bodies ++ []) new (sym (append-nil past)) (sym (append-nil bodies)) (subst (After past bodies) r a)
fed_on (f ∷ fs) past bodies old new a r =
    alike ((past ++ f.piece) ++ all_pieces fs) (past ++ (f.piece ++ all_pieces fs)) ((bodies ++ f.given) ++ all_given fs) (bodies ++ (f.given ++ all_given fs)) new
    (append_assoc past f.piece (all_pieces fs)) (append_assoc bodies f.given (all_given fs)) (fed_on fs (past ++ f.piece) (bodies ++ f.given) f.new new (r.0 past bodies a) r.1)

-- after any list of pieces
pub all_fed : (fs : List Fed) (start new : Deframed) → After [] [] start → Runs start fs new → After (all_pieces fs) (all_given fs) new
all_fed fs start new a r = fed_on fs [] [] start new a r

same_by : (e f : Option End) (m n : ℕ) (past : List ℕ) (bodies others : List (List ℕ)) → IsSomeAnd e (IsFrames past bodies) → IsSomeAnd f (IsFrames past others) → length past ≡ m → length past ≡ n →
    (bodies ≡ others) × ((let d : Deframed = record { end = e; taken = m } in d) ≡ record { end = f; taken = n })
same_by None f m n past bodies others a b k l = absurd a
same_by (Some e) None m n past bodies others a b k l = absurd b
same_by (Some e) (Some f) m n past bodies others a b k l =
    let r = one_reading past bodies others e f a b in (
      r.0,
      ap (λ (q : End). let d : Deframed = record { end = Some q; taken = m } in d) r.1 ∙ ap (λ (q : ℕ). let d : Deframed = record { end = Some f; taken = q } in d) (sym k ∙ l),
    )

-- deframers that took the same bytes
pub same_bytes : (past : List ℕ) (bodies others : List (List ℕ)) (one other : Deframed) → After past bodies one → After past others other → (bodies ≡ others) × (one ≡ other)
same_bytes past bodies others one other a b = same_by one.end other.end one.taken other.taken past bodies others a.frames b.frames a.count b.count
