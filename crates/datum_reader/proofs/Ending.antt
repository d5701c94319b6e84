-- Data that are partly written can be written to an end.
use Rattle.std.proofs.Common.{◌≡◌, ℕ, zero, suc, ◌+◌, ◌≤◌, true, List, [], ◌∷◌, ◌++◌, Ok, refl, ap, ◌∙◌, arith}
use Rattle.scheme_model.specs.Kinds as kinds
use Rattle.scheme_model.specs.Kinds.{Leaf}
use Rattle.scheme_model.specs.Numbered.{Spot, Numbered}
use Rattle.datum_reader.specs.Open.{State, state, depth_of, after_all}
use Rattle.scheme_model.specs.Written.{Written, alone, listed, tailed, vectored, byted, abbreviated, Gap, nothing, last, last_byte, token, depth, written_tokens}
use Rattle.scheme_model.specs.Stopping.{AreData, CanGoOn}
use Rattle.scheme_model.specs.Begun.{start, Inside, listing, behind_dot, behind_tail, vectoring, byting, behind_mark, behind_skip, Begun, top, inside, begun_tokens, Takes}
use Rattle.datum_reader.proofs.Begun.{begun_stack, Sound, skip_more, complete, parts_from, bytes_from}
use Rattle.datum_reader.proofs.Completing.{parts_from-tokens, parts_from-depth, bytes_from-tokens, bytes_from-depth, skip_more-tokens, skip_more-sound, complete-tokens, complete-sound}
use Rattle.datum_reader.proofs.Reaching.{through}

-- how many are open
abbrev open_count : Begun → ℕ
open_count (top r g) = 0
open_count (inside b s i) = suc (open_count b)

skipped-count : (b : Begun) (s : Spot) (g : Gap) (w : Written) → open_count (skip_more b s g w) ≡ open_count b
skipped-count (top r h) s g w = refl
skipped-count (inside b t i) s g w = refl

completed-count : (b : Begun) (w : Written) → open_count (complete b w) ≤ open_count b
completed-count (top r g) w = omega arith
completed-count (inside b s (listing r g)) w = omega arith
completed-count (inside b s (behind_dot g v ps dot h)) w = omega arith
completed-count (inside b s (behind_tail g v ps dot h t i)) w = omega arith
completed-count (inside b s (vectoring r g)) w = omega arith
completed-count (inside b s (byting r g)) w = omega arith
completed-count (inside b s (behind_mark mark g)) w = omega (arith, completed-count b (abbreviated s mark g w))
completed-count (inside b s (behind_skip g)) w = omega (arith, skipped-count b s g w)

-- some token's place, and an atom there
abbrev somewhere : Spot
somewhere = record { number = 0; start = 0; end = 0 }

abbrev leaf : Leaf
leaf = kinds.Truth true

abbrev some_atom : Written
some_atom = alone somewhere leaf

abbrev close : Numbered
close = token somewhere kinds.Close

-- what is open innermost, ended by some tokens
record Ended (b : Begun) (s : Spot) (i : Inside) : Type 0 where
  now : Begun
  sound : Sound now
  count : open_count now ≤ open_count b
  added : List Numbered
  tokens : (rest : List Numbered) → begun_tokens now rest ≡ begun_tokens (inside b s i) (added ++ rest)

by_datum : (b : Begun) (s : Spot) (i : Inside) (w : Written) (added : List Numbered) → Sound (inside b s i) → Takes b → depth_of (begun_stack b) + depth w ≤ 400 →
    ((rest : List Numbered) → begun_tokens b (written_tokens w rest) ≡ begun_tokens (inside b s i) (added ++ rest)) → Ended b s i
by_datum b s i w added ok takes lt joins =
    record { now = complete b w; sound = complete-sound b w ok.0 takes lt; count = completed-count b w; added = added; tokens = λ rest. complete-tokens b w rest ok.0 takes ∙ joins rest }

ended : (b : Begun) (s : Spot) (i : Inside) → Sound (inside b s i) → Ended b s i
ended b s (listing r g) ok =
    by_datum b s (listing r g) (listed s (parts_from r (last g)) somewhere) (close ∷ []) ok ok.1 (omega (arith, ok.2, parts_from-depth r (last g)))
    (λ rest. ap (λ (q : List Numbered). begun_tokens b (token s kinds.Paren ∷ q)) (parts_from-tokens r (last g) (close ∷ rest)))
ended b s (behind_dot g w ps dot h) ok =
    by_datum b s (behind_dot g w ps dot h) (tailed s g w ps dot h some_atom nothing somewhere) (token somewhere (kinds.Atomic leaf) ∷ close ∷ []) ok ok.1 (omega (arith, ok.2)) (λ rest. refl)
ended b s (behind_tail g w ps dot h t i) ok =
    by_datum b s (behind_tail g w ps dot h t i) (tailed s g w ps dot h t i somewhere) (close ∷ []) ok ok.1 (omega (arith, ok.2)) (λ rest. refl)
ended b s (vectoring r g) ok =
    by_datum b s (vectoring r g) (vectored s (parts_from r (last g)) somewhere) (close ∷ []) ok ok.1 (omega (arith, ok.2, parts_from-depth r (last g)))
    (λ rest. ap (λ (q : List Numbered). begun_tokens b (token s kinds.VectorParen ∷ q)) (parts_from-tokens r (last g) (close ∷ rest)))
ended b s (byting r g) ok =
    by_datum b s (byting r g) (byted s (bytes_from r (last_byte g)) somewhere) (close ∷ []) ok ok.1 (omega (arith, ok.2, bytes_from-depth r (last_byte g)))
    (λ rest. ap (λ (q : List Numbered). begun_tokens b (token s kinds.BytesParen ∷ q)) (bytes_from-tokens r (last_byte g) (close ∷ rest)))
ended b s (behind_mark mark g) ok =
    by_datum b s (behind_mark mark g) (abbreviated s mark g some_atom) (token somewhere (kinds.Atomic leaf) ∷ []) ok ok.1 (omega (arith, ok.2)) (λ rest. refl)
ended b s (behind_skip g) ok = record {
  now = skip_more b s g some_atom;
  sound = skip_more-sound b s g some_atom ok.0 (omega (arith, ok.2));
  count = omega (arith, skipped-count b s g some_atom);
  added = token somewhere (kinds.Atomic leaf) ∷ [];
  tokens = λ rest. skip_more-tokens b s g some_atom rest;
}

-- the tokens of all that is open, with those that end it
to_end : (n : ℕ) (b : Begun) → open_count b ≤ n → Sound b → (more : List Numbered) × AreData (begun_tokens b more)
to_end n (top r g) lt ok = ([], (parts_from r (last g), parts_from-tokens r (last g) [], omega (arith, parts_from-depth r (last g))))
to_end zero (inside b s i) lt ok = absurd (omega arith)
to_end (suc n) (inside b s i) lt ok =
    let e = ended b s i ok in
    let q = to_end n e.now (omega (arith, e.count)) e.sound in
    (e.added ++ q.0, (q.1.0, q.1.1 ∙ e.tokens q.0, q.1.2))

-- tokens that reading goes on behind can go on
pub can_go_on : (ts : List Numbered) (s : State) → after_all (Ok (state [] [])) ts ≡ Ok s → CanGoOn ts
can_go_on ts s h =
    let t = through ts (top start nothing) s (omega arith) h in
    let q = to_end (open_count t.now) t.now (omega arith) t.sound in
    (q.0, (q.1.0, q.1.1 ∙ t.tokens q.0, q.1.2))
