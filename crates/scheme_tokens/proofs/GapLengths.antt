-- A gap leaves no more characters than it began with.
use Rattle.std.proofs.Common.{ℕ, zero, suc, ◌≤◌, length, List, [], ◌∷◌, Bool, true, false, cond, Result, Ok, Err, arith, ◌==◌, ◌||◌}
use Rattle.std.specs.Char.{is_whitespace}
use Rattle.scheme_tokens.specs.Lexical.{is_line_end}
use Rattle.scheme_tokens.specs.Mirror.Gaps.{Within, between, line, block, opens, closes, behind_gap}

-- a gap leaves at most so many characters
abbrev pub Leaves : ℕ → Result (List ℕ) (List ℕ) → Type 0
Leaves n (Ok text) = length text ≤ n
Leaves n (Err start) = Unit {0}

leaves_more : (m n : ℕ) (r : Result (List ℕ) (List ℕ)) → m ≤ n → Leaves m r → Leaves n r
leaves_more m n (Ok text) h k = omega arith
leaves_more m n (Err start) h k = tt

leaves_if : (n : ℕ) (b : Bool) (r q : Result (List ℕ) (List ℕ)) → Leaves n r → Leaves n q → Leaves n (cond b r q)
leaves_if n true r q h k = h
leaves_if n false r q h k = k

pub gap_leaves : (w : Within) (text : List ℕ) → Leaves (length text) (behind_gap w text)
unfolding behind_gap
gap_leaves between [] = omega arith
gap_leaves between (c ∷ []) = leaves_if 1 (is_whitespace c || c == 59) (Ok []) (Ok (c ∷ [])) (omega arith) (omega arith)
gap_leaves between (c ∷ d ∷ cs) =
    let n = length (c ∷ d ∷ cs) in
    leaves_if n (is_whitespace c) _ _ (leaves_more (length (d ∷ cs)) n (behind_gap between (d ∷ cs)) (omega arith) (gap_leaves between (d ∷ cs)))
    (leaves_if n (c == 59) _ _ (leaves_more (length (d ∷ cs)) n (behind_gap line (d ∷ cs)) (omega arith) (gap_leaves line (d ∷ cs)))
    (leaves_if n (opens c d) _ (Ok (c ∷ d ∷ cs)) (leaves_more (length cs) n (behind_gap (block (c ∷ d ∷ cs) 0) cs) (omega arith) (gap_leaves (block (c ∷ d ∷ cs) 0) cs)) (omega arith)))
gap_leaves line [] = omega arith
gap_leaves line (c ∷ cs) =
    leaves_if (length (c ∷ cs)) (is_line_end c) _ _ (leaves_more (length cs) (length (c ∷ cs)) (behind_gap between cs) (omega arith) (gap_leaves between cs))
    (leaves_more (length cs) (length (c ∷ cs)) (behind_gap line cs) (omega arith) (gap_leaves line cs))
gap_leaves (block start zero) [] = tt
gap_leaves (block start (suc outer)) [] = tt
gap_leaves (block start zero) (c ∷ []) = tt
gap_leaves (block start (suc outer)) (c ∷ []) = tt
gap_leaves (block start zero) (c ∷ d ∷ cs) =
    let n = length (c ∷ d ∷ cs) in
    leaves_if n (opens c d) _ _ (leaves_more (length cs) n (behind_gap (block start 1) cs) (omega arith) (gap_leaves (block start 1) cs))
    (leaves_if n (closes c d) _ _ (leaves_more (length cs) n (behind_gap between cs) (omega arith) (gap_leaves between cs))
    (leaves_more (length (d ∷ cs)) n (behind_gap (block start 0) (d ∷ cs)) (omega arith) (gap_leaves (block start 0) (d ∷ cs))))
gap_leaves (block start (suc outer)) (c ∷ d ∷ cs) =
    let n = length (c ∷ d ∷ cs) in
    leaves_if n (opens c d) _ _ (leaves_more (length cs) n (behind_gap (block start (suc (suc outer))) cs) (omega arith) (gap_leaves (block start (suc (suc outer))) cs))
    (leaves_if n (closes c d) _ _ (leaves_more (length cs) n (behind_gap (block start outer) cs) (omega arith) (gap_leaves (block start outer) cs))
    (leaves_more (length (d ∷ cs)) n (behind_gap (block start (suc outer)) (d ∷ cs)) (omega arith) (gap_leaves (block start (suc outer)) (d ∷ cs))))
