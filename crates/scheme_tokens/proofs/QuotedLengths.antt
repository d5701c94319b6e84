-- What stands between marks leaves no more characters than the text had.
use Rattle.std.proofs.Common.{ℕ, zero, suc, ◌≤◌, length, List, [], ◌∷◌, ◌++◌, Bool, true, false, cond, Option, Some, None, Result, Ok, Err, arith, ◌==◌, ◌&&◌, ◌||◌}
use Rattle.std.specs.Char.{to_ascii_lowercase}
use Rattle.scheme_tokens.specs.Lexical.{is_line_end, is_blank, is_hex_digit}
use Rattle.scheme_tokens.specs.Mirror.Words.{front_of, behind}
use Rattle.scheme_tokens.specs.Mirror.Quoted.{Fault, ◌>>=◌, letter, hex_scalar, hex_end, fold_end, behind_line_end, escape, element, elements, escaped}

-- what is read leaves at most so many characters
abbrev pub Rests : {A : Type 0} → ℕ → Result (A × List ℕ) Fault → Type 0
Rests n (Ok t) = length t.1 ≤ n
Rests n (Err fault) = Unit {0}

pub rests_more : {A : Type 0} (m n : ℕ) (r : Result (A × List ℕ) Fault) → m ≤ n → Rests m r → Rests n r
rests_more m n (Ok t) h k = omega arith
rests_more m n (Err fault) h k = tt

pub rests_if : {A : Type 0} (n : ℕ) (b : Bool) (r q : Result (A × List ℕ) Fault) → Rests n r → Rests n q → Rests n (cond b r q)
rests_if n true r q h k = h
rests_if n false r q h k = k

behind_more : (b : Bool) (c : ℕ) (xs cs : List ℕ) → length xs ≤ length cs → length (cond b xs (c ∷ cs)) ≤ length (c ∷ cs)
behind_more true c xs cs h = omega arith
behind_more false c xs cs h = omega arith

pub behind_shorter : (p : ℕ → Bool) (cs : List ℕ) → length (behind p cs) ≤ length cs
behind_shorter p [] = omega arith
behind_shorter p (c ∷ cs) = behind_more (p c) c (behind p cs) cs (behind_shorter p cs)

line_end_more : (b : Bool) (d : ℕ) (ds : List ℕ) → length (cond b ds (d ∷ ds)) ≤ length (d ∷ ds)
line_end_more true d ds = omega arith
line_end_more false d ds = omega arith

line_end_shorter : (c : ℕ) (cs : List ℕ) → length (behind_line_end c cs) ≤ length cs
line_end_shorter c [] = omega arith
line_end_shorter c (d ∷ ds) = line_end_more (c == 13 && d == 10) d ds

-- elements between marks
letter_rests : (o : Option ℕ) (cs : List ℕ) → Rests (length cs) (letter o cs)
letter_rests None cs = tt
letter_rests (Some c) cs = omega arith

hex_end_rests : (close : ℕ) (digits cs : List ℕ) → Rests (length cs) (hex_end close digits cs)
hex_end_rests close digits [] = tt
hex_end_rests close digits (c ∷ cs) =
    rests_if (length (c ∷ cs)) (c == 59) (letter (hex_scalar digits) cs) _ (rests_more (length cs) (length (c ∷ cs)) (letter (hex_scalar digits) cs) (omega arith) (letter_rests (hex_scalar digits) cs)) tt

fold_end_rests : (close : ℕ) (cs : List ℕ) → Rests (length cs) (fold_end close cs)
fold_end_rests close [] = tt
fold_end_rests close (c ∷ cs) =
    rests_if (length (c ∷ cs)) (is_line_end c) (Ok ([], behind is_blank (behind_line_end c cs))) _ (omega (arith, behind_shorter is_blank (behind_line_end c cs), line_end_shorter c cs)) tt

escape_rests : (close : ℕ) (cs : List ℕ) → Rests (length cs) (escape close cs)
unfolding escape
escape_rests close [] = tt
escape_rests close (c ∷ cs) =
    let n = length (c ∷ cs) in
    rests_if n (to_ascii_lowercase c == 120) _ _ (rests_more (length (behind is_hex_digit cs)) n (hex_end close (front_of is_hex_digit cs) (behind is_hex_digit cs)) (omega (arith, behind_shorter is_hex_digit cs)) (hex_end_rests close (front_of is_hex_digit cs) (behind is_hex_digit cs)))
    (rests_if n (close == 34 && (is_blank c || is_line_end c)) _ _ (rests_more (length (behind is_blank (c ∷ cs))) n (fold_end close (behind is_blank (c ∷ cs))) (behind_shorter is_blank (c ∷ cs)) (fold_end_rests close (behind is_blank (c ∷ cs))))
    (rests_more (length cs) n (letter (escaped c) cs) (omega arith) (letter_rests (escaped c) cs)))

pub element_rests : (close c : ℕ) (cs : List ℕ) → Rests (length cs) (element close c cs)
unfolding element
element_rests close c cs =
    rests_if (length cs) (c == 92) (escape close cs) _ (escape_rests close cs)
    (rests_if (length cs) (close == 34 && is_line_end c) (Ok (10 ∷ [], behind_line_end c cs)) (Ok (c ∷ [], cs)) (line_end_shorter c cs) (omega arith))

-- one element before more of them
join_rests : (n : ℕ) (front : List ℕ) (r : Result (List ℕ × List ℕ) Fault) → Rests n r → Rests n (r >>= λ more. Ok (front ++ more.0, more.1))
join_rests n front (Ok more) h = h
join_rests n front (Err fault) h = tt

then_rests : (n most close : ℕ) (first : Result (List ℕ × List ℕ) Fault) → Rests n first → ((cs : List ℕ) → Rests (length cs) (elements most close cs)) →
    Rests n (first >>= λ first. elements most close first.1 >>= λ more. Ok (first.0 ++ more.0, more.1))
then_rests n most close (Ok first) h more = join_rests n first.0 (elements most close first.1) (rests_more (length first.1) n (elements most close first.1) h (more first.1))
then_rests n most close (Err fault) h more = tt

pub elements_rest : (most close : ℕ) (cs : List ℕ) → Rests (length cs) (elements most close cs)
unfolding elements
elements_rest zero close [] = tt
elements_rest (suc most) close [] = tt
elements_rest zero close (c ∷ cs) = tt
elements_rest (suc most) close (c ∷ cs) =
    rests_if (length (c ∷ cs)) (c == close) (Ok ([], cs)) _ (omega arith)
    (rests_more (length cs) (length (c ∷ cs)) (element close c cs >>= λ first. elements most close first.1 >>= λ more. Ok (first.0 ++ more.0, more.1)) (omega arith)
    (then_rests (length cs) most close (element close c cs) (element_rests close c cs) (elements_rest most close)))
