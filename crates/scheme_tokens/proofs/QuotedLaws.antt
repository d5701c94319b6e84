-- Elements between marks, one after another.
use Rattle.std.proofs.Common.{◌≡◌, ℕ, zero, suc, ◌-◌, ◌<◌, List, [], ◌∷◌, ◌++◌, Result, Ok, Err, true, false, cond, refl, sym, ap, ◌∙◌, arith, append_assoc, append-nil, ◌==◌}
use Rattle.std.proofs.lemmas.Bool.{cond-true, cond-false}
use Rattle.scheme_tokens.specs.Mirror.Quoted.{Fault, ◌>>=◌, open_at, element, elements}

-- characters before those that reading gives
abbrev pub onto : List ℕ → Result (List ℕ × List ℕ) Fault → Result (List ℕ × List ℕ) Fault
onto front read = read >>= λ more. Ok (front ++ more.0, more.1)

pub onto-none : (read : Result (List ℕ × List ℕ) Fault) → onto [] read ≡ read
onto-none (Ok x) = refl
onto-none (Err e) = refl

onto-onto : (front first : List ℕ) (read : Result (List ℕ × List ℕ) Fault) → onto front (onto first read) ≡ onto (front ++ first) read
onto-onto front first (Ok x) = ap (λ (q : List ℕ). Ok (q, x.1)) (sym (append_assoc front first x.0))
onto-onto front first (Err e) = refl

elements_step : (most close c : ℕ) (cs : List ℕ) → elements (suc most) close (c ∷ cs) ≡ cond (c == close) (Ok ([], cs)) (element close c cs >>= λ first. elements most close first.1 >>= λ more. Ok (first.0 ++ more.0, more.1))
unfolding elements
elements_step most close c cs = refl

pub elements_none : (most close : ℕ) → elements most close [] ≡ Err (open_at close)
unfolding elements
elements_none zero close = refl
elements_none (suc most) close = refl

-- so many elements at most, where one is left to be read
one_of : (most : ℕ) → 0 < most → most ≡ suc (most - 1)
one_of zero h = absurd (omega arith)
one_of (suc most) h = let e : suc most ≡ suc (suc most - 1) = omega arith in e

at_one : (most close c : ℕ) (cs ms : List ℕ) → 0 < most → cs ≡ c ∷ ms →
    elements most close cs ≡ cond (c == close) (Ok ([], ms)) (element close c ms >>= λ first. elements (most - 1) close first.1 >>= λ more. Ok (first.0 ++ more.0, more.1))
at_one most close c cs ms h e = (λ i. elements (one_of most h i) close (e i)) ∙ elements_step (most - 1) close c ms

pub closes : (most close c : ℕ) (front cs ms : List ℕ) → 0 < most → cs ≡ c ∷ ms → (c == close) ≡ true → onto front (elements most close cs) ≡ Ok (front, ms)
closes most close c front cs ms h e k =
    ap (onto front) (at_one most close c cs ms h e ∙ cond-true (c == close) _ _ k) ∙ ap (λ (q : List ℕ). Ok (q, ms)) (append-nil front)

pub goes_on : (most close c : ℕ) (front first cs ms behind : List ℕ) → 0 < most → cs ≡ c ∷ ms → (c == close) ≡ false → element close c ms ≡ Ok (first, behind) →
    onto (front ++ first) (elements (most - 1) close behind) ≡ onto front (elements most close cs)
goes_on most close c front first cs ms behind h e k f =
    sym (ap (onto front) (at_one most close c cs ms h e ∙ cond-false (c == close) _ _ k
    ∙ ap (λ (r : Result (List ℕ × List ℕ) Fault). r >>= λ first. elements (most - 1) close first.1 >>= λ more. Ok (first.0 ++ more.0, more.1)) f)
    ∙ onto-onto front first (elements (most - 1) close behind))

pub fails : (most close c : ℕ) (front cs ms : List ℕ) (fault : Fault) → 0 < most → cs ≡ c ∷ ms → (c == close) ≡ false → element close c ms ≡ Err fault →
    onto front (elements most close cs) ≡ Err fault
fails most close c front cs ms fault h e k f =
    ap (onto front) (at_one most close c cs ms h e ∙ cond-false (c == close) _ _ k
    ∙ ap (λ (r : Result (List ℕ × List ℕ) Fault). r >>= λ first. elements (most - 1) close first.1 >>= λ more. Ok (first.0 ++ more.0, more.1)) f)

pub unclosed : (most close : ℕ) (front cs : List ℕ) → cs ≡ [] → onto front (elements most close cs) ≡ Err (open_at close)
unclosed most close front cs e = ap (λ (q : List ℕ). onto front (elements most close q)) e ∙ ap (onto front) (elements_none most close)
