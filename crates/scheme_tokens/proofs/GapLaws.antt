-- How a gap goes on.
use Rattle.std.proofs.Common.{◌≡◌, ℕ, zero, suc, ◌+◌, ◌-◌, List, [], ◌∷◌, Result, Ok, Err, true, false, cond, refl, sym, ap, ◌∙◌, arith, add-one, ◌||◌, ◌==◌}
use Rattle.std.specs.Char.{is_whitespace}
use Rattle.std.proofs.lemmas.Bool.{cond-true, cond-false, or_from, or_left, or_right}
use Rattle.scheme_tokens.specs.Lexical.{is_line_end}
use Rattle.scheme_tokens.specs.Mirror.Gaps.{between, line, block, opens, closes, behind_gap}

-- behind a mark that closes
abbrev pub after_closing : List ℕ → ℕ → List ℕ → Result (List ℕ) (List ℕ)
after_closing start zero cs = behind_gap between cs
after_closing start (suc outer) cs = behind_gap (block start outer) cs

pub block_step : (start : List ℕ) (outer c d : ℕ) (cs : List ℕ) →
    behind_gap (block start outer) (c ∷ d ∷ cs) ≡ cond (opens c d) (behind_gap (block start (suc outer)) cs) (cond (closes c d) (after_closing start outer cs) (behind_gap (block start outer) (d ∷ cs)))
unfolding behind_gap
block_step start zero c d cs = refl
block_step start (suc outer) c d cs = refl

pub block_none : (start : List ℕ) (outer : ℕ) → behind_gap (block start outer) [] ≡ Err start
unfolding behind_gap
block_none start zero = refl
block_none start (suc outer) = refl

pub block_one : (start : List ℕ) (outer c : ℕ) → behind_gap (block start outer) (c ∷ []) ≡ Err start
unfolding behind_gap
block_one start zero c = refl
block_one start (suc outer) c = refl

-- two characters at the front
at_two : (start : List ℕ) (outer c d : ℕ) (cs ms ds : List ℕ) → cs ≡ c ∷ ms → ms ≡ d ∷ ds →
    behind_gap (block start outer) cs ≡ cond (opens c d) (behind_gap (block start (suc outer)) ds) (cond (closes c d) (after_closing start outer ds) (behind_gap (block start outer) (d ∷ ds)))
at_two start outer c d cs ms ds e f = ap (behind_gap (block start outer)) (e ∙ ap (λ (q : List ℕ). c ∷ q) f) ∙ block_step start outer c d ds

pub block_opens : (start : List ℕ) (outer c d : ℕ) (cs ms ds : List ℕ) → cs ≡ c ∷ ms → ms ≡ d ∷ ds → opens c d ≡ true →
    behind_gap (block start (outer + 1)) ds ≡ behind_gap (block start outer) cs
block_opens start outer c d cs ms ds e f o =
    sym (at_two start outer c d cs ms ds e f ∙ cond-true (opens c d) _ _ o ∙ ap (λ (n : ℕ). behind_gap (block start n) ds) (sym (add-one outer)))

pub block_closes_last : (start : List ℕ) (outer c d : ℕ) (cs ms ds : List ℕ) → cs ≡ c ∷ ms → ms ≡ d ∷ ds → opens c d ≡ false → closes c d ≡ true → outer ≡ 0 →
    behind_gap (block start outer) cs ≡ behind_gap between ds
block_closes_last start outer c d cs ms ds e f o k z =
    at_two start outer c d cs ms ds e f ∙ cond-false (opens c d) _ _ o ∙ cond-true (closes c d) _ _ k ∙ ap (λ (n : ℕ). after_closing start n ds) z

less_one : (start : List ℕ) (outer : ℕ) (ds : List ℕ) → (outer ≡ 0 → ⊥) → after_closing start outer ds ≡ behind_gap (block start (outer - 1)) ds
less_one start zero ds h = absurd (h refl)
less_one start (suc outer) ds h = let e : outer ≡ suc outer - 1 = omega arith in ap (λ (n : ℕ). behind_gap (block start n) ds) e

pub block_closes : (start : List ℕ) (outer c d : ℕ) (cs ms ds : List ℕ) → cs ≡ c ∷ ms → ms ≡ d ∷ ds → opens c d ≡ false → closes c d ≡ true → (outer ≡ 0 → ⊥) →
    behind_gap (block start (outer - 1)) ds ≡ behind_gap (block start outer) cs
block_closes start outer c d cs ms ds e f o k z =
    sym (at_two start outer c d cs ms ds e f ∙ cond-false (opens c d) _ _ o ∙ cond-true (closes c d) _ _ k ∙ less_one start outer ds z)

pub block_goes : (start : List ℕ) (outer c d : ℕ) (cs ms ds : List ℕ) → cs ≡ c ∷ ms → ms ≡ d ∷ ds → opens c d ≡ false → closes c d ≡ false →
    behind_gap (block start outer) ms ≡ behind_gap (block start outer) cs
block_goes start outer c d cs ms ds e f o k =
    ap (behind_gap (block start outer)) f ∙ sym (at_two start outer c d cs ms ds e f ∙ cond-false (opens c d) _ _ o ∙ cond-false (closes c d) _ _ k)

pub block_ends : (start : List ℕ) (outer c : ℕ) (cs ms : List ℕ) → cs ≡ c ∷ ms → ms ≡ [] → behind_gap (block start outer) cs ≡ Err start
block_ends start outer c cs ms e f = ap (behind_gap (block start outer)) (e ∙ ap (λ (q : List ℕ). c ∷ q) f) ∙ block_one start outer c

pub line_none : behind_gap line [] ≡ Ok []
unfolding behind_gap
line_none = refl

pub between_none : behind_gap between [] ≡ Ok []
unfolding behind_gap
between_none = refl

pub line_step : (c : ℕ) (cs : List ℕ) → behind_gap line (c ∷ cs) ≡ cond (is_line_end c) (behind_gap between cs) (behind_gap line cs)
unfolding behind_gap
line_step c cs = refl

pub line_ends : (c : ℕ) (cs ms : List ℕ) → cs ≡ c ∷ ms → is_line_end c ≡ true → behind_gap line cs ≡ behind_gap between ms
line_ends c cs ms e h = ap (behind_gap line) e ∙ line_step c ms ∙ cond-true (is_line_end c) _ _ h

pub line_goes : (c : ℕ) (cs ms : List ℕ) → cs ≡ c ∷ ms → is_line_end c ≡ false → behind_gap line ms ≡ behind_gap line cs
line_goes c cs ms e h = sym (ap (behind_gap line) e ∙ line_step c ms ∙ cond-false (is_line_end c) _ _ h)

pub between_one : (c : ℕ) → behind_gap between (c ∷ []) ≡ cond (is_whitespace c || c == 59) (Ok []) (Ok (c ∷ []))
unfolding behind_gap
between_one c = refl

pub between_step : (c d : ℕ) (cs : List ℕ) → behind_gap between (c ∷ d ∷ cs) ≡
    cond (is_whitespace c) (behind_gap between (d ∷ cs)) (cond (c == 59) (behind_gap line (d ∷ cs)) (cond (opens c d) (behind_gap (block (c ∷ d ∷ cs) 0) cs) (Ok (c ∷ d ∷ cs))))
unfolding behind_gap
between_step c d cs = refl

pub white_step : (c : ℕ) (ms : List ℕ) → is_whitespace c ≡ true → behind_gap between (c ∷ ms) ≡ behind_gap between ms
white_step c [] h = between_one c ∙ cond-true (is_whitespace c || c == 59) _ _ (or_left (is_whitespace c) (c == 59) h) ∙ sym between_none
white_step c (d ∷ ds) h = between_step c d ds ∙ cond-true (is_whitespace c) _ _ h

pub between_white : (c : ℕ) (cs ms : List ℕ) → cs ≡ c ∷ ms → is_whitespace c ≡ true → behind_gap between ms ≡ behind_gap between cs
between_white c cs ms e h = sym (ap (behind_gap between) e ∙ white_step c ms h)

comment : (c : ℕ) (ms : List ℕ) → is_whitespace c ≡ false → (c == 59) ≡ true → behind_gap between (c ∷ ms) ≡ behind_gap line ms
comment c [] h k = between_one c ∙ cond-true (is_whitespace c || c == 59) _ _ (or_right (is_whitespace c) (c == 59) k) ∙ sym line_none
comment c (d ∷ ds) h k = between_step c d ds ∙ cond-false (is_whitespace c) _ _ h ∙ cond-true (c == 59) _ _ k

pub between_line : (c : ℕ) (cs ms : List ℕ) → cs ≡ c ∷ ms → is_whitespace c ≡ false → (c == 59) ≡ true → behind_gap line ms ≡ behind_gap between cs
between_line c cs ms e h k = sym (ap (behind_gap between) e ∙ comment c ms h k)

pub between_opens : (c d : ℕ) (cs ms ds : List ℕ) → cs ≡ c ∷ ms → ms ≡ d ∷ ds → is_whitespace c ≡ false → (c == 59) ≡ false → opens c d ≡ true →
    behind_gap (block cs 0) ds ≡ behind_gap between cs
between_opens c d cs ms ds e f h k o =
    let whole = e ∙ ap (λ (q : List ℕ). c ∷ q) f in
    ap (λ (q : List ℕ). behind_gap (block q 0) ds) whole
    ∙ sym (ap (behind_gap between) whole ∙ between_step c d ds ∙ cond-false (is_whitespace c) _ _ h ∙ cond-false (c == 59) _ _ k ∙ cond-true (opens c d) _ _ o)

token_first : (c : ℕ) (ms : List ℕ) → is_whitespace c ≡ false → (c == 59) ≡ false → ((d : ℕ) (ds : List ℕ) → ms ≡ d ∷ ds → opens c d ≡ false) → behind_gap between (c ∷ ms) ≡ Ok (c ∷ ms)
token_first c [] h k o = between_one c ∙ cond-false (is_whitespace c || c == 59) _ _ (or_from (is_whitespace c) (c == 59) h k)
token_first c (d ∷ ds) h k o =
    between_step c d ds ∙ cond-false (is_whitespace c) _ _ h ∙ cond-false (c == 59) _ _ k ∙ cond-false (opens c d) _ _ (o d ds refl)

pub between_token : (c : ℕ) (cs ms : List ℕ) → cs ≡ c ∷ ms → is_whitespace c ≡ false → (c == 59) ≡ false → ((d : ℕ) (ds : List ℕ) → ms ≡ d ∷ ds → opens c d ≡ false) → behind_gap between cs ≡ Ok cs
between_token c cs ms e h k o = ap (behind_gap between) e ∙ token_first c ms h k o ∙ ap (λ (q : List ℕ). Ok q) (sym e)

pub comment_step : (ms : List ℕ) → behind_gap between (59 ∷ ms) ≡ behind_gap line ms
comment_step ms = comment 59 ms refl refl

pub nested_step : (ms : List ℕ) → behind_gap between (35 ∷ 124 ∷ ms) ≡ behind_gap (block (35 ∷ 124 ∷ ms) 0) ms
unfolding behind_gap
nested_step ms = refl
