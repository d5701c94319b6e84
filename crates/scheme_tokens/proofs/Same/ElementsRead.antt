-- Elements up to a closing mark are read as what they mean.
use Rattle.std.proofs.Common.{◌≡◌, ℕ, zero, suc, ◌≤◌, List, [], ◌∷◌, ◌++◌, Option, Result, Ok, Bool, true, false, cond, refl, sym, ap, ◌∙◌, subst, append_assoc, length, arith, ◌||◌, ◌==◌, ◌&&◌, inl, inr}
use Rattle.std.specs.List.{list_all}
use Rattle.std.specs.Char.{to_ascii_lowercase}
use Rattle.std.proofs.lemmas.Bool.{cond-true, cond-false, or_cases, or_parts, or_left, or_right, and_parts, and_from, and_right, eqb-true, eq-eqb, not-true}
use Rattle.std.proofs.lemmas.List.{length-append}
use Rattle.scheme_tokens.specs.Lexical.{is_line_end, is_blank, is_hex_digit, Ends, IsMnemonic, IsCode, IsLineEnd, IsElement, IsElements}
use Rattle.scheme_tokens.specs.Mirror.Words.{front_of, behind}
use Rattle.scheme_tokens.specs.Mirror.Quoted.{Fault, ◌>>=◌, letter, hex_end, behind_line_end, fold_end, escape, element, elements}
use Rattle.scheme_tokens.proofs.Same.Ends.{behind-all, front-all, like_first}
use Rattle.scheme_tokens.proofs.Same.Elements.{code_scalar, element_frame}

-- what is read of an element, before more
abbrev pub Reads : ℕ → List ℕ → List ℕ → List ℕ → Type 0
Reads close one meant rest = (c : ℕ) × (cs : List ℕ) × (one ≡ c ∷ cs) × ((c == close) ≡ false) × (element close c (cs ++ rest) ≡ Ok (meant, rest))

pub escape_step : (close : ℕ) (cs : List ℕ) → element close 92 cs ≡ escape close cs
unfolding element
escape_step close cs = refl

mnemonic_read : {c m : ℕ} → IsMnemonic c m → (close : ℕ) (rest : List ℕ) → escape close (c ∷ rest) ≡ Ok (m ∷ [], rest)
unfolding escape
mnemonic_read IsMnemonic.alarm close rest = cond-false (close == 34 && false) _ _ (and_right (close == 34) false refl)
mnemonic_read IsMnemonic.backspace close rest = cond-false (close == 34 && false) _ _ (and_right (close == 34) false refl)
mnemonic_read IsMnemonic.tab close rest = cond-false (close == 34 && false) _ _ (and_right (close == 34) false refl)
mnemonic_read IsMnemonic.line_feed close rest = cond-false (close == 34 && false) _ _ (and_right (close == 34) false refl)
mnemonic_read IsMnemonic.return close rest = cond-false (close == 34 && false) _ _ (and_right (close == 34) false refl)
mnemonic_read IsMnemonic.mark close rest = cond-false (close == 34 && false) _ _ (and_right (close == 34) false refl)
mnemonic_read IsMnemonic.backslash close rest = cond-false (close == 34 && false) _ _ (and_right (close == 34) false refl)
mnemonic_read IsMnemonic.bar close rest = cond-false (close == 34 && false) _ _ (and_right (close == 34) false refl)

pub hex_step : (close x : ℕ) (cs : List ℕ) → to_ascii_lowercase x ≡ 120 → escape close (x ∷ cs) ≡ hex_end close (front_of is_hex_digit cs) (behind is_hex_digit cs)
unfolding escape
hex_step close x cs h = cond-true (to_ascii_lowercase x == 120) _ _ (eq-eqb (to_ascii_lowercase x) 120 h)

code_read : (close x c : ℕ) (digits rest : List ℕ) → to_ascii_lowercase x ≡ 120 → IsCode digits c → escape close (x ∷ (digits ++ 59 ∷ rest)) ≡ Ok (c ∷ [], rest)
code_read close x c digits rest lower h =
    hex_step close x (digits ++ 59 ∷ rest) lower
    ∙ (λ i. hex_end close (front-all is_hex_digit digits (59 ∷ rest) h.all refl i) (behind-all is_hex_digit digits (59 ∷ rest) h.all refl i))
    ∙ ap (λ (o : Option ℕ). letter o rest) (code_scalar digits c h)

-- a line end at the front of a text: its first character, and the text behind it
abbrev EndsLine : List ℕ → List ℕ → Type 0
EndsLine ending rest = (c : ℕ) × (cs : List ℕ) × (ending ≡ c ∷ cs) × (is_line_end c ≡ true) × (behind_line_end c (cs ++ rest) ≡ rest)

feed_kept : (rest : List ℕ) → behind_line_end 10 rest ≡ rest
feed_kept [] = refl
feed_kept (c ∷ cs) = refl

return_kept : (rest : List ℕ) → Ends (λ c. c == 10) rest → behind_line_end 13 rest ≡ rest
return_kept [] h = refl
return_kept (c ∷ cs) h = cond-false (c == 10) cs (c ∷ cs) h

line_end_read : {ending rest : List ℕ} → IsLineEnd ending rest → EndsLine ending rest
line_end_read (IsLineEnd.feed rest) = (10, [], refl, refl, feed_kept rest)
line_end_read (IsLineEnd.return_feed rest) = (13, 10 ∷ [], refl, refl, refl)
line_end_read (IsLineEnd.return rest h) = (13, [], refl, refl, return_kept rest h)

-- a character of these tells its tests
at : (c d : ℕ) (p : ℕ → Bool) → (c == d) ≡ true → p d ≡ false → p c ≡ false
at c d p e h = ap p (eqb-true c d e) ∙ h

of_line_end : (c : ℕ) (p : ℕ → Bool) → is_line_end c ≡ true → p 10 ≡ false → p 13 ≡ false → p c ≡ false
of_line_end c p h feed return = elim (or_cases (c == 10) (c == 13) h) [ inl e ↦ at c 10 p e feed | inr e ↦ at c 13 p e return ]

no_x : (c : ℕ) → (is_blank c || is_line_end c) ≡ true → (to_ascii_lowercase c == 120) ≡ false
no_x c h = elim (or_cases (is_blank c) (is_line_end c) h) [
  | inl e ↦ elim (or_cases (c == 32) (c == 9) e) [ inl f ↦ at c 32 (λ q. to_ascii_lowercase q == 120) f refl | inr f ↦ at c 9 (λ q. to_ascii_lowercase q == 120) f refl ]
  | inr e ↦ of_line_end c (λ q. to_ascii_lowercase q == 120) e refl refl
]

pub fold_step : (c : ℕ) (cs : List ℕ) → (is_blank c || is_line_end c) ≡ true → escape 34 (c ∷ cs) ≡ fold_end 34 (behind is_blank (c ∷ cs))
unfolding escape
fold_step c cs h = cond-false (to_ascii_lowercase c == 120) _ _ (no_x c h) ∙ cond-true (is_blank c || is_line_end c) _ _ h

first_step : (before : List ℕ) (e : ℕ) (es : List ℕ) → list_all is_blank before ≡ true → is_line_end e ≡ true → escape 34 (before ++ e ∷ es) ≡ fold_end 34 (behind is_blank (before ++ e ∷ es))
first_step [] e es h k = fold_step e es (or_right (is_blank e) (is_line_end e) k)
first_step (b ∷ bs) e es h k = fold_step b (bs ++ e ∷ es) (or_left (is_blank b) (is_line_end b) (and_parts (is_blank b) (list_all is_blank bs) h).0)

fold_read : (before blanks rest : List ℕ) (e : ℕ) (es : List ℕ) → list_all is_blank before ≡ true → is_line_end e ≡ true → behind_line_end e (es ++ (blanks ++ rest)) ≡ blanks ++ rest →
    list_all is_blank blanks ≡ true → Ends is_blank rest → escape 34 (before ++ e ∷ (es ++ (blanks ++ rest))) ≡ Ok ([], rest)
fold_read before blanks rest e es h k l m n =
    first_step before e (es ++ (blanks ++ rest)) h k
    ∙ ap (fold_end 34) (behind-all is_blank before (e ∷ (es ++ (blanks ++ rest))) h (of_line_end e is_blank k refl refl))
    ∙ cond-true (is_line_end e) _ _ k ∙ ap (λ (q : List ℕ). Ok ([], q)) (ap (behind is_blank) l ∙ behind-all is_blank blanks rest m n)

apart_line_end : (close e : ℕ) → close ≡ 34 → is_line_end e ≡ true → (e == close) ≡ false
apart_line_end close e str h = ap (λ (q : ℕ). e == q) str ∙ of_line_end e (λ q. q == 34) h refl refl

plain_step : (close c : ℕ) (cs : List ℕ) → (c == 92) ≡ false → (close == 34 && is_line_end c) ≡ false → element close c cs ≡ Ok (c ∷ [], cs)
unfolding element
plain_step close c cs h k = cond-false (c == 92) _ _ h ∙ cond-false (close == 34 && is_line_end c) _ _ k

line_end_step : (close c : ℕ) (cs : List ℕ) → close ≡ 34 → is_line_end c ≡ true → element close c cs ≡ Ok (10 ∷ [], behind_line_end c cs)
unfolding element
line_end_step close c cs str h = cond-false (c == 92) _ _ (of_line_end c (λ q. q == 92) h refl refl) ∙ cond-true (close == 34 && is_line_end c) _ _ (and_from (close == 34) (is_line_end c) (eq-eqb close 34 str) h)

regroup : (before ending blanks rest : List ℕ) → (before ++ (ending ++ blanks)) ++ rest ≡ before ++ (ending ++ (blanks ++ rest))
regroup before ending blanks rest = append_assoc before (ending ++ blanks) rest ∙ ap (λ (q : List ℕ). before ++ q) (append_assoc ending blanks rest)

-- an element is read as what it means
pub element_read : {close : ℕ} {one meant rest : List ℕ} → IsElement close one meant rest → (92 == close) ≡ false → Reads close one meant rest
element_read {close} (IsElement.itself c rest h) apart =
    let parts = or_parts (c == close) (c == 92 || (close == 34 && is_line_end c)) (not-true _ h) in
    let more = or_parts (c == 92) (close == 34 && is_line_end c) parts.1 in
    (c, [], refl, parts.0, plain_step close c rest more.0 more.1)
element_read {close} (IsElement.letter c m rest h) apart = (92, c ∷ [], refl, apart, escape_step close (c ∷ rest) ∙ mnemonic_read h close rest)
element_read {close} (IsElement.code x c digits rest lower h) apart = (
  92,
  x ∷ (digits ++ 59 ∷ []),
  refl,
  apart,
  escape_step close (x ∷ ((digits ++ 59 ∷ []) ++ rest)) ∙ ap (λ (q : List ℕ). escape close (x ∷ q)) (append_assoc digits (59 ∷ []) rest) ∙ code_read close x c digits rest lower h,
)
element_read {close} (IsElement.line_end ending rest str h) apart =
    let ends = line_end_read h in
    (ends.0, ends.1, ends.2, apart_line_end close ends.0 str ends.3, line_end_step close ends.0 (ends.1 ++ rest) str ends.3 ∙ ap (λ (q : List ℕ). Ok (10 ∷ [], q)) ends.4)
element_read {close} (IsElement.folded before ending blanks rest str h k l m) apart =
    let ends = line_end_read k in (
      92,
      before ++ (ending ++ blanks),
      refl,
      apart,
      escape_step close ((before ++ (ending ++ blanks)) ++ rest) ∙ ap (λ (q : ℕ). escape q ((before ++ (ending ++ blanks)) ++ rest)) str
          ∙ ap (escape 34) (regroup before ending blanks rest ∙ ap (λ (q : List ℕ). before ++ (q ++ (blanks ++ rest))) ends.2)
          ∙ fold_read before blanks rest ends.0 ends.1 h ends.3 ends.4 l m,
    )

-- ---- elements

pub elements_step : (most close c : ℕ) (cs : List ℕ) → elements (suc most) close (c ∷ cs) ≡ cond (c == close) (Ok ([], cs)) (element close c cs >>= λ first. elements most close first.1 >>= λ more. Ok (first.0 ++ more.0, more.1))
unfolding elements
elements_step most close c cs = refl

pub some_elements : {close : ℕ} {glyphs meant : List ℕ} → IsElements close glyphs meant → (92 == close) ≡ false → (c : ℕ) × (cs : List ℕ) × (glyphs ≡ c ∷ cs)
some_elements {close} IsElements.closed apart = (close, [], refl)
some_elements {close} (IsElements.next one rest meant more h k) apart =
    let read = element_read h apart in
    (read.0, read.1 ++ rest, ap (λ (q : List ℕ). q ++ rest) read.2)

before_more : {close : ℕ} {one rest meant more : List ℕ} → IsElement close one meant rest → IsElements close rest more → (92 == close) ≡ false → (behind : List ℕ) → IsElement close one meant (rest ++ behind)
before_more {close} {one} {rest} {meant} h k apart behind =
    let some = some_elements k apart in
    subst (λ (q : List ℕ). IsElement close one meant (q ++ behind)) (sym some.2)
    (element_frame (subst (IsElement close one meant) some.2 h) (some.0 ∷ (some.1 ++ behind)) (like_first some.0 some.1 (some.1 ++ behind)))

next_read : (most close : ℕ) (one meant behind more after : List ℕ) → Reads close one meant behind → elements most close behind ≡ Ok (more, after) → elements (suc most) close (one ++ behind) ≡ Ok (meant ++ more, after)
next_read most close one meant behind more after h e =
    ap (λ (q : List ℕ). elements (suc most) close (q ++ behind)) h.2 ∙ elements_step most close h.0 (h.1 ++ behind) ∙ cond-false (h.0 == close) _ _ h.3
    ∙ ap (λ (r : Result (List ℕ × List ℕ) Fault). r >>= λ first. elements most close first.1 >>= λ more. Ok (first.0 ++ more.0, more.1)) h.4
    ∙ ap (λ (r : Result (List ℕ × List ℕ) Fault). r >>= λ more. Ok (meant ++ more.0, more.1)) e

-- elements are read as what they mean, whatever follows the mark that closes
pub elements_read : {close : ℕ} {glyphs meant : List ℕ} → IsElements close glyphs meant → (92 == close) ≡ false → (most : ℕ) (after : List ℕ) → length glyphs ≤ most → elements most close (glyphs ++ after) ≡ Ok (meant, after)
elements_read {close} IsElements.closed apart zero after h = absurd (omega arith)
elements_read {close} IsElements.closed apart (suc most) after h = elements_step most close close after ∙ cond-true (close == close) _ _ (eq-eqb close close refl)
elements_read {close} (IsElements.next one rest meant more h k) apart zero after bound =
    let read = element_read h apart in
    absurd (omega (arith, ap length read.2, length-append one rest))
elements_read {close} (IsElements.next one rest meant more h k) apart (suc most) after bound =
    let read = element_read h apart in
    ap (elements (suc most) close) (append_assoc one rest after)
    ∙ next_read most close one meant (rest ++ after) more after (element_read (before_more h k apart after) apart)
    (elements_read k apart most after (omega (arith, ap length read.2, length-append one rest)))
