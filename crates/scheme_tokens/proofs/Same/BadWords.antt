-- Where a word that is no token stops.
use Rattle.std.proofs.Common.{◌≡◌, ℕ, ◌<◌, ◌+◌, List, [], ◌∷◌, ◌++◌, Result, Ok, Err, Bool, true, false, cond, refl, sym, ap, ◌∙◌, subst, append_assoc, append-nil, map, arith, inl, inr, ◌==◌, ◌&&◌, ◌||◌}
use Rattle.std.specs.Prelude.{codes, nat_lt}
use Rattle.std.specs.List.{list_all}
use Rattle.std.specs.Char.{to_ascii_lowercase, is_ascii_digit, is_whitespace}
use Rattle.std.proofs.lemmas.Bool.{cond-false, cond_both, or_cases, or_parts, or_left, or_right, or_from, and_parts, and_from, and_left, false_from_ne_true}
use Rattle.scheme_tokens.specs.Lexical.{is_one_of, is_sign, is_initial, is_subsequent, is_sign_subsequent, is_dot_subsequent, is_delimiter, Ends, IsWord, Spells, is_inside, TokenKind, Dot, Atomic, Name, Numeral, IsBare, IsNumeral, IsToken}
use Rattle.scheme_tokens.specs.Faults.{Fault, bad_token}
use Rattle.scheme_tokens.specs.Stopping.{because, refused, begins_bar}
use Rattle.scheme_tokens.specs.Mirror.Words.{word_of, behind_word, is_text, is_numeral, is_identifier}
use Rattle.scheme_tokens.specs.Mirror.Tokens.{token, word_token, word_kind, before}
use Rattle.scheme_tokens.proofs.Same.Words.{text_is, test_numeral, numeral_test, identifier_bare, bare_identifier}
use Rattle.scheme_tokens.proofs.Same.TokensRead.{word_read}
use Rattle.scheme_tokens.proofs.Same.Tokens.{lower_small, a_word}
use Rattle.scheme_tokens.proofs.Fronts.{front-behind, front_of-cons}
use Rattle.scheme_tokens.proofs.Same.Scanned.{cons_head, cons_tail, cons_none, two_fronts, list_all_front, list_all_both, front_more, behind_more, scan_from, Goes, Halts, Refused}

not_both : (b : Bool) → b ≡ true → b ≡ false → ⊥
not_both b h k = cc

-- a word that is a token, and one that is or is one with a digit behind it
abbrev is_good : List ℕ → Bool
is_good w = is_numeral w || (is_identifier w || is_text w (codes "."))

abbrev is_viable : List ℕ → Bool
is_viable w = is_good w || is_good (w ++ 48 ∷ [])

bare_good : {w : List ℕ} → IsBare w → is_viable w ≡ true
bare_good {w} h = or_left (is_good w) _ (or_right (is_numeral w) _ (or_left (is_identifier w) _ (bare_identifier h)))

numeral_good : {w : List ℕ} → IsNumeral w → is_viable w ≡ true
numeral_good {w} h = or_left (is_good w) _ (or_left (is_numeral w) _ (numeral_test h))

point_viable : (s : ℕ) → is_sign s ≡ true → is_viable (s ∷ 46 ∷ []) ≡ true
point_viable s h = or_right (is_good (s ∷ 46 ∷ [])) _ (or_left (is_numeral (s ∷ 46 ∷ 48 ∷ [])) _ (numeral_test (IsNumeral.signed_point s 48 [] h refl)))

dot_viable : is_viable (46 ∷ []) ≡ true
dot_viable = or_left (is_good (46 ∷ [])) _ (or_right (is_numeral (46 ∷ [])) _ (or_right (is_identifier (46 ∷ [])) _ refl))

none_viable : is_viable [] ≡ true
none_viable = or_right (is_good []) _ (or_left (is_numeral (48 ∷ [])) _ (numeral_test (IsNumeral.digit 48 [] refl)))

-- ---- each front of a token's word is viable

-- behind a sign
sign_front : (s d : ℕ) (us rest y : List ℕ) → is_sign s ≡ true → ((b : ℕ) (bs : List ℕ) → rest ≡ b ∷ (bs ++ y) → is_viable (s ∷ b ∷ bs) ≡ true) → s ∷ rest ≡ d ∷ (us ++ y) → is_viable (d ∷ us) ≡ true
sign_front s d [] rest y h more e = subst (λ (q : ℕ). is_viable (q ∷ []) ≡ true) (cons_head s d rest y e) (bare_good (IsBare.sign s h))
sign_front s d (b ∷ bs) rest y h more e = subst (λ (q : ℕ). is_viable (q ∷ b ∷ bs) ≡ true) (cons_head s d rest (b ∷ (bs ++ y)) e) (more b bs (cons_tail s d rest (b ∷ (bs ++ y)) e))

-- behind a sign and a dot, and behind a dot
signed_dot_front : (s c : ℕ) (bs cs y : List ℕ) → is_sign s ≡ true → is_dot_subsequent c ≡ true → list_all is_subsequent cs ≡ true → c ∷ cs ≡ bs ++ y → is_viable (s ∷ 46 ∷ bs) ≡ true
signed_dot_front s c [] cs y h k l e = point_viable s h
signed_dot_front s c (b ∷ bs) cs y h k l e =
    bare_good (IsBare.signed_dot s b bs h (ap is_dot_subsequent (sym (cons_head c b cs (bs ++ y) e)) ∙ k) (list_all_front is_subsequent bs y (ap (list_all is_subsequent) (sym (cons_tail c b cs (bs ++ y) e)) ∙ l)))

dot_front : (c : ℕ) (us cs y : List ℕ) → is_dot_subsequent c ≡ true → list_all is_subsequent cs ≡ true → c ∷ cs ≡ us ++ y → is_viable (46 ∷ us) ≡ true
dot_front c [] cs y h k e = dot_viable
dot_front c (b ∷ bs) cs y h k e =
    bare_good (IsBare.dot b bs (ap is_dot_subsequent (sym (cons_head c b cs (bs ++ y) e)) ∙ h) (list_all_front is_subsequent bs y (ap (list_all is_subsequent) (sym (cons_tail c b cs (bs ++ y) e)) ∙ k)))

-- a front of identifiers
bare_viable : {w : List ℕ} → IsBare w → (d : ℕ) (us y : List ℕ) → w ≡ d ∷ (us ++ y) → is_viable (d ∷ us) ≡ true
bare_viable (IsBare.ordinary c cs h k) d us y e =
    bare_good (IsBare.ordinary d us (ap is_initial (sym (cons_head c d cs (us ++ y) e)) ∙ h) (list_all_front is_subsequent us y (ap (list_all is_subsequent) (sym (cons_tail c d cs (us ++ y) e)) ∙ k)))
bare_viable (IsBare.sign s h) d us y e = sign_front s d us [] y h (λ c cs f. absurd (cons_none c (cs ++ y) (sym f))) e
bare_viable (IsBare.signed s c cs h k l) d us y e =
    sign_front s d us (c ∷ cs) y h (λ b bs f. bare_good (IsBare.signed s b bs h (ap is_sign_subsequent (sym (cons_head c b cs (bs ++ y) f)) ∙ k) (list_all_front is_subsequent bs y (ap (list_all is_subsequent) (sym (cons_tail c b cs (bs ++ y) f)) ∙ l)))) e
bare_viable (IsBare.signed_dot s c cs h k l) d us y e =
    sign_front s d us (46 ∷ c ∷ cs) y h (λ b bs f. subst (λ (q : ℕ). is_viable (s ∷ q ∷ bs) ≡ true) (cons_head 46 b (c ∷ cs) (bs ++ y) f) (signed_dot_front s c bs cs y h k l (cons_tail 46 b (c ∷ cs) (bs ++ y) f))) e
bare_viable (IsBare.dot c cs h k) d us y e = subst (λ (q : ℕ). is_viable (q ∷ us) ≡ true) (cons_head 46 d (c ∷ cs) (us ++ y) e) (dot_front c us cs y h k (cons_tail 46 d (c ∷ cs) (us ++ y) e))

-- a front of a numeral: behind a sign and a dot, and behind a dot
digit_point_front : (s c : ℕ) (bs cs y : List ℕ) → is_sign s ≡ true → is_ascii_digit c ≡ true → c ∷ cs ≡ bs ++ y → is_viable (s ∷ 46 ∷ bs) ≡ true
digit_point_front s c [] cs y h k e = point_viable s h
digit_point_front s c (b ∷ bs) cs y h k e = numeral_good (IsNumeral.signed_point s b bs h (ap is_ascii_digit (sym (cons_head c b cs (bs ++ y) e)) ∙ k))

point_front : (c : ℕ) (us cs y : List ℕ) → is_ascii_digit c ≡ true → c ∷ cs ≡ us ++ y → is_viable (46 ∷ us) ≡ true
point_front c [] cs y h e = dot_viable
point_front c (b ∷ bs) cs y h e = numeral_good (IsNumeral.point b bs (ap is_ascii_digit (sym (cons_head c b cs (bs ++ y) e)) ∙ h))

-- a letter in either case
letter_passes : (p : ℕ → Bool) (l u : ℕ) → u + 32 ≡ l → p l ≡ true → p u ≡ true → (c : ℕ) → to_ascii_lowercase c ≡ l → p c ≡ true
letter_passes p l u two low big c =
    cond_both (nat_lt c 65) _ _ (λ (v : ℕ). v ≡ l → p c ≡ true) (λ _ e. ap p e ∙ low)
    (λ _. cond_both (nat_lt c 91) _ _ (λ (v : ℕ). v ≡ l → p c ≡ true) (λ _ e. let same : c ≡ u = omega arith in ap p same ∙ big) (λ _ e. ap p e ∙ low))

small_passes : (p : ℕ → Bool) (l : ℕ) → l < 65 → p l ≡ true → (c : ℕ) → to_ascii_lowercase c ≡ l → p c ≡ true
small_passes p l small h c e = ap p (lower_small c l small e) ∙ h

-- a test holds of these letters in either case
abbrev Keeps : (ℕ → Bool) → List ℕ → Type 0
Keeps p [] = Unit {0}
Keeps p (l ∷ ls) = ((c : ℕ) → to_ascii_lowercase c ≡ l → p c ≡ true) × Keeps p ls

kept : (p : ℕ → Bool) (ls cs : List ℕ) → Keeps p ls → Spells ls cs → list_all p cs ≡ true
kept p [] [] h e = refl
kept p [] (c ∷ cs) h e = cc
kept p (l ∷ ls) [] h e = cc
kept p (l ∷ ls) (c ∷ cs) h e =
    and_from (p c) (list_all p cs) (h.0 c (cons_head (to_ascii_lowercase c) l (map to_ascii_lowercase cs) ls e)) (kept p ls cs h.1 (cons_tail (to_ascii_lowercase c) l (map to_ascii_lowercase cs) ls e))

letter_i : (c : ℕ) → to_ascii_lowercase c ≡ 105 → is_initial c ≡ true
unfolding is_initial
letter_i = letter_passes is_initial 105 73 refl refl refl

letter_n : (c : ℕ) → to_ascii_lowercase c ≡ 110 → is_initial c ≡ true
unfolding is_initial
letter_n = letter_passes is_initial 110 78 refl refl refl

infinite_kept : Keeps is_subsequent (codes "nf.0")
unfolding is_subsequent is_initial
infinite_kept = (letter_passes is_subsequent 110 78 refl refl refl, (letter_passes is_subsequent 102 70 refl refl refl, (small_passes is_subsequent 46 (omega arith) refl, (small_passes is_subsequent 48 (omega arith) refl, tt))))

no_number_kept : Keeps is_subsequent (codes "an.0")
unfolding is_subsequent is_initial
no_number_kept = (letter_passes is_subsequent 97 65 refl refl refl, (letter_passes is_subsequent 110 78 refl refl refl, (small_passes is_subsequent 46 (omega arith) refl, (small_passes is_subsequent 48 (omega arith) refl, tt))))

-- a front of letters behind a sign
spelled_front : (s l : ℕ) (ls us z cs : List ℕ) → is_sign s ≡ true → ((c : ℕ) → to_ascii_lowercase c ≡ l → is_initial c ≡ true) → Keeps is_subsequent ls → Spells (l ∷ ls) cs → cs ≡ us ++ z → is_viable (s ∷ us) ≡ true
spelled_front s l ls [] z cs h first more e f = bare_good (IsBare.sign s h)
spelled_front s l ls (b ∷ bs) z cs h first more e f =
    let spelled = ap (map to_ascii_lowercase) (sym f) ∙ e in
    bare_good (IsBare.signed s b bs h (or_left (is_initial b) _ (first b (cons_head (to_ascii_lowercase b) l (map to_ascii_lowercase (bs ++ z)) ls spelled)))
    (list_all_front is_subsequent bs z (kept is_subsequent ls (bs ++ z) more (cons_tail (to_ascii_lowercase b) l (map to_ascii_lowercase (bs ++ z)) ls spelled))))

longer_front : (s d : ℕ) (us cs more y : List ℕ) → ((z : List ℕ) → cs ≡ us ++ z → is_viable (s ∷ us) ≡ true) → ((z : List ℕ) → IsNumeral (s ∷ (cs ++ z))) → s ∷ (cs ++ more) ≡ d ∷ (us ++ y) → is_viable (d ∷ us) ≡ true
longer_front s d us cs more y short long e =
    subst (λ (q : ℕ). is_viable (q ∷ us) ≡ true) (cons_head s d (cs ++ more) (us ++ y) e) (elim (two_fronts cs more us y (cons_tail s d (cs ++ more) (us ++ y) e)) [
      | inl h ↦ short h.0 h.1
      | inr h ↦ subst (λ (q : List ℕ). is_viable (s ∷ q) ≡ true) (sym h.1) (numeral_good (long h.0))
    ])

no_hash : (c d : ℕ) → c ≡ d → (d == 35) ≡ false → c ≡ 35 → ⊥
no_hash c d e h f = not_both (d == 35) (ap (λ (q : ℕ). q == 35) (sym e ∙ f)) h

numeral_viable : {w : List ℕ} → IsNumeral w → (d : ℕ) (us y : List ℕ) → (d == 35) ≡ false → w ≡ d ∷ (us ++ y) → is_viable (d ∷ us) ≡ true
numeral_viable (IsNumeral.digit c cs h) d us y apart e = numeral_good (IsNumeral.digit d us (ap is_ascii_digit (sym (cons_head c d cs (us ++ y) e)) ∙ h))
numeral_viable (IsNumeral.point c cs h) d us y apart e = subst (λ (q : ℕ). is_viable (q ∷ us) ≡ true) (cons_head 46 d (c ∷ cs) (us ++ y) e) (point_front c us cs y h (cons_tail 46 d (c ∷ cs) (us ++ y) e))
numeral_viable (IsNumeral.signed s c cs h k) d us y apart e =
    sign_front s d us (c ∷ cs) y h (λ b bs f. numeral_good (IsNumeral.signed s b bs h (ap is_ascii_digit (sym (cons_head c b cs (bs ++ y) f)) ∙ k))) e
numeral_viable (IsNumeral.signed_point s c cs h k) d us y apart e =
    sign_front s d us (46 ∷ c ∷ cs) y h (λ b bs f. subst (λ (q : ℕ). is_viable (s ∷ q ∷ bs) ≡ true) (cons_head 46 b (c ∷ cs) (bs ++ y) f) (digit_point_front s c bs cs y h k (cons_tail 46 b (c ∷ cs) (bs ++ y) f))) e
numeral_viable (IsNumeral.prefixed c cs h) d us y apart e = absurd (no_hash 35 d (cons_head 35 d (c ∷ cs) (us ++ y) e) apart refl)
numeral_viable (IsNumeral.infinite s cs more h k) d us y apart e =
    longer_front s d us cs more y (λ z f. spelled_front s 105 (codes "nf.0") us z cs h letter_i infinite_kept k f) (λ z. IsNumeral.infinite s cs z h k) e
numeral_viable (IsNumeral.no_number s cs more h k) d us y apart e =
    longer_front s d us cs more y (λ z f. spelled_front s 110 (codes "an.0") us z cs h letter_n no_number_kept k f) (λ z. IsNumeral.no_number s cs z h k) e
numeral_viable (IsNumeral.imaginary s cs h k) d us y apart e =
    subst (λ (q : ℕ). is_viable (q ∷ us) ≡ true) (cons_head s d cs (us ++ y) e) (spelled_front s 105 [] us y cs h letter_i tt k (cons_tail s d cs (us ++ y) e))

dot_end : (us y : List ℕ) → us ++ y ≡ [] → is_viable (46 ∷ us) ≡ true
dot_end [] y e = dot_viable
dot_end (b ∷ bs) y e = absurd (cons_none b (bs ++ y) e)

dot_only : (d : ℕ) (us y : List ℕ) → d ∷ (us ++ y) ≡ codes "." → is_viable (d ∷ us) ≡ true
dot_only d us y e = subst (λ (q : ℕ). is_viable (q ∷ us) ≡ true) (sym (cons_head d 46 (us ++ y) [] e)) (dot_end us y (cons_tail d 46 (us ++ y) [] e))

-- a front of a good word is viable
front_viable : (d : ℕ) (us y : List ℕ) → (d == 35) ≡ false → is_good (d ∷ (us ++ y)) ≡ true → is_viable (d ∷ us) ≡ true
front_viable d us y apart h = elim (or_cases (is_numeral (d ∷ (us ++ y))) _ h) [
  | inl e ↦ numeral_viable (test_numeral (d ∷ (us ++ y)) e) d us y apart refl
  | inr e ↦ elim (or_cases (is_identifier (d ∷ (us ++ y))) _ e) [
    | inl f ↦ bare_viable (identifier_bare (d ∷ (us ++ y)) f) d us y refl
    | inr f ↦ dot_only d us y (text_is (d ∷ (us ++ y)) (codes ".") f)
  ]
]

-- ---- what is read of good words and bad ones

numeral_when : (w : List ℕ) (numeral : Bool) → is_numeral w ≡ numeral → is_identifier w ≡ true → IsWord w [] → (k : TokenKind) × IsToken k w []
numeral_when w true e h i = (Atomic (Numeral w), (refl, test_numeral w e, i))
numeral_when w false e h i = (Atomic (Name w false), (refl, identifier_bare w h, (λ n. not_both (is_numeral w) (numeral_test n) e), i))

good_token : (w : List ℕ) → is_good w ≡ true → IsWord w [] → (k : TokenKind) × IsToken k w []
good_token w h i = elim (or_cases (is_numeral w) _ h) [
  | inl e ↦ (Atomic (Numeral w), (refl, test_numeral w e, i))
  | inr e ↦ elim (or_cases (is_identifier w) _ e) [
    | inl f ↦ numeral_when w (is_numeral w) refl f i
    | inr f ↦ (Dot, (text_is w (codes ".") f, tt))
  ]
]

digit_inside : is_inside 48 ≡ true
unfolding is_delimiter
digit_inside = refl

viable_goes : (w : List ℕ) → is_viable w ≡ true → list_all is_inside w ≡ true → Goes w
viable_goes w h i = elim (or_cases (is_good w) (is_good (w ++ 48 ∷ [])) h) [
  | inl e ↦ (let t = good_token w e (i, tt) in inr ([], t.0, subst (λ (q : List ℕ). IsToken t.0 q []) (sym (append-nil w)) t.1))
  | inr e ↦ (let t = good_token (w ++ 48 ∷ []) e (list_all_both is_inside w (48 ∷ []) i (and_from (is_inside 48) true digit_inside refl), tt) in inr (48 ∷ [], t.0, t.1))
]

bad_kind : (w : List ℕ) → is_good w ≡ false → word_kind w ≡ Err bad_token
unfolding word_kind
bad_kind w h =
    let parts = or_parts (is_numeral w) (is_identifier w || is_text w (codes ".")) h in
    let more = or_parts (is_identifier w) (is_text w (codes ".")) parts.1 in
    cond-false (is_numeral w) _ _ parts.0 ∙ cond-false (is_identifier w) _ _ more.0 ∙ cond-false (is_text w (codes ".")) _ _ more.1

-- ---- bad words

-- a character that begins a word
pub record BeginsWord (c : ℕ) : Type 0 where
  pub open_paren : (c == 40) ≡ false
  pub close_paren : (c == 41) ≡ false
  pub quote : (c == 39) ≡ false
  pub quasi : (c == 96) ≡ false
  pub unquote : (c == 44) ≡ false
  pub string : (c == 34) ≡ false
  pub bar : (c == 124) ≡ false
  pub hash : (c == 35) ≡ false

pub word_step : (c : ℕ) (cs : List ℕ) → BeginsWord c → token (c ∷ cs) ≡ word_token (c ∷ cs)
unfolding token
word_step c cs h =
    cond-false (c == 40) _ _ h.open_paren ∙ cond-false (c == 41) _ _ h.close_paren ∙ cond-false (c == 39) _ _ h.quote ∙ cond-false (c == 96) _ _ h.quasi
    ∙ cond-false (c == 44) _ _ h.unquote ∙ cond-false (c == 34) _ _ h.string ∙ cond-false (c == 124) _ _ h.bar ∙ cond-false (c == 35) _ _ h.hash

-- what begins with characters that aren't viable is no token
not_viable : (d : ℕ) (us x : List ℕ) → BeginsWord d → list_all is_inside (d ∷ us) ≡ true → is_viable (d ∷ us) ≡ false → token (d ∷ us ++ x) ≡ Err bad_token
not_viable d us x begins inside h =
    word_step d (us ++ x) begins
    ∙ (λ i. before (behind_more is_inside (d ∷ us) x inside i) (word_kind (front_more is_inside (d ∷ us) x inside i)))
    ∙ ap (before (behind_word x)) (bad_kind (d ∷ us ++ word_of x) (false_from_ne_true (is_good (d ∷ us ++ word_of x)) (λ e. not_both (is_viable (d ∷ us)) (front_viable d us (word_of x) begins.hash e) h)))

-- nor is a bad word before what delimits it
word_halts : (c : ℕ) (w rest : List ℕ) → BeginsWord c → list_all is_inside (c ∷ w) ≡ true → Ends is_inside rest → is_good (c ∷ w) ≡ false → Halts (c ∷ w) rest
word_halts c w [] begins inside ends bad = tt
word_halts c w (r ∷ rs) begins inside ends bad = λ x. (bad_token, word_step c (w ++ r ∷ x) begins ∙ word_read (c ∷ w) (r ∷ x) (inside, ends) ∙ ap (before (r ∷ x)) (bad_kind (c ∷ w) bad))

refused_one : (c r : ℕ) → (c == 35) ≡ false → bad_token ≡ refused (c ∷ []) r
refused_one c r h = sym (cond-false (c == 35 && r == 33) _ _ (and_left (c == 35) (r == 33) h) ∙ cond-false (c == 35 && is_ascii_digit r) _ _ (and_left (c == 35) (is_ascii_digit r) h))

word_why : (c : ℕ) (w rest : List ℕ) → BeginsWord c → bad_token ≡ because (c ∷ w) rest
word_why c w [] begins = sym (cond-false (c == 34) _ _ begins.string ∙ cond-false (c == 124) _ _ begins.bar ∙ cond-false (c == 35 && begins_bar w) _ _ (and_left (c == 35) (begins_bar w) begins.hash))
word_why c [] (r ∷ rs) begins = refused_one c r begins.hash
word_why c (d ∷ ds) (r ∷ rs) begins = refl

pub starts_inside : (c : ℕ) → BeginsWord c → is_whitespace c ≡ false → (c == 59) ≡ false → is_inside c ≡ true
unfolding is_delimiter
starts_inside c h white semicolon =
    ap (λ (b : Bool). cond b false true) (or_from (is_whitespace c) (c == 34 || is_one_of (codes "|();") c) white (or_from (c == 34) (is_one_of (codes "|();") c) h.string (or_from (c == 124) _ h.bar (or_from (c == 40) _ h.open_paren (or_from (c == 41) _ h.close_paren (or_from (c == 59) false semicolon refl))))))

split_refused : (c : ℕ) (w rest front : List ℕ) (e : ℕ) (more : List ℕ) → BeginsWord c → list_all is_inside (c ∷ w) ≡ true → c ∷ w ≡ front ++ e ∷ more → is_viable front ≡ true → is_viable (front ++ e ∷ []) ≡ false → Refused bad_token (c ∷ w ++ rest)
split_refused c w rest [] e more begins inside whole v bad =
    let same = cons_head c e w more whole in
    record {
      begun = [];
      behind = c ∷ w ++ rest;
      whole = refl;
      goes = inl refl;
      halts = λ x. (bad_token, not_viable c [] x begins (and_from (is_inside c) true (and_parts (is_inside c) (list_all is_inside w) inside).0 refl) (ap (λ (q : ℕ). is_viable (q ∷ [])) same ∙ bad));
      why = refl;
      no_hash = begins.hash;
    }
split_refused c w rest (f ∷ fs) e more begins inside whole v bad =
    let same = cons_head c f w (fs ++ e ∷ more) whole in
    let begins_f = subst BeginsWord same begins in
    let all = ap (list_all is_inside) (sym whole) ∙ inside in
    record {
      begun = f ∷ fs;
      behind = e ∷ (more ++ rest);
      whole = ap (λ (q : List ℕ). q ++ rest) whole ∙ append_assoc (f ∷ fs) (e ∷ more) rest;
      goes = viable_goes (f ∷ fs) v (list_all_front is_inside (f ∷ fs) (e ∷ more) all);
      halts = λ x. (
        bad_token,
        ap token (sym (append_assoc (f ∷ fs) (e ∷ []) x))
            ∙ not_viable f (fs ++ e ∷ []) x begins_f (list_all_front is_inside (f ∷ fs ++ e ∷ []) more (ap (list_all is_inside) (append_assoc (f ∷ fs) (e ∷ []) more) ∙ all)) bad,
      );
      why = word_why f fs (e ∷ (more ++ rest)) begins_f;
      no_hash = tt;
    }

-- a bad word is refused
bad_refused : (c : ℕ) (w rest : List ℕ) → BeginsWord c → IsWord (c ∷ w) rest → is_good (c ∷ w) ≡ false → Refused bad_token (c ∷ w ++ rest)
bad_refused c w rest begins word bad = elim (scan_from is_viable [] (c ∷ w) none_viable) [
  | inl v ↦ record {
    begun = c ∷ w;
    behind = rest;
    whole = refl;
    goes = viable_goes (c ∷ w) v word.0;
    halts = word_halts c w rest begins word.0 word.1 bad;
    why = word_why c w rest begins;
    no_hash = tt;
  }
  | inr h ↦ split_refused c w rest h.0 h.1 h.2 begins word.0 h.3 h.4 h.5
]

-- a word token is one, or is refused
abbrev pub OrRefused : List ℕ → Result (TokenKind × List ℕ) Fault → Type 0
OrRefused text (Ok t) = Unit {0}
OrRefused text (Err f) = Refused f text

good_when : (w : List ℕ) (numeral identifier dot : Bool) → (numeral || (identifier || dot)) ≡ true → (k : TokenKind) × (cond numeral (Ok (Atomic (Numeral w))) (cond identifier (Ok (Atomic (Name w false))) (cond dot (Ok Dot) (Err bad_token))) ≡ Ok k)
good_when w true identifier dot h = (Atomic (Numeral w), refl)
good_when w false true dot h = (Atomic (Name w false), refl)
good_when w false false true h = (Dot, refl)
good_when w false false false h = cc

good_kind : (w : List ℕ) → is_good w ≡ true → (k : TokenKind) × (word_kind w ≡ Ok k)
unfolding word_kind
good_kind w h = good_when w (is_numeral w) (is_identifier w) (is_text w (codes ".")) h

word_when : (c : ℕ) (w rest : List ℕ) (good : Bool) → BeginsWord c → IsWord (c ∷ w) rest → is_good (c ∷ w) ≡ good → OrRefused (c ∷ w ++ rest) (before rest (word_kind (c ∷ w)))
word_when c w rest true begins word e =
    let k = good_kind (c ∷ w) e in
    subst (OrRefused (c ∷ w ++ rest)) (sym (ap (before rest) k.1)) tt
word_when c w rest false begins word e = subst (OrRefused (c ∷ w ++ rest)) (sym (ap (before rest) (bad_kind (c ∷ w) e))) (bad_refused c w rest begins word e)

pub word_refused : (c : ℕ) (cs : List ℕ) → BeginsWord c → is_whitespace c ≡ false → (c == 59) ≡ false → OrRefused (c ∷ cs) (word_token (c ∷ cs))
word_refused c cs begins white semicolon =
    let inside = starts_inside c begins white semicolon in
    let word = front_of-cons is_inside c cs inside in
    let rest = behind_word (c ∷ cs) in
    let split = ap (λ (q : List ℕ). q ++ rest) (sym word) ∙ front-behind is_inside (c ∷ cs) in
    subst (λ (q : List ℕ). OrRefused q (before rest (word_kind (word_of (c ∷ cs))))) split
    (subst (λ (q : List ℕ). OrRefused (c ∷ word_of cs ++ rest) (before rest (word_kind q))) (sym word)
    (word_when c (word_of cs) rest (is_good (c ∷ word_of cs)) begins (subst (λ (q : List ℕ). IsWord q rest) word (a_word (c ∷ cs))) refl))
