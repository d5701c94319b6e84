-- The code's tests of words are the grammar's identifiers, numerals, booleans and names of characters.
use Rattle.std.proofs.Common.{◌≡◌, ℕ, List, [], ◌∷◌, ◌++◌, Option, Some, None, Bool, true, false, cond, refl, sym, ap, ◌∙◌, subst, map, ◌==◌, ◌&&◌, inl, inr}
use Rattle.std.specs.Prelude.{codes}
use Rattle.std.specs.List.{list_all}
use Rattle.std.specs.Char.{to_ascii_lowercase, is_ascii_digit}
use Rattle.std.proofs.lemmas.Bool.{cond-true, cond-false, cond_both, or_cases, or_left, or_right, and_parts, and_from, eqb-true, eq-eqb, false_from_ne_true}
use Rattle.scheme_tokens.specs.Lexical.{is_sign, is_initial, is_subsequent, is_sign_subsequent, is_dot_subsequent, Spells, IsBare, IsNumeral, IsCharacterName}
use Rattle.scheme_tokens.specs.Mirror.Words.{is_text, begins_with, spells, starts_digit, starts_fraction, is_signed, starts_prefix, is_numeral, goes_on_dot, goes_on_sign, is_identifier}
use Rattle.scheme_tokens.specs.Mirror.Tokens.{named}

not_both : (b : Bool) → b ≡ true → b ≡ false → ⊥
not_both b h k = cc

-- a character that passes a test is none that doesn't
pub is_no : (p : ℕ → Bool) (c d : ℕ) → p c ≡ true → p d ≡ false → (c == d) ≡ false
is_no p c d h k = false_from_ne_true (c == d) (λ e. not_both (p c) h (ap p (eqb-true c d e) ∙ k))

pub is_no_sign : (p : ℕ → Bool) (c : ℕ) → p c ≡ true → p 43 ≡ false → p 45 ≡ false → is_sign c ≡ false
is_no_sign p c h plus minus = false_from_ne_true (is_sign c) (λ e. elim (or_cases (c == 43) (c == 45) e) [
  | inl f ↦ not_both (p c) h (ap p (eqb-true c 43 f) ∙ plus)
  | inr f ↦ not_both (p c) h (ap p (eqb-true c 45 f) ∙ minus)
])

-- ---- the same characters, and letters in either case

pub text_is : (cs ds : List ℕ) → is_text cs ds ≡ true → cs ≡ ds
text_is [] [] h = refl
text_is [] (d ∷ ds) h = cc
text_is (c ∷ cs) [] h = cc
text_is (c ∷ cs) (d ∷ ds) h =
    let parts = and_parts (c == d) (is_text cs ds) h in
    (λ i. eqb-true c d parts.0 i ∷ text_is cs ds parts.1 i)

pub is_text_same : (cs : List ℕ) → is_text cs cs ≡ true
is_text_same [] = refl
is_text_same (c ∷ cs) = and_from (c == c) (is_text cs cs) (eq-eqb c c refl) (is_text_same cs)

pub spells_is : (ds cs : List ℕ) → spells ds cs ≡ true → Spells ds cs
spells_is [] [] h = refl
spells_is [] (c ∷ cs) h = cc
spells_is (d ∷ ds) [] h = cc
spells_is (d ∷ ds) (c ∷ cs) h =
    let parts = and_parts (to_ascii_lowercase c == d) (spells ds cs) h in
    (λ i. eqb-true (to_ascii_lowercase c) d parts.0 i ∷ spells_is ds cs parts.1 i)

spelled_same : (cs : List ℕ) → spells (map to_ascii_lowercase cs) cs ≡ true
spelled_same [] = refl
spelled_same (c ∷ cs) = and_from (to_ascii_lowercase c == to_ascii_lowercase c) _ (eq-eqb (to_ascii_lowercase c) (to_ascii_lowercase c) refl) (spelled_same cs)

pub is_spelled : (ds cs : List ℕ) → Spells ds cs → spells ds cs ≡ true
is_spelled ds cs h = ap (λ (q : List ℕ). spells q cs) (sym h) ∙ spelled_same cs

begun : (ds cs : List ℕ) → begins_with ds cs ≡ true → (front : List ℕ) × (more : List ℕ) × (cs ≡ front ++ more) × Spells ds front
begun [] cs h = ([], cs, refl, refl)
begun (d ∷ ds) [] h = cc
begun (d ∷ ds) (c ∷ cs) h =
    let parts = and_parts (to_ascii_lowercase c == d) (begins_with ds cs) h in
    let more = begun ds cs parts.1 in
    (c ∷ more.0, more.1, ap (λ (q : List ℕ). c ∷ q) more.2, (λ i. eqb-true (to_ascii_lowercase c) d parts.0 i ∷ more.3 i))

begins_same : (front more : List ℕ) → begins_with (map to_ascii_lowercase front) (front ++ more) ≡ true
begins_same [] more = refl
begins_same (c ∷ cs) more = and_from (to_ascii_lowercase c == to_ascii_lowercase c) _ (eq-eqb (to_ascii_lowercase c) (to_ascii_lowercase c) refl) (begins_same cs more)

begins : (ds front more : List ℕ) → Spells ds front → begins_with ds (front ++ more) ≡ true
begins ds front more h = ap (λ (q : List ℕ). begins_with q (front ++ more)) (sym h) ∙ begins_same front more

-- ---- identifiers

dot_when : (c : ℕ) (cs : List ℕ) → (c == 46) ≡ true → goes_on_dot cs ≡ true → IsBare (c ∷ cs)
dot_when c [] e h = cc
dot_when c (d ∷ ds) e h =
    let parts = and_parts (is_dot_subsequent d) (list_all is_subsequent ds) h in
    subst (λ (q : ℕ). IsBare (q ∷ d ∷ ds)) (sym (eqb-true c 46 e)) (IsBare.dot d ds parts.0 parts.1)

sign_dot_when : (s c : ℕ) (cs : List ℕ) → is_sign s ≡ true → (c == 46) ≡ true → goes_on_dot cs ≡ true → IsBare (s ∷ c ∷ cs)
sign_dot_when s c [] k e h = cc
sign_dot_when s c (d ∷ ds) k e h =
    let parts = and_parts (is_dot_subsequent d) (list_all is_subsequent ds) h in
    subst (λ (q : ℕ). IsBare (s ∷ q ∷ d ∷ ds)) (sym (eqb-true c 46 e)) (IsBare.signed_dot s d ds k parts.0 parts.1)

signed_when : (s c : ℕ) (cs : List ℕ) (dot : Bool) → is_sign s ≡ true → (c == 46) ≡ dot → cond dot (goes_on_dot cs) (is_sign_subsequent c && list_all is_subsequent cs) ≡ true → IsBare (s ∷ c ∷ cs)
signed_when s c cs true k e h = sign_dot_when s c cs k e h
signed_when s c cs false k e h =
    let parts = and_parts (is_sign_subsequent c) (list_all is_subsequent cs) h in
    IsBare.signed s c cs k parts.0 parts.1

sign_when : (s : ℕ) (cs : List ℕ) → is_sign s ≡ true → goes_on_sign cs ≡ true → IsBare (s ∷ cs)
sign_when s [] k h = IsBare.sign s k
sign_when s (c ∷ cs) k h = signed_when s c cs (c == 46) k refl h

bare_when : (c : ℕ) (cs : List ℕ) (sign dot : Bool) → is_sign c ≡ sign → (c == 46) ≡ dot → cond sign (goes_on_sign cs) (cond dot (goes_on_dot cs) (is_initial c && list_all is_subsequent cs)) ≡ true → IsBare (c ∷ cs)
bare_when c cs true dot e f h = sign_when c cs e h
bare_when c cs false true e f h = dot_when c cs f h
bare_when c cs false false e f h =
    let parts = and_parts (is_initial c) (list_all is_subsequent cs) h in
    IsBare.ordinary c cs parts.0 parts.1

pub identifier_bare : (word : List ℕ) → is_identifier word ≡ true → IsBare word
unfolding is_identifier
identifier_bare [] h = cc
identifier_bare (c ∷ cs) h = bare_when c cs (is_sign c) (c == 46) refl refl h

initial_no_sign : (c : ℕ) → is_initial c ≡ true → is_sign c ≡ false
unfolding is_initial
initial_no_sign c h = is_no_sign is_initial c h refl refl

initial_no_dot : (c : ℕ) → is_initial c ≡ true → (c == 46) ≡ false
unfolding is_initial
initial_no_dot c h = is_no is_initial c 46 h refl

sign_subsequent_no_dot : (c : ℕ) → is_sign_subsequent c ≡ true → (c == 46) ≡ false
unfolding is_initial
sign_subsequent_no_dot c h = is_no is_sign_subsequent c 46 h refl

pub bare_identifier : {word : List ℕ} → IsBare word → is_identifier word ≡ true
unfolding is_identifier
bare_identifier (IsBare.ordinary c cs h k) = cond-false (is_sign c) _ _ (initial_no_sign c h) ∙ cond-false (c == 46) _ _ (initial_no_dot c h) ∙ and_from (is_initial c) (list_all is_subsequent cs) h k
bare_identifier (IsBare.sign s h) = cond-true (is_sign s) _ _ h
bare_identifier (IsBare.signed s c cs h k l) =
    cond-true (is_sign s) _ _ h ∙ cond-false (c == 46) _ _ (sign_subsequent_no_dot c k) ∙ and_from (is_sign_subsequent c) (list_all is_subsequent cs) k l
bare_identifier (IsBare.signed_dot s c cs h k l) = cond-true (is_sign s) _ _ h ∙ and_from (is_dot_subsequent c) (list_all is_subsequent cs) k l
bare_identifier (IsBare.dot c cs h k) = and_from (is_dot_subsequent c) (list_all is_subsequent cs) h k

-- ---- numerals

digit_starts : (s : ℕ) (cs : List ℕ) → is_sign s ≡ true → starts_digit cs ≡ true → IsNumeral (s ∷ cs)
digit_starts s [] k h = cc
digit_starts s (c ∷ cs) k h = IsNumeral.signed s c cs k h

fraction_starts : (s : ℕ) (cs : List ℕ) → is_sign s ≡ true → starts_fraction cs ≡ true → IsNumeral (s ∷ cs)
fraction_starts s [] k h = cc
fraction_starts s (c ∷ []) k h = absurd (not_both false (and_parts (c == 46) false h).1 refl)
fraction_starts s (c ∷ d ∷ ds) k h =
    let parts = and_parts (c == 46) (is_ascii_digit d) h in
    subst (λ (q : ℕ). IsNumeral (s ∷ q ∷ d ∷ ds)) (sym (eqb-true c 46 parts.0)) (IsNumeral.signed_point s d ds k parts.1)

infinite_starts : (s : ℕ) (cs : List ℕ) → is_sign s ≡ true → begins_with (codes "inf.0") cs ≡ true → IsNumeral (s ∷ cs)
infinite_starts s cs k h =
    let f = begun (codes "inf.0") cs h in
    subst (λ (q : List ℕ). IsNumeral (s ∷ q)) (sym f.2) (IsNumeral.infinite s f.0 f.1 k f.3)

no_number_starts : (s : ℕ) (cs : List ℕ) → is_sign s ≡ true → begins_with (codes "nan.0") cs ≡ true → IsNumeral (s ∷ cs)
no_number_starts s cs k h =
    let f = begun (codes "nan.0") cs h in
    subst (λ (q : List ℕ). IsNumeral (s ∷ q)) (sym f.2) (IsNumeral.no_number s f.0 f.1 k f.3)

signed_numeral : (s : ℕ) (cs : List ℕ) → is_sign s ≡ true → is_signed cs ≡ true → IsNumeral (s ∷ cs)
signed_numeral s cs k h = elim (or_cases (starts_digit cs) _ h) [
  | inl e ↦ digit_starts s cs k e
  | inr e ↦ elim (or_cases (starts_fraction cs) _ e) [
    | inl f ↦ fraction_starts s cs k f
    | inr f ↦ elim (or_cases (begins_with (codes "inf.0") cs) _ f) [
      | inl g ↦ infinite_starts s cs k g
      | inr g ↦ elim (or_cases (begins_with (codes "nan.0") cs) _ g) [
        | inl j ↦ no_number_starts s cs k j
        | inr j ↦ IsNumeral.imaginary s cs k (spells_is (codes "i") cs j)
      ]
    ]
  ]
]

point_numeral : (c : ℕ) (cs : List ℕ) → (c == 46) ≡ true → starts_digit cs ≡ true → IsNumeral (c ∷ cs)
point_numeral c [] e h = cc
point_numeral c (d ∷ ds) e h = subst (λ (q : ℕ). IsNumeral (q ∷ d ∷ ds)) (sym (eqb-true c 46 e)) (IsNumeral.point d ds h)

prefixed_numeral : (c : ℕ) (cs : List ℕ) → (c == 35) ≡ true → starts_prefix cs ≡ true → IsNumeral (c ∷ cs)
prefixed_numeral c [] e h = cc
prefixed_numeral c (d ∷ ds) e h = subst (λ (q : ℕ). IsNumeral (q ∷ d ∷ ds)) (sym (eqb-true c 35 e)) (IsNumeral.prefixed d ds h)

numeral_when : (c : ℕ) (cs : List ℕ) (sign point hash : Bool) → is_sign c ≡ sign → (c == 46) ≡ point → (c == 35) ≡ hash →
    cond sign (is_signed cs) (cond point (starts_digit cs) (cond hash (starts_prefix cs) (is_ascii_digit c))) ≡ true → IsNumeral (c ∷ cs)
numeral_when c cs true point hash e f g h = signed_numeral c cs e h
numeral_when c cs false true hash e f g h = point_numeral c cs f h
numeral_when c cs false false true e f g h = prefixed_numeral c cs g h
numeral_when c cs false false false e f g h = IsNumeral.digit c cs h

pub test_numeral : (word : List ℕ) → is_numeral word ≡ true → IsNumeral word
unfolding is_numeral
test_numeral [] h = cc
test_numeral (c ∷ cs) h = numeral_when c cs (is_sign c) (c == 46) (c == 35) refl refl refl h

signed_step : (s : ℕ) (cs : List ℕ) → is_sign s ≡ true → is_signed cs ≡ true → is_numeral (s ∷ cs) ≡ true
unfolding is_numeral
signed_step s cs h k = cond-true (is_sign s) _ _ h ∙ k

pub numeral_test : {word : List ℕ} → IsNumeral word → is_numeral word ≡ true
unfolding is_numeral
numeral_test (IsNumeral.digit c cs h) =
    cond-false (is_sign c) _ _ (is_no_sign is_ascii_digit c h refl refl) ∙ cond-false (c == 46) _ _ (is_no is_ascii_digit c 46 h refl) ∙ cond-false (c == 35) _ _ (is_no is_ascii_digit c 35 h refl) ∙ h
numeral_test (IsNumeral.point c cs h) = h
numeral_test (IsNumeral.signed s c cs h k) = signed_step s (c ∷ cs) h (or_left (is_ascii_digit c) _ k)
numeral_test (IsNumeral.signed_point s c cs h k) = signed_step s (46 ∷ c ∷ cs) h (or_left (is_ascii_digit c) _ k)
numeral_test (IsNumeral.prefixed c cs h) = h
numeral_test (IsNumeral.infinite s front more h k) =
    let cs = front ++ more in
    signed_step s cs h (or_right (starts_digit cs) _ (or_right (starts_fraction cs) _ (or_left (begins_with (codes "inf.0") cs) _ (begins (codes "inf.0") front more k))))
numeral_test (IsNumeral.no_number s front more h k) =
    let cs = front ++ more in
    signed_step s cs h (or_right (starts_digit cs) _ (or_right (starts_fraction cs) _ (or_right (begins_with (codes "inf.0") cs) _ (or_left (begins_with (codes "nan.0") cs) _ (begins (codes "nan.0") front more k)))))
numeral_test (IsNumeral.imaginary s cs h k) =
    signed_step s cs h (or_right (starts_digit cs) _ (or_right (starts_fraction cs) _ (or_right (begins_with (codes "inf.0") cs) _ (or_right (begins_with (codes "nan.0") cs) _ (is_spelled (codes "i") cs k)))))

-- ---- names of characters

-- a name tells the character that is told, if one is
abbrev pub NameTold : List ℕ → Option ℕ → Type 0
NameTold name None = Unit {0}
NameTold name (Some c) = IsCharacterName name c

name_is : (name letters : List ℕ) (c : ℕ) → is_text name letters ≡ true → IsCharacterName letters c → IsCharacterName name c
name_is name letters c e h = subst (λ (q : List ℕ). IsCharacterName q c) (sym (text_is name letters e)) h

pub named_told : (name : List ℕ) → NameTold name (named name)
unfolding named
named_told name =
    cond_both (is_text name (codes "alarm")) _ _ (NameTold name) (λ e. name_is name (codes "alarm") 7 e IsCharacterName.alarm)
    (λ _. cond_both (is_text name (codes "backspace")) _ _ (NameTold name) (λ e. name_is name (codes "backspace") 8 e IsCharacterName.backspace)
    (λ _. cond_both (is_text name (codes "delete")) _ _ (NameTold name) (λ e. name_is name (codes "delete") 127 e IsCharacterName.delete)
    (λ _. cond_both (is_text name (codes "escape")) _ _ (NameTold name) (λ e. name_is name (codes "escape") 27 e IsCharacterName.escape)
    (λ _. cond_both (is_text name (codes "newline")) _ _ (NameTold name) (λ e. name_is name (codes "newline") 10 e IsCharacterName.newline)
    (λ _. cond_both (is_text name (codes "null")) _ _ (NameTold name) (λ e. name_is name (codes "null") 0 e IsCharacterName.null)
    (λ _. cond_both (is_text name (codes "return")) _ _ (NameTold name) (λ e. name_is name (codes "return") 13 e IsCharacterName.return)
    (λ _. cond_both (is_text name (codes "space")) _ _ (NameTold name) (λ e. name_is name (codes "space") 32 e IsCharacterName.space)
    (λ _. cond_both (is_text name (codes "tab")) _ _ (NameTold name) (λ e. name_is name (codes "tab") 9 e IsCharacterName.tab) (λ _. tt)))))))))

pub name_named : {name : List ℕ} {c : ℕ} → IsCharacterName name c → named name ≡ Some c
unfolding named
name_named IsCharacterName.alarm = refl
name_named IsCharacterName.backspace = refl
name_named IsCharacterName.delete = refl
name_named IsCharacterName.escape = refl
name_named IsCharacterName.newline = refl
name_named IsCharacterName.null = refl
name_named IsCharacterName.return = refl
name_named IsCharacterName.space = refl
name_named IsCharacterName.tab = refl
