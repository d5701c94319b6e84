-- A text begins with one part of a name at most, where a space or the closing parenthesis follows.
use Rattle.std.proofs.Common.{◌≡◌, ℕ, ◌<◌, ◌≤◌, Bool, true, false, ◌&&◌, ◌||◌, ◌==◌, cond, List, [], ◌∷◌, ◌++◌, refl, sym, ap, ◌∙◌, subst, arith, inl, inr}
use Rattle.std.specs.Prelude.{◌⊎◌, nat_lt}
use Rattle.std.specs.List.{list_all}
use Rattle.std.specs.Char.{is_ascii_digit}
use Rattle.std.specs.Str.{chars, encode_utf8_all}
use Rattle.std.proofs.lemmas.Bool.{and_parts, and_from}
use Rattle.std.proofs.lemmas.List.{append_cancel_left}
use Rattle.scheme_tokens.specs.Lexical.{is_delimiter, is_inside, Ends, IsBare, IsNumeral, TokenKind, Atomic, Name, Numeral, IsToken}
use Rattle.scheme_tokens.specs.Mirror.Spelled.{spelled}
use Rattle.scheme_tokens.proofs.Apart.{one_first, spelled_before}
use Rattle.scheme_tokens.proofs.Same.Spelling.{spelling}
use Rattle.scheme_model.specs.Requirements.{LibraryPart, Symbol, Digits}
use Rattle.scheme_tokens.specs.LibraryNames.{IsProperPart}
use Rattle.scheme_tokens.proofs.PartChars.{part_chars}

not_both : (b : Bool) → b ≡ true → b ≡ false → ⊥
not_both b h k = cc

-- ---- what stands behind a part

abbrev pub IsBehind : List ℕ → Type 0
IsBehind [] = ⊥
IsBehind (c ∷ cs) = (c ≡ 32) ⊎ (c ≡ 41)

space_ends : is_inside 32 ≡ false
unfolding is_delimiter
space_ends = refl

close_ends : is_inside 41 ≡ false
unfolding is_delimiter
close_ends = refl

none_inside : (c : ℕ) → (c ≡ 32) ⊎ (c ≡ 41) → is_inside c ≡ false
none_inside c (inl e) = ap is_inside e ∙ space_ends
none_inside c (inr e) = ap is_inside e ∙ close_ends

no_bar : (c : ℕ) → (c ≡ 32) ⊎ (c ≡ 41) → c ≡ 124 → ⊥
no_bar c (inl e) h = omega (arith, e, h)
no_bar c (inr e) h = omega (arith, e, h)

behind_ends : (rest : List ℕ) → IsBehind rest → Ends is_inside rest
behind_ends [] h = absurd h
behind_ends (c ∷ cs) h = none_inside c h

-- ---- digits

from_48 : (c : ℕ) → is_ascii_digit c ≡ true → 48 ≤ c
from_48 c h = grind (arith)

to_57 : (c : ℕ) → is_ascii_digit c ≡ true → c ≤ 57
to_57 c h = grind (arith)

below : (c k : ℕ) → c < k → (c == k) ≡ false
below c k h = grind (arith)

above : (c k : ℕ) → k < c → (c == k) ≡ false
above c k h = grind (arith)

below_range : (c m n : ℕ) → c ≤ m → (nat_lt m c && nat_lt c n) ≡ false
below_range c m n h = grind (arith)

above_range : (c m n : ℕ) → n ≤ c → (nat_lt m c && nat_lt c n) ≡ false
above_range c m n h = grind (arith)

no_delimiter : (c : ℕ) → 48 ≤ c → c ≤ 57 → is_delimiter c ≡ false
unfolding is_delimiter
no_delimiter c l h =
    let up : (k : ℕ) → 57 < k → (c == k) ≡ false = λ k g. below c k (omega (arith, h, g)) in
    let down : (k : ℕ) → k < 48 → (c == k) ≡ false = λ k g. above c k (omega (arith, l, g)) in
    (λ j. ((((((((((above_range c 8 14 (omega (arith, l)) j || down 32 (omega arith) j) || up 133 (omega arith) j) || up 160 (omega arith) j) || up 5760 (omega arith) j) || below_range c 8191 8203 (omega (arith, h)) j) || up 8232 (omega arith) j)
    || up 8233 (omega arith) j) || up 8239 (omega arith) j) || up 8287 (omega arith) j) || up 12288 (omega arith) j)
    || (down 34 (omega arith) j || (up 124 (omega arith) j || (down 40 (omega arith) j || (down 41 (omega arith) j || (up 59 (omega arith) j || false))))))

digit_inside : (c : ℕ) → is_ascii_digit c ≡ true → is_inside c ≡ true
digit_inside c h = ap (λ (b : Bool). cond b false true) (no_delimiter c (from_48 c h) (to_57 c h))

digits_inside : (s : List ℕ) → list_all is_ascii_digit s ≡ true → list_all is_inside s ≡ true
digits_inside [] h = refl
digits_inside (c ∷ cs) h =
    let both = and_parts (is_ascii_digit c) (list_all is_ascii_digit cs) h in
    and_from (is_inside c) (list_all is_inside cs) (digit_inside c both.0) (digits_inside cs both.1)

head_or : ℕ → List ℕ → ℕ
head_or d [] = d
head_or d (c ∷ cs) = c

pub tail_of : List ℕ → List ℕ
tail_of [] = []
tail_of (c ∷ cs) = cs

pub heads : (c d : ℕ) (cs ds : List ℕ) → c ∷ cs ≡ d ∷ ds → c ≡ d
unfolding head_or
heads c d cs ds e = ap (head_or c) e

pub tails : (c d : ℕ) (cs ds : List ℕ) → c ∷ cs ≡ d ∷ ds → cs ≡ ds
unfolding tail_of
tails c d cs ds e = ap tail_of e

-- a digit is no end
digit_goes_on : (c : ℕ) (cs rest : List ℕ) → is_ascii_digit c ≡ true → IsBehind rest → rest ≡ c ∷ cs → ⊥
digit_goes_on c cs rest h k e = not_both (is_inside c) (digit_inside c h) (none_inside c (subst IsBehind e k))

digits_told : (s t r u : List ℕ) → list_all is_ascii_digit s ≡ true → list_all is_ascii_digit t ≡ true → IsBehind r → IsBehind u → s ++ r ≡ t ++ u → (s ≡ t) × (r ≡ u)
digits_told [] [] r u h k i j e = (refl, e)
digits_told [] (d ∷ ds) r u h k i j e = absurd (digit_goes_on d (ds ++ u) r (and_parts (is_ascii_digit d) (list_all is_ascii_digit ds) k).0 i e)
digits_told (c ∷ cs) [] r u h k i j e = absurd (digit_goes_on c (cs ++ r) u (and_parts (is_ascii_digit c) (list_all is_ascii_digit cs) h).0 j (sym e))
digits_told (c ∷ cs) (d ∷ ds) r u h k i j e =
    let hs = and_parts (is_ascii_digit c) (list_all is_ascii_digit cs) h in
    let ks = and_parts (is_ascii_digit d) (list_all is_ascii_digit ds) k in
    let more = digits_told cs ds r u hs.1 ks.1 i j (tails c d (cs ++ r) (ds ++ u) e) in
    ((λ n. heads c d (cs ++ r) (ds ++ u) e n ∷ more.0 n), more.1)

numeral_first : (c : ℕ) (cs rest : List ℕ) → list_all is_ascii_digit (c ∷ cs) ≡ true → IsBehind rest → IsToken (Atomic (Numeral (c ∷ cs))) (c ∷ cs) rest
numeral_first c cs rest h k =
    (refl, IsNumeral.digit c cs (and_parts (is_ascii_digit c) (list_all is_ascii_digit cs) h).0, (digits_inside (c ∷ cs) h, behind_ends rest k))

-- ---- symbols

name_first : (s rest : List ℕ) → IsBehind rest → (b : Bool) × IsToken (Atomic (Name (chars s) b)) (spelled (chars s) false) rest
name_first s rest h = spelled_before (chars s) (spelled (chars s) false) rest false (spelling (chars s) false) (inr (behind_ends rest h))

name_in : TokenKind → List ℕ
name_in (Atomic (Name n b)) = n
name_in k = []

same_name : (m n : List ℕ) (a b : Bool) → Atomic (Name m a) ≡ Atomic (Name n b) → m ≡ n
unfolding name_in
same_name m n a b e = ap name_in e

is_numeral : TokenKind → Bool
is_numeral (Atomic (Numeral s)) = true
is_numeral k = false

no_numeral : (n s : List ℕ) (b : Bool) → Atomic (Name n b) ≡ Atomic (Numeral s) → ⊥
unfolding is_numeral
no_numeral n s b e = not_both false (ap is_numeral e) refl

some_bare : {name : List ℕ} → IsBare name → (c : ℕ) × (cs : List ℕ) × (name ≡ c ∷ cs)
some_bare (IsBare.ordinary c cs h k) = (c, cs, refl)
some_bare (IsBare.sign s h) = (s, [], refl)
some_bare (IsBare.signed s c cs h k l) = (s, c ∷ cs, refl)
some_bare (IsBare.signed_dot s c cs h k l) = (s, 46 ∷ c ∷ cs, refl)
some_bare (IsBare.dot c cs h k) = (46, c ∷ cs, refl)

-- a name that is written doesn't begin with what ends a part
some_name : (name glyphs rest : List ℕ) (b : Bool) → IsToken (Atomic (Name name b)) glyphs rest → (c : ℕ) × (cs : List ℕ) × (glyphs ≡ c ∷ cs) × ((is_inside c ≡ true) ⊎ (c ≡ 124))
some_name name glyphs rest true h = (124, h.0, h.1, inr refl)
some_name name glyphs rest false h =
    let some = some_bare h.1 in
    let inside : list_all is_inside (some.0 ∷ some.1) ≡ true = ap (list_all is_inside) (sym some.2) ∙ h.3.0 in
    (some.0, some.1, h.0 ∙ some.2, inl (and_parts (is_inside some.0) (list_all is_inside some.1) inside).0)

never_behind : (c : ℕ) → (is_inside c ≡ true) ⊎ (c ≡ 124) → (c ≡ 32) ⊎ (c ≡ 41) → ⊥
never_behind c (inl h) k = not_both (is_inside c) h (none_inside c k)
never_behind c (inr h) k = no_bar c k h

no_digits : (s t r u : List ℕ) → list_all is_ascii_digit t ≡ true → IsBehind r → IsBehind u → spelled (chars s) false ++ r ≡ t ++ u → ⊥
no_digits s [] r u k i j e =
    let first = name_first s r i in
    let some = some_name (chars s) (spelled (chars s) false) r first.0 first.1 in
    never_behind some.0 some.3 (subst IsBehind (sym e ∙ ap (λ (q : List ℕ). q ++ r) some.2) j)
no_digits s (d ∷ ds) r u k i j e =
    let first = name_first s r i in
    no_numeral (chars s) (d ∷ ds) first.0
    (one_first (Atomic (Name (chars s) first.0)) (Atomic (Numeral (d ∷ ds))) (spelled (chars s) false) (d ∷ ds) r u e first.1 (numeral_first d ds u k j)).0

-- ---- one part

pub one_part : (p q : LibraryPart) (r u : List ℕ) → IsProperPart p → IsProperPart q → IsBehind r → IsBehind u → part_chars p ++ r ≡ part_chars q ++ u → (p ≡ q) × (r ≡ u)
one_part (Symbol s) (Symbol t) r u h k i j e =
    let a = name_first s r i in
    let b = name_first t u j in
    let one = one_first (Atomic (Name (chars s) a.0)) (Atomic (Name (chars t) b.0)) (spelled (chars s) false) (spelled (chars t) false) r u e a.1 b.1 in
    let same : chars s ≡ chars t = same_name (chars s) (chars t) a.0 b.0 one.0 in
    (ap Symbol (h ∙ ap encode_utf8_all same ∙ sym k), append_cancel_left (spelled (chars s) false) r u (e ∙ ap (λ (q : List ℕ). q ++ u) (sym one.1)))
one_part (Symbol s) (Digits t) r u h k i j e = absurd (no_digits s t r u k i j e)
one_part (Digits s) (Symbol t) r u h k i j e = absurd (no_digits t s u r h j i (sym e))
one_part (Digits s) (Digits t) r u h k i j e = let told = digits_told s t r u h k i j e in (ap Digits told.0, told.1)
