-- A text for every name, proper or not: names are told apart by them, and a proper name's is the one that it is written by.
use Rattle.std.proofs.Common.{◌≡◌, ℕ, suc, Bool, true, false, ◌&&◌, List, [], ◌∷◌, ◌++◌, refl, sym, ap, ◌∙◌, arith}
use Rattle.std.specs.List.{list_all}
use Rattle.std.specs.Char.{is_ascii_digit}
use Rattle.std.specs.Str.{bytes_eq, chars, encode_utf8_all}
use Rattle.std.proofs.lemmas.Bool.{and_parts, and_from}
use Rattle.std.proofs.lemmas.Slice.Eq.{bytes_eq-Decides}
use Rattle.scheme_model.specs.Requirements.{LibraryPart, Symbol, Digits, LibraryName}
use Rattle.scheme_tokens.specs.LibraryNames.{with_spaces, library_text, IsProperPart, AreProper, IsProper}
use Rattle.scheme_tokens.proofs.OnePart.{heads, tails}
use Rattle.scheme_tokens.proofs.NamesTold.{texts_tell}

-- ---- whether a name is proper

abbrev is_proper_part : LibraryPart → Bool
is_proper_part (Symbol s) = bytes_eq s (encode_utf8_all (chars s))
is_proper_part (Digits s) = list_all is_ascii_digit s

abbrev are_proper : LibraryName → Bool
are_proper [] = true
are_proper (p ∷ ps) = is_proper_part p && are_proper ps

abbrev is_proper : LibraryName → Bool
is_proper [] = false
is_proper (p ∷ ps) = are_proper (p ∷ ps)

same_bytes : (s t : List ℕ) → bytes_eq s t ≡ true → s ≡ t
same_bytes s t h = (bytes_eq-Decides s t).0 h

bytes_same : (s : List ℕ) → bytes_eq s s ≡ true
bytes_same s = (bytes_eq-Decides s s).1 refl

part_told : (p : LibraryPart) → is_proper_part p ≡ true → IsProperPart p
part_told (Symbol s) h = same_bytes s (encode_utf8_all (chars s)) h
part_told (Digits s) h = h

part_tested : (p : LibraryPart) → IsProperPart p → is_proper_part p ≡ true
part_tested (Symbol s) h = ap (bytes_eq s) (sym h) ∙ bytes_same s
part_tested (Digits s) h = h

all_told : (n : LibraryName) → are_proper n ≡ true → AreProper n
all_told [] h = tt
all_told (p ∷ ps) h = let both = and_parts (is_proper_part p) (are_proper ps) h in (part_told p both.0, all_told ps both.1)

all_tested : (n : LibraryName) → AreProper n → are_proper n ≡ true
all_tested [] h = refl
all_tested (p ∷ ps) h = and_from (is_proper_part p) (are_proper ps) (part_tested p h.0) (all_tested ps h.1)

proper_told : (n : LibraryName) → is_proper n ≡ true → IsProper n
proper_told [] h = let never : ⊥ = cc in never
proper_told (p ∷ ps) h = all_told (p ∷ ps) h

proper_tested : (n : LibraryName) → IsProper n → is_proper n ≡ true
proper_tested [] h = absurd h
proper_tested (p ∷ ps) h = all_tested (p ∷ ps) h

-- ---- rows of numbers for the others: each number one more, and a zero behind them

abbrev marked : List ℕ → List ℕ → List ℕ
marked [] rest = 0 ∷ rest
marked (c ∷ cs) rest = suc c ∷ marked cs rest

abbrev coded : LibraryName → List ℕ
coded [] = []
coded (Symbol s ∷ ps) = 0 ∷ marked s (coded ps)
coded (Digits s ∷ ps) = 1 ∷ marked s (coded ps)

some : (c : ℕ) (cs : List ℕ) → [] ≡ c ∷ cs → ⊥
some c cs e = cc

marked_told : (s t r u : List ℕ) → marked s r ≡ marked t u → (s ≡ t) × (r ≡ u)
marked_told [] [] r u e = (refl, tails 0 0 r u e)
marked_told [] (d ∷ ds) r u e = let same = heads 0 (suc d) r (marked ds u) e in absurd (omega (arith, same))
marked_told (c ∷ cs) [] r u e = let same = heads (suc c) 0 (marked cs r) u e in absurd (omega (arith, same))
marked_told (c ∷ cs) (d ∷ ds) r u e =
    let first = heads (suc c) (suc d) (marked cs r) (marked ds u) e in
    let same : c ≡ d = omega (arith, first) in
    let more = marked_told cs ds r u (tails (suc c) (suc d) (marked cs r) (marked ds u) e) in
    ((λ j. same j ∷ more.0 j), more.1)

coded_told : (m n : LibraryName) → coded m ≡ coded n → m ≡ n
coded_told [] [] e = refl
coded_told [] (Symbol t ∷ qs) e = absurd (some 0 (marked t (coded qs)) e)
coded_told [] (Digits t ∷ qs) e = absurd (some 1 (marked t (coded qs)) e)
coded_told (Symbol s ∷ ps) [] e = absurd (some 0 (marked s (coded ps)) (sym e))
coded_told (Digits s ∷ ps) [] e = absurd (some 1 (marked s (coded ps)) (sym e))
coded_told (Symbol s ∷ ps) (Digits t ∷ qs) e = let same = heads 0 1 (marked s (coded ps)) (marked t (coded qs)) e in absurd (omega (arith, same))
coded_told (Digits s ∷ ps) (Symbol t ∷ qs) e = let same = heads 1 0 (marked s (coded ps)) (marked t (coded qs)) e in absurd (omega (arith, same))
coded_told (Symbol s ∷ ps) (Symbol t ∷ qs) e =
    let told = marked_told s t (coded ps) (coded qs) (tails 0 0 (marked s (coded ps)) (marked t (coded qs)) e) in
    (λ j. Symbol (told.0 j) ∷ coded_told ps qs told.1 j)
coded_told (Digits s ∷ ps) (Digits t ∷ qs) e =
    let told = marked_told s t (coded ps) (coded qs) (tails 1 1 (marked s (coded ps)) (marked t (coded qs)) e) in
    (λ j. Digits (told.0 j) ∷ coded_told ps qs told.1 j)

-- ---- a text for every name

abbrev text_by : Bool → LibraryName → List ℕ
text_by true n = library_text n
text_by false n = 41 ∷ coded n

pub text_of : LibraryName → List ℕ
text_of n = text_by (is_proper n) n

told_by : (m n : LibraryName) (a b : Bool) → is_proper m ≡ a → is_proper n ≡ b → text_by a m ≡ text_by b n → m ≡ n
told_by m n true true e f h = texts_tell m n (proper_told m e) (proper_told n f) h
told_by m n true false e f h = let same = heads 40 41 (with_spaces m ++ 41 ∷ []) (coded n) h in absurd (omega (arith, same))
told_by m n false true e f h = let same = heads 41 40 (coded m) (with_spaces n ++ 41 ∷ []) h in absurd (omega (arith, same))
told_by m n false false e f h = coded_told m n (tails 41 41 (coded m) (coded n) h)

pub text_tells : (m n : LibraryName) → text_of m ≡ text_of n → m ≡ n
unfolding text_of
text_tells m n h = told_by m n (is_proper m) (is_proper n) refl refl h

pub text_of-proper : (n : LibraryName) → IsProper n → text_of n ≡ library_text n
unfolding text_of
text_of-proper n h = ap (λ (b : Bool). text_by b n) (proper_tested n h)
