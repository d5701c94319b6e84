-- Proper names with one text are one name.
use Rattle.std.proofs.Common.{◌≡◌, ℕ, List, [], ◌∷◌, ◌++◌, refl, sym, ◌∙◌, subst, arith, inl, inr}
use Rattle.std.proofs.lemmas.Str.{encodes_same}
use Rattle.scheme_model.specs.Requirements.{LibraryName}
use Rattle.scheme_tokens.specs.LibraryNames.{part_text, behind_spaces, library_text, AreProper, IsProper}
use Rattle.scheme_tokens.proofs.PartChars.{part_chars, chars_behind, parts_bytes}
use Rattle.scheme_tokens.proofs.OnePart.{IsBehind, tails, one_part}

behind : (n : LibraryName) → IsBehind (chars_behind n)
behind [] = inr refl
behind (p ∷ ps) = inl refl

-- a space, and the closing parenthesis
abbrev Begins : ℕ → List ℕ → Type 0
Begins d [] = ⊥
Begins d (c ∷ cs) = c ≡ d

no_more : (cs : List ℕ) → 41 ∷ [] ≡ 32 ∷ cs → ⊥
no_more cs e = let same : 32 ≡ 41 = subst (Begins 41) e refl in omega (arith, same)

parts_told : (ps qs : LibraryName) → AreProper ps → AreProper qs → chars_behind ps ≡ chars_behind qs → ps ≡ qs
parts_told [] [] h k e = refl
parts_told [] (q ∷ qs) h k e = absurd (no_more (part_chars q ++ chars_behind qs) e)
parts_told (p ∷ ps) [] h k e = absurd (no_more (part_chars p ++ chars_behind ps) (sym e))
parts_told (p ∷ ps) (q ∷ qs) h k e =
    let one = one_part p q (chars_behind ps) (chars_behind qs) h.0 k.0 (behind ps) (behind qs) (tails 32 32 (part_chars p ++ chars_behind ps) (part_chars q ++ chars_behind qs) e) in
    (λ j. one.0 j ∷ parts_told ps qs h.1 k.1 one.1 j)

pub texts_tell : (m n : LibraryName) → IsProper m → IsProper n → library_text m ≡ library_text n → m ≡ n
texts_tell [] n h k e = absurd h
texts_tell (p ∷ ps) [] h k e = absurd k
texts_tell (p ∷ ps) (q ∷ qs) h k e =
    let bytes = tails 40 40 ((part_text p ++ behind_spaces ps) ++ 41 ∷ []) ((part_text q ++ behind_spaces qs) ++ 41 ∷ []) e in
    let all = encodes_same (part_chars p ++ chars_behind ps) (part_chars q ++ chars_behind qs) (sym (parts_bytes p ps h.0 h.1) ∙ bytes ∙ parts_bytes q qs k.0 k.1) in
    let one = one_part p q (chars_behind ps) (chars_behind qs) h.0 k.0 (behind ps) (behind qs) all in
    (λ j. one.0 j ∷ parts_told ps qs h.1 k.1 one.1 j)
