-- Texts and ASCII letters, a character at a time.
use Rattle.std.proofs.Common.{◌≡◌, ℕ, ◌<◌, ◌≤◌, List, [], ◌∷◌, false, refl, sym, ap, ◌∙◌, arith, length, drop, ◌==◌}
use Rattle.std.proofs.lemmas.List.{drop_more, drop_all}
use Rattle.std.proofs.lemmas.Bool.{ne_eqb}
use Rattle.std.proofs.lemmas.Str.{length-le-encodes, encodes-chars}
use Rattle.std.specs.Str.{chars, IsUtf8, encode_utf8_all}
use Rattle.scheme_tokens.specs.Mirror.Words.{is_text, begins_with, spells}

no_bytes : (bs cs : List ℕ) → encode_utf8_all cs ≡ bs → (length bs == 0) ≡ is_text cs []
no_bytes bs [] e = ap (λ (q : List ℕ). length q == 0) (sym e)
no_bytes bs (c ∷ cs) e = ne_eqb (length bs) 0 (λ z. omega (arith, length-le-encodes (c ∷ cs), ap length e))

-- a text without bytes has no characters
pub is_empty-chars : (text : List ℕ) → IsUtf8 text → (length text == 0) ≡ is_text (chars text) []
is_empty-chars text u = no_bytes text (chars text) (encodes-chars text u)

pub is_text-short : (cs letters : List ℕ) (i : ℕ) → cs ≡ [] → i < length letters → is_text cs (drop i letters) ≡ false
is_text-short cs letters i e h = ap (λ (q : List ℕ). is_text q (drop i letters)) e ∙ ap (is_text []) (drop_more letters i 0 h)

pub spells-short : (cs letters : List ℕ) (i : ℕ) → cs ≡ [] → i < length letters → spells (drop i letters) cs ≡ false
spells-short cs letters i e h = ap (spells (drop i letters)) e ∙ ap (λ (q : List ℕ). spells q []) (drop_more letters i 0 h)

pub begins_with-short : (cs letters : List ℕ) (i : ℕ) → cs ≡ [] → i < length letters → begins_with (drop i letters) cs ≡ false
begins_with-short cs letters i e h = ap (begins_with (drop i letters)) e ∙ ap (λ (q : List ℕ). begins_with q []) (drop_more letters i 0 h)

pub is_text-done : (cs letters : List ℕ) (i : ℕ) → length letters ≤ i → is_text cs [] ≡ is_text cs (drop i letters)
is_text-done cs letters i h = ap (is_text cs) (sym (drop_all i letters h))

nothing_left : (cs : List ℕ) → is_text cs [] ≡ spells [] cs
nothing_left [] = refl
nothing_left (c ∷ cs) = refl

pub spells-done : (cs letters : List ℕ) (i : ℕ) → length letters ≤ i → is_text cs [] ≡ spells (drop i letters) cs
spells-done cs letters i h = nothing_left cs ∙ ap (λ (q : List ℕ). spells q cs) (sym (drop_all i letters h))
