-- The bytes of tokens: which characters they spell, and where a name begins with a bar (R7RS 7.1.1).
use Rattle.std.proofs.Common.{◌≡◌, ℕ, ◌+◌, ◌-◌, arith, length, List, [], ◌∷◌, ◌++◌, take, drop, Bool, true, false, refl, sym, ap, ◌∙◌, append_assoc}
use Rattle.std.specs.Char.{encode_utf8}
use Rattle.std.specs.List.{list_all, slice_range}
use Rattle.std.specs.Str.{encode_utf8_all}
use Rattle.std.proofs.Math.Seq.{drop-append_seam, take-append_seam}
use Rattle.std.proofs.lemmas.Bool.{eqb-true, and_parts}
use Rattle.std.proofs.lemmas.List.{length-append}
use Rattle.std.proofs.lemmas.Str.{encodes-append, encode_ascii, encode_same, length-le-encodes}
use Rattle.scheme_tokens.specs.Lexical.{byte_count, is_delimiter, is_inside, Atomic, Name, IsToken}
use Rattle.scheme_tokens.proofs.Fronts.{byte_count-encodes}
use Rattle.text_edits.specs.NewNames.{begins_with_bar}
use Rattle.text_edits.proofs.Fronts.{bare_some}

-- other bytes spell other characters
pub encodes_same : (xs ys : List ℕ) → encode_utf8_all xs ≡ encode_utf8_all ys → xs ≡ ys
encodes_same [] [] h = refl
encodes_same [] (y ∷ ys) h = let size : 0 ≡ length (encode_utf8_all (y ∷ ys)) = ap length h in absurd (omega (arith, length-le-encodes (y ∷ ys), size))
encodes_same (x ∷ xs) [] h = let size : length (encode_utf8_all (x ∷ xs)) ≡ 0 = ap length h in absurd (omega (arith, length-le-encodes (x ∷ xs), size))
encodes_same (x ∷ xs) (y ∷ ys) h = let s = encode_same x y (encode_utf8_all xs) (encode_utf8_all ys) h in (λ j. s.0 j ∷ encodes_same xs ys s.1 j)

-- ---- bars

not_both : (b : Bool) → b ≡ true → b ≡ false → ⊥
not_both b h k = cc

bar_bytes : encode_utf8 124 ≡ 124 ∷ []
bar_bytes = encode_ascii 124 (omega arith)

bar_first : (bytes : List ℕ) → begins_with_bar bytes ≡ true → (more : List ℕ) × (bytes ≡ 124 ∷ more)
bar_first [] h = cc
bar_first (b ∷ bs) h = (bs, ap (λ (q : ℕ). q ∷ bs) (eqb-true b 124 h))

bar_ends : is_inside 124 ≡ false
unfolding is_delimiter
bar_ends = refl

no_bar : (c : ℕ) (more : List ℕ) → is_inside c ≡ true → (b : Bool) → begins_with_bar (encode_utf8 c ++ more) ≡ b → b ≡ false
no_bar c more h false e = refl
no_bar c more h true e =
    let f = bar_first (encode_utf8 c ++ more) e in
    let same = encode_same c 124 more f.0 (f.1 ∙ ap (λ (q : List ℕ). q ++ f.0) (sym bar_bytes)) in
    absurd (not_both (is_inside c) h (ap is_inside same.0 ∙ bar_ends))

word_bar : (c : ℕ) (cs more : List ℕ) → is_inside c ≡ true → begins_with_bar (encode_utf8_all (c ∷ cs) ++ more) ≡ false
word_bar c cs more h = ap begins_with_bar (append_assoc (encode_utf8 c) (encode_utf8_all cs) more) ∙ no_bar c (encode_utf8_all cs ++ more) h (begins_with_bar (encode_utf8 c ++ (encode_utf8_all cs ++ more))) refl

-- a name stands between bars exactly where its first byte is a bar
pub bars_begin : (name glyphs rest more : List ℕ) (bars : Bool) → IsToken (Atomic (Name name bars)) glyphs rest → begins_with_bar (encode_utf8_all glyphs ++ more) ≡ bars
bars_begin name glyphs rest more true h =
    ap (λ (q : List ℕ). begins_with_bar (encode_utf8_all q ++ more)) h.1 ∙ ap begins_with_bar (append_assoc (encode_utf8 124) (encode_utf8_all h.0) more) ∙ ap (λ (q : List ℕ). begins_with_bar (q ++ (encode_utf8_all h.0 ++ more))) bar_bytes
bars_begin name glyphs rest more false h =
    let some = bare_some h.1 in
    let inside = (and_parts (is_inside some.0) _ (ap (λ (q : List ℕ). list_all is_inside q) (sym some.2) ∙ h.3.0)).0 in
    ap (λ (q : List ℕ). begins_with_bar (encode_utf8_all q ++ more)) (h.0 ∙ some.2) ∙ word_bar some.0 some.1 more inside

-- ---- where they stand

pub behind_gap : (front gap glyphs rest : List ℕ) (n : ℕ) → n ≡ length front + byte_count gap → drop n (front ++ encode_utf8_all (gap ++ (glyphs ++ rest))) ≡ encode_utf8_all glyphs ++ encode_utf8_all rest
behind_gap front gap glyphs rest n e =
    let g = encode_utf8_all gap in
    let place : n ≡ length (front ++ g) = omega (arith, e, length-append front g, byte_count-encodes gap) in
    (λ j. drop (place j) (front ++ encodes-append gap (glyphs ++ rest) j))
    ∙ ap (drop (length (front ++ g))) (sym (append_assoc front g (encode_utf8_all (glyphs ++ rest))))
    ∙ drop-append_seam (front ++ g) (encode_utf8_all (glyphs ++ rest)) ∙ encodes-append glyphs rest

-- the bytes of a token are cut out of a text
pub glyphs_cut : (front gap glyphs rest : List ℕ) (start end : ℕ) → start ≡ length front + byte_count gap → end ≡ start + byte_count glyphs →
    slice_range (front ++ encode_utf8_all (gap ++ (glyphs ++ rest))) start end ≡ encode_utf8_all glyphs
glyphs_cut front gap glyphs rest start end s e =
    let size : end - start ≡ length (encode_utf8_all glyphs) = omega (arith, e, byte_count-encodes glyphs) in
    (λ j. take (size j) (behind_gap front gap glyphs rest start s j)) ∙ take-append_seam (encode_utf8_all glyphs) (encode_utf8_all rest)

-- what stands behind a token, with all that is before it
pub all_before : (front gap glyphs rest : List ℕ) → (front ++ encode_utf8_all (gap ++ glyphs)) ++ encode_utf8_all rest ≡ front ++ encode_utf8_all (gap ++ (glyphs ++ rest))
all_before front gap glyphs rest =
    append_assoc front (encode_utf8_all (gap ++ glyphs)) (encode_utf8_all rest)
    ∙ ap (λ (q : List ℕ). front ++ q) (sym (encodes-append (gap ++ glyphs) rest) ∙ ap encode_utf8_all (append_assoc gap glyphs rest))

pub length_before : (front gap glyphs : List ℕ) (at start end : ℕ) → at ≡ length front → start ≡ at + byte_count gap → end ≡ start + byte_count glyphs → end ≡ length (front ++ encode_utf8_all (gap ++ glyphs))
length_before front gap glyphs at start end a s e =
    omega (arith, a, s, e, length-append front (encode_utf8_all (gap ++ glyphs)), ap length (encodes-append gap glyphs), length-append (encode_utf8_all gap) (encode_utf8_all glyphs), byte_count-encodes gap, byte_count-encodes glyphs)
