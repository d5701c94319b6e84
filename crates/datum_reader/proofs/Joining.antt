-- Texts with one space between each two.
use Rattle.std.proofs.Common.{◌≡◌, ℕ, ◌+◌, ◌-◌, ◌<◌, ◌≤◌, List, [], ◌∷◌, ◌++◌, length, map, get_or, take, drop, sym, ap, ◌∙◌, arith, append_assoc, append-nil, length-drop}
use Rattle.std.proofs.lemmas.List.{take_all, drop_more}
use Rattle.std.specs.List.{join_with_byte}
use Rattle.std.specs.Str.{chars, IsUtf8, encode_utf8_all}
use Rattle.datum_reader.proofs.LeafLaws.{encoded-same}

-- further texts, each with a space before it
abbrev pub behind : List (List ℕ) → List ℕ
behind [] = []
behind (x ∷ xs) = 32 ∷ (x ++ behind xs)

join-behind : (x : List ℕ) (xs : List (List ℕ)) → x ++ behind xs ≡ join_with_byte 32 (x ∷ xs)
join-behind x [] = append-nil x
join-behind x (y ∷ xs) = ap (λ (z : List ℕ). x ++ (32 ∷ z)) (join-behind y xs)

-- the rest of a list, as the code takes it
pub rest_is : {X : Type 0} (xs : List X) (n : ℕ) → take (length xs - n) (drop n xs) ≡ drop n xs
rest_is xs n = take_all (length xs - n) (drop n xs) (omega (arith, length-drop n xs))

-- texts, each as the encoding of its characters
abbrev pub encoded : List (List ℕ) → List (List ℕ)
encoded xs = map encode_utf8_all (map chars xs)

-- the first text, with the others behind it
pub join_first : (texts : List (List ℕ)) (first : List ℕ) → 1 ≤ length texts → first ≡ get_or texts 0 first → IsUtf8 first →
    first ++ behind (encoded (take (length texts - 1) (drop 1 texts))) ≡ join_with_byte 32 (encoded texts)
join_first [] first some at utf8 = absurd (omega arith)
join_first (x ∷ xs) first some at utf8 =
    let same : first ≡ encode_utf8_all (chars x) = encoded-same x first at utf8 in
    (λ j. same j ++ behind (encoded (rest_is (x ∷ xs) 1 j))) ∙ join-behind (encode_utf8_all (chars x)) (encoded xs)

-- one text more
pub join_more : (text all space more : List ℕ) (rest : List (List ℕ)) (i : ℕ) → i < length rest → more ≡ get_or rest i more → IsUtf8 more → space ≡ 32 ∷ [] →
    text ++ behind (encoded (drop i rest)) ≡ all → ((text ++ space) ++ more) ++ behind (encoded (drop (i + 1) rest)) ≡ all
join_more text all space more rest i lt at utf8 spaced so_far =
    let same : more ≡ encode_utf8_all (chars (get_or rest i more)) = encoded-same (get_or rest i more) more at utf8 in
    ap (λ (s : List ℕ). ((text ++ s) ++ more) ++ behind (encoded (drop (i + 1) rest))) spaced
    ∙ append_assoc (text ++ 32 ∷ []) more (behind (encoded (drop (i + 1) rest)))
    ∙ append_assoc text (32 ∷ []) (more ++ behind (encoded (drop (i + 1) rest)))
    ∙ ap (λ (m : List ℕ). text ++ (32 ∷ (m ++ behind (encoded (drop (i + 1) rest))))) same
    ∙ ap (λ (l : List (List ℕ)). text ++ behind (encoded l)) (sym (drop_more rest i more lt))
    ∙ so_far
