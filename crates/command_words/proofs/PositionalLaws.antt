-- The words before the first `--` and those behind it.
use Rattle.std.proofs.Common.{◌≡◌, ◌<◌, ◌≤◌, ◌+◌, ℕ, List, [], ◌∷◌, ◌++◌, ◌&&◌, length, take, drop, map, Bool, true, false, not, cond, Option, Some, None, refl, ap, sym, ◌∙◌, arith, ltb, String, Global}
use Rattle.std.proofs.lemmas.Bool.Decides.{nat_tests}
use Rattle.std.proofs.lemmas.List.{drop-map, drop_all, length-drop, length-map, take-map, take_all}
use Rattle.std.specs.List.{after_first, before_first, list_any, position, position_or_len, prefix_len}
use Rattle.std.specs.String.{string_bytes}
use Rattle.clap.proofs.WalkLemmas.{list_any-map}
use Rattle.command_words.specs.Words.{Word, are_taken, is_dashes, is_empty, is_option, positional_words, texts}

prefix_seen : (p : Word → Bool) (words : List (String Global)) → prefix_len p (map string_bytes words) ≡ prefix_len (λ word. p (string_bytes word)) words
prefix_seen p [] = refl
prefix_seen p (word ∷ words) = ap (λ (n : ℕ). cond (p (string_bytes word)) (1 + n) 0) (prefix_seen p words)

abbrev pub dashes_in : List (String Global) → Option ℕ
dashes_in words = position (λ word. is_dashes (string_bytes word)) words

place : (words : List (String Global)) → position_or_len is_dashes (texts words) ≡ position_or_len (λ (word : String Global). is_dashes (string_bytes word)) words
place words = prefix_seen (λ word. not (is_dashes word)) words

below : (m n : ℕ) → ltb m n ≡ true → m < n
below m n test = grind (arith, nat_tests)

not_below : (m n : ℕ) → ltb m n ≡ false → n ≤ m
not_below m n test = grind (arith, nat_tests)

same_place : (k at : ℕ) → Some k ≡ Some at → k ≡ at
same_place k at same = cc

no_place : (o : Option ℕ) (at : ℕ) → o ≡ None → o ≡ Some at → ⊥
no_place o at none same = cc

found_case : (k n at : ℕ) (b : Bool) → ltb k n ≡ b → cond b (Some k) None ≡ Some at → (k ≡ at) × (k < n)
found_case k n at true test found = (same_place k at found, below k n test)
found_case k n at false test found = absurd (no_place None at refl found)

none_case : (k n : ℕ) (b : Bool) → ltb k n ≡ b → cond b (Some k) None ≡ None → n ≤ k
none_case k n true test none = absurd (no_place (Some k) k none refl)
none_case k n false test none = not_below k n test

abbrev at_of : List (String Global) → ℕ
at_of words = position_or_len (λ (word : String Global). is_dashes (string_bytes word)) words

pub found_at : (words : List (String Global)) (at : ℕ) → dashes_in words ≡ Some at → (at_of words ≡ at) × (at_of words < length words)
found_at words at found = found_case (at_of words) (length words) at (ltb (at_of words) (length words)) refl found

pub below_length : (words : List (String Global)) (at : ℕ) → dashes_in words ≡ Some at → at < length words
below_length words at found = let both = found_at words at found in omega arith

pub front_is : (words : List (String Global)) (at k : ℕ) → dashes_in words ≡ Some at → k ≡ at → texts (take k words) ≡ before_first is_dashes (texts words)
front_is words at k found same =
    sym (take-map string_bytes k words) ∙ ap (λ (n : ℕ). take n (texts words)) (same ∙ sym (found_at words at found).0 ∙ sym (place words))

pub back_is : (words : List (String Global)) (at k : ℕ) → dashes_in words ≡ Some at → k ≡ at + 1 → texts (drop k words) ≡ after_first is_dashes (texts words)
back_is words at k found same =
    sym (drop-map string_bytes k words) ∙ ap (λ (n : ℕ). drop n (texts words)) (same ∙ ap (λ (n : ℕ). n + 1) (sym (found_at words at found).0 ∙ sym (place words)))

-- the same where no more than there are are taken
pub back_taken : (words : List (String Global)) (at k m : ℕ) → dashes_in words ≡ Some at → k ≡ at + 1 → length words ≤ k + m → texts (take m (drop k words)) ≡ after_first is_dashes (texts words)
back_taken words at k m found same enough =
    ap texts (take_all m (drop k words) (omega (arith, length-drop k words))) ∙ back_is words at k found same

not_found : (words : List (String Global)) → dashes_in words ≡ None → length words ≤ position_or_len is_dashes (texts words)
not_found words none =
    let past = none_case (at_of words) (length words) (ltb (at_of words) (length words)) refl none in
    let same = place words in omega arith

pub all_front : (words : List (String Global)) → dashes_in words ≡ None → texts words ≡ before_first is_dashes (texts words)
all_front words none = sym (take_all (position_or_len is_dashes (texts words)) (texts words) (let past = not_found words none in omega (arith, length-map words string_bytes)))

pub no_back : (words : List (String Global)) → dashes_in words ≡ None → [] ≡ after_first is_dashes (texts words)
no_back words none = sym (drop_all (position_or_len is_dashes (texts words) + 1) (texts words) (let past = not_found words none in omega (arith, length-map words string_bytes)))

-- ---- which words are taken

options_in : (words front : List (String Global)) → texts front ≡ before_first is_dashes (texts words) → list_any (λ (word : String Global). is_option (string_bytes word)) front ≡ list_any is_option (before_first is_dashes (texts words))
options_in words front are = list_any-map is_option string_bytes front ∙ ap (λ (ws : List Word). list_any is_option ws) are

abbrev both_not : Bool → Bool → Bool
both_not a b = not a && not b

not_right : (a : Bool) → both_not a true ≡ false
not_right true = refl
not_right false = refl

pub option_refused : (words front : List (String Global)) (b : Bool) → texts front ≡ before_first is_dashes (texts words) → b ≡ list_any (λ (word : String Global). is_option (string_bytes word)) front → b ≡ true → are_taken (texts words) ≡ false
option_refused words front b are tested is = ap (λ (c : Bool). both_not c (list_any is_empty (texts words))) (sym (options_in words front are) ∙ sym tested ∙ is)

empties_in : (words : List (String Global)) → list_any (λ (word : String Global). is_empty (string_bytes word)) words ≡ list_any is_empty (texts words)
empties_in words = list_any-map is_empty string_bytes words

pub empty_refused : (words : List (String Global)) (b : Bool) → b ≡ list_any (λ (word : String Global). is_empty (string_bytes word)) words → b ≡ true → are_taken (texts words) ≡ false
empty_refused words b tested is =
    ap (λ (c : Bool). both_not (list_any is_option (before_first is_dashes (texts words))) c) (sym (empties_in words) ∙ sym tested ∙ is) ∙ not_right (list_any is_option (before_first is_dashes (texts words)))

pub all_taken : (words front : List (String Global)) (b c : Bool) → texts front ≡ before_first is_dashes (texts words) → b ≡ list_any (λ (word : String Global). is_option (string_bytes word)) front → b ≡ false
    → c ≡ list_any (λ (word : String Global). is_empty (string_bytes word)) words → c ≡ false → are_taken (texts words) ≡ true
all_taken words front b c are tested is also none =
    λ j. both_not ((sym (options_in words front are) ∙ sym tested ∙ is) j) ((sym (empties_in words) ∙ sym also ∙ none) j)

-- the words that were added
pub all_added : (words front back : List (String Global)) (none some all : List Word) → none ≡ [] → texts front ≡ before_first is_dashes (texts words) → texts back ≡ after_first is_dashes (texts words)
    → some ≡ none ++ texts front → all ≡ some ++ texts back → all ≡ positional_words (texts words)
all_added words front back none some all empty fronts backs first then =
    then ∙ ap (λ (ws : List Word). ws ++ texts back) (first ∙ ap (λ (ws : List Word). ws ++ texts front) empty) ∙ λ j. fronts j ++ backs j
