-- The different words of a list that grows at its end.
use Rattle.std.proofs.Common.{◌≡◌, ◌<◌, ◌≤◌, ◌+◌, ℕ, List, [], ◌∷◌, ◌++◌, length, append_assoc, append-nil, Bool, true, false, not, cond, ◌||◌, filter, refl, ap, sym, ◌∙◌, subst, arith, length-append, take, drop, get_or}
use Rattle.std.specs.Prelude.{MatchBool}
use Rattle.std.specs.Str.{bytes_eq}
use Rattle.std.proofs.lemmas.Bool.{false≢true}
use Rattle.std.proofs.lemmas.List.{take-append-drop, take_more}
use Rattle.std.proofs.lemmas.Slice.Eq.{bytes_eq-Decides}
use Rattle.command_words.specs.Different.{different, has, with_word}
use Rattle.command_words.specs.Words.{Word}

abbrev is_not : Word → Word → Bool
is_not word other = not (bytes_eq other word)

-- words that are other than one are among those that are left without it
kept_if : (x y e : Word) (l : List Word) (b : Bool) → bytes_eq x y ≡ false → bytes_eq e x ≡ b → has y (filter (is_not x) l) ≡ has y l
    → has y (cond (not b) (e ∷ filter (is_not x) l) (filter (is_not x) l)) ≡ (bytes_eq e y || has y l)
kept_if x y e l true apart same below = below ∙ ap (λ (b : Bool). b || has y l) (sym (ap (λ (w : Word). bytes_eq w y) ((bytes_eq-Decides e x).0 same) ∙ apart))
kept_if x y e l false apart other below = ap (λ (b : Bool). bytes_eq e y || b) below

any_kept : (x y : Word) (l : List Word) → bytes_eq x y ≡ false → has y (filter (is_not x) l) ≡ has y l
any_kept x y [] apart = refl
any_kept x y (e ∷ l) apart = kept_if x y e l (bytes_eq e x) apart refl (any_kept x y l apart)

pushed : (b : Bool) (x : Word) (all front back : List Word) → all ≡ front ++ back → cond b (x ∷ all) all ≡ cond b (x ∷ front) front ++ back
pushed true x all front back below = ap (λ (ws : List Word). x ∷ ws) below
pushed false x all front back below = below

filter_push : (p : Word → Bool) (l : List Word) (y : Word) → filter p (l ++ y ∷ []) ≡ filter p l ++ cond (p y) (y ∷ []) []
filter_push p [] y = refl
filter_push p (x ∷ l) y = pushed (p x) x (filter p (l ++ y ∷ [])) (filter p l) (cond (p y) (y ∷ []) []) (filter_push p l y)

equal_back : (x y : Word) → bytes_eq x y ≡ true → bytes_eq y x ≡ true
equal_back x y same = (bytes_eq-Decides y x).1 (sym ((bytes_eq-Decides x y).0 same))

apart_by : (a b : Word) (r : Bool) → bytes_eq a b ≡ false → bytes_eq b a ≡ r → r ≡ false
apart_by a b true one other = absurd (false≢true (sym one ∙ equal_back b a other))
apart_by a b false one other = refl

apart_back : (a b : Word) → bytes_eq a b ≡ false → bytes_eq b a ≡ false
apart_back a b one = apart_by a b (bytes_eq b a) one refl

seen_case : (x : Word) (xs : List Word) (y : Word) (b c : Bool) → bytes_eq x y ≡ b → has y (different xs) ≡ c → (b || has y (filter (is_not x) (different xs))) ≡ true
    → (has y (different xs) ≡ true → different (xs ++ y ∷ []) ≡ different xs) → (has y (different xs) ≡ false → different (xs ++ y ∷ []) ≡ different xs ++ y ∷ [])
    → x ∷ filter (is_not x) (different (xs ++ y ∷ [])) ≡ x ∷ filter (is_not x) (different xs)
seen_case x xs y b true same there some stays added = ap (λ (ws : List Word). x ∷ filter (is_not x) ws) (stays there)
seen_case x xs y true false same there some stays added =
    ap (λ (ws : List Word). x ∷ filter (is_not x) ws) (added there)
    ∙ ap (λ (ws : List Word). x ∷ ws) (filter_push (is_not x) (different xs) y ∙ ap (λ (b : Bool). filter (is_not x) (different xs) ++ cond (not b) (y ∷ []) []) (equal_back x y same) ∙ append-nil (filter (is_not x) (different xs)))
seen_case x xs y false false same there some stays added =
    let none : has y (filter (is_not x) (different xs)) ≡ false = any_kept x y (different xs) same ∙ there in absurd (false≢true (sym none ∙ some))

new_case : (x : Word) (xs : List Word) (y : Word) (b c : Bool) → bytes_eq x y ≡ b → has y (different xs) ≡ c → (b || has y (filter (is_not x) (different xs))) ≡ false
    → (has y (different xs) ≡ false → different (xs ++ y ∷ []) ≡ different xs ++ y ∷ [])
    → x ∷ filter (is_not x) (different (xs ++ y ∷ [])) ≡ (x ∷ filter (is_not x) (different xs)) ++ y ∷ []
new_case x xs y true c same there none added = absurd (false≢true (sym none))
new_case x xs y false true same there none added =
    let some : has y (filter (is_not x) (different xs)) ≡ true = any_kept x y (different xs) same ∙ there in absurd (false≢true (sym none ∙ some))
new_case x xs y false false same there none added =
    ap (λ (ws : List Word). x ∷ filter (is_not x) ws) (added there)
    ∙ ap (λ (ws : List Word). x ∷ ws) (filter_push (is_not x) (different xs) y ∙ ap (λ (b : Bool). filter (is_not x) (different xs) ++ cond (not b) (y ∷ []) []) (apart_back x y same))

pushed_both : (words : List Word) (word : Word) → (has word (different words) ≡ true → different (words ++ word ∷ []) ≡ different words)
    × (has word (different words) ≡ false → different (words ++ word ∷ []) ≡ different words ++ word ∷ [])
pushed_both [] word = (λ some. absurd (false≢true some), λ none. refl)
pushed_both (x ∷ xs) word =
    let below = pushed_both xs word in (
      λ some. seen_case x xs word (bytes_eq x word) (has word (different xs)) refl refl some below.0 below.1,
      λ none. new_case x xs word (bytes_eq x word) (has word (different xs)) refl refl none below.1,
    )

-- a word that is there already
pub seen_stays : (words : List Word) (word : Word) → has word (different words) ≡ true → different (words ++ word ∷ []) ≡ different words
seen_stays words word = (pushed_both words word).0

-- a word that isn't there yet
pub new_added : (words : List Word) (word : Word) → has word (different words) ≡ false → different (words ++ word ∷ []) ≡ different words ++ word ∷ []
new_added words word = (pushed_both words word).1

-- there are no fewer with more words
one_more : (words : List Word) (word : Word) (b : Bool) → has word (different words) ≡ b → length (different words) ≤ length (different (words ++ word ∷ []))
one_more words word true there = let same = ap (λ (ws : List Word). length ws) (seen_stays words word there) in omega arith
one_more words word false there = let more = ap (λ (ws : List Word). length ws) (new_added words word there) in omega (arith, more, length-append (different words) (word ∷ []))

pub more_words : (words more : List Word) → length (different words) ≤ length (different (words ++ more))
more_words words [] = let same = ap (λ (ws : List Word). length (different ws)) (append-nil words) in omega arith
more_words words (word ∷ more) =
    let here = one_more words word (has word (different words)) refl in
    let later = more_words (words ++ word ∷ []) more in
    let same = ap (λ (ws : List Word). length (different ws)) (append_assoc words (word ∷ []) more) in omega (arith, here, later, same)

with_case : (words : List Word) (word : Word) (b : Bool) → has word (different words) ≡ b → different (words ++ word ∷ []) ≡ cond b (different words) (different words ++ word ∷ [])
with_case words word true there = seen_stays words word there
with_case words word false there = new_added words word there

-- a list that grows by a word
pub one_with : (words : List Word) (word : Word) → different (words ++ word ∷ []) ≡ with_word (different words) word
one_with words word = with_case words word (has word (different words)) refl

pub next_with : (words : List Word) (i : ℕ) (word : Word) → i < length words → word ≡ get_or words i word → different (take (i + 1) words) ≡ with_word (different (take i words)) word
next_with words i word within is =
    ap different (take_more words i word within ∙ ap (λ (w : Word). take i words ++ w ∷ []) (sym is)) ∙ one_with (take i words) word

-- there are too many where a first part of the words has too many
pub too_many : (words : List Word) (i : ℕ) (word : Word) (most : ℕ) → i < length words → word ≡ get_or words i word → most < length (with_word (different (take i words)) word) → most < length (different words)
too_many words i word most within is many =
    let here = ap (λ (ws : List Word). length ws) (next_with words i word within is) in
    let more = more_words (take (i + 1) words) (drop (i + 1) words) in
    let whole = ap (λ (ws : List Word). length (different ws)) (take-append-drop (i + 1) words) in omega (arith, here, more, whole, many)

-- ---- a word that is added unless it is there

has_in : (words slice : List Word) (word : Word) (b c : Bool) → slice ≡ words → b ≡ has word slice → b ≡ c → has word words ≡ c
has_in words slice word b c same tested is = sym (ap (λ (ws : List Word). has word ws) same) ∙ sym tested ∙ is

pub there : (words slice : List Word) (word : Word) (b : Bool) → slice ≡ words → b ≡ has word slice → b ≡ true → words ≡ with_word words word
there words slice word b same tested is = sym (ap (λ (c : Bool). cond c words (words ++ word ∷ [])) (has_in words slice word b true same tested is))

pub not_there : (words slice : List Word) (word : Word) (b : Bool) → slice ≡ words → b ≡ has word slice → b ≡ false → with_word words word ≡ words ++ word ∷ []
not_there words slice word b same tested is = ap (λ (c : Bool). cond c words (words ++ word ∷ [])) (has_in words slice word b false same tested is)

pub no_room : (words slice later : List Word) (word : Word) (b : Bool) (most : ℕ) → slice ≡ words → b ≡ has word slice → b ≡ false → later ≡ words → length later ≡ most → most < length (with_word words word)
no_room words slice later word b most same tested is now full =
    let longer = ap (λ (ws : List Word). length ws) (not_there words slice word b same tested is) in
    let all = ap (λ (ws : List Word). length ws) now in omega (arith, longer, all, full, length-append words (word ∷ []))

pub added : (words slice later new : List Word) (word copy : Word) (b : Bool) (most : ℕ) → slice ≡ words → b ≡ has word slice → b ≡ false → later ≡ words → (length later ≡ most → ⊥) → length words ≤ most
    → new ≡ words ++ copy ∷ [] → copy ≡ word → (new ≡ with_word words word) × (length new ≤ most)
added words slice later new word copy b most same tested is now room few pushed cloned = (
  pushed ∙ ap (λ (w : Word). words ++ w ∷ []) cloned ∙ sym (not_there words slice word b same tested is),
  let longer = ap (λ (ws : List Word). length ws) pushed in
      let all = ap (λ (ws : List Word). length ws) now in omega (arith, longer, all, room, few, length-append words (copy ∷ [])),
)

abbrev Adds : (all new : List Word) → Word → ℕ → Bool → Type 0
Adds all new word most b = MatchBool b (most < length (with_word all word)) ((new ≡ with_word all word) × (length new ≤ most))

pub next_added : (words all new : List Word) (i : ℕ) (word : Word) (most : ℕ) (b : Bool) → i < length words → word ≡ get_or words i word → all ≡ different (take i words)
    → MatchBool b (most < length (with_word all word)) ((new ≡ with_word all word) × (length new ≤ most)) → b ≡ false → (new ≡ different (take (i + 1) words)) × (length new ≤ most)
next_added words all new i word most b within is are adds done =
    let P : Bool → Type 0 = λ c. Adds all new word most c in
    let both = subst P done adds in
    (both.0 ∙ ap (λ (ws : List Word). with_word ws word) are ∙ sym (next_with words i word within is), both.1)

pub too_many_by : (words all new : List Word) (i : ℕ) (word : Word) (most : ℕ) (b : Bool) → i < length words → word ≡ get_or words i word → all ≡ different (take i words)
    → MatchBool b (most < length (with_word all word)) ((new ≡ with_word all word) × (length new ≤ most)) → b ≡ true → most < length (different words)
too_many_by words all new i word most b within is are adds full =
    let P : Bool → Type 0 = λ c. Adds all new word most c in
    let Q : List Word → Type 0 = λ ws. most < length (with_word ws word) in too_many words i word most within is (subst Q are (subst P full adds))
