-- An included text stands in the place of the list that includes it: what is given is the same where the text's data stand there themselves.
use Rattle.std.proofs.Common.{◌≡◌, refl, sym, ap, ◌∙◌, ℕ, ◌+◌, List, [], ◌∷◌, ◌++◌, map, Bool, true, false, Option, Some, None, ◌||◌, arith}
use Rattle.std.specs.Prelude.{nat_lt, if◌then◌else◌, codes}
use Rattle.std.proofs.lemmas.List.{append_assoc, append-nil, map-append}
use Rattle.std.specs.List.{list_any}
use Rattle.std.specs.Char.{encode_utf8}
use Rattle.std.specs.Str.{encode_utf8_all}
use Rattle.scheme_model.specs.Kinds.{Name, Quoted}
use Rattle.scheme_model.specs.Data.{Datum, atom, list, spelled, part, none, Place}
use Rattle.scheme_model.specs.Requirements.{Known}
use Rattle.scheme_model.specs.Includes.{StringAt, includes}
use Rattle.scheme_model.specs.Included.{FlatForm, Homed, LostString, Listing, Lists, BadAfter, TooLong, nothing, is_same_string, with_one, with_lost, joined, capped, followed, in_a_row, Texts, form_or_texts, forms_of, texts_or, form_alone, declaration, declarations_of}

-- ---- strings, each once

same_through : (a b k : LostString) → is_same_string a b ≡ true → is_same_string b k ≡ true → is_same_string a k ≡ true
same_through a b k e h = grind arith

-- what is the same as a string that is among others is among them
same_among : (a b : LostString) (ks : List LostString) → is_same_string a b ≡ true → list_any (is_same_string b) ks ≡ true → list_any (is_same_string a) ks ≡ true
same_among a b [] e h = h
same_among a b (k ∷ ks) e h = grind (arith, same_through a b k e, same_among a b ks e)

with_one_by : (a b : LostString) (ks : List LostString) (t : Bool) → list_any (is_same_string b) ks ≡ t → (is_same_string a b || list_any (is_same_string a) ks) ≡ true →
    list_any (is_same_string a) (if t then ks else b ∷ ks) ≡ true
with_one_by a b ks true e h = grind (arith, λ (q : is_same_string a b ≡ true). same_among a b ks q e)
with_one_by a b ks false e h = h

-- what is among some stays among them with others
stays_among : (a : LostString) (bs ks : List LostString) → list_any (is_same_string a) bs ≡ true → list_any (is_same_string a) (with_lost bs ks) ≡ true
stays_among a [] ks h = absurd cc
stays_among a (b ∷ bs) ks h =
    with_one_by a b (with_lost bs ks) (list_any (is_same_string b) (with_lost bs ks)) refl (grind (arith, stays_among a bs ks))

one_joined_by : (l : LostString) (ms ks : List LostString) (t : Bool) → list_any (is_same_string l) ms ≡ t → with_lost (if t then ms else l ∷ ms) ks ≡ with_one l (with_lost ms ks)
one_joined_by l ms ks true e = sym (ap (λ b. if b then with_lost ms ks else l ∷ with_lost ms ks) (stays_among l ms ks e))
one_joined_by l ms ks false e = refl

lost_joined : (ls ms ks : List LostString) → with_lost (with_lost ls ms) ks ≡ with_lost ls (with_lost ms ks)
lost_joined [] ms ks = refl
lost_joined (l ∷ ls) ms ks =
    one_joined_by l (with_lost ls ms) ks (list_any (is_same_string l) (with_lost ls ms)) refl ∙ ap (with_one l) (lost_joined ls ms ks)

-- ---- listings in a row

joined_in_turn : (a b c : Listing) → joined (joined a b) c ≡ joined a (joined b c)
joined_in_turn TooLong b c = refl
joined_in_turn (BadAfter n d) b c = refl
joined_in_turn (Lists n fs ls) TooLong c = refl
joined_in_turn (Lists n fs ls) (BadAfter m d) c = refl
joined_in_turn (Lists n fs ls) (Lists m gs ms) TooLong = refl
joined_in_turn (Lists n fs ls) (Lists m gs ms) (BadAfter k d) = ap (λ i. BadAfter i d) (omega arith)
joined_in_turn (Lists n fs ls) (Lists m gs ms) (Lists k hs ks) =
    let sum : n + m + k ≡ n + (m + k) = omega arith in
    λ j. Lists (sum j) (append_assoc fs gs hs j) (lost_joined ls ms ks j)

over_bad : (limit n : ℕ) (d : Homed) → nat_lt limit n ≡ true → capped limit (BadAfter n d) ≡ TooLong
over_bad limit n d e = ap (λ b. if b then TooLong else BadAfter n d) e

over : (limit n : ℕ) (fs : List FlatForm) (ls : List LostString) → nat_lt limit n ≡ true → capped limit (Lists n fs ls) ≡ TooLong
over limit n fs ls e = ap (λ b. if b then TooLong else Lists n fs ls) e

within_bad : (limit n : ℕ) (d : Homed) → nat_lt limit n ≡ false → capped limit (BadAfter n d) ≡ BadAfter n d
within_bad limit n d e = ap (λ b. if b then TooLong else BadAfter n d) e

within : (limit n : ℕ) (fs : List FlatForm) (ls : List LostString) → nat_lt limit n ≡ false → capped limit (Lists n fs ls) ≡ Lists n fs ls
within limit n fs ls e = ap (λ b. if b then TooLong else Lists n fs ls) e

over_with : (limit n m : ℕ) → nat_lt limit n ≡ true → nat_lt limit (n + m) ≡ true
over_with limit n m e = grind arith

over_behind : (limit n m : ℕ) → nat_lt limit m ≡ true → nat_lt limit (n + m) ≡ true
over_behind limit n m e = grind arith

-- so many tokens in front of anything are too many
too_long_before : (limit n : ℕ) (fs : List FlatForm) (ls : List LostString) (b : Listing) → nat_lt limit n ≡ true → capped limit (joined (Lists n fs ls) b) ≡ TooLong
too_long_before limit n fs ls TooLong e = refl
too_long_before limit n fs ls (BadAfter m d) e = over_bad limit (n + m) d (over_with limit n m e)
too_long_before limit n fs ls (Lists m gs ks) e = over limit (n + m) (fs ++ gs) (with_lost ls ks) (over_with limit n m e)

-- capping before joining changes nothing
capped_first : (limit : ℕ) (a b : Listing) → capped limit (joined (capped limit a) b) ≡ capped limit (joined a b)
capped_first limit TooLong b = refl
capped_first limit (BadAfter n d) b = by (nat_lt limit n) refl
  where
    by : (t : Bool) → nat_lt limit n ≡ t → capped limit (joined (capped limit (BadAfter n d)) b) ≡ capped limit (BadAfter n d)
    by true e = ap (λ x. capped limit (joined x b)) (over_bad limit n d e) ∙ sym (over_bad limit n d e)
    by false e = ap (λ x. capped limit (joined x b)) (within_bad limit n d e)
capped_first limit (Lists n fs ls) b = by (nat_lt limit n) refl
  where
    by : (t : Bool) → nat_lt limit n ≡ t → capped limit (joined (capped limit (Lists n fs ls)) b) ≡ capped limit (joined (Lists n fs ls) b)
    by true e = ap (λ x. capped limit (joined x b)) (over limit n fs ls e) ∙ sym (too_long_before limit n fs ls b e)
    by false e = ap (λ x. capped limit (joined x b)) (within limit n fs ls e)

capped_second : (limit : ℕ) (a b : Listing) → capped limit (joined a (capped limit b)) ≡ capped limit (joined a b)
capped_second limit TooLong b = refl
capped_second limit (BadAfter n d) b = refl
capped_second limit (Lists n fs ls) TooLong = refl
capped_second limit (Lists n fs ls) (BadAfter m d) = by (nat_lt limit m) refl
  where
    by : (t : Bool) → nat_lt limit m ≡ t → capped limit (joined (Lists n fs ls) (capped limit (BadAfter m d))) ≡ capped limit (BadAfter (n + m) d)
    by true e = ap (λ x. capped limit (joined (Lists n fs ls) x)) (over_bad limit m d e) ∙ sym (over_bad limit (n + m) d (over_behind limit n m e))
    by false e = ap (λ x. capped limit (joined (Lists n fs ls) x)) (within_bad limit m d e)
capped_second limit (Lists n fs ls) (Lists m gs ks) = by (nat_lt limit m) refl
  where
    by : (t : Bool) → nat_lt limit m ≡ t →
        capped limit (joined (Lists n fs ls) (capped limit (Lists m gs ks))) ≡ capped limit (joined (Lists n fs ls) (Lists m gs ks))
    by true e = ap (λ x. capped limit (joined (Lists n fs ls) x)) (over limit m gs ks e) ∙ sym (over limit (n + m) (fs ++ gs) (with_lost ls ks) (over_behind limit n m e))
    by false e = ap (λ x. capped limit (joined (Lists n fs ls) x)) (within limit m gs ks e)

followed_in_turn : (limit : ℕ) (a b c : Listing) → followed limit (followed limit a b) c ≡ followed limit a (followed limit b c)
followed_in_turn limit a b c =
    capped_first limit (joined a b) c ∙ ap (capped limit) (joined_in_turn a b c) ∙ sym (capped_second limit a (joined b c))

behind_nothing : (l : Listing) → joined nothing l ≡ l
behind_nothing TooLong = refl
behind_nothing (BadAfter n d) = ap (λ i. BadAfter i d) (omega arith)
behind_nothing (Lists n fs ls) = ap (λ i. Lists i fs ls) (omega arith)

nothing_over : (limit : ℕ) → nat_lt limit 0 ≡ false
nothing_over limit = grind arith

capped_once : (limit : ℕ) (l : Listing) → capped limit (capped limit l) ≡ capped limit l
capped_once limit l =
    sym (ap (capped limit) (behind_nothing (capped limit l))) ∙ capped_second limit nothing l ∙ ap (capped limit) (behind_nothing l)

row_capped : (limit : ℕ) (ls : List Listing) → capped limit (in_a_row limit ls) ≡ in_a_row limit ls
row_capped limit [] = within limit 0 [] [] (nothing_over limit)
row_capped limit (l ∷ ls) = capped_once limit (joined l (in_a_row limit ls))

-- what rows give that stand one behind the other
pub rows_joined : (limit : ℕ) (ls bs : List Listing) → in_a_row limit (ls ++ bs) ≡ followed limit (in_a_row limit ls) (in_a_row limit bs)
rows_joined limit [] bs = sym (ap (capped limit) (behind_nothing (in_a_row limit bs)) ∙ row_capped limit bs)
rows_joined limit (l ∷ ls) bs = ap (followed limit l) (rows_joined limit ls bs) ∙ sym (followed_in_turn limit l (in_a_row limit ls) (in_a_row limit bs))

-- ---- in place

module _ (limit : ℕ) (f : Homed → Listing) where
  row : List Homed → Listing
  row hs = in_a_row limit (map f hs)

  row_of_both : (xs ys : List Homed) → row (xs ++ ys) ≡ followed limit (row xs) (row ys)
  unfolding row
  row_of_both xs ys = ap (in_a_row limit) (map-append f xs ys) ∙ rows_joined limit (map f xs) (map f ys)

-- a datum that gives what others in a row give may stand in their place
pub in_their_place : (limit : ℕ) (f : Homed → Listing) (h : Homed) (xs hs ys : List Homed) → f h ≡ in_a_row limit (map f hs) →
    in_a_row limit (map f (xs ++ h ∷ ys)) ≡ in_a_row limit (map f (xs ++ (hs ++ ys)))
unfolding row
in_their_place limit f h xs hs ys e =
    row_of_both limit f xs (h ∷ ys) ∙ ap (followed limit (row limit f xs)) (ap (λ x. followed limit x (row limit f ys)) e ∙ sym (row_of_both limit f hs ys))
    ∙ sym (row_of_both limit f xs (hs ++ ys))

-- one text in a row is what it gives
alone : (limit : ℕ) (ls : List Listing) → in_a_row limit (in_a_row limit ls ∷ []) ≡ in_a_row limit ls
alone limit ls = sym (rows_joined limit ls []) ∙ ap (in_a_row limit) (append-nil ls)

included_alone : (t : Texts) (h : Homed) (s : StringAt) (hs : List Homed) (found : Option (List StringAt)) → found ≡ Some (s ∷ []) → t.as_forms h.document s ≡ forms_of t hs →
    texts_or t.limit (t.as_forms h.document) found (form_alone false h) ≡ forms_of t hs
included_alone t h s hs found e g =
    ap (λ o. texts_or t.limit (t.as_forms h.document) o (form_alone false h)) e ∙ ap (λ x. in_a_row t.limit (x ∷ [])) g ∙ alone t.limit (map (form_or_texts t) hs)

-- data among forms may be put into a text of their own that is included there
pub forms_in_place : (t : Texts) (h : Homed) (s : StringAt) (xs hs ys : List Homed) → includes h.datum ≡ Some (s ∷ []) → t.as_forms h.document s ≡ forms_of t hs →
    forms_of t (xs ++ h ∷ ys) ≡ forms_of t (xs ++ (hs ++ ys))
forms_in_place t h s xs hs ys e g = in_their_place t.limit (form_or_texts t) h xs hs ys (included_alone t h s hs (includes h.datum) e g)

-- a list that includes one text
abbrev pub one_text : (word : List ℕ) → (whole head string : Place) → (text : List ℕ) → Datum
one_text word whole head string text = list whole (part (atom head (spelled (Name word false))) (part (atom string (spelled (Quoted text))) none))

abbrev pub string_of : Place → List ℕ → StringAt
string_of string text = record { place = string; characters = encode_utf8_all text }

declared_alone : (t : Texts) (known : Known) (h : Homed) (whole head string : Place) (text : List ℕ) →
    declaration t known h (one_text (codes "include-library-declarations") whole head string text) ≡ in_a_row t.limit (t.as_declarations h.document (string_of string text) ∷ [])
unfolding encode_utf8
declared_alone t known h whole head string text = refl

-- declarations may be put into a text of their own that is included there as declarations
pub declarations_in_place : (t : Texts) (known : Known) (h : Homed) (whole head string : Place) (text : List ℕ) (xs hs ys : List Homed) →
    h.datum ≡ one_text (codes "include-library-declarations") whole head string text → t.as_declarations h.document (string_of string text) ≡ declarations_of t known hs →
    declarations_of t known (xs ++ h ∷ ys) ≡ declarations_of t known (xs ++ (hs ++ ys))
declarations_in_place t known h whole head string text xs hs ys e g =
    in_their_place t.limit (λ (k : Homed). declaration t known k k.datum) h xs hs ys
    (ap (declaration t known h) e ∙ declared_alone t known h whole head string text ∙ ap (λ x. in_a_row t.limit (x ∷ [])) g
    ∙ alone t.limit (map (λ (k : Homed). declaration t known k k.datum) hs))
