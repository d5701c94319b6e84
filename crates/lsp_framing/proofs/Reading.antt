-- What the machine makes of fields as they are written.
use Rattle.std.proofs.Common.{◌≡◌, ℕ, ◌+◌, ◌<◌, ◌≤◌, suc, List, [], ◌∷◌, ◌++◌, refl, sym, ap, ◌∙◌, arith, length, Bool, true, false, if◌then◌else◌, ◌==◌, ◌&&◌, subst, Option, Some, None, Result, Ok, append_assoc, get_or, drop, nat_lt, nat_le, codes, fold}
use Rattle.std.specs.List.{list_all}
use Rattle.std.specs.Char.{is_ascii_digit, to_ascii_lowercase}
use Rattle.std.specs.Str.{str_to_ascii_lowercase}
use Rattle.std.proofs.Math.Seq.{drop-cons}
use Rattle.std.proofs.lemmas.Bool.Decides.{nat_tests}
use Rattle.ls_base.specs.Frames.{is_name_byte, is_value_byte, is_blank, with_digit, number, max_body, Field, other, sized, field_text, fields_text, IsName, IsLengthName, IsOther, IsSized, Tell, IsHeader}
use Rattle.lsp_framing.specs.Machine.{letter, is_length, step, whole, onward, peel}
use Rattle.lsp_framing.specs.Standing.{spelled_by}
use Rattle.lsp_framing.specs.declared.header.HeaderState.{HeaderState}
use Rattle.lsp_framing.specs.declared.header.HeaderState.TheVariants.{Line, Name, Value, BeforeDigits, Digits, AfterDigits}
use Rattle.lsp_framing.specs.declared.header.State.{State}
use Rattle.lsp_framing.specs.declared.header.State.TheVariants.{Header}
use Rattle.lsp_framing.specs.declared.header.Wrong.{Wrong}

pub both : (a b : Bool) → (a && b) ≡ true → (a ≡ true) × (b ≡ true)
both true true h = (refl, refl)
both true false h = cc
both false b h = cc

-- a byte leads on to the next place
moved : (s t : HeaderState) (c : ℕ) (cs : List ℕ) → step s c ≡ Ok (Header t) → peel (c ∷ cs) s ≡ peel cs t
moved s t c cs e = ap (λ (r : Result State Wrong). onward r cs (peel cs)) e

-- a byte of a name is no colon and no return
name_byte : (c : ℕ) → is_name_byte c ≡ true → ((c == 13) ≡ false) × ((c == 58) ≡ false)
name_byte c h = grind (arith, nat_tests)

value_byte : (c : ℕ) → is_value_byte c ≡ true → ((c == 13) ≡ false) × ((c == 10) ≡ false)
value_byte c h = grind (arith, nat_tests)

pub in_name : (name rest : List ℕ) (told k : Option ℕ) → list_all is_name_byte name ≡ true → peel (name ++ rest) (Name told k) ≡ peel rest (Name told (spelled_by name k))
in_name [] rest told k h = refl
in_name (c ∷ cs) rest told k h =
    let p = both (is_name_byte c) (list_all is_name_byte cs) h in
    let n = name_byte c p.0 in
    moved (Name told k) (Name told (letter k c)) c (cs ++ rest) (rw (p.0, n.1) refl) ∙ in_name cs rest told (letter k c) p.1

at_name : (name rest : List ℕ) (told : Option ℕ) → IsName name → peel (name ++ rest) (Line told) ≡ peel rest (Name told (spelled_by name (Some 0)))
at_name [] rest told h = absurd (omega (arith, h.0))
at_name (c ∷ cs) rest told h =
    let p = both (is_name_byte c) (list_all is_name_byte cs) h.1 in
    let n = name_byte c p.0 in
    moved (Line told) (Name told (letter (Some 0) c)) c (cs ++ rest) (rw (n.0, p.0) refl) ∙ in_name cs rest told (letter (Some 0) c) p.1

in_value : (value rest : List ℕ) (told : Option ℕ) → list_all is_value_byte value ≡ true → peel (value ++ rest) (Value told) ≡ peel rest (Value told)
in_value [] rest told h = refl
in_value (c ∷ cs) rest told h =
    let p = both (is_value_byte c) (list_all is_value_byte cs) h in
    let n = value_byte c p.0 in
    moved (Value told) (Value told) c (cs ++ rest) (rw (n.0, n.1) refl) ∙ in_value cs rest told p.1

-- a blank is no digit and no return
blank : (c : ℕ) → is_blank c ≡ true → (is_ascii_digit c ≡ false) × ((c == 13) ≡ false)
blank c h = grind (arith, nat_tests)

pub in_left : (left rest : List ℕ) → list_all is_blank left ≡ true → peel (left ++ rest) BeforeDigits ≡ peel rest BeforeDigits
in_left [] rest h = refl
in_left (c ∷ cs) rest h =
    let p = both (is_blank c) (list_all is_blank cs) h in
    let n = blank c p.0 in
    moved BeforeDigits BeforeDigits c (cs ++ rest) (rw (n.0, p.0) refl) ∙ in_left cs rest p.1

in_right : (right rest : List ℕ) (n : ℕ) → list_all is_blank right ≡ true → peel (right ++ rest) (AfterDigits n) ≡ peel rest (AfterDigits n)
in_right [] rest n h = refl
in_right (c ∷ cs) rest n h =
    let p = both (is_blank c) (list_all is_blank cs) h in
    moved (AfterDigits n) (AfterDigits n) c (cs ++ rest) (rw p.0 refl) ∙ in_right cs rest n p.1

-- a number doesn't shrink
number_grows : (ds : List ℕ) (n : ℕ) → n ≤ fold with_digit n ds
number_grows [] n = omega arith
number_grows (d ∷ ds) n = omega (arith, number_grows ds (with_digit n d))

fits : (m n : ℕ) → m ≤ n → nat_le m n ≡ true
fits m n h = grind (arith, nat_tests)

in_digits : (ds rest : List ℕ) (n : ℕ) → list_all is_ascii_digit ds ≡ true → fold with_digit n ds ≤ max_body → peel (ds ++ rest) (Digits n) ≡ peel rest (Digits (fold with_digit n ds))
in_digits [] rest n h m = refl
in_digits (c ∷ cs) rest n h m =
    let p = both (is_ascii_digit c) (list_all is_ascii_digit cs) h in
    let le = fits (with_digit n c) max_body (omega (arith, number_grows cs (with_digit n c))) in
    moved (Digits n) (Digits (with_digit n c)) c (cs ++ rest) (rw (p.0, le) refl) ∙ in_digits cs rest (with_digit n c) p.1 m

pub at_digits : (ds rest : List ℕ) → 0 < length ds → list_all is_ascii_digit ds ≡ true → number ds ≤ max_body → peel (ds ++ rest) BeforeDigits ≡ peel rest (Digits (number ds))
at_digits [] rest l h m = absurd (omega arith)
at_digits (c ∷ cs) rest l h m =
    let p = both (is_ascii_digit c) (list_all is_ascii_digit cs) h in
    let le = fits (with_digit 0 c) max_body (omega (arith, number_grows cs (with_digit 0 c))) in
    moved BeforeDigits (Digits (with_digit 0 c)) c (cs ++ rest) (rw (p.0, le) refl) ∙ in_digits cs rest (with_digit 0 c) p.1 m

-- a name is this word in small letters
abbrev spells : List ℕ → List ℕ → Bool
spells [] [] = true
spells [] (d ∷ ds) = false
spells (c ∷ cs) [] = false
spells (c ∷ cs) (d ∷ ds) = to_ascii_lowercase c == d && spells cs ds

same : (a b : ℕ) → (a == b) ≡ true → a ≡ b
same a b h = grind (arith, nat_tests)

alike : (a b : ℕ) → a ≡ b → (a == b) ≡ true
alike a b h = grind (arith, nat_tests)

spells_word : (name word : List ℕ) → spells name word ≡ true → str_to_ascii_lowercase name ≡ word
spells_word [] [] h = refl
spells_word [] (d ∷ ds) h = cc
spells_word (c ∷ cs) [] h = cc
spells_word (c ∷ cs) (d ∷ ds) h =
    let p = both (to_ascii_lowercase c == d) (spells cs ds) h in
    ap (λ (x : ℕ). x ∷ str_to_ascii_lowercase cs) (same (to_ascii_lowercase c) d p.0) ∙ ap (λ (q : List ℕ). d ∷ q) (spells_word cs ds p.1)

word_spells : (name word : List ℕ) → str_to_ascii_lowercase name ≡ word → spells name word ≡ true
word_spells [] [] h = refl
word_spells [] (d ∷ ds) h = cc
word_spells (c ∷ cs) [] h = cc
word_spells (c ∷ cs) (d ∷ ds) h =
    let first : to_ascii_lowercase c ≡ d = cc in
    let rest : str_to_ascii_lowercase cs ≡ ds = cc in
    rw (alike (to_ascii_lowercase c) d first) (word_spells cs ds rest)

-- once a byte differs the name is another
differs : (name : List ℕ) → spelled_by name None ≡ None
differs [] = refl
differs (c ∷ cs) = differs cs

letter_at : (k c : ℕ) (cs : List ℕ) → k < 14 → ((k2 : ℕ) → k2 ≤ 14 → is_length (spelled_by cs (Some k2)) ≡ spells cs (drop k2 (codes "content-length"))) →
    (b : Bool) → (to_ascii_lowercase c == get_or (codes "content-length") k 0) ≡ b →
    is_length (spelled_by cs (if b then Some (k + 1) else None)) ≡ (b && spells cs (drop (suc k) (codes "content-length")))
letter_at k c cs h more true e = let up : k + 1 ≡ suc k = omega arith in more (k + 1) (omega arith) ∙ ap (λ (n : ℕ). spells cs (drop n (codes "content-length"))) up
letter_at k c cs h more false e = ap is_length (differs cs)

last_letter : (name : List ℕ) → is_length (spelled_by name (Some 14)) ≡ spells name []
last_letter [] = refl
last_letter (c ∷ cs) = ap is_length (differs cs)

letters : (name : List ℕ) (b : Bool) (k : ℕ) → k ≤ 14 → (k == 14) ≡ b → is_length (spelled_by name (Some k)) ≡ spells name (drop k (codes "content-length"))
letters name true k h e =
    let is : k ≡ 14 = grind (arith, nat_tests) in
    subst (λ (n : ℕ). is_length (spelled_by name (Some n)) ≡ spells name (drop n (codes "content-length"))) (sym is) (last_letter name)
letters [] false k h e =
    let lt : k < 14 = grind (arith, nat_tests) in
    e ∙ ap (spells []) (sym (drop-cons (codes "content-length") k 0 lt))
letters (c ∷ cs) false k h e =
    let lt : k < 14 = grind (arith, nat_tests) in
    let yes : nat_lt k 14 ≡ true = grind (arith, nat_tests) in
    ap (λ (b : Bool). is_length (spelled_by cs (if (b && (to_ascii_lowercase c == get_or (codes "content-length") k 0)) then Some (k + 1) else None))) yes
    ∙ letter_at k c cs lt (λ k2 l. letters cs (k2 == 14) k2 l refl) (to_ascii_lowercase c == get_or (codes "content-length") k 0) refl
    ∙ ap (spells (c ∷ cs)) (sym (drop-cons (codes "content-length") k 0 lt))

-- the machine's count is that of the whole name where the name is the length's
pub length_name : (name : List ℕ) → IsName name → is_length (spelled_by name (Some 0)) ≡ true → IsLengthName name
length_name name n h = (n, spells_word name (codes "content-length") (sym (letters name false 0 (omega arith) refl) ∙ h))

pub name_of_length : (name : List ℕ) → IsLengthName name → is_length (spelled_by name (Some 0)) ≡ true
name_of_length name h = letters name false 0 (omega arith) refl ∙ word_spells name (codes "content-length") h.1

other_by : (name : List ℕ) (b : Bool) → IsName name → ¬ IsLengthName name → is_length (spelled_by name (Some 0)) ≡ b → b ≡ false
other_by name true n h e = absurd (h (length_name name n e))
other_by name false n h e = refl

-- and only there
other_name : (name : List ℕ) → IsName name → ¬ IsLengthName name → is_length (spelled_by name (Some 0)) ≡ false
other_name name n h = other_by name (is_length (spelled_by name (Some 0))) n h refl

-- a field that tells no length leaves what was told
at_other : (name value rest : List ℕ) (told : Option ℕ) → IsOther name value → peel (field_text (other name value) rest) (Line told) ≡ peel rest (Line told)
at_other name value rest told h =
    at_name name (58 ∷ (value ++ (13 ∷ 10 ∷ rest))) told h.0
    ∙ moved (Name told (spelled_by name (Some 0))) (Value told) 58 (value ++ (13 ∷ 10 ∷ rest)) (rw (other_name name h.0 h.1) refl)
    ∙ in_value value (13 ∷ 10 ∷ rest) told h.2

pub at_length_name : (name rest : List ℕ) → IsLengthName name → peel (name ++ (58 ∷ rest)) (Line None) ≡ peel rest BeforeDigits
at_length_name name rest h =
    at_name name (58 ∷ rest) None h.0
    ∙ moved (Name None (spelled_by name (Some 0))) BeforeDigits 58 rest (rw (name_of_length name h) refl)

-- after a number, its blanks and its line end
after_number : (right rest : List ℕ) (n : ℕ) → list_all is_blank right ≡ true → peel (right ++ (13 ∷ 10 ∷ rest)) (Digits n) ≡ peel rest (Line (Some n))
after_number [] rest n h = refl
after_number (c ∷ cs) rest n h =
    let p = both (is_blank c) (list_all is_blank cs) h in
    let q = blank c p.0 in
    moved (Digits n) (AfterDigits n) c (cs ++ (13 ∷ 10 ∷ rest)) (rw (q.0, p.0) refl) ∙ in_right cs (13 ∷ 10 ∷ rest) n p.1

at_sized : (name left digits right rest : List ℕ) → IsSized name left digits right →
    peel (field_text (sized name left digits right) rest) (Line None) ≡ peel rest (Line (Some (number digits)))
at_sized name left digits right rest h =
    at_length_name name (left ++ (digits ++ (right ++ (13 ∷ 10 ∷ rest)))) h.0
    ∙ in_left left (digits ++ (right ++ (13 ∷ 10 ∷ rest))) h.1
    ∙ at_digits digits (right ++ (13 ∷ 10 ∷ rest)) h.2 h.3 h.5
    ∙ after_number right rest (number digits) h.4

at_others : (fs : List Field) (rest : List ℕ) (told : Option ℕ) → Tell fs None → peel (fields_text fs rest) (Line told) ≡ peel rest (Line told)
at_others [] rest told h = refl
at_others (other name value ∷ fs) rest told h = at_other name value (fields_text fs rest) told h.0 ∙ at_others fs rest told h.1
at_others (sized name left digits right ∷ fs) rest told h = let e = h.2 in cc

-- the machine reads fields
pub at_fields : (fs : List Field) (rest : List ℕ) (told : Option ℕ) → Tell fs told → peel (fields_text fs rest) (Line None) ≡ peel rest (Line told)
at_fields [] rest told h = ap (λ (o : Option ℕ). peel rest (Line o)) (sym h)
at_fields (other name value ∷ fs) rest told h = at_other name value (fields_text fs rest) None h.0 ∙ at_fields fs rest told h.1
at_fields (sized name left digits right ∷ fs) rest told h =
    at_sized name left digits right (fields_text fs rest) h.0 ∙ at_others fs rest (Some (number digits)) h.1
    ∙ ap (λ (o : Option ℕ). peel rest (Line o)) (sym h.2)

-- what follows goes on after a field
field_append : (f : Field) (xs ys : List ℕ) → field_text f xs ++ ys ≡ field_text f (xs ++ ys)
field_append (other name value) xs ys = simp append_assoc
field_append (sized name left digits right) xs ys = simp append_assoc

pub fields_append : (fs : List Field) (xs ys : List ℕ) → fields_text fs xs ++ ys ≡ fields_text fs (xs ++ ys)
fields_append [] xs ys = refl
fields_append (f ∷ fs) xs ys = field_append f (fields_text fs xs) ys ∙ ap (field_text f) (fields_append fs xs ys)

-- one more field
pub fields_more : (fs : List Field) (f : Field) (xs : List ℕ) → fields_text (fs ++ f ∷ []) xs ≡ fields_text fs (field_text f xs)
fields_more [] f xs = refl
fields_more (g ∷ fs) f xs = ap (field_text g) (fields_more fs f xs)

-- the machine reads what stands before a body
pub at_header : (bytes rest : List ℕ) (n : ℕ) → IsHeader bytes n → peel (bytes ++ rest) (Line None) ≡ whole n rest
at_header bytes rest n h =
    ap (λ (q : List ℕ). peel (q ++ rest) (Line None)) h.2
    ∙ ap (λ (q : List ℕ). peel q (Line None)) (fields_append h.0 (13 ∷ 10 ∷ []) rest)
    ∙ at_fields h.0 (13 ∷ 10 ∷ rest) (Some n) h.1
