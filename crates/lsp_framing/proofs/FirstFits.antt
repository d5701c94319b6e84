-- Which fault a wrong byte is.
use Rattle.std.proofs.Common.{◌≡◌, ℕ, ◌<◌, ◌≤◌, List, [], ◌∷◌, ◌++◌, refl, sym, ap, ◌∙◌, arith, length, Bool, true, false, if◌then◌else◌, ◌==◌, not, subst, Option, Some, None, Result, Ok, Err, append-nil, nat_le, inl, inr}
use Rattle.std.specs.List.{list_all}
use Rattle.std.specs.Char.{is_ascii_digit}
use Rattle.std.proofs.lemmas.Bool.Decides.{nat_tests}
use Rattle.ls_base.specs.Frames.{is_name_byte, is_blank, with_digit, number, max_header, max_body, InLength, PassesLimit, Fits, no_length, FirstFit, fault_order}
use Rattle.lsp_framing.specs.Machine.{kind_of, letter, is_length, at_empty_line, at_length, at_line, in_name, in_value, before_digits, in_digits, after_digits, at_line_feed, at_digit, onto, step, Peeled, part, onward, peel}
use Rattle.lsp_framing.specs.Standing.{Reads}
use Rattle.lsp_framing.specs.declared.header.HeaderState.{HeaderState}
use Rattle.lsp_framing.specs.declared.header.HeaderState.TheVariants.{Line, Name, Value, BeforeDigits, Digits, AfterDigits, LineFeed, LastLineFeed}
use Rattle.lsp_framing.specs.declared.header.State.TheVariants.{Body}
use Rattle.lsp_framing.specs.declared.header.Wrong.{Wrong}
use Rattle.lsp_framing.specs.declared.header.Wrong.TheVariants.{LongHeader, NoLength, BadLength, LongBody, BadHeader}
use Rattle.lsp_framing.proofs.Reading.{both, at_fields, at_length_name, in_left, at_digits}
use Rattle.lsp_framing.proofs.ReadSoFar.{number_more, all_more}

-- in the value of a length
abbrev InValue : HeaderState → Type 0
InValue BeforeDigits = Unit {0}
InValue (Digits n) = Unit {0}
InValue (AfterDigits n) = Unit {0}
InValue (Line told) = ⊥
InValue (Name told k) = ⊥
InValue (Value told) = ⊥
InValue (LineFeed told) = ⊥
InValue (LastLineFeed n) = ⊥

-- the byte is a digit with which the number passes the limit
abbrev Over : HeaderState → ℕ → Type 0
Over (Digits n) c = (is_ascii_digit c ≡ true) × (max_body < with_digit n c)
Over BeforeDigits c = ⊥
Over (AfterDigits n) c = ⊥
Over (Line told) c = ⊥
Over (Name told k) c = ⊥
Over (Value told) c = ⊥
Over (LineFeed told) c = ⊥
Over (LastLineFeed n) c = ⊥

-- what a fault tells of the place and the byte
abbrev Cause : Wrong → HeaderState → ℕ → Type 0
Cause LongHeader s c = ⊥
Cause NoLength s c = (s ≡ Line None) × (c ≡ 13)
Cause BadLength s c = InValue s
Cause LongBody s c = Over s c
Cause BadHeader s c = InValue s → ⊥

caused : (w v : Wrong) (s : HeaderState) (c : ℕ) → (let r : Result HeaderState Wrong = Err w in r) ≡ Err v → Cause w s c → Cause v s c
caused w v s c e h = let same : w ≡ v = cc in subst (λ (x : Wrong). Cause x s c) same h

over : (m n : ℕ) → n < m → nat_le m n ≡ false
over m n h = grind (arith, nat_tests)

above : (m n : ℕ) → nat_le m n ≡ false → n < m
above m n h = grind (arith, nat_tests)

few : (c : ℕ) → is_ascii_digit c ≡ true → nat_le (with_digit 0 c) max_body ≡ true
few c h = grind (arith, nat_tests)

is_13 : (c : ℕ) → (c == 13) ≡ true → c ≡ 13
is_13 c e = grind (arith, nat_tests)

line_why : (a b : Bool) (told : Option ℕ) (w : Wrong) (c : ℕ) → (c == 13) ≡ a →
    (if a then at_empty_line told else if b then Ok (Name told (letter (Some 0) c)) else Err BadHeader) ≡ Err w → Cause w (Line told) c
line_why true b None w c h e = caused NoLength w (Line None) c e (refl, is_13 c h)
line_why true b (Some n) w c h e = cc
line_why false true told w c h e = cc
line_why false false told w c h e = caused BadHeader w (Line told) c e (λ x. x)

name_why : (a b g : Bool) (told k : Option ℕ) (w : Wrong) (c : ℕ) →
    (if a then if g then at_length told else Ok (Value told) else if b then Ok (Name told (letter k c)) else Err BadHeader) ≡ Err w → Cause w (Name told k) c
name_why true b true None k w c e = cc
name_why true b true (Some n) k w c e = caused BadHeader w (Name (Some n) k) c e (λ x. x)
name_why true b false told k w c e = cc
name_why false true g told k w c e = cc
name_why false false g told k w c e = caused BadHeader w (Name told k) c e (λ x. x)

value_why : (a b : Bool) (told : Option ℕ) (w : Wrong) (c : ℕ) →
    (if a then Ok (LineFeed told) else if b then Err BadHeader else Ok (Value told)) ≡ Err w → Cause w (Value told) c
value_why true b told w c e = cc
value_why false true told w c e = caused BadHeader w (Value told) c e (λ x. x)
value_why false false told w c e = cc

before_why : (a b g : Bool) (w : Wrong) (c : ℕ) → is_ascii_digit c ≡ a → nat_le (with_digit 0 c) max_body ≡ g →
    (if a then if g then Ok (Digits (with_digit 0 c)) else Err LongBody else if b then Ok BeforeDigits else Err BadLength) ≡ Err w → Cause w BeforeDigits c
before_why true b true w c h i e = cc
before_why true b false w c h i e = let no : true ≡ false = sym (few c h) ∙ i in cc
before_why false true g w c h i e = cc
before_why false false g w c h i e = caused BadLength w BeforeDigits c e tt

digits_why : (a b d g : Bool) (n : ℕ) (w : Wrong) (c : ℕ) → is_ascii_digit c ≡ a → nat_le (with_digit n c) max_body ≡ g →
    (if a then if g then Ok (Digits (with_digit n c)) else Err LongBody else if b then Ok (AfterDigits n) else if d then Ok (LineFeed (Some n)) else Err BadLength) ≡ Err w → Cause w (Digits n) c
digits_why true b d true n w c h i e = cc
digits_why true b d false n w c h i e = caused LongBody w (Digits n) c e (h, above (with_digit n c) max_body i)
digits_why false true d g n w c h i e = cc
digits_why false false true g n w c h i e = cc
digits_why false false false g n w c h i e = caused BadLength w (Digits n) c e tt

after_why : (b d : Bool) (n : ℕ) (w : Wrong) (c : ℕ) →
    (if b then Ok (AfterDigits n) else if d then Ok (LineFeed (Some n)) else Err BadLength) ≡ Err w → Cause w (AfterDigits n) c
after_why true d n w c e = cc
after_why false true n w c e = cc
after_why false false n w c e = caused BadLength w (AfterDigits n) c e tt

feed_why : (a : Bool) (told : Option ℕ) (w : Wrong) (c : ℕ) → (if a then Ok (Line told) else Err BadHeader) ≡ Err w → Cause w (LineFeed told) c
feed_why true told w c e = cc
feed_why false told w c e = caused BadHeader w (LineFeed told) c e (λ x. x)

last_why : (a : Bool) (n : ℕ) (w : Wrong) (c : ℕ) → (if a then Ok (Body n) else Err BadHeader) ≡ Err w → Cause w (LastLineFeed n) c
last_why true n w c e = cc
last_why false n w c e = let same : BadHeader ≡ w = cc in subst (λ (x : Wrong). Cause x (LastLineFeed n) c) same (λ x. x)

refused : (r : Result HeaderState Wrong) (w : Wrong) → onto r ≡ Err w → r ≡ Err w
refused (Err v) w e = let same : v ≡ w = cc in ap Err same
refused (Ok u) w e = cc

why : (s : HeaderState) (c : ℕ) (w : Wrong) → step s c ≡ Err w → Cause w s c
why (Line told) c w e = line_why (c == 13) (is_name_byte c) told w c refl (refused (at_line told c) w e)
why (Name told k) c w e = name_why (c == 58) (is_name_byte c) (is_length k) told k w c (refused (in_name told k c) w e)
why (Value told) c w e = value_why (c == 13) (c == 10) told w c (refused (in_value told c) w e)
why BeforeDigits c w e = before_why (is_ascii_digit c) (is_blank c) (nat_le (with_digit 0 c) max_body) w c refl refl (refused (before_digits c) w e)
why (Digits n) c w e = digits_why (is_ascii_digit c) (is_blank c) (c == 13) (nat_le (with_digit n c) max_body) n w c refl refl (refused (in_digits n c) w e)
why (AfterDigits n) c w e = after_why (is_blank c) (c == 13) n w c (refused (after_digits n c) w e)
why (LineFeed told) c w e = feed_why (c == 10) told w c (refused (at_line_feed told c) w e)
why (LastLineFeed n) c w e = last_why (c == 10) n w c e

-- a blank or a digit is no return
no_return : (test : ℕ → Bool) (xs : List ℕ) → ((c : ℕ) → test c ≡ true → not (c == 13) ≡ true) → list_all test xs ≡ true → list_all (λ c. not (c == 13)) xs ≡ true
no_return test [] h e = refl
no_return test (c ∷ cs) h e = let p = both (test c) (list_all test cs) e in rw (h c p.0) (no_return test cs h p.1)

blank_no : (c : ℕ) → is_blank c ≡ true → not (c == 13) ≡ true
blank_no c h = grind (arith, nat_tests)

digit_no : (c : ℕ) → is_ascii_digit c ≡ true → not (c == 13) ≡ true
digit_no c h = grind (arith, nat_tests)

all_both : (test : ℕ → Bool) (xs ys : List ℕ) → list_all test xs ≡ true → list_all test ys ≡ true → list_all test (xs ++ ys) ≡ true
all_both test [] ys h k = k
all_both test (x ∷ xs) ys h k = let p = both (test x) (list_all test xs) h in rw p.0 (all_both test xs ys p.1 k)

digits_inside : (n : ℕ) (p : List ℕ) (r : Reads (Digits n) p) → InLength p (r.2 ++ r.3)
digits_inside n p r =
    let l = r.5 in
    record {
      fields = r.0;
      name = r.1;
      untold = r.4;
      named = l.0;
      unended = all_both (λ c. not (c == 13)) r.2 r.3 (no_return is_blank r.2 blank_no l.1) (no_return is_ascii_digit r.3 digit_no l.3);
      text = r.7;
    }

inside : (s : HeaderState) (p : List ℕ) → InValue s → Reads s p → (v : List ℕ) × InLength p v
inside BeforeDigits p i r = (r.2, record { fields = r.0; name = r.1; untold = r.3; named = r.4; unended = no_return is_blank r.2 blank_no r.5; text = r.6 })
inside (Digits n) p i r = (r.2 ++ r.3, digits_inside n p r)
inside (AfterDigits n) p i r =
    let l = r.6 in (
      r.2 ++ (r.3 ++ r.4),
      record {
        fields = r.0;
        name = r.1;
        untold = r.5;
        named = l.0;
        unended = all_both (λ c. not (c == 13)) r.2 (r.3 ++ r.4) (no_return is_blank r.2 blank_no l.1) (all_both (λ c. not (c == 13)) r.3 r.4 (no_return is_ascii_digit r.3 digit_no l.3) (no_return is_blank r.4 blank_no l.4));
        text = r.8;
      },
    )
inside (Line told) p i r = absurd i
inside (Name told k) p i r = absurd i
inside (Value told) p i r = absurd i
inside (LineFeed told) p i r = absurd i
inside (LastLineFeed n) p i r = absurd i

passes : (s : HeaderState) (p : List ℕ) (c : ℕ) → Over s c → Reads s p → PassesLimit p c
passes (Digits n) p c o r =
    let l = r.5 in
    record {
      left = r.2;
      digits = r.3;
      inside = digits_inside n p r;
      blank = l.1;
      decimal = all_more is_ascii_digit r.3 c l.3 o.0;
      within = l.5;
      passes = subst (λ (q : ℕ). max_body < q) (ap (λ (q : ℕ). with_digit q c) r.6 ∙ sym (number_more r.3 c)) o.1;
    }
passes BeforeDigits p c o r = absurd o
passes (AfterDigits n) p c o r = absurd o
passes (Line told) p c o r = absurd o
passes (Name told k) p c o r = absurd o
passes (Value told) p c o r = absurd o
passes (LineFeed told) p c o r = absurd o
passes (LastLineFeed n) p c o r = absurd o

not_13 : (c : ℕ) → not (c == 13) ≡ true → (c == 13) ≡ false
not_13 c h = grind (arith, nat_tests)

-- a byte other than a return leads on in the value of a length
before_on : (a b g : Bool) (x : HeaderState → Peeled) (cs : List ℕ) (s : HeaderState) (d : ℕ) →
    ((u : HeaderState) → InValue u → x u ≡ part s → InValue s) →
    onward (onto (if a then if g then Ok (Digits d) else Err LongBody else if b then Ok BeforeDigits else Err BadLength)) cs x ≡ part s → InValue s
before_on true b true x cs s d more e = more (Digits d) tt e
before_on true b false x cs s d more e = cc
before_on false true g x cs s d more e = more BeforeDigits tt e
before_on false false g x cs s d more e = cc

digits_on : (a b g : Bool) (n d : ℕ) (x : HeaderState → Peeled) (cs : List ℕ) (s : HeaderState) →
    ((u : HeaderState) → InValue u → x u ≡ part s → InValue s) →
    onward (onto (if a then if g then Ok (Digits d) else Err LongBody else if b then Ok (AfterDigits n) else Err BadLength)) cs x ≡ part s → InValue s
digits_on true b true n d x cs s more e = more (Digits d) tt e
digits_on true b false n d x cs s more e = cc
digits_on false true g n d x cs s more e = more (AfterDigits n) tt e
digits_on false false g n d x cs s more e = cc

after_on : (b : Bool) (n : ℕ) (x : HeaderState → Peeled) (cs : List ℕ) (s : HeaderState) →
    ((u : HeaderState) → InValue u → x u ≡ part s → InValue s) →
    onward (onto (if b then Ok (AfterDigits n) else Err BadLength)) cs x ≡ part s → InValue s
after_on true n x cs s more e = more (AfterDigits n) tt e
after_on false n x cs s more e = cc

stays_inside : (v : List ℕ) (u s : HeaderState) → InValue u → list_all (λ c. not (c == 13)) v ≡ true → peel v u ≡ part s → InValue s
stays_inside [] u s i h e = let same : u ≡ s = cc in subst InValue same i
stays_inside (c ∷ v) BeforeDigits s i h e =
    let p = both (not (c == 13)) (list_all (λ c. not (c == 13)) v) h in
    before_on (is_ascii_digit c) (is_blank c) (nat_le (with_digit 0 c) max_body) (peel v) v s (with_digit 0 c) (λ u j k. stays_inside v u s j p.1 k) e
stays_inside (c ∷ v) (Digits n) s i h e =
    let p = both (not (c == 13)) (list_all (λ c. not (c == 13)) v) h in
    digits_on (is_ascii_digit c) (is_blank c) (nat_le (with_digit n c) max_body) n (with_digit n c) (peel v) v s (λ u j k. stays_inside v u s j p.1 k)
    (ap (λ (b : Bool). onward (onto (if is_ascii_digit c then at_digit n c else if is_blank c then Ok (AfterDigits n) else if b then Ok (LineFeed (Some n)) else Err BadLength)) v (peel v)) (sym (not_13 c p.0)) ∙ e)
stays_inside (c ∷ v) (AfterDigits n) s i h e =
    let p = both (not (c == 13)) (list_all (λ c. not (c == 13)) v) h in
    after_on (is_blank c) n (peel v) v s (λ u j k. stays_inside v u s j p.1 k)
    (ap (λ (b : Bool). onward (onto (if is_blank c then Ok (AfterDigits n) else if b then Ok (LineFeed (Some n)) else Err BadLength)) v (peel v)) (sym (not_13 c p.0)) ∙ e)
stays_inside (c ∷ v) (Line told) s i h e = absurd i
stays_inside (c ∷ v) (Name told k) s i h e = absurd i
stays_inside (c ∷ v) (Value told) s i h e = absurd i
stays_inside (c ∷ v) (LineFeed told) s i h e = absurd i
stays_inside (c ∷ v) (LastLineFeed n) s i h e = absurd i

-- the machine is in the value of a length where the bytes are
to_value : (p v : List ℕ) (s : HeaderState) → InLength p v → peel p (Line None) ≡ part s → InValue s
to_value p v s i e =
    stays_inside v BeforeDigits s tt i.unended
    (sym (ap (λ (q : List ℕ). peel q (Line None)) i.text ∙ at_fields i.fields (i.name ++ (58 ∷ v)) None i.untold ∙ at_length_name i.name v i.named) ∙ e)

-- the machine is at the start of a line where the bytes are
to_line : (p : List ℕ) (c : ℕ) (s : HeaderState) → Fits no_length p c → peel p (Line None) ≡ part s → step s c ≡ Err NoLength
to_line p c s f e =
    let same : (let q : Peeled = part (Line None) in q) ≡ part s = sym (ap (λ (q : List ℕ). peel q (Line None)) f.3 ∙ at_fields f.1 [] None f.2) ∙ e in
    let is : Line None ≡ s = cc in
    subst (λ (q : HeaderState). step q c ≡ Err NoLength) is (ap (step (Line None)) f.0)

last_digit : (ds : List ℕ) (c : ℕ) → list_all is_ascii_digit (ds ++ c ∷ []) ≡ true → (list_all is_ascii_digit ds ≡ true) × (is_ascii_digit c ≡ true)
last_digit [] c h = (refl, (both (is_ascii_digit c) true h).0)
last_digit (d ∷ ds) c h =
    let p = both (is_ascii_digit d) (list_all is_ascii_digit (ds ++ c ∷ [])) h in
    let q = last_digit ds c p.1 in
    (rw p.0 q.0, q.1)

long_by : (p : List ℕ) (c : ℕ) (s : HeaderState) (left digits : List ℕ) → InLength p (left ++ digits) → list_all is_blank left ≡ true → list_all is_ascii_digit digits ≡ true → is_ascii_digit c ≡ true
    → number digits ≤ max_body → max_body < number (digits ++ c ∷ []) → peel p (Line None) ≡ part s → step s c ≡ Err LongBody
long_by p c s left [] i l ds d m o e = let no : true ≡ false = sym (few c d) ∙ over (with_digit 0 c) max_body o in cc
long_by p c s left (x ∷ xs) i l ds d m o e =
    let n = number (x ∷ xs) in
    let same : (let q : Peeled = part (Digits n) in q) ≡ part s =
    sym (ap (λ (q : List ℕ). peel q (Line None)) i.text ∙ at_fields i.fields (i.name ++ (58 ∷ (left ++ (x ∷ xs)))) None i.untold ∙ at_length_name i.name (left ++ (x ∷ xs)) i.named
    ∙ in_left left (x ∷ xs) l ∙ ap (λ (q : List ℕ). peel q BeforeDigits) (sym (append-nil (x ∷ xs))) ∙ at_digits (x ∷ xs) [] (omega arith) ds m) ∙ e in
    let is : Digits n ≡ s = cc in
    let big : max_body < with_digit n c = subst (λ (q : ℕ). max_body < q) (number_more (x ∷ xs) c) o in
    subst (λ (q : HeaderState). step q c ≡ Err LongBody) is (rw (d, over (with_digit n c) max_body big) refl)

to_long : (p : List ℕ) (c : ℕ) (s : HeaderState) → PassesLimit p c → peel p (Line None) ≡ part s → step s c ≡ Err LongBody
to_long p c s f e = let l = last_digit f.digits c f.decimal in long_by p c s f.left f.digits f.inside f.blank l.0 l.1 f.within f.passes e

-- the fault is the first that fits
pub first : (s : HeaderState) (p : List ℕ) (c : ℕ) (w : Wrong) → Reads s p → peel p (Line None) ≡ part s → length p < max_header → step s c ≡ Err w → FirstFit fault_order p c (kind_of w)
first s p c LongHeader r e l h = absurd (why s c LongHeader h)
first s p c NoLength r e l h =
    let y = why s c NoLength h in
    let z = subst (λ (q : HeaderState). Reads q p) y.0 r in
    inr (λ x. omega (arith, x), inl ((y.1, z.0, z.1, z.2), refl))
first s p c BadLength r e l h =
    let y = why s c BadLength h in
    inr (λ x. omega (arith, x), inr (λ x. let k = to_line p c s x e in cc, inl ((inside s p y r, λ x. let k = to_long p c s x e in cc), refl)))
first s p c LongBody r e l h =
    let y = passes s p c (why s c LongBody h) r in
    inr (λ x. omega (arith, x), inr (λ x. let k = to_line p c s x e in cc, inr (λ x. x.1 y, inl (y, refl))))
first s p c BadHeader r e l h =
    let y = why s c BadHeader h in
    inr (λ x. omega (arith, x), inr (λ x. let k = to_line p c s x e in cc, inr (λ x. y (to_value p x.0.0 s x.0.1 e), inr (λ x. let k = to_long p c s x e in cc, inl (tt, refl)))))

pub first_long : (p : List ℕ) (c : ℕ) → length p ≡ max_header → FirstFit fault_order p c (kind_of LongHeader)
first_long p c h = inl (h, refl)
