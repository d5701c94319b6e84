-- What the machine has read where it stands.
use Rattle.std.proofs.Common.{◌≡◌, ℕ, ◌≤◌, List, [], ◌∷◌, ◌++◌, refl, sym, ap, ◌∙◌, arith, Bool, true, false, if◌then◌else◌, ◌==◌, ◌&&◌, subst, Option, Some, None, Result, Ok, Err, append_assoc, append-nil, nat_le, fold}
use Rattle.std.specs.List.{list_all}
use Rattle.std.specs.Char.{is_ascii_digit}
use Rattle.std.proofs.lemmas.List.{length-append}
use Rattle.std.proofs.lemmas.Bool.Decides.{nat_tests}
use Rattle.ls_base.specs.Frames.{is_name_byte, is_value_byte, is_blank, with_digit, number, max_body, Field, other, sized, field_text, fields_text, IsName, IsLengthName, IsOther, IsSized, Tell, IsHeader}
use Rattle.lsp_framing.specs.Machine.{letter, is_length, at_empty_line, at_length, at_line, in_name, in_value, before_digits, in_digits, after_digits, at_line_feed, onto, step}
use Rattle.lsp_framing.specs.Standing.{spelled_by, Reads}
use Rattle.lsp_framing.specs.declared.header.HeaderState.{HeaderState}
use Rattle.lsp_framing.specs.declared.header.HeaderState.TheVariants.{Line, Name, Value, BeforeDigits, Digits, AfterDigits, LineFeed, LastLineFeed}
use Rattle.lsp_framing.specs.declared.header.State.{State}
use Rattle.lsp_framing.specs.declared.header.State.TheVariants.{Header, Body}
use Rattle.lsp_framing.specs.declared.header.Wrong.{Wrong}
use Rattle.lsp_framing.specs.declared.header.Wrong.TheVariants.{BadLength, LongBody, BadHeader}
use Rattle.lsp_framing.proofs.Reading.{length_name, name_of_length, fields_append, fields_more, both}

-- the bytes that brought the machine to a state
abbrev pub ReadsTo : State → List ℕ → Type 0
ReadsTo (Header place) bytes = Reads place bytes
ReadsTo (Body size) bytes = IsHeader bytes size

tell_other : (fs : List Field) (name value : List ℕ) (told : Option ℕ) → Tell fs told → IsOther name value → Tell (fs ++ other name value ∷ []) told
tell_other [] name value told h o = (o, h)
tell_other (other n v ∷ fs) name value told h o = (h.0, tell_other fs name value told h.1 o)
tell_other (sized n l d r ∷ fs) name value told h o = (h.0, tell_other fs name value None h.1 o, h.2)

tell_sized : (fs : List Field) (name left digits right : List ℕ) → Tell fs None → IsSized name left digits right → Tell (fs ++ sized name left digits right ∷ []) (Some (number digits))
tell_sized [] name left digits right h o = (o, refl, refl)
tell_sized (other n v ∷ fs) name left digits right h o = (h.0, tell_sized fs name left digits right h.1 o)
tell_sized (sized n l d r ∷ fs) name left digits right h o = let e = h.2 in cc

-- one more byte at the end of an unfinished line
longer : (p : List ℕ) (fs : List Field) (line : List ℕ) (c : ℕ) → p ≡ fields_text fs line → p ++ c ∷ [] ≡ fields_text fs (line ++ c ∷ [])
longer p fs line c e = ap (λ (q : List ℕ). q ++ c ∷ []) e ∙ fields_append fs line (c ∷ [])

pub all_more : (test : ℕ → Bool) (xs : List ℕ) (c : ℕ) → list_all test xs ≡ true → test c ≡ true → list_all test (xs ++ c ∷ []) ≡ true
all_more test [] c h e = ap (λ (b : Bool). b && true) e
all_more test (x ∷ xs) c h e = let p = both (test x) (list_all test xs) h in ap (λ (b : Bool). b && list_all test (xs ++ c ∷ [])) p.0 ∙ all_more test xs c p.1 e

spelled_more : (name : List ℕ) (c : ℕ) (k : Option ℕ) → spelled_by (name ++ c ∷ []) k ≡ letter (spelled_by name k) c
spelled_more [] c k = refl
spelled_more (d ∷ ds) c k = spelled_more ds c (letter k d)

more_from : (ds : List ℕ) (c n : ℕ) → fold with_digit n (ds ++ c ∷ []) ≡ with_digit (fold with_digit n ds) c
more_from [] c n = refl
more_from (d ∷ ds) c n = more_from ds c (with_digit n d)

pub number_more : (ds : List ℕ) (c : ℕ) → number (ds ++ c ∷ []) ≡ with_digit (number ds) c
number_more ds c = more_from ds c 0

name_more : (name : List ℕ) (c : ℕ) → list_all is_name_byte name ≡ true → is_name_byte c ≡ true → IsName (name ++ c ∷ [])
name_more name c h e = (omega (arith, length-append name (c ∷ [])), all_more is_name_byte name c h e)

is_13 : (c : ℕ) → (c == 13) ≡ true → c ≡ 13
is_13 c e = grind (arith, nat_tests)

is_10 : (c : ℕ) → (c == 10) ≡ true → c ≡ 10
is_10 c e = grind (arith, nat_tests)

is_58 : (c : ℕ) → (c == 58) ≡ true → c ≡ 58
is_58 c e = grind (arith, nat_tests)

within : (m n : ℕ) → nat_le m n ≡ true → m ≤ n
within m n h = grind (arith, nat_tests)

-- the place that a step gives is the one that it is said to give
held : (s t : HeaderState) (p : List ℕ) → (let r : Result HeaderState Wrong = Ok s in r) ≡ Ok t → Reads s p → Reads t p
held s t p e r = let same : s ≡ t = cc in subst (λ (q : HeaderState). Reads q p) same r

line_step : (a b : Bool) (told : Option ℕ) (t : HeaderState) (c : ℕ) (p : List ℕ) → Reads (Line told) p → (c == 13) ≡ a → is_name_byte c ≡ b →
    (if a then at_empty_line told else if b then Ok (Name told (letter (Some 0) c)) else Err BadHeader) ≡ Ok t → Reads t (p ++ c ∷ [])
line_step true b None t c p r h k e = cc
line_step true b (Some n) t c p r h k e =
    held (LastLineFeed n) t (p ++ c ∷ []) e
    (r.0, r.1, longer (p ++ c ∷ []) r.0 (13 ∷ []) 10 (longer p r.0 [] c r.2 ∙ ap (λ (d : ℕ). fields_text r.0 (d ∷ [])) (is_13 c h)))
line_step false true told t c p r h k e =
    held (Name told (letter (Some 0) c)) t (p ++ c ∷ []) e
    (r.0, c ∷ [], r.1, (omega arith, ap (λ (b : Bool). b && true) k), refl, longer p r.0 [] c r.2)
line_step false false told t c p r h k e = cc

-- a name that the machine doesn't count as the length's is another
another : (name : List ℕ) (k : Option ℕ) → k ≡ spelled_by name (Some 0) → is_length k ≡ false → IsLengthName name → ⊥
another name k e h n = let yes = name_of_length name n in let no = ap is_length (sym e) ∙ h in cc

name_step : (a b g : Bool) (told k : Option ℕ) (t : HeaderState) (c : ℕ) (p : List ℕ) → Reads (Name told k) p → (c == 58) ≡ a → is_name_byte c ≡ b → is_length k ≡ g →
    (if a then if g then at_length told else Ok (Value told) else if b then Ok (Name told (letter k c)) else Err BadHeader) ≡ Ok t → Reads t (p ++ c ∷ [])
name_step true b true (Some n) k t c p r h i j e = cc
name_step true b true None k t c p r h i j e =
    held BeforeDigits t (p ++ c ∷ []) e
    (r.0, r.1, [], r.2, length_name r.1 r.3 (ap is_length (sym r.4) ∙ j), refl, longer p r.0 r.1 c r.5 ∙ ap (λ (d : ℕ). fields_text r.0 (r.1 ++ d ∷ [])) (is_58 c h))
name_step true b false told k t c p r h i j e =
    held (Value told) t (p ++ c ∷ []) e
    (r.0, r.1, [], r.2, (r.3, another r.1 k r.4 j, refl), longer p r.0 r.1 c r.5 ∙ ap (λ (d : ℕ). fields_text r.0 (r.1 ++ d ∷ [])) (is_58 c h))
name_step false true g told k t c p r h i j e =
    held (Name told (letter k c)) t (p ++ c ∷ []) e
    (r.0, r.1 ++ c ∷ [], r.2, name_more r.1 c r.3.1 i, ap (λ (q : Option ℕ). letter q c) r.4 ∙ sym (spelled_more r.1 c (Some 0)), longer p r.0 r.1 c r.5)
name_step false false g told k t c p r h i j e = cc

-- an unfinished line of two parts grows in the second
grown : (p : List ℕ) (fs : List Field) (name value : List ℕ) (c : ℕ) → p ≡ fields_text fs (name ++ (58 ∷ value)) → p ++ c ∷ [] ≡ fields_text fs (name ++ (58 ∷ (value ++ c ∷ [])))
grown p fs name value c e = longer p fs (name ++ (58 ∷ value)) c e ∙ ap (fields_text fs) (append_assoc name (58 ∷ value) (c ∷ []))

-- a line is ended by its two bytes
line_ends : (p : List ℕ) (fs : List Field) (name value : List ℕ) (c : ℕ) (f : Field) → field_text f [] ≡ name ++ (58 ∷ (value ++ (13 ∷ 10 ∷ []))) →
    (c == 13) ≡ true → p ≡ fields_text fs (name ++ (58 ∷ value)) → (p ++ c ∷ []) ++ 10 ∷ [] ≡ fields_text (fs ++ f ∷ []) []
line_ends p fs name value c f is h e =
    let flat : (name ++ (58 ∷ (value ++ 13 ∷ []))) ++ 10 ∷ [] ≡ name ++ (58 ∷ (value ++ (13 ∷ 10 ∷ []))) = simp append_assoc in
    longer (p ++ c ∷ []) fs (name ++ (58 ∷ (value ++ c ∷ []))) 10 (grown p fs name value c e)
    ∙ ap (fields_text fs) (ap (λ (d : ℕ). (name ++ (58 ∷ (value ++ d ∷ []))) ++ 10 ∷ []) (is_13 c h) ∙ flat ∙ sym is)
    ∙ sym (fields_more fs f [])

value_step : (a b : Bool) (told : Option ℕ) (t : HeaderState) (c : ℕ) (p : List ℕ) → Reads (Value told) p → (c == 13) ≡ a → (c == 10) ≡ b →
    (if a then Ok (LineFeed told) else if b then Err BadHeader else Ok (Value told)) ≡ Ok t → Reads t (p ++ c ∷ [])
value_step true b told t c p r h i e =
    held (LineFeed told) t (p ++ c ∷ []) e
    (r.0 ++ other r.1 r.2 ∷ [], tell_other r.0 r.1 r.2 told r.3 r.4, line_ends p r.0 r.1 r.2 c (other r.1 r.2) refl h r.5)
value_step false true told t c p r h i e = cc
value_step false false told t c p r h i e =
    let good : is_value_byte c ≡ true = rw (h, i) refl in
    held (Value told) t (p ++ c ∷ []) e
    (r.0, r.1, r.2 ++ c ∷ [], r.3, (r.4.0, r.4.1, all_more is_value_byte r.2 c r.4.2 good), grown p r.0 r.1 r.2 c r.5)

before_step : (a b g : Bool) (t : HeaderState) (c : ℕ) (p : List ℕ) → Reads BeforeDigits p → is_ascii_digit c ≡ a → is_blank c ≡ b → nat_le (with_digit 0 c) max_body ≡ g →
    (if a then if g then Ok (Digits (with_digit 0 c)) else Err LongBody else if b then Ok BeforeDigits else Err BadLength) ≡ Ok t → Reads t (p ++ c ∷ [])
before_step true b true t c p r h i j e =
    held (Digits (with_digit 0 c)) t (p ++ c ∷ []) e (
      r.0,
      r.1,
      r.2,
      c ∷ [],
      r.3,
      (r.4, r.5, omega arith, ap (λ (q : Bool). q && true) h, refl, within (with_digit 0 c) max_body j),
      refl,
      grown p r.0 r.1 r.2 c r.6,
    )
before_step true b false t c p r h i j e = cc
before_step false true g t c p r h i j e =
    held BeforeDigits t (p ++ c ∷ []) e (r.0, r.1, r.2 ++ c ∷ [], r.3, r.4, all_more is_blank r.2 c r.5 i, grown p r.0 r.1 r.2 c r.6)
before_step false false g t c p r h i j e = cc

-- the line of a length ends
length_ends : (p : List ℕ) (fs : List Field) (name left digits right : List ℕ) (n c : ℕ) → Tell fs None → IsSized name left digits right → n ≡ number digits →
    (c == 13) ≡ true → p ≡ fields_text fs (name ++ (58 ∷ (left ++ (digits ++ right)))) → Reads (LineFeed (Some n)) (p ++ c ∷ [])
length_ends p fs name left digits right n c tell is m h e =
    let flat : (left ++ (digits ++ right)) ++ (13 ∷ 10 ∷ []) ≡ left ++ (digits ++ (right ++ (13 ∷ 10 ∷ []))) = simp append_assoc in (
      fs ++ sized name left digits right ∷ [],
      subst (λ (q : ℕ). Tell (fs ++ sized name left digits right ∷ []) (Some q)) (sym m) (tell_sized fs name left digits right tell is),
      line_ends p fs name (left ++ (digits ++ right)) c (sized name left digits right) (ap (λ (q : List ℕ). name ++ (58 ∷ q)) (sym flat)) h e,
    )

digits_step : (a b d g : Bool) (n : ℕ) (t : HeaderState) (c : ℕ) (p : List ℕ) → Reads (Digits n) p → is_ascii_digit c ≡ a → is_blank c ≡ b → (c == 13) ≡ d → nat_le (with_digit n c) max_body ≡ g →
    (if a then if g then Ok (Digits (with_digit n c)) else Err LongBody else if b then Ok (AfterDigits n) else if d then Ok (LineFeed (Some n)) else Err BadLength) ≡ Ok t → Reads t (p ++ c ∷ [])
digits_step true b d true n t c p r h i j k e =
    let l = r.5 in
    let m : with_digit n c ≡ number (r.3 ++ c ∷ []) = ap (λ (q : ℕ). with_digit q c) r.6 ∙ sym (number_more r.3 c) in
    held (Digits (with_digit n c)) t (p ++ c ∷ []) e (
      r.0,
      r.1,
      r.2,
      r.3 ++ c ∷ [],
      r.4,
      (l.0, l.1, omega (arith, length-append r.3 (c ∷ [])), all_more is_ascii_digit r.3 c l.3 h, refl, subst (λ (q : ℕ). q ≤ max_body) m (within (with_digit n c) max_body k)),
      m,
      grown p r.0 r.1 (r.2 ++ r.3) c r.7 ∙ ap (λ (q : List ℕ). fields_text r.0 (r.1 ++ (58 ∷ q))) (append_assoc r.2 r.3 (c ∷ [])),
    )
digits_step true b d false n t c p r h i j k e = cc
digits_step false true d g n t c p r h i j k e =
    let l = r.5 in
    held (AfterDigits n) t (p ++ c ∷ []) e (
      r.0,
      r.1,
      r.2,
      r.3,
      c ∷ [],
      r.4,
      (l.0, l.1, l.2, l.3, ap (λ (q : Bool). q && true) i, l.5),
      r.6,
      grown p r.0 r.1 (r.2 ++ r.3) c r.7 ∙ ap (λ (q : List ℕ). fields_text r.0 (r.1 ++ (58 ∷ q))) (append_assoc r.2 r.3 (c ∷ [])),
    )
digits_step false false true g n t c p r h i j k e =
    held (LineFeed (Some n)) t (p ++ c ∷ []) e
    (length_ends p r.0 r.1 r.2 r.3 [] n c r.4 r.5 r.6 j (r.7 ∙ ap (λ (q : List ℕ). fields_text r.0 (r.1 ++ (58 ∷ (r.2 ++ q)))) (sym (append-nil r.3))))
digits_step false false false g n t c p r h i j k e = cc

after_step : (b d : Bool) (n : ℕ) (t : HeaderState) (c : ℕ) (p : List ℕ) → Reads (AfterDigits n) p → is_blank c ≡ b → (c == 13) ≡ d →
    (if b then Ok (AfterDigits n) else if d then Ok (LineFeed (Some n)) else Err BadLength) ≡ Ok t → Reads t (p ++ c ∷ [])
after_step true d n t c p r h j e =
    let l = r.6 in
    let flat : (r.2 ++ (r.3 ++ r.4)) ++ c ∷ [] ≡ r.2 ++ (r.3 ++ (r.4 ++ c ∷ [])) = simp append_assoc in
    held (AfterDigits n) t (p ++ c ∷ []) e (
      r.0,
      r.1,
      r.2,
      r.3,
      r.4 ++ c ∷ [],
      r.5,
      (l.0, l.1, l.2, l.3, all_more is_blank r.4 c l.4 h, l.5),
      r.7,
      grown p r.0 r.1 (r.2 ++ (r.3 ++ r.4)) c r.8 ∙ ap (λ (q : List ℕ). fields_text r.0 (r.1 ++ (58 ∷ q))) flat,
    )
after_step false true n t c p r h j e =
    held (LineFeed (Some n)) t (p ++ c ∷ []) e (length_ends p r.0 r.1 r.2 r.3 r.4 n c r.5 r.6 r.7 j r.8)
after_step false false n t c p r h j e = cc

feed_step : (a : Bool) (told : Option ℕ) (t : HeaderState) (c : ℕ) (p : List ℕ) → Reads (LineFeed told) p → (c == 10) ≡ a →
    (if a then Ok (Line told) else Err BadHeader) ≡ Ok t → Reads t (p ++ c ∷ [])
feed_step true told t c p r h e = held (Line told) t (p ++ c ∷ []) e (r.0, r.1, ap (λ (d : ℕ). p ++ d ∷ []) (is_10 c h) ∙ r.2)
feed_step false told t c p r h e = cc

last_step : (a : Bool) (n : ℕ) (t : State) (c : ℕ) (p : List ℕ) → Reads (LastLineFeed n) p → (c == 10) ≡ a →
    (if a then Ok (Body n) else Err BadHeader) ≡ Ok t → ReadsTo t (p ++ c ∷ [])
last_step true n t c p r h e =
    let same : Body n ≡ t = cc in
    subst (λ (q : State). ReadsTo q (p ++ c ∷ [])) same (r.0, r.1, ap (λ (d : ℕ). p ++ d ∷ []) (is_10 c h) ∙ r.2)
last_step false n t c p r h e = cc

-- a step that stays before the body
stays : (r : Result HeaderState Wrong) (t : State) (bytes : List ℕ) → ((u : HeaderState) → r ≡ Ok u → Reads u bytes) → onto r ≡ Ok t → ReadsTo t bytes
stays (Err w) t bytes h e = cc
stays (Ok u) t bytes h e = let same : Header u ≡ t = cc in subst (λ (q : State). ReadsTo q bytes) same (h u refl)

-- what was read is kept by each step
pub reads_step : (s : HeaderState) (t : State) (c : ℕ) (p : List ℕ) → Reads s p → step s c ≡ Ok t → ReadsTo t (p ++ c ∷ [])
reads_step (Line told) t c p r e = stays (at_line told c) t (p ++ c ∷ []) (λ u k. line_step (c == 13) (is_name_byte c) told u c p r refl refl k) e
reads_step (Name told k) t c p r e = stays (in_name told k c) t (p ++ c ∷ []) (λ u i. name_step (c == 58) (is_name_byte c) (is_length k) told k u c p r refl refl refl i) e
reads_step (Value told) t c p r e = stays (in_value told c) t (p ++ c ∷ []) (λ u k. value_step (c == 13) (c == 10) told u c p r refl refl k) e
reads_step BeforeDigits t c p r e = stays (before_digits c) t (p ++ c ∷ []) (λ u k. before_step (is_ascii_digit c) (is_blank c) (nat_le (with_digit 0 c) max_body) u c p r refl refl refl k) e
reads_step (Digits n) t c p r e = stays (in_digits n c) t (p ++ c ∷ []) (λ u k. digits_step (is_ascii_digit c) (is_blank c) (c == 13) (nat_le (with_digit n c) max_body) n u c p r refl refl refl refl k) e
reads_step (AfterDigits n) t c p r e = stays (after_digits n c) t (p ++ c ∷ []) (λ u k. after_step (is_blank c) (c == 13) n u c p r refl refl k) e
reads_step (LineFeed told) t c p r e = stays (at_line_feed told c) t (p ++ c ∷ []) (λ u k. feed_step (c == 10) told u c p r refl k) e
reads_step (LastLineFeed n) t c p r e = last_step (c == 10) n t c p r refl e
