-- What the code reads up to a closing mark is elements, and what they mean.
use Rattle.std.proofs.Common.{◌≡◌, ℕ, zero, suc, List, [], ◌∷◌, ◌++◌, Option, Some, None, Result, Ok, Err, Bool, true, false, cond, refl, sym, ap, ◌∙◌, subst, append_assoc, ◌||◌, ◌==◌, ◌&&◌, inl, inr}
use Rattle.std.specs.List.{list_all}
use Rattle.std.specs.Char.{to_ascii_lowercase}
use Rattle.std.proofs.lemmas.Bool.{cond-true, cond-false, cond_both, or_cases, or_from, and_parts, eqb-true, not_from_false}
use Rattle.scheme_tokens.specs.Lexical.{is_one_of, is_line_end, is_blank, is_hex_digit, is_scalar, Ends, IsMnemonic, hex_value, IsCode, IsLineEnd, IsElement, IsElements}
use Rattle.scheme_tokens.specs.Mirror.Words.{front_of, behind}
use Rattle.scheme_tokens.specs.Mirror.Quoted.{Fault, ◌>>=◌, escaped, letter, hex_scalar, hex_end, behind_line_end, fold_end, escape, element, elements}
use Rattle.scheme_tokens.proofs.Fronts.{front-behind, list_all-front_of}
use Rattle.scheme_tokens.proofs.Same.Ends.{ends-behind, EndsLike, like_front, like_behind}

-- ---- what the code reads is told by these

-- one element, and the text behind it
abbrev pub OneTold : ℕ → List ℕ → Result (List ℕ × List ℕ) Fault → Type 0
OneTold close text (Ok t) = (one : List ℕ) × (text ≡ one ++ t.1) × IsElement close one t.0 t.1
OneTold close text (Err f) = Unit {0}

-- elements up to the mark that closes
abbrev pub AllTold : ℕ → List ℕ → Result (List ℕ × List ℕ) Fault → Type 0
AllTold close text (Ok t) = (glyphs : List ℕ) × (text ≡ glyphs ++ t.1) × IsElements close glyphs t.0
AllTold close text (Err f) = Unit {0}

-- ---- escapes by a letter

meant : (c d m : ℕ) → (c == d) ≡ true → IsMnemonic d m → IsMnemonic c m
meant c d m e h = subst (λ (q : ℕ). IsMnemonic q m) (sym (eqb-true c d e)) h

meant_itself : (c d : ℕ) → (c == d) ≡ true → IsMnemonic d d → IsMnemonic c c
meant_itself c d e h = subst (λ (q : ℕ). IsMnemonic q q) (sym (eqb-true c d e)) h

itself_meant : (c : ℕ) → is_one_of (34 ∷ 92 ∷ 124 ∷ []) c ≡ true → IsMnemonic c c
itself_meant c h = elim (or_cases (c == 34) (c == 92 || (c == 124 || false)) h) [
  | inl e ↦ meant_itself c 34 e IsMnemonic.mark
  | inr e ↦ elim (or_cases (c == 92) (c == 124 || false) e) [
    | inl f ↦ meant_itself c 92 f IsMnemonic.backslash
    | inr f ↦ elim (or_cases (c == 124) false f) [ inl g ↦ meant_itself c 124 g IsMnemonic.bar | inr g ↦ cc ]
  ]
]

-- some letter means the character that is told, if one is
abbrev Means : ℕ → Option ℕ → Type 0
Means c None = Unit {0}
Means c (Some m) = IsMnemonic c m

pub escaped_means : (c : ℕ) → Means c (escaped c)
escaped_means c =
    cond_both (c == 97) _ _ (Means c) (λ e. meant c 97 7 e IsMnemonic.alarm)
    (λ _. cond_both (c == 98) _ _ (Means c) (λ e. meant c 98 8 e IsMnemonic.backspace)
    (λ _. cond_both (c == 116) _ _ (Means c) (λ e. meant c 116 9 e IsMnemonic.tab)
    (λ _. cond_both (c == 110) _ _ (Means c) (λ e. meant c 110 10 e IsMnemonic.line_feed)
    (λ _. cond_both (c == 114) _ _ (Means c) (λ e. meant c 114 13 e IsMnemonic.return)
    (λ _. cond_both (is_one_of (34 ∷ 92 ∷ 124 ∷ []) c) _ _ (Means c) (λ e. itself_meant c e) (λ _. tt))))))

-- ---- escapes by a code

same_number : (m n : ℕ) → Some m ≡ Some n → m ≡ n
same_number m n e = cc

none_some : (n : ℕ) → None ≡ Some n → ⊥
none_some n e = cc

not_empty : (d : ℕ) (ds : List ℕ) → d ∷ ds ≡ [] → ⊥
not_empty d ds e = cc

code_when : (d c : ℕ) (ds : List ℕ) (b : Bool) → is_scalar (hex_value (d ∷ ds)) ≡ b → list_all is_hex_digit (d ∷ ds) ≡ true → cond b (Some (hex_value (d ∷ ds))) None ≡ Some c → IsCode (d ∷ ds) c
code_when d c ds true e h k =
    let value = same_number (hex_value (d ∷ ds)) c k in
    record { some = not_empty d ds; all = h; value = value; scalar = ap is_scalar (sym value) ∙ e }
code_when d c ds false e h k = absurd (none_some c k)

-- the character that hex digits tell has their code
pub scalar_code : (digits : List ℕ) (c : ℕ) → list_all is_hex_digit digits ≡ true → hex_scalar digits ≡ Some c → IsCode digits c
scalar_code [] c h k = absurd (none_some c k)
scalar_code (d ∷ ds) c h k = code_when d c ds (is_scalar (hex_value (d ∷ ds))) refl h k

pub code_scalar : (digits : List ℕ) (c : ℕ) → IsCode digits c → hex_scalar digits ≡ Some c
code_scalar [] c h = absurd (h.some refl)
code_scalar (d ∷ ds) c h =
    cond-true (is_scalar (hex_value (d ∷ ds))) _ _ (ap is_scalar h.value ∙ h.scalar) ∙ ap (λ (q : ℕ). Some q) h.value

-- ---- line ends

line_end_when : (c d : ℕ) (ds : List ℕ) (b : Bool) → (d == 10) ≡ b → (c == 13) ≡ true →
    (ending : List ℕ) × (c ∷ d ∷ ds ≡ ending ++ cond (true && b) ds (d ∷ ds)) × IsLineEnd ending (cond (true && b) ds (d ∷ ds))
line_end_when c d ds true e h = (13 ∷ 10 ∷ [], (λ i. eqb-true c 13 h i ∷ eqb-true d 10 e i ∷ ds), IsLineEnd.return_feed ds)
line_end_when c d ds false e h = (13 ∷ [], ap (λ (q : ℕ). q ∷ d ∷ ds) (eqb-true c 13 h), IsLineEnd.return (d ∷ ds) e)

feed_kept : (c : ℕ) (cs : List ℕ) → (c == 10) ≡ true → cs ≡ behind_line_end c cs
feed_kept c [] h = refl
feed_kept c (d ∷ ds) h = sym (cond-false (c == 13 && d == 10) ds (d ∷ ds) (ap (λ (q : ℕ). q == 13 && d == 10) (eqb-true c 10 h)))

return_told : (c : ℕ) (cs : List ℕ) → (c == 13) ≡ true → (ending : List ℕ) × (c ∷ cs ≡ ending ++ behind_line_end c cs) × IsLineEnd ending (behind_line_end c cs)
return_told c [] h = (13 ∷ [], ap (λ (q : ℕ). q ∷ []) (eqb-true c 13 h), IsLineEnd.return [] tt)
return_told c (d ∷ ds) h =
    subst (λ (b : Bool). (ending : List ℕ) × (c ∷ d ∷ ds ≡ ending ++ cond (b && d == 10) ds (d ∷ ds)) × IsLineEnd ending (cond (b && d == 10) ds (d ∷ ds))) (sym h)
    (line_end_when c d ds (d == 10) refl h)

-- a character that ends a line, alone or with the line feed behind it
pub line_end_told : (c : ℕ) (cs : List ℕ) → is_line_end c ≡ true → (ending : List ℕ) × (c ∷ cs ≡ ending ++ behind_line_end c cs) × IsLineEnd ending (behind_line_end c cs)
line_end_told c cs h = elim (or_cases (c == 10) (c == 13) h) [
  | inl e ↦ (10 ∷ [], (λ i. eqb-true c 10 e i ∷ feed_kept c cs e i), IsLineEnd.feed (behind_line_end c cs))
  | inr e ↦ return_told c cs e
]

-- ---- one element

letter_told : (close : ℕ) (o : Option ℕ) (text one rest : List ℕ) → text ≡ one ++ rest → ((m : ℕ) → o ≡ Some m → IsElement close one (m ∷ []) rest) → OneTold close text (letter o rest)
letter_told close None text one rest e h = tt
letter_told close (Some m) text one rest e h = (one, e, h m refl)

hex_told : (close x : ℕ) (digits rest cs : List ℕ) → to_ascii_lowercase x ≡ 120 → list_all is_hex_digit digits ≡ true → digits ++ rest ≡ cs → OneTold close (92 ∷ x ∷ cs) (hex_end close digits rest)
hex_told close x digits [] cs lower h e = tt
hex_told close x digits (c ∷ rest) cs lower h e =
    cond_both (c == 59) _ _ (OneTold close (92 ∷ x ∷ cs)) (λ semicolon.
    letter_told close (hex_scalar digits) (92 ∷ x ∷ cs) (92 ∷ x ∷ (digits ++ 59 ∷ [])) rest
    (ap (λ (q : List ℕ). 92 ∷ x ∷ q) (sym e ∙ ap (λ (q : ℕ). digits ++ q ∷ rest) (eqb-true c 59 semicolon) ∙ sym (append_assoc digits (59 ∷ []) rest)))
    (λ m k. IsElement.code x m digits rest lower (scalar_code digits m h k)))
    (λ _. tt)

fold_told : (close : ℕ) (before rest cs : List ℕ) → close ≡ 34 → list_all is_blank before ≡ true → before ++ rest ≡ cs → OneTold close (92 ∷ cs) (fold_end close rest)
fold_told close before [] cs str h e = tt
fold_told close before (c ∷ rest) cs str h e =
    cond_both (is_line_end c) _ _ (OneTold close (92 ∷ cs)) (λ ends.
    let told = line_end_told c rest ends in
    let more = behind_line_end c rest in
    let kept = front-behind is_blank more in (
      92 ∷ (before ++ (told.0 ++ front_of is_blank more)),
      ap (λ (q : List ℕ). 92 ∷ q) (sym e ∙ ap (λ (q : List ℕ). before ++ q) (told.1 ∙ ap (λ (q : List ℕ). told.0 ++ q) (sym kept) ∙ sym (append_assoc told.0 (front_of is_blank more) (behind is_blank more)))
          ∙ sym (append_assoc before (told.0 ++ front_of is_blank more) (behind is_blank more))),
      IsElement.folded before told.0 (front_of is_blank more) (behind is_blank more) str h (subst (IsLineEnd told.0) (sym kept) told.2) (list_all-front_of is_blank more) (ends-behind is_blank more),
    ))
    (λ _. tt)

escaped_told : (close c : ℕ) (cs : List ℕ) (o : Option ℕ) → Means c o → OneTold close (92 ∷ c ∷ cs) (letter o cs)
escaped_told close c cs None h = tt
escaped_told close c cs (Some m) h = (92 ∷ c ∷ [], refl, IsElement.letter c m cs h)

escape_told : (close : ℕ) (cs : List ℕ) → OneTold close (92 ∷ cs) (escape close cs)
unfolding escape
escape_told close [] = tt
escape_told close (c ∷ cs) =
    cond_both (to_ascii_lowercase c == 120) _ _ (OneTold close (92 ∷ c ∷ cs)) (λ e.
    hex_told close c (front_of is_hex_digit cs) (behind is_hex_digit cs) cs (eqb-true (to_ascii_lowercase c) 120 e) (list_all-front_of is_hex_digit cs) (front-behind is_hex_digit cs))
    (λ _. cond_both (close == 34 && (is_blank c || is_line_end c)) _ _ (OneTold close (92 ∷ c ∷ cs)) (λ e.
    fold_told close (front_of is_blank (c ∷ cs)) (behind is_blank (c ∷ cs)) (c ∷ cs) (eqb-true close 34 (and_parts (close == 34) (is_blank c || is_line_end c) e).0) (list_all-front_of is_blank (c ∷ cs)) (front-behind is_blank (c ∷ cs)))
    (λ _. escaped_told close c cs (escaped c) (escaped_means c)))

pub element_told : (close c : ℕ) (cs : List ℕ) → (c == close) ≡ false → OneTold close (c ∷ cs) (element close c cs)
unfolding element
element_told close c cs apart =
    cond_both (c == 92) _ _ (OneTold close (c ∷ cs)) (λ e. subst (λ (q : ℕ). OneTold close (q ∷ cs) (escape close cs)) (sym (eqb-true c 92 e)) (escape_told close cs))
    (λ plain. cond_both (close == 34 && is_line_end c) _ _ (OneTold close (c ∷ cs)) (λ e.
    let parts = and_parts (close == 34) (is_line_end c) e in
    let told = line_end_told c cs parts.1 in
    (told.0, told.1, IsElement.line_end told.0 (behind_line_end c cs) (eqb-true close 34 parts.0) told.2))
    (λ line. (c ∷ [], refl, IsElement.itself c cs (not_from_false (c == close || (c == 92 || (close == 34 && is_line_end c))) (or_from (c == close) _ apart (or_from (c == 92) _ plain line))))))

-- ---- elements

line_end_frame : {ending cs : List ℕ} → IsLineEnd ending cs → (ds : List ℕ) → EndsLike cs ds → IsLineEnd ending ds
line_end_frame (IsLineEnd.feed cs) ds like = IsLineEnd.feed ds
line_end_frame (IsLineEnd.return_feed cs) ds like = IsLineEnd.return_feed ds
line_end_frame (IsLineEnd.return cs h) ds like = IsLineEnd.return ds (like (λ c. c == 10) h)

-- an element counts what follows by its first character
pub element_frame : {close : ℕ} {one meant cs : List ℕ} → IsElement close one meant cs → (ds : List ℕ) → EndsLike cs ds → IsElement close one meant ds
element_frame (IsElement.itself c cs h) ds like = IsElement.itself c ds h
element_frame (IsElement.letter c m cs h) ds like = IsElement.letter c m ds h
element_frame (IsElement.code x c digits cs lower h) ds like = IsElement.code x c digits ds lower h
element_frame (IsElement.line_end ending cs str h) ds like = IsElement.line_end ending ds str (line_end_frame h ds like)
element_frame (IsElement.folded before ending behind cs str h k l m) ds like =
    IsElement.folded before ending behind ds str h (line_end_frame k (behind ++ ds) (like_behind behind cs ds like)) l (like is_blank m)

-- the same where the text ended behind it, before the mark that closes
mark_line_end : {ending cs : List ℕ} → IsLineEnd ending cs → (ds : List ℕ) → (Ends (λ c. c == 10) cs → Ends (λ c. c == 10) ds) → IsLineEnd ending ds
mark_line_end (IsLineEnd.feed cs) ds like = IsLineEnd.feed ds
mark_line_end (IsLineEnd.return_feed cs) ds like = IsLineEnd.return_feed ds
mark_line_end (IsLineEnd.return cs h) ds like = IsLineEnd.return ds (like h)

blanks_like : (blanks cs ds : List ℕ) → (Ends (λ c. c == 10) cs → Ends (λ c. c == 10) ds) → Ends (λ c. c == 10) (blanks ++ cs) → Ends (λ c. c == 10) (blanks ++ ds)
blanks_like [] cs ds like h = like h
blanks_like (b ∷ bs) cs ds like h = h

pub element_to_mark : {close : ℕ} {one meant cs : List ℕ} → IsElement close one meant cs → IsElement close one meant (close ∷ [])
element_to_mark {close} (IsElement.itself c cs h) = IsElement.itself c (close ∷ []) h
element_to_mark {close} (IsElement.letter c m cs h) = IsElement.letter c m (close ∷ []) h
element_to_mark {close} (IsElement.code x c digits cs lower h) = IsElement.code x c digits (close ∷ []) lower h
element_to_mark {close} (IsElement.line_end ending cs str h) = IsElement.line_end ending (close ∷ []) str (mark_line_end h (close ∷ []) (λ _. ap (λ (q : ℕ). q == 10) str))
element_to_mark {close} (IsElement.folded before ending blanks cs str h k l m) =
    IsElement.folded before ending blanks (close ∷ []) str h (mark_line_end k (blanks ++ close ∷ []) (blanks_like blanks cs (close ∷ []) (λ _. ap (λ (q : ℕ). q == 10) str))) l (ap is_blank str)

joined : (close : ℕ) (text : List ℕ) (first : List ℕ × List ℕ) (r : Result (List ℕ × List ℕ) Fault) → OneTold close text (Ok first) → AllTold close first.1 r → AllTold close text (r >>= λ more. Ok (first.0 ++ more.0, more.1))
joined close text first (Err f) h k = tt
joined close text first (Ok more) h k =
    (h.0 ++ k.0, h.1 ∙ ap (λ (q : List ℕ). h.0 ++ q) k.1 ∙ sym (append_assoc h.0 k.0 more.1), IsElements.next h.0 k.0 first.0 more.0 (element_frame h.2 k.0 (λ p e. like_front k.0 more.1 p (subst (Ends p) k.1 e))) k.2)

then_told : (most close : ℕ) (text : List ℕ) (r : Result (List ℕ × List ℕ) Fault) → OneTold close text r → ((cs : List ℕ) → AllTold close cs (elements most close cs)) →
    AllTold close text (r >>= λ first. elements most close first.1 >>= λ more. Ok (first.0 ++ more.0, more.1))
then_told most close text (Err f) h more = tt
then_told most close text (Ok first) h more = joined close text first (elements most close first.1) h (more first.1)

pub elements_told : (most close : ℕ) (cs : List ℕ) → AllTold close cs (elements most close cs)
unfolding elements
elements_told zero close [] = tt
elements_told (suc most) close [] = tt
elements_told zero close (c ∷ cs) = tt
elements_told (suc most) close (c ∷ cs) =
    cond_both (c == close) _ _ (AllTold close (c ∷ cs)) (λ e. (close ∷ [], ap (λ (q : ℕ). q ∷ cs) (eqb-true c close e), IsElements.closed))
    (λ e. then_told most close (c ∷ cs) (element close c cs) (element_told close c cs e) (elements_told most close))
