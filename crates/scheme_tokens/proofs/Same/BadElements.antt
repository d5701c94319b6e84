-- Where a string or a name between bars stops.
use Rattle.std.proofs.Common.{◌≡◌, ℕ, zero, suc, ◌≤◌, List, [], ◌∷◌, ◌++◌, Option, Some, None, Result, Ok, Err, Bool, true, false, cond, refl, sym, ap, ◌∙◌, subst, append_assoc, arith, length, inl, inr, ◌==◌, ◌&&◌, ◌||◌}
use Rattle.std.specs.Prelude.{nat_lt}
use Rattle.std.specs.List.{list_all}
use Rattle.std.specs.Char.{to_ascii_lowercase}
use Rattle.std.proofs.lemmas.Bool.{cond-true, cond-false, cond_both, or_left, and_parts, eqb-true, ltb-true, ltb-false, le-ltb}
use Rattle.std.proofs.lemmas.Str.{length-le-encodes}
use Rattle.scheme_tokens.specs.Lexical.{is_line_end, is_blank, is_hex_digit, Ends, byte_count, Atomic, Name, Quoted, IsMnemonic, hex_value, IsCode, IsLineEnd, IsElement, IsElements}
use Rattle.scheme_tokens.specs.Faults.{Fault, bad_token}
use Rattle.scheme_tokens.specs.Stopping.{because}
use Rattle.scheme_tokens.specs.Mirror.Words.{front_of, behind}
use Rattle.scheme_tokens.specs.Mirror.Quoted.{◌>>=◌, open_at, escaped, letter, hex_scalar, hex_end, digits_end, behind_line_end, fold_end, escape, element, elements, quoted}
use Rattle.scheme_tokens.specs.Mirror.Tokens.{token, string_token, bar_token}
use Rattle.scheme_tokens.proofs.Fronts.{front-behind, list_all-front_of, byte_count-encodes}
use Rattle.scheme_tokens.proofs.QuotedLengths.{Rests, element_rests}
use Rattle.scheme_tokens.proofs.Same.Ends.{behind-all, front-all, ends-behind, EndsLike, like_first}
use Rattle.scheme_tokens.proofs.Same.Elements.{OneTold, element_told, scalar_code, element_frame, element_to_mark}
use Rattle.scheme_tokens.proofs.Same.ElementsRead.{Reads, element_read, escape_step, hex_step, fold_step, elements_step}
use Rattle.scheme_tokens.proofs.Same.Scanned.{cons_head, cons_none, list_all_front, list_all_both, front_more, behind_more, scan_from, Halts}
use Rattle.scheme_tokens.proofs.Same.BadWords.{OrRefused}
use Rattle.scheme_tokens.proofs.Same.BadCharacters.{digits_go, value_grows, code_small}

not_both : (b : Bool) → b ≡ true → b ≡ false → ⊥
not_both b h k = cc

none_some : (n : ℕ) → None ≡ Some n → ⊥
none_some n e = cc

abbrev pub IsErr : Result (List ℕ × List ℕ) Fault → Type 0
IsErr r = (g : Fault) × (r ≡ Err g)

-- ---- escapes

-- the text ends, or the next character is refused whatever stands behind it
abbrev Stops : ℕ → Fault → List ℕ → List ℕ → Type 0
Stops close f bs [] = f ≡ open_at close
Stops close f bs (e ∷ es) = (f ≡ bad_token) × ((x : List ℕ) → IsErr (escape close (bs ++ e ∷ x)))

-- an escape, behind its `\`, that isn't one
record BadEscape (close : ℕ) (f : Fault) (cs : List ℕ) : Type 0 where
  bs : List ℕ
  behind : List ℕ
  whole : cs ≡ bs ++ behind
  more : List ℕ
  meant : List ℕ
  goes : IsElements close (92 ∷ (bs ++ more)) meant
  halts : Stops close f bs behind

abbrev EscapeRefused : ℕ → List ℕ → Result (List ℕ × List ℕ) Fault → Type 0
EscapeRefused close cs (Ok t) = Unit {0}
EscapeRefused close cs (Err f) = BadEscape close f cs

-- a backslash can be escaped, and then the mark comes
backslash_goes : (close : ℕ) → IsElements close (92 ∷ 92 ∷ close ∷ []) (92 ∷ [])
backslash_goes close = IsElements.next (92 ∷ 92 ∷ []) (close ∷ []) (92 ∷ []) [] (IsElement.letter 92 92 (close ∷ []) IsMnemonic.backslash) IsElements.closed

-- hex digits can go on to an escape, and then the mark comes
digits_goes : (close x : ℕ) (digits more : List ℕ) (c : ℕ) → to_ascii_lowercase x ≡ 120 → IsCode (digits ++ more) c → IsElements close (92 ∷ (x ∷ digits ++ (more ++ 59 ∷ close ∷ []))) (c ∷ [])
digits_goes close x digits more c lower h =
    subst (λ (q : List ℕ). IsElements close (92 ∷ x ∷ q) (c ∷ []))
    (append_assoc (digits ++ more) (59 ∷ []) (close ∷ []) ∙ append_assoc digits more (59 ∷ close ∷ []))
    (IsElements.next (92 ∷ x ∷ ((digits ++ more) ++ 59 ∷ [])) (close ∷ []) (c ∷ []) [] (IsElement.code x c (digits ++ more) (close ∷ []) lower h) IsElements.closed)

-- digits that write no less than the number behind the last character's
great_none : (digits : List ℕ) (c : ℕ) → IsCode digits c → 0x11_0000 ≤ hex_value digits → ⊥
great_none digits c h k = let small = code_small h in omega (arith, small, k)

no_letter : (digits cs : List ℕ) (o : Option ℕ) → hex_scalar digits ≡ o → list_all is_hex_digit digits ≡ true → 0x11_0000 ≤ hex_value digits → IsErr (letter o cs)
no_letter digits cs None e h k = (bad_token, refl)
no_letter digits cs (Some c) e h k = absurd (great_none digits c (scalar_code digits c h e) k)

too_great : (digits rest : List ℕ) (close : ℕ) → list_all is_hex_digit digits ≡ true → 0x11_0000 ≤ hex_value digits → IsErr (hex_end close digits rest)
too_great digits [] close h k = (bad_token, ap (λ (b : Bool). Err (cond b (open_at close) bad_token)) (le-ltb (hex_value digits) 0x11_0000 k))
too_great digits (c ∷ cs) close h k =
    cond_both (c == 59) _ _ IsErr (λ _. no_letter digits cs (hex_scalar digits) refl h k) (λ _. (bad_token, refl))

letter_step : (close c : ℕ) (y : List ℕ) → (to_ascii_lowercase c == 120) ≡ false → (close == 34 && (is_blank c || is_line_end c)) ≡ false → escape close (c ∷ y) ≡ letter (escaped c) y
unfolding escape
letter_step close c y x fold = cond-false (to_ascii_lowercase c == 120) _ _ x ∙ cond-false (close == 34 && (is_blank c || is_line_end c)) _ _ fold

hex_read : (close x : ℕ) (digits : List ℕ) (r : ℕ) (y : List ℕ) → to_ascii_lowercase x ≡ 120 → list_all is_hex_digit digits ≡ true → is_hex_digit r ≡ false → escape close (x ∷ digits ++ r ∷ y) ≡ hex_end close digits (r ∷ y)
hex_read close x digits r y lower h ends =
    hex_step close x (digits ++ r ∷ y) lower ∙ (λ i. hex_end close (front-all is_hex_digit digits (r ∷ y) h ends i) (behind-all is_hex_digit digits (r ∷ y) h ends i))

overflow : (close x : ℕ) (front : List ℕ) (e : ℕ) → to_ascii_lowercase x ≡ 120 → list_all is_hex_digit (front ++ e ∷ []) ≡ true → nat_lt (hex_value (front ++ e ∷ [])) 0x11_0000 ≡ false → (y : List ℕ) → IsErr (escape close (x ∷ front ++ e ∷ y))
overflow close x front e lower h k y =
    let u = front ++ e ∷ [] in
    let digits = u ++ front_of is_hex_digit y in
    let same = append_assoc front (e ∷ []) y in
    let all = list_all_both is_hex_digit u (front_of is_hex_digit y) h (list_all-front_of is_hex_digit y) in
    let grows = value_grows u (front_of is_hex_digit y) in
    let great = ltb-false (hex_value u) 0x11_0000 k in
    let err = too_great digits (behind is_hex_digit y) close all (omega (arith, grows, great)) in (
      err.0,
      ap (λ (q : List ℕ). escape close (x ∷ q)) (sym same) ∙ hex_step close x (u ++ y) lower
          ∙ (λ i. hex_end close (front_more is_hex_digit u y h i) (behind_more is_hex_digit u y h i)) ∙ err.1,
    )

-- where digits can go on, the text ends or a character comes that isn't the next
small_refused : (close x : ℕ) (digits rest : List ℕ) (f : Fault) → to_ascii_lowercase x ≡ 120 → list_all is_hex_digit digits ≡ true → nat_lt (hex_value digits) 0x11_0000 ≡ true → Stops close f (x ∷ digits) rest → BadEscape close f (x ∷ digits ++ rest)
small_refused close x digits rest f lower h k halts =
    let go = digits_go digits h (ltb-true (hex_value digits) 0x11_0000 k) in
    record {
      bs = x ∷ digits;
      behind = rest;
      whole = refl;
      more = go.0 ++ 59 ∷ close ∷ [];
      meant = go.1 ∷ [];
      goes = digits_goes close x digits go.0 go.1 lower go.2;
      halts = halts;
    }

great_refused : (close x : ℕ) (digits rest front : List ℕ) (e : ℕ) (more : List ℕ) → to_ascii_lowercase x ≡ 120 → list_all is_hex_digit digits ≡ true → digits ≡ front ++ e ∷ more → nat_lt (hex_value front) 0x11_0000 ≡ true → nat_lt (hex_value (front ++ e ∷ [])) 0x11_0000 ≡ false →
    BadEscape close bad_token (x ∷ digits ++ rest)
great_refused close x digits rest front e more lower h whole k l =
    let all = ap (list_all is_hex_digit) (sym whole) ∙ h in
    let go = digits_go front (list_all_front is_hex_digit front (e ∷ more) all) (ltb-true (hex_value front) 0x11_0000 k) in
    record {
      bs = x ∷ front;
      behind = e ∷ (more ++ rest);
      whole = ap (λ (q : List ℕ). x ∷ q ++ rest) whole ∙ append_assoc (x ∷ front) (e ∷ more) rest;
      more = go.0 ++ 59 ∷ close ∷ [];
      meant = go.1 ∷ [];
      goes = digits_goes close x front go.0 go.1 lower go.2;
      halts = (refl, overflow close x front e lower (list_all_front is_hex_digit (front ++ e ∷ []) more (ap (list_all is_hex_digit) (append_assoc front (e ∷ []) more) ∙ all)) l);
    }

abbrev is_small : List ℕ → Bool
is_small digits = nat_lt (hex_value digits) 0x11_0000

grown : (front : List ℕ) (e : ℕ) (more : List ℕ) → is_small (front ++ e ∷ []) ≡ false → is_small (front ++ e ∷ more) ≡ false
grown front e more h =
    let great = ltb-false (hex_value (front ++ e ∷ [])) 0x11_0000 h in
    let grows = value_grows (front ++ e ∷ []) more in
    let same = ap hex_value (append_assoc front (e ∷ []) more) in
    le-ltb (hex_value (front ++ e ∷ more)) 0x11_0000 (omega (arith, great, grows, same))

-- digits before which a text stops: `f` where they can go on, and else a bad token
digits_refused : (close x : ℕ) (digits rest : List ℕ) (f : Fault) → to_ascii_lowercase x ≡ 120 → list_all is_hex_digit digits ≡ true → (is_small digits ≡ false → f ≡ bad_token) → (is_small digits ≡ true → Stops close f (x ∷ digits) rest) → BadEscape close f (x ∷ digits ++ rest)
digits_refused close x digits rest f lower h great halts = elim (scan_from is_small [] digits refl) [
  | inl v ↦ small_refused close x digits rest f lower h v (halts v)
  | inr s ↦ (let all_great = ap is_small s.3 ∙ grown s.0 s.1 s.2 s.5 in
      subst (λ (q : Fault). BadEscape close q (x ∷ digits ++ rest)) (sym (great all_great)) (great_refused close x digits rest s.0 s.1 s.2 lower h s.3 s.4 s.5))
]

semicolon_refused : (close x : ℕ) (digits : List ℕ) (r : ℕ) (rs : List ℕ) (o : Option ℕ) → to_ascii_lowercase x ≡ 120 → list_all is_hex_digit digits ≡ true → is_hex_digit r ≡ false → (r == 59) ≡ true → hex_scalar digits ≡ o → EscapeRefused close (x ∷ digits ++ r ∷ rs) (letter o rs)
semicolon_refused close x digits r rs (Some c) lower h ends e k = tt
semicolon_refused close x digits r rs None lower h ends e k =
    digits_refused close x digits (r ∷ rs) bad_token lower h (λ _. refl) (λ _. (refl, λ y. (bad_token, hex_read close x digits r y lower h ends ∙ cond-true (r == 59) _ _ e ∙ ap (λ (q : Option ℕ). letter q y) k)))

hex_refused : (close x : ℕ) (digits rest : List ℕ) → to_ascii_lowercase x ≡ 120 → list_all is_hex_digit digits ≡ true → Ends is_hex_digit rest → EscapeRefused close (x ∷ digits ++ rest) (hex_end close digits rest)
hex_refused close x digits [] lower h ends =
    digits_refused close x digits [] (digits_end close digits) lower h (λ e. cond-false (is_small digits) _ _ e) (λ e. cond-true (is_small digits) _ _ e)
hex_refused close x digits (r ∷ rs) lower h ends =
    cond_both (r == 59) _ _ (EscapeRefused close (x ∷ digits ++ r ∷ rs)) (λ e. semicolon_refused close x digits r rs (hex_scalar digits) lower h ends e refl)
    (λ e. digits_refused close x digits (r ∷ rs) bad_token lower h (λ _. refl) (λ _. (refl, λ y. (bad_token, hex_read close x digits r y lower h ends ∙ cond-false (r == 59) _ _ e))))

-- ---- folded lines

fold_halts : (before : List ℕ) (r : ℕ) (rs : List ℕ) (c : ℕ) (cs y : List ℕ) → list_all is_blank before ≡ true → is_blank r ≡ false → (is_blank c || is_line_end c) ≡ true → c ∷ cs ≡ before ++ r ∷ rs →
    escape 34 (before ++ r ∷ y) ≡ fold_end 34 (behind is_blank (before ++ r ∷ y))
fold_halts [] r rs c cs y h ends first e = fold_step r y (ap (λ (q : ℕ). is_blank q || is_line_end q) (sym (cons_head c r cs rs e)) ∙ first)
fold_halts (b ∷ bs) r rs c cs y h ends first e = fold_step b (bs ++ r ∷ y) (or_left (is_blank b) (is_line_end b) (and_parts (is_blank b) (list_all is_blank bs) h).0)

fold_refused : (before rest : List ℕ) (c : ℕ) (cs : List ℕ) → list_all is_blank before ≡ true → Ends is_blank rest → (is_blank c || is_line_end c) ≡ true → c ∷ cs ≡ before ++ rest → EscapeRefused 34 (before ++ rest) (fold_end 34 rest)
fold_refused before [] c cs h ends first e = record {
  bs = before;
  behind = [];
  whole = refl;
  more = 10 ∷ 34 ∷ [];
  meant = [];
  goes = subst (λ (q : List ℕ). IsElements 34 (92 ∷ q) []) (append_assoc before (10 ∷ []) (34 ∷ []))
      (IsElements.next (92 ∷ (before ++ (10 ∷ []))) (34 ∷ []) [] [] (IsElement.folded before (10 ∷ []) [] (34 ∷ []) refl h (IsLineEnd.feed (34 ∷ [])) refl refl) IsElements.closed);
  halts = refl;
}
fold_refused before (r ∷ rs) c cs h ends first e =
    cond_both (is_line_end r) _ _ (EscapeRefused 34 (before ++ r ∷ rs)) (λ _. tt)
    (λ dark. record {
      bs = before;
      behind = r ∷ rs;
      whole = refl;
      more = 10 ∷ 34 ∷ [];
      meant = [];
      goes = subst (λ (q : List ℕ). IsElements 34 (92 ∷ q) []) (append_assoc before (10 ∷ []) (34 ∷ []))
          (IsElements.next (92 ∷ (before ++ (10 ∷ []))) (34 ∷ []) [] [] (IsElement.folded before (10 ∷ []) [] (34 ∷ []) refl h (IsLineEnd.feed (34 ∷ [])) refl refl) IsElements.closed);
      halts = (refl, λ y. (bad_token, fold_halts before r rs c cs y h ends first e ∙ ap (fold_end 34) (behind-all is_blank before (r ∷ y) h ends) ∙ cond-false (is_line_end r) _ _ dark));
    })

-- ---- one escape

letter_refused : (close c : ℕ) (cs : List ℕ) (o : Option ℕ) → escaped c ≡ o → (to_ascii_lowercase c == 120) ≡ false → (close == 34 && (is_blank c || is_line_end c)) ≡ false → EscapeRefused close (c ∷ cs) (letter o cs)
letter_refused close c cs (Some m) e x fold = tt
letter_refused close c cs None e x fold = record {
  bs = [];
  behind = c ∷ cs;
  whole = refl;
  more = 92 ∷ close ∷ [];
  meant = 92 ∷ [];
  goes = backslash_goes close;
  halts = (refl, λ y. (bad_token, letter_step close c y x fold ∙ ap (λ (o : Option ℕ). letter o y) e));
}

fold_at : (close c : ℕ) (cs : List ℕ) → (close == 34 && (is_blank c || is_line_end c)) ≡ true → EscapeRefused close (c ∷ cs) (fold_end close (behind is_blank (c ∷ cs)))
fold_at close c cs h =
    let parts = and_parts (close == 34) (is_blank c || is_line_end c) h in
    let whole = front-behind is_blank (c ∷ cs) in
    subst (λ (q : ℕ). EscapeRefused q (c ∷ cs) (fold_end q (behind is_blank (c ∷ cs)))) (sym (eqb-true close 34 parts.0))
    (subst (λ (q : List ℕ). EscapeRefused 34 q (fold_end 34 (behind is_blank (c ∷ cs)))) whole
    (fold_refused (front_of is_blank (c ∷ cs)) (behind is_blank (c ∷ cs)) c cs (list_all-front_of is_blank (c ∷ cs)) (ends-behind is_blank (c ∷ cs)) parts.1 (sym whole)))

escape_refused : (close : ℕ) (cs : List ℕ) → EscapeRefused close cs (escape close cs)
unfolding escape
escape_refused close [] = record { bs = []; behind = []; whole = refl; more = 92 ∷ close ∷ []; meant = 92 ∷ []; goes = backslash_goes close; halts = refl }
escape_refused close (c ∷ cs) =
    cond_both (to_ascii_lowercase c == 120) _ _ (EscapeRefused close (c ∷ cs)) (λ e.
    subst (λ (q : List ℕ). EscapeRefused close (c ∷ q) (hex_end close (front_of is_hex_digit cs) (behind is_hex_digit cs))) (front-behind is_hex_digit cs)
    (hex_refused close c (front_of is_hex_digit cs) (behind is_hex_digit cs) (eqb-true (to_ascii_lowercase c) 120 e) (list_all-front_of is_hex_digit cs) (ends-behind is_hex_digit cs)))
    (λ x. cond_both (close == 34 && (is_blank c || is_line_end c)) _ _ (EscapeRefused close (c ∷ cs)) (λ e. fold_at close c cs e) (λ e. letter_refused close c cs (escaped c) refl x e))

-- ---- elements

-- the text ends, or the next character is refused whatever stands behind it
abbrev pub StopsAll : ℕ → Fault → List ℕ → List ℕ → Type 0
StopsAll close f begun [] = f ≡ open_at close
StopsAll close f begun (e ∷ es) = (f ≡ bad_token) × ((x : List ℕ) (most : ℕ) → IsErr (elements most close (begun ++ e ∷ x)))

-- the first character of a text that isn't empty is begun
abbrev pub StartsAs : List ℕ → List ℕ → Type 0
StartsAs [] begun = Unit {0}
StartsAs (d ∷ ds) begun = (bs : List ℕ) × (begun ≡ d ∷ bs)

-- elements up to a mark, that aren't
pub record BadElements (close : ℕ) (f : Fault) (cs : List ℕ) : Type 0 where
  pub begun : List ℕ
  pub behind : List ℕ
  pub whole : cs ≡ begun ++ behind
  pub starts : StartsAs cs begun
  pub more : List ℕ
  pub meant : List ℕ
  pub goes : IsElements close (begun ++ more) meant
  pub halts : StopsAll close f begun behind

abbrev pub AllRefused : ℕ → List ℕ → Result (List ℕ × List ℕ) Fault → Type 0
AllRefused close cs (Ok t) = Unit {0}
AllRefused close cs (Err f) = BadElements close f cs

err_bound : (r : Result (List ℕ × List ℕ) Fault) (f : List ℕ × List ℕ → Result (List ℕ × List ℕ) Fault) → IsErr r → IsErr (r >>= f)
err_bound r f h = (h.0, ap (λ (q : Result (List ℕ × List ℕ) Fault). q >>= f) h.1)

none_left : (close c : ℕ) (cs : List ℕ) → elements zero close (c ∷ cs) ≡ Err (open_at close)
unfolding elements
none_left close c cs = refl

-- an escape that isn't one
at_most : (close : ℕ) (bs : List ℕ) (e : ℕ) (x : List ℕ) (most : ℕ) → (92 == close) ≡ false → IsErr (escape close (bs ++ e ∷ x)) → IsErr (elements most close (92 ∷ bs ++ e ∷ x))
at_most close bs e x zero apart h = (open_at close, none_left close 92 (bs ++ e ∷ x))
at_most close bs e x (suc most) apart h =
    let step = elements_step most close 92 (bs ++ e ∷ x) ∙ cond-false (92 == close) _ _ apart
    ∙ ap (λ (r : Result (List ℕ × List ℕ) Fault). r >>= λ first. elements most close first.1 >>= λ more. Ok (first.0 ++ more.0, more.1)) (escape_step close (bs ++ e ∷ x)) in
    let err = err_bound (escape close (bs ++ e ∷ x)) (λ first. elements most close first.1 >>= λ more. Ok (first.0 ++ more.0, more.1)) h in
    (err.0, step ∙ err.1)

escape_halts : (close : ℕ) (f : Fault) (bs behind : List ℕ) → (92 == close) ≡ false → Stops close f bs behind → StopsAll close f (92 ∷ bs) behind
escape_halts close f bs [] apart h = h
escape_halts close f bs (e ∷ es) apart h = (h.0, λ x most. at_most close bs e x most apart (h.1 x))

escape_bad : (close : ℕ) (f : Fault) (cs : List ℕ) → (92 == close) ≡ false → BadEscape close f cs → BadElements close f (92 ∷ cs)
escape_bad close f cs apart h = record {
  begun = 92 ∷ h.bs;
  behind = h.behind;
  whole = ap (λ (q : List ℕ). 92 ∷ q) h.whole;
  starts = (h.bs, refl);
  more = h.more;
  meant = h.meant;
  goes = h.goes;
  halts = escape_halts close f h.bs h.behind apart h.halts;
}

-- an element, and then what isn't one
step_err : (most close : ℕ) (one meant behind : List ℕ) → Reads close one meant behind → ((m : ℕ) → IsErr (elements m close behind)) → IsErr (elements most close (one ++ behind))
step_err zero close one meant behind h err = (open_at close, ap (λ (q : List ℕ). elements zero close (q ++ behind)) h.2 ∙ none_left close h.0 (h.1 ++ behind))
step_err (suc most) close one meant behind h err =
    let step = ap (λ (q : List ℕ). elements (suc most) close (q ++ behind)) h.2 ∙ elements_step most close h.0 (h.1 ++ behind) ∙ cond-false (h.0 == close) _ _ h.3
    ∙ ap (λ (r : Result (List ℕ × List ℕ) Fault). r >>= λ first. elements most close first.1 >>= λ more. Ok (first.0 ++ more.0, more.1)) h.4 in
    let bound = err_bound (elements most close behind) (λ more. Ok (meant ++ more.0, more.1)) (err most) in
    (bound.0, step ∙ bound.1)

then_halts : (close : ℕ) (f : Fault) (one meant begun behind : List ℕ) → ((x : List ℕ) → Reads close one meant (begun ++ x)) → StopsAll close f begun behind → StopsAll close f (one ++ begun) behind
then_halts close f one meant begun [] reads h = h
then_halts close f one meant begun (e ∷ es) reads h = (h.0, λ x most. subst (λ (q : List ℕ). IsErr (elements most close q)) (sym (append_assoc one begun (e ∷ x))) (step_err most close one meant (begun ++ e ∷ x) (reads (e ∷ x)) (λ m. h.1 x m)))

mark_ends : (close : ℕ) (f : Fault) (begun behind : List ℕ) → [] ≡ begun ++ behind → StopsAll close f begun behind → f ≡ open_at close
mark_ends close f [] [] e h = h
mark_ends close f [] (c ∷ cs) e h = absurd (cons_none c cs (sym e))
mark_ends close f (b ∷ bs) behind e h = absurd (cons_none b (bs ++ behind) (sym e))

starts_more : (cs one begun : List ℕ) → StartsAs cs one → StartsAs cs (one ++ begun)
starts_more [] one begun h = tt
starts_more (d ∷ ds) one begun h = (h.0 ++ begun, ap (λ (q : List ℕ). q ++ begun) h.1)

like_begun : (d : ℕ) (ds bs begun x : List ℕ) → begun ≡ d ∷ bs → EndsLike (d ∷ ds) (begun ++ x)
like_begun d ds bs begun x e = subst (λ (q : List ℕ). EndsLike (d ∷ ds) (q ++ x)) (sym e) (like_first d ds (bs ++ x))

then_bad : (close : ℕ) (one meant cs rest : List ℕ) (f : Fault) → (92 == close) ≡ false → cs ≡ one ++ rest → IsElement close one meant rest → StartsAs cs one → BadElements close f rest → BadElements close f cs
then_bad close one meant cs [] f apart e h starts bad =
    record {
      begun = one;
      behind = [];
      whole = e;
      starts = starts;
      more = close ∷ [];
      meant = meant ++ [];
      goes = IsElements.next one (close ∷ []) meant [] (element_to_mark h) IsElements.closed;
      halts = mark_ends close f bad.begun bad.behind bad.whole bad.halts;
    }
then_bad close one meant cs (d ∷ ds) f apart e h starts bad =
    let b = bad.starts in
    record {
      begun = one ++ bad.begun;
      behind = bad.behind;
      whole = e ∙ ap (λ (q : List ℕ). one ++ q) bad.whole ∙ sym (append_assoc one bad.begun bad.behind);
      starts = starts_more cs one bad.begun starts;
      more = bad.more;
      meant = meant ++ bad.meant;
      goes = subst (λ (q : List ℕ). IsElements close q (meant ++ bad.meant)) (sym (append_assoc one bad.begun bad.more))
          (IsElements.next one (bad.begun ++ bad.more) meant bad.meant (element_frame h (bad.begun ++ bad.more) (like_begun d ds b.0 bad.begun bad.more b.1)) bad.goes);
      halts = then_halts close f one meant bad.begun bad.behind (λ x. element_read (element_frame h (bad.begun ++ x) (like_begun d ds b.0 bad.begun x b.1)) apart) bad.halts;
    }

one_starts : (close c : ℕ) (cs : List ℕ) (first : List ℕ × List ℕ) → (92 == close) ≡ false → (told : OneTold close (c ∷ cs) (Ok first)) → StartsAs (c ∷ cs) told.0
one_starts close c cs first apart told =
    let read = element_read told.2 apart in
    (read.1, read.2 ∙ ap (λ (q : ℕ). q ∷ read.1) (sym (cons_head c read.0 cs (read.1 ++ first.1) (told.1 ∙ ap (λ (q : List ℕ). q ++ first.1) read.2))))

joined_refused : (close c : ℕ) (cs : List ℕ) (first : List ℕ × List ℕ) (r : Result (List ℕ × List ℕ) Fault) → (92 == close) ≡ false → OneTold close (c ∷ cs) (Ok first) → length first.1 ≤ length cs → AllRefused close first.1 r →
    AllRefused close (c ∷ cs) (r >>= λ more. Ok (first.0 ++ more.0, more.1))
joined_refused close c cs first (Ok more) apart told shorter h = tt
joined_refused close c cs first (Err f) apart told shorter h = then_bad close told.0 first.0 (c ∷ cs) first.1 f apart told.1 told.2 (one_starts close c cs first apart told) h

one_refused : (most close c : ℕ) (cs : List ℕ) (r : Result (List ℕ × List ℕ) Fault) → (92 == close) ≡ false → OneTold close (c ∷ cs) r → Rests (length cs) r → ((f : Fault) → r ≡ Err f → BadElements close f (c ∷ cs)) →
    ((ds : List ℕ) → length ds ≤ length cs → AllRefused close ds (elements most close ds)) → AllRefused close (c ∷ cs) (r >>= λ first. elements most close first.1 >>= λ more. Ok (first.0 ++ more.0, more.1))
one_refused most close c cs (Err f) apart told rests bad more = bad f refl
one_refused most close c cs (Ok first) apart told rests bad more = joined_refused close c cs first (elements most close first.1) apart told rests (more first.1 rests)

-- an element that isn't one
abbrev ErrBad : ℕ → ℕ → List ℕ → Result (List ℕ × List ℕ) Fault → Type 0
ErrBad close c cs r = (f : Fault) → r ≡ Err f → BadElements close f (c ∷ cs)

same_fault : (r : Result (List ℕ × List ℕ) Fault) (g f : Fault) → r ≡ Err g → r ≡ Err f → g ≡ f
same_fault r g f e k = cc

no_ok : (t : List ℕ × List ℕ) (f : Fault) → Ok t ≡ Err f → ⊥
no_ok t f e = cc

escape_when : (close : ℕ) (cs : List ℕ) (r : Result (List ℕ × List ℕ) Fault) → (92 == close) ≡ false → EscapeRefused close cs r → ErrBad close 92 cs r
escape_when close cs (Ok t) apart h = λ f e. absurd (no_ok t f e)
escape_when close cs (Err g) apart h = λ f e. subst (λ (q : Fault). BadElements close q (92 ∷ cs)) (same_fault (Err g) g f refl e) (escape_bad close g cs apart h)

element_all : (close c : ℕ) (cs : List ℕ) → (92 == close) ≡ false → ErrBad close c cs (element close c cs)
unfolding element
element_all close c cs apart =
    cond_both (c == 92) _ _ (ErrBad close c cs) (λ e. subst (λ (q : ℕ). ErrBad close q cs (escape close cs)) (sym (eqb-true c 92 e)) (escape_when close cs (escape close cs) apart (escape_refused close cs)))
    (λ _. cond_both (close == 34 && is_line_end c) _ _ (ErrBad close c cs) (λ _ f e. absurd (no_ok (10 ∷ [], behind_line_end c cs) f e)) (λ _ f e. absurd (no_ok (c ∷ [], cs) f e)))

nothing_bad : (close : ℕ) → BadElements close (open_at close) []
nothing_bad close = record { begun = []; behind = []; whole = refl; starts = tt; more = close ∷ []; meant = []; goes = IsElements.closed; halts = refl }

element_bad : (close c : ℕ) (cs : List ℕ) (f : Fault) → (92 == close) ≡ false → element close c cs ≡ Err f → BadElements close f (c ∷ cs)
element_bad close c cs f apart e = element_all close c cs apart f e

pub elements_refused : (most close : ℕ) (cs : List ℕ) → (92 == close) ≡ false → length cs ≤ most → AllRefused close cs (elements most close cs)
unfolding elements
elements_refused zero close [] apart h = nothing_bad close
elements_refused (suc most) close [] apart h = nothing_bad close
elements_refused zero close (c ∷ cs) apart h = absurd (omega arith)
elements_refused (suc most) close (c ∷ cs) apart h =
    cond_both (c == close) _ _ (AllRefused close (c ∷ cs)) (λ _. tt)
    (λ e. one_refused most close c cs (element close c cs) apart (element_told close c cs e) (element_rests close c cs) (λ f k. element_bad close c cs f apart k)
    (λ ds k. elements_refused most close ds apart (omega arith)))

-- ---- strings and names between bars

long_enough : (cs : List ℕ) → length cs ≤ byte_count cs
long_enough cs = omega (arith, length-le-encodes cs, byte_count-encodes cs)

string_step : (cs : List ℕ) → token (34 ∷ cs) ≡ string_token cs
unfolding token
string_step cs = refl

bar_step : (cs : List ℕ) → token (124 ∷ cs) ≡ bar_token cs
unfolding token
bar_step cs = refl

string_halts : (f : Fault) (begun behind : List ℕ) → StopsAll 34 f begun behind → Halts (34 ∷ begun) behind
string_halts f begun [] h = tt
string_halts f begun (e ∷ es) h = λ x.
    let text = begun ++ e ∷ x in
    let err = h.1 x (byte_count text) in
    (err.0, string_step text ∙ ap (λ (r : Result (List ℕ × List ℕ) Fault). r >>= λ found. Ok (Atomic (Quoted found.0), found.1)) err.1)

bar_halts : (f : Fault) (begun behind : List ℕ) → StopsAll 124 f begun behind → Halts (124 ∷ begun) behind
bar_halts f begun [] h = tt
bar_halts f begun (e ∷ es) h = λ x.
    let text = begun ++ e ∷ x in
    let err = h.1 x (byte_count text) in
    (err.0, bar_step text ∙ ap (λ (r : Result (List ℕ × List ℕ) Fault). r >>= λ found. Ok (Atomic (Name found.0 true), found.1)) err.1)

string_why : (f : Fault) (begun behind : List ℕ) → StopsAll 34 f begun behind → f ≡ because (34 ∷ begun) behind
string_why f begun [] h = h
string_why f [] (e ∷ es) h = h.0
string_why f (b ∷ bs) (e ∷ es) h = h.0

bar_why : (f : Fault) (begun behind : List ℕ) → StopsAll 124 f begun behind → f ≡ because (124 ∷ begun) behind
bar_why f begun [] h = h
bar_why f [] (e ∷ es) h = h.0
bar_why f (b ∷ bs) (e ∷ es) h = h.0

string_when : (cs : List ℕ) (r : Result (List ℕ × List ℕ) Fault) → AllRefused 34 cs r → OrRefused (34 ∷ cs) (r >>= λ found. Ok (Atomic (Quoted found.0), found.1))
string_when cs (Ok t) h = tt
string_when cs (Err f) h = record {
  begun = 34 ∷ h.begun;
  behind = h.behind;
  whole = ap (λ (q : List ℕ). 34 ∷ q) h.whole;
  goes = inr (h.more, Atomic (Quoted h.meant), (h.begun ++ h.more, refl, h.goes));
  halts = string_halts f h.begun h.behind h.halts;
  why = string_why f h.begun h.behind h.halts;
  no_hash = tt;
}

bar_when : (cs : List ℕ) (r : Result (List ℕ × List ℕ) Fault) → AllRefused 124 cs r → OrRefused (124 ∷ cs) (r >>= λ found. Ok (Atomic (Name found.0 true), found.1))
bar_when cs (Ok t) h = tt
bar_when cs (Err f) h = record {
  begun = 124 ∷ h.begun;
  behind = h.behind;
  whole = ap (λ (q : List ℕ). 124 ∷ q) h.whole;
  goes = inr (h.more, Atomic (Name h.meant true), (h.begun ++ h.more, refl, h.goes));
  halts = bar_halts f h.begun h.behind h.halts;
  why = bar_why f h.begun h.behind h.halts;
  no_hash = tt;
}

pub string_refused : (cs : List ℕ) → OrRefused (34 ∷ cs) (string_token cs)
string_refused cs = string_when cs (quoted 34 cs) (elements_refused (byte_count cs) 34 cs refl (long_enough cs))

pub bar_refused : (cs : List ℕ) → OrRefused (124 ∷ cs) (bar_token cs)
bar_refused cs = bar_when cs (quoted 124 cs) (elements_refused (byte_count cs) 124 cs refl (long_enough cs))
