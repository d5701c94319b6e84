-- Identifiers begin and end within no line end, so their ends come back from their positions.
use Rattle.std.proofs.Common.{◌≡◌, ℕ, zero, suc, ◌+◌, ◌==◌, Bool, true, false, not, cond, List, [], ◌∷◌, ◌++◌, map, Option, Some, None, IfSome, refl, sym, subst, ap, ◌∙◌, arith, append_assoc}
use Rattle.std.specs.Char.{len_utf8, is_whitespace}
use Rattle.std.proofs.lemmas.List.Sums.{sum_by-append}
use Rattle.std.specs.List.{list_all}
use Rattle.std.specs.Str.{chars}
use Rattle.std.proofs.lemmas.Bool.{eqb-true, and_parts}
use Rattle.ls_base.specs.declared.encoding.Encoding.{Encoding}
use Rattle.ls_base.specs.Positions.{lines_of, byte_count, units_of, offset_of, position_of}
use Rattle.scheme_tokens.specs.Lexical.{Atomic, Name, TokenKind, Token, IsToken, IsElements, closed, next, IsBare, ordinary, sign, signed, signed_dot, dot, is_inside, is_delimiter, First, IsSpelledFrom, IsSpelled, mark_bytes, behind_mark}
use Rattle.datum_reader.specs.Texts.{token_seen}
use Rattle.text_edits.specs.Edits.{Edit}
use Rattle.text_edits.specs.NewNames.{edit_if, edits_from, edits_of, span_of}
use Rattle.text_edits.proofs.MemberLaws.{AreNames}
use Rattle.rename_answers.proofs.RoundTrip.{IsWithinEnd, Back, round_trip, some_units, apart_by_next, apart_by_last}

-- ---- the characters of an identifier

feed_inside : is_inside 10 ≡ false
unfolding is_delimiter
feed_inside = refl

return_inside : is_inside 13 ≡ false
unfolding is_delimiter
return_inside = refl

list_all_head : (c : ℕ) (cs : List ℕ) → list_all is_inside (c ∷ cs) ≡ true → (is_inside c ≡ true) × (list_all is_inside cs ≡ true)
list_all_head c cs h = and_parts (is_inside c) (list_all is_inside cs) h

-- a first one that is no line feed, and a last one that is no carriage return
record HasEnds (glyphs : List ℕ) : Type 0 where
  first : ℕ
  behind : List ℕ
  begins : glyphs ≡ first ∷ behind
  no_feed : first ≡ 10 → ⊥
  before : List ℕ
  last : ℕ
  ends : glyphs ≡ before ++ last ∷ []
  no_return : last ≡ 13 → ⊥

record EndsWith (c : ℕ) (cs : List ℕ) : Type 0 where
  before : List ℕ
  ends : cs ≡ before ++ c ∷ []

elements_end : {cs meant : List ℕ} → IsElements 124 cs meant → EndsWith 124 cs
elements_end closed = record { before = []; ends = refl }
elements_end (next one rest meant more e h) =
    let r = elements_end h in record { before = one ++ r.before; ends = ap (λ xs. one ++ xs) r.ends ∙ sym (append_assoc one r.before (124 ∷ [])) }

-- what stands in a word is no line end
inside_no : (c n : ℕ) → is_inside n ≡ false → is_inside c ≡ true → c ≡ n → ⊥
inside_no c n k h e = let same : is_inside c ≡ is_inside n = ap is_inside e in cc

last_of : (c : ℕ) (cs : List ℕ) → list_all is_inside (c ∷ cs) ≡ true → (before : List ℕ) × (last : ℕ) × (c ∷ cs ≡ before ++ last ∷ []) × (is_inside last ≡ true)
last_of c [] h = ([], c, refl, (list_all_head c [] h).0)
last_of c (d ∷ cs) h =
    let r = last_of d cs (list_all_head c (d ∷ cs) h).1 in (c ∷ r.0, r.1, ap (λ xs. c ∷ xs) r.2, r.3)

word_ends : (c : ℕ) (cs : List ℕ) → list_all is_inside (c ∷ cs) ≡ true → HasEnds (c ∷ cs)
word_ends c cs h =
    let r = last_of c cs h in
    record {
      first = c;
      behind = cs;
      begins = refl;
      no_feed = inside_no c 10 feed_inside (list_all_head c cs h).0;
      before = r.0;
      last = r.1;
      ends = r.2;
      no_return = inside_no r.1 13 return_inside r.3;
    }

no_bar_feed : ◌≡◌ {A = ℕ} 124 10 → ⊥
no_bar_feed e = omega (arith, e)

no_bar_return : ◌≡◌ {A = ℕ} 124 13 → ⊥
no_bar_return e = omega (arith, e)

barred_ends : (cs glyphs : List ℕ) → glyphs ≡ 124 ∷ cs → EndsWith 124 cs → HasEnds glyphs
barred_ends cs glyphs e r = record {
  first = 124;
  behind = cs;
  begins = e;
  no_feed = no_bar_feed;
  before = 124 ∷ r.before;
  last = 124;
  ends = e ∙ ap (λ xs. 124 ∷ xs) r.ends;
  no_return = no_bar_return;
}

bare_ends : {name : List ℕ} → IsBare name → list_all is_inside name ≡ true → HasEnds name
bare_ends (ordinary c cs h k) all = word_ends c cs all
bare_ends (sign s h) all = word_ends s [] all
bare_ends (signed s c cs h k l) all = word_ends s (c ∷ cs) all
bare_ends (signed_dot s c cs h k l) all = word_ends s (46 ∷ c ∷ cs) all
bare_ends (dot c cs h k) all = word_ends 46 (c ∷ cs) all

name_ends : (name glyphs rest : List ℕ) (bars : Bool) → IsToken (Atomic (Name name bars)) glyphs rest → HasEnds glyphs
name_ends name glyphs rest true h = barred_ends h.0 glyphs h.1 (elements_end h.2)
name_ends name glyphs rest false h = subst HasEnds (sym h.0) (bare_ends h.1 h.3.0)

-- ---- tokens of a text

abbrev pub ComesBack : Encoding → List ℕ → ℕ → Type 0
ComesBack e text n = offset_of e text (position_of e text n) ≡ n

module _ (e : Encoding) (text : List ℕ) where
  -- a place between characters that no line end holds
  comes_back : (n : ℕ) (xs ys : List ℕ) → chars text ≡ xs ++ ys → n ≡ byte_count xs → (IsWithinEnd xs ys → ⊥) → ComesBack e text n
  comes_back n xs ys split count apart =
      subst (Back (units_of e) (lines_of (chars text))) (sym count)
      (subst (λ cs. Back (units_of e) (lines_of cs) (byte_count xs)) (sym split) (round_trip (units_of e) (some_units e) xs ys apart))

  abbrev pub BothBack : Token → Type 0
  BothBack t = ComesBack e text t.start × ComesBack e text t.end

  start_back : (n : ℕ) (xs glyphs rest : List ℕ) → chars text ≡ xs ++ (glyphs ++ rest) → n ≡ byte_count xs → HasEnds glyphs → ComesBack e text n
  start_back n xs glyphs rest split count h =
      let next : glyphs ++ rest ≡ h.first ∷ (h.behind ++ rest) = ap (λ cs. cs ++ rest) h.begins in
      comes_back n xs (h.first ∷ (h.behind ++ rest)) (split ∙ ap (λ cs. xs ++ cs) next) count (apart_by_next xs h.first (h.behind ++ rest) h.no_feed)

  end_back : (n : ℕ) (xs glyphs rest : List ℕ) → chars text ≡ xs ++ (glyphs ++ rest) → n ≡ byte_count (xs ++ glyphs) → HasEnds glyphs → ComesBack e text n
  end_back n xs glyphs rest split count h =
      let front : xs ++ glyphs ≡ (xs ++ h.before) ++ h.last ∷ [] = ap (λ cs. xs ++ cs) h.ends ∙ sym (append_assoc xs h.before (h.last ∷ [])) in
      comes_back n (xs ++ glyphs) rest (split ∙ sym (append_assoc xs glyphs rest)) count
      (subst (λ cs. IsWithinEnd cs rest → ⊥) (sym front) (apart_by_last (xs ++ h.before) h.last rest h.no_return))

  abbrev IsName : Token → Type 0
  IsName t = (old : List ℕ) × (bars : Bool) × (t.kind ≡ Atomic (Name old bars))

  token_back : (t : Token) (front gap glyphs rest : List ℕ) → chars text ≡ front ++ (gap ++ (glyphs ++ rest)) → t.start ≡ byte_count front + byte_count gap → t.end ≡ t.start + byte_count glyphs → IsToken t.kind glyphs rest → IsName t → BothBack t
  token_back t front gap glyphs rest split starts ends is name =
      let h = name_ends name.0 glyphs rest name.1 (subst (λ k. IsToken k glyphs rest) name.2 is) in
      let xs = front ++ gap in
      let whole : chars text ≡ xs ++ (glyphs ++ rest) = split ∙ sym (append_assoc front gap (glyphs ++ rest)) in
      let start : t.start ≡ byte_count xs = starts ∙ sym (sum_by-append len_utf8 front gap) in
      (start_back t.start xs glyphs rest whole start h, end_back t.end xs glyphs rest whole (ends ∙ (ap (λ n. n + byte_count glyphs) start ∙ sym (sum_by-append len_utf8 xs glyphs))) h)

  abbrev pub NamesBack : List Token → Type 0
  NamesBack [] = Unit {0}
  NamesBack (t ∷ ts) = (IsName t → BothBack t) × NamesBack ts

  names_back_from : (at : ℕ) (front : List ℕ) (ts : List Token) (cs : List ℕ) → chars text ≡ front ++ cs → at ≡ byte_count front → IsSpelledFrom at ts cs → NamesBack ts
  names_back_from at front [] cs split e h = tt
  names_back_from at front (t ∷ ts) cs split e h =
      let f = h.0 in
      let whole : chars text ≡ front ++ (f.gap ++ (f.glyphs ++ f.rest)) = split ∙ ap (λ q. front ++ q) f.whole in
      let further : chars text ≡ (front ++ (f.gap ++ f.glyphs)) ++ f.rest = whole ∙ (ap (λ q. front ++ q) (sym (append_assoc f.gap f.glyphs f.rest)) ∙ sym (append_assoc front (f.gap ++ f.glyphs) f.rest)) in
      let place : t.end ≡ byte_count (front ++ (f.gap ++ f.glyphs)) = omega (arith, e, f.starts, f.ends, sum_by-append len_utf8 front (f.gap ++ f.glyphs), sum_by-append len_utf8 f.gap f.glyphs) in
      (token_back t front f.gap f.glyphs f.rest whole (f.starts ∙ ap (λ n. n + byte_count f.gap) e) f.ends f.token, names_back_from t.end (front ++ (f.gap ++ f.glyphs)) ts f.rest further place h.1)

  -- the tokens of a text
  pub names_back : (ts : List Token) → IsSpelled ts (chars text) → NamesBack ts
  names_back ts h = marked (chars text) refl h
    where
      -- a byte order mark stands before the first token
      marked : (cs : List ℕ) → chars text ≡ cs → IsSpelledFrom (mark_bytes cs) ts (behind_mark cs) → NamesBack ts
      marked [] split h = names_back_from 0 [] ts [] split refl h
      marked (c ∷ cs) split h = go (c == 0xFEFF) refl
        where
          go : (t : Bool) → (c == 0xFEFF) ≡ t → NamesBack ts
          go true q =
              let at = subst (λ t. IsSpelledFrom (cond t 3 0) ts (cond t cs (c ∷ cs))) q h in
              let size : 3 ≡ byte_count (c ∷ []) = ap (λ n. byte_count (n ∷ [])) (sym (eqb-true c 0xFEFF q)) in
              names_back_from 3 (c ∷ []) ts cs split size at
          go false q = names_back_from 0 [] ts (c ∷ cs) split refl (subst (λ t. IsSpelledFrom (cond t 3 0) ts (cond t cs (c ∷ cs))) q h)

-- ---- the edits of a text

module _ (e : Encoding) (text : List ℕ) (new : ℕ → Option (List ℕ)) where
  abbrev pub EditsBack : List Edit → Type 0
  EditsBack [] = Unit {0}
  EditsBack (x ∷ xs) = (ComesBack e text x.start × ComesBack e text x.end) × EditsBack xs

  one_back : (name : Option (List ℕ)) (t : Token) (more : List Edit) → IfSome name (λ name. IsName e text t) → (IsName e text t → BothBack e text t) → EditsBack more → EditsBack (edit_if text (span_of (token_seen t)) name ++ more)
  one_back None t more h k l = l
  one_back (Some name) t more h k l = (k h, l)

  all_back : (number : ℕ) (ts : List Token) → AreNames new number ts → NamesBack e text ts → EditsBack (edits_from new text number (map span_of (map token_seen ts)))
  all_back number [] h k = tt
  all_back number (t ∷ ts) h k = one_back (new number) t (edits_from new text (suc number) (map span_of (map token_seen ts))) h.0 k.0 (all_back (suc number) ts h.1 k.1)

  -- where only identifiers get new names
  pub edits_back : (ts : List Token) → IsSpelled ts (chars text) → AreNames new 0 ts → EditsBack (edits_of new text (map span_of (map token_seen ts)))
  edits_back ts h names = all_back 0 ts names (names_back e text ts h)
