-- Marks within a line: what they count, character by character, and how a walk goes on from them.
use Rattle.std.proofs.Common.{◌≡◌, ◌≢◌, ℕ, ◌+◌, ◌-◌, ◌≤◌, ◌⊎◌, ◌↔◌, inl, inr, IsTrue, Bool, true, false, cond, nat_lt, ◌/◌, List, [], ◌∷◌, ◌++◌, length, drop, append_assoc, refl, sym, ap, ◌∙◌, subst, arith}
use Rattle.std.proofs.lemmas.Bool.{false≢true, cases_eq}
use Rattle.std.proofs.lemmas.Bool.Decides.{nat_tests}
use Rattle.std.proofs.lemmas.List.Elements.{All-contains, All-push, All-same}
use Rattle.std.proofs.lemmas.List.Sums.{sum_by-cons, sum_by_push}
use Rattle.std.proofs.lemmas.Str.{IsCharBoundary-from_drop}
use Rattle.std.specs.List.{All, Contains, sum_by}
use Rattle.std.specs.Str.{chars, IsUtf8, IsCharBoundary}
use Rattle.std.specs.Char.{len_utf8}
use Rattle.ls_base.specs.Positions.{lines_of, units_of, bytes_within, units_within}
use Rattle.ls_base.specs.declared.encoding.Encoding.{Encoding}
use Rattle.ls_base.specs.declared.encoding.Encoding.TheVariants.{Utf8}
use Rattle.text_positions.specs.declared.marks.Mark.{Mark}
use Rattle.text_positions.specs.Marks.{units_before, with_mark, IsLineBegin, IsPast, CountsTo, IsMark}
use Rattle.text_positions.specs.Walks.{EndsLine, begins_with_feed, ends_behind, first_chars, first_line}
use Rattle.text_positions.proofs.FirstLine.{units_of-le-len_utf8, first_chars_end, first_chars_more}

-- some characters have no more units than bytes
sums_few : (e : Encoding) (cs : List ℕ) → sum_by (units_of e) cs ≤ sum_by len_utf8 cs
sums_few e [] = omega arith
sums_few e (c ∷ cs) = omega (arith, sum_by-cons (units_of e) c cs, sum_by-cons len_utf8 c cs, units_of-le-len_utf8 e c, sums_few e cs)

pub sum_bytes : (cs : List ℕ) → sum_by (units_of Utf8) cs ≡ sum_by len_utf8 cs
sum_bytes [] = refl
sum_bytes (c ∷ cs) = omega (arith, sum_by-cons (units_of Utf8) c cs, sum_by-cons len_utf8 c cs, sum_bytes cs)

-- nor does a mark count more
pub units_few : (e : Encoding) (m : Mark) (line left : List ℕ) → CountsTo m line left → units_before e m ≤ m.utf8
units_few e m line left h = omega (arith, h.units e, h.units Utf8, sums_few e h.front, sum_bytes h.front)

-- where a line begins nothing is counted
counts_begin : (m : Mark) (start : ℕ) (line : List ℕ) → IsLineBegin start m → CountsTo m line line
counts_begin m start line h = record { front = []; whole = refl; units = λ e. h.units e }

-- one character on
counts_past : (m next : Mark) (line left : List ℕ) (c : ℕ) → IsPast c m next → CountsTo m line (c ∷ left) → CountsTo next line left
counts_past m next line left c p h = record {
  front = h.front ++ c ∷ [];
  whole = h.whole ∙ sym (append_assoc h.front (c ∷ []) left);
  units = λ e. omega (arith, p.units e, h.units e, sum_by_push (units_of e) h.front c);
}

-- ---- a walk over a line, from its beginning and from a mark

units_step : (units : ℕ → ℕ) (c n : ℕ) (cs : List ℕ) → len_utf8 c ≤ n → units_within units n (c ∷ cs) ≡ units c + units_within units (n - len_utf8 c) cs
units_step units c n cs fits = grind (arith, nat_tests)

pub bytes_step : (units : ℕ → ℕ) (c n : ℕ) (cs : List ℕ) → units c ≤ n → bytes_within units n (c ∷ cs) ≡ len_utf8 c + bytes_within units (n - units c) cs
bytes_step units c n cs fits = grind (arith, nat_tests)

units_from : (units : ℕ → ℕ) (front left : List ℕ) (n : ℕ) → sum_by len_utf8 front ≤ n → units_within units n (front ++ left) ≡ sum_by units front + units_within units (n - sum_by len_utf8 front) left
units_from units [] left n h =
    let all : n - sum_by len_utf8 [] ≡ n = omega arith in
    omega (arith, ap (λ k. units_within units k left) all)
units_from units (c ∷ front) left n h =
    let bytes : sum_by len_utf8 (c ∷ front) ≡ len_utf8 c + sum_by len_utf8 front = sum_by-cons len_utf8 c front in
    let less : n - len_utf8 c - sum_by len_utf8 front ≡ n - sum_by len_utf8 (c ∷ front) = omega (arith, bytes) in
    omega (arith, units_step units c n (front ++ left) (omega (arith, bytes)), units_from units front left (n - len_utf8 c) (omega (arith, bytes)), ap (λ k. units_within units k left) less, sum_by-cons units c front)

bytes_from : (units : ℕ → ℕ) (front left : List ℕ) (n : ℕ) → sum_by units front ≤ n → bytes_within units n (front ++ left) ≡ sum_by len_utf8 front + bytes_within units (n - sum_by units front) left
bytes_from units [] left n h =
    let all : n - sum_by units [] ≡ n = omega arith in
    omega (arith, ap (λ k. bytes_within units k left) all)
bytes_from units (c ∷ front) left n h =
    let all : sum_by units (c ∷ front) ≡ units c + sum_by units front = sum_by-cons units c front in
    let less : n - units c - sum_by units front ≡ n - sum_by units (c ∷ front) = omega (arith, all) in
    omega (arith, bytes_step units c n (front ++ left) (omega (arith, all)), bytes_from units front left (n - units c) (omega (arith, all)), ap (λ k. bytes_within units k left) less, sum_by-cons len_utf8 c front)

-- the units up to so many bytes of the line
pub units_on : (e : Encoding) (m : Mark) (line left : List ℕ) (n : ℕ) → CountsTo m line left → m.utf8 ≤ n → units_within (units_of e) n line ≡ units_before e m + units_within (units_of e) (n - m.utf8) left
units_on e m line left n h le =
    let bytes : m.utf8 ≡ sum_by len_utf8 h.front = h.units Utf8 ∙ sum_bytes h.front in
    omega (arith, ap (units_within (units_of e) n) h.whole, units_from (units_of e) h.front left n (omega (arith, bytes)), ap (λ k. units_within (units_of e) (n - k) left) bytes, h.units e)

-- the bytes up to so many units
pub bytes_on : (e : Encoding) (m : Mark) (line left : List ℕ) (n : ℕ) → CountsTo m line left → units_before e m ≤ n → bytes_within (units_of e) n line ≡ m.utf8 + bytes_within (units_of e) (n - units_before e m) left
bytes_on e m line left n h le =
    let bytes : m.utf8 ≡ sum_by len_utf8 h.front = h.units Utf8 ∙ sum_bytes h.front in
    omega (arith, ap (bytes_within (units_of e) n) h.whole, bytes_from (units_of e) h.front left n (omega (arith, h.units e)), ap (λ k. bytes_within (units_of e) (n - k) left) (h.units e), bytes)

-- where a line begins, and what the table knows, are marks of the text
pub mark_known : (text : List ℕ) (marks : List Mark) (start : ℕ) (m : Mark) → All (IsMark text) marks → IsCharBoundary text start → IsLineBegin start m ⊎ Contains marks m → IsMark text m
mark_known text marks start m all there (inr among) = All-contains (IsMark text) marks m all among
mark_known text marks start m all there (inl h) =
    let at : start ≡ m.start + m.utf8 = omega (arith, h.line, h.units Utf8) in
    let here : m.start ≡ m.start + m.utf8 = h.line ∙ at in
    record {
      boundary = subst (IsCharBoundary text) at there;
      counts = subst (λ (n : ℕ). CountsTo m (first_line (drop m.start text)) (first_line (drop n text))) here (counts_begin m start _ h);
    }

-- ---- one pass over a text, which stands before what is left of it

-- a mark counts what of its line stands before what is left, but for a carriage return that a line feed follows
pub record Here (text left : List ℕ) (m : Mark) : Type 0 where
  pub counts : CountsTo m (first_line (drop m.start text)) (first_line left)
  pub place : begins_with_feed (chars left) ≡ false → m.start + m.utf8 ≡ length text - length left

pub here_begin : (text left : List ℕ) (m : Mark) (start : ℕ) → IsLineBegin start m → start ≡ length text - length left → left ≡ drop (length text - length left) text → Here text left m
here_begin text left m start h at is =
    let e : m.start ≡ length text - length left = h.line ∙ at in
    record {
      counts = subst (λ (rest : List ℕ). CountsTo m (first_line (drop m.start text)) (first_line rest)) (sym (is ∙ ap (λ n. drop n text) (sym e))) (counts_begin m start _ h);
      place = λ other. omega (arith, e, h.units Utf8);
    }

not_feed : (c : ℕ) (cs : List ℕ) → ¬ EndsLine c → begins_with_feed (c ∷ cs) ≡ false
not_feed c cs other =
    let n : c ≢ 10 = λ e. other (inl e) in
    grind (arith, nat_tests)

-- a character that ends a line, behind which none ends, is a carriage return before a line feed
return_feed : (c : ℕ) (cs : List ℕ) → EndsLine c → ends_behind c cs ≡ false → begins_with_feed cs ≡ true
return_feed c cs (inl e) f = absurd (false≢true (sym f ∙ grind (arith, nat_tests)))
return_feed c [] (inr e) f = absurd (false≢true (sym f ∙ grind (arith, nat_tests)))
return_feed c (d ∷ cs) (inr e) f = grind (arith, nat_tests)

-- a line ends behind the first character only where it ends the line
pub ended_line : (text more : List ℕ) (c : ℕ) (b : Bool) → chars text ≡ c ∷ chars more → b ≡ ends_behind c (chars more) → b ≡ true → first_line text ≡ []
ended_line text more c b is e t = ap (λ cs. first_chars (lines_of cs)) is ∙ first_chars_end c (chars more) (ends c (chars more) (sym e ∙ t)) where
  ends : (c : ℕ) (cs : List ℕ) → ends_behind c cs ≡ true → EndsLine c
  ends c cs t = elim (cases_eq c 10) [
    | inl feed ↦ inl feed
    | inr n ↦ inr (grind (arith, nat_tests))
  ]

-- a line that begins with a line feed is empty
feed_first : (cs : List ℕ) → begins_with_feed cs ≡ true → first_chars (lines_of cs) ≡ []
feed_first [] f = absurd (false≢true f)
feed_first (c ∷ cs) f = first_chars_end c cs (inl (grind (arith, nat_tests)))

-- at most that mark is new
pub with_mark_cases : (here next : Mark) (old new : List Mark) → new ≡ with_mark here next old → (new ≡ old) ⊎ (new ≡ old ++ next ∷ [])
with_mark_cases here next old new e = added (nat_lt (here.utf8 / 256) (next.utf8 / 256)) (old ++ next ∷ []) old new e where
  added : (b : Bool) (more old new : List Mark) → new ≡ cond b more old → (new ≡ old) ⊎ (new ≡ more)
  added true more old new e = inr e
  added false more old new e = inl e

-- the text left begins with the character c, and the test b says whether it ends a line
module _ (text left more : List ℕ) (c : ℕ) (m : Mark) (b : Bool) (is : chars left ≡ c ∷ chars more) (tells : IsTrue b ↔ EndsLine c) (here : Here text left m) where
  other : b ≡ false → ¬ EndsLine c
  other f = λ e. false≢true (sym f ∙ tells.1 e)

  pub here_place : b ≡ false → m.start + m.utf8 ≡ length text - length left
  here_place f = here.place (ap begins_with_feed is ∙ not_feed c (chars more) (other f))

  past_place : (next : Mark) → b ≡ false → IsPast c m next → length more + len_utf8 c ≡ length left → length left ≤ length text → next.start + next.utf8 ≡ length text - length more
  past_place next f p k le = omega (arith, here_place f, p.line, p.units Utf8)

  pub line_more : b ≡ false → first_line left ≡ c ∷ first_line more
  line_more f = ap (λ cs. first_chars (lines_of cs)) is ∙ first_chars_more c (chars more) (other f)

  pub here_past : (next : Mark) → b ≡ false → IsPast c m next → length more + len_utf8 c ≡ length left → length left ≤ length text → Here text more next
  here_past next f p k le =
      let counts : CountsTo m (first_line (drop m.start text)) (c ∷ first_line more) = subst (CountsTo m (first_line (drop m.start text))) (line_more f) here.counts in
      record {
        counts = subst (λ (n : ℕ). CountsTo next (first_line (drop n text)) (first_line more)) (sym p.line) (counts_past m next _ _ c p counts);
        place = λ _. past_place next f p k le;
      }

  -- what is pushed is a mark
  pub marked : (next : Mark) (old new : List Mark) → b ≡ false → IsPast c m next → length more + len_utf8 c ≡ length left → length left ≤ length text → more ≡ drop (length text - length more) text → IsUtf8 more → All (IsMark text) old → (new ≡ old) ⊎ (new ≡ old ++ next ∷ []) → All (IsMark text) new
  marked next old new f p k le rest u all (inl same) = All-same (IsMark text) new old same all
  marked next old new f p k le rest u all (inr pushed) =
      let at : length text - length more ≡ next.start + next.utf8 = sym (past_place next f p k le) in
      let behind : more ≡ drop (next.start + next.utf8) text = rest ∙ ap (λ n. drop n text) at in
      let now : Here text more next = here_past next f p k le in
      let mark : IsMark text next = record {
        boundary = IsCharBoundary-from_drop text _ (omega arith) (subst IsUtf8 behind u);
        counts = subst (λ (rest : List ℕ). CountsTo next (first_line (drop next.start text)) (first_line rest)) behind now.counts;
      } in
      All-same (IsMark text) new (old ++ next ∷ []) pushed (All-push (IsMark text) old next all mark)

  -- a carriage return that a line feed follows is counted with no line
  pub line_return : b ≡ true → ends_behind c (chars more) ≡ false → first_line left ≡ first_line more
  line_return t e =
      let feed : begins_with_feed (chars more) ≡ true = return_feed c (chars more) (tells.0 t) e in
      ap (λ cs. first_chars (lines_of cs)) is ∙ first_chars_end c (chars more) (tells.0 t) ∙ sym (feed_first (chars more) feed)

  pub here_return : b ≡ true → ends_behind c (chars more) ≡ false → Here text more m
  here_return t e =
      let feed : begins_with_feed (chars more) ≡ true = return_feed c (chars more) (tells.0 t) e in
      record {
        counts = subst (CountsTo m (first_line (drop m.start text))) (line_return t e) here.counts;
        place = λ f. absurd (false≢true (sym f ∙ feed));
      }
