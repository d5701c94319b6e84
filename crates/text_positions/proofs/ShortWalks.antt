-- From the last mark a walk over a line is short.
use Rattle.std.proofs.Common.{◌≡◌, ℕ, suc, ◌+◌, ◌-◌, ◌<◌, ◌≤◌, ◌⊎◌, inl, inr, cond, nat_le, List, [], ◌∷◌, ◌++◌, length, get_or, take, drop, refl, sym, ap, ◌∙◌, subst, arith}
use Rattle.std.proofs.lemmas.Bool.{cases_lt}
use Rattle.std.proofs.lemmas.Bool.Decides.{nat_tests}
use Rattle.std.proofs.lemmas.List.Elements.{All-contains, All-same}
use Rattle.std.proofs.lemmas.List.Sums.{sum_by-cons}
use Rattle.std.proofs.lemmas.Str.{len_utf8_bounds}
use Rattle.std.specs.List.{All, Contains, sum_by}
use Rattle.std.specs.Char.{len_utf8}
use Rattle.ls_base.specs.Positions.{byte_count, bytes_within, units_of}
use Rattle.ls_base.specs.declared.encoding.Encoding.{Encoding}
use Rattle.ls_base.specs.declared.encoding.Encoding.TheVariants.{Utf8}
use Rattle.text_positions.specs.declared.marks.Mark.{Mark}
use Rattle.text_positions.specs.Marks.{units_before, IsLineBegin, CountsTo, IsMark, IsNear, EachIsNear}
use Rattle.text_positions.specs.Lines.{line_starts, AreLinesOf}
use Rattle.text_positions.specs.Table.{Table}
use Rattle.text_positions.specs.Walks.{first_line}
use Rattle.text_positions.proofs.MarkWalks.{bytes_on, bytes_step, sum_bytes}

bytes_stay : (units : ℕ → ℕ) (c n : ℕ) (cs : List ℕ) → n < units c → bytes_within units n (c ∷ cs) ≡ 0
bytes_stay units c n cs few = grind (arith, nat_tests)

-- the longest front with so many units ends behind one of the characters
record Ends (line : List ℕ) (bytes : ℕ) : Type 0 where
  i : ℕ
  within : i ≤ length line
  is : bytes ≡ byte_count (take i line)

longest : (units : ℕ → ℕ) (n : ℕ) (line : List ℕ) → Ends line (bytes_within units n line)
longest units n [] = record { i = 0; within = omega arith; is = refl }
longest units n (c ∷ cs) = elim (cases_lt n (units c)) [
  | inl few ↦ record { i = 0; within = omega arith; is = bytes_stay units c n cs few }
  | inr fits ↦
      let later : Ends cs (bytes_within units (n - units c) cs) = longest units (n - units c) cs in
      record { i = suc later.i; within = omega (arith, later.within); is = bytes_step units c n cs fits ∙ omega (arith, later.is, sum_by-cons len_utf8 c (take later.i cs)) }
]

-- it ends before a front that has more units
shorter : (units : ℕ → ℕ) (n : ℕ) (front left : List ℕ) → n < sum_by units front → bytes_within units n (front ++ left) < byte_count front
shorter units n [] left more = absurd (omega arith)
shorter units n (c ∷ front) left more = elim (cases_lt n (units c)) [
  | inl few ↦ omega (arith, bytes_stay units c n (front ++ left) few, sum_by-cons len_utf8 c front, len_utf8_bounds c)
  | inr fits ↦ omega (arith, bytes_step units c n (front ++ left) fits, shorter units (n - units c) front left (omega (arith, sum_by-cons units c front)), sum_by-cons len_utf8 c front)
]

-- so a mark that isn't behind its end has no more units
reached : (e : Encoding) (m : Mark) (line left : List ℕ) (n : ℕ) → CountsTo m line left → m.utf8 ≤ bytes_within (units_of e) n line → units_before e m ≤ n
reached e m line left n h le = elim (cases_lt n (units_before e m)) [
  | inl more ↦ absurd (omega (arith, h.units Utf8, sum_bytes h.front, ap (bytes_within (units_of e) n) h.whole, shorter (units_of e) n h.front left (omega (arith, h.units e))))
  | inr few ↦ few
]

-- the marks of a text, of which m is the last in its line with at most n units before it
module _ (e : Encoding) (text : List ℕ) (marks : List Mark) (m : Mark) (n : ℕ) (all : All (IsMark text) marks) (last : All (λ k. k.start ≡ m.start → units_before e k ≤ n → k.utf8 ≤ m.utf8) marks) where
  before : (k : Mark) → k.start ≡ m.start → IsLineBegin m.start k ⊎ Contains marks k → k.utf8 ≤ bytes_within (units_of e) n (first_line (drop m.start text)) → k.utf8 ≤ m.utf8
  before k s (inl h) le = omega (arith, h.units Utf8)
  before k s (inr among) le =
      let mark : IsMark text k = All-contains (IsMark text) marks k all among in
      let here : k.utf8 ≤ bytes_within (units_of e) n (first_line (drop k.start text)) = subst (λ start. k.utf8 ≤ bytes_within (units_of e) n (first_line (drop start text))) (sym s) le in
      All-contains (λ k. k.start ≡ m.start → units_before e k ≤ n → k.utf8 ≤ m.utf8) marks k last among s (reached e k _ _ n mark.counts here)

  -- the walk from it is short
  pub short_walk : units_before e m ≤ n → CountsTo m (first_line (drop m.start text)) (first_line (drop (m.start + m.utf8) text)) → EachIsNear marks m.start (first_line (drop m.start text)) → bytes_within (units_of e) (n - units_before e m) (first_line (drop (m.start + m.utf8) text)) < 256
  short_walk few h near =
      let ends : Ends (first_line (drop m.start text)) (bytes_within (units_of e) n (first_line (drop m.start text))) = longest (units_of e) n (first_line (drop m.start text)) in
      let k : IsNear marks m.start (byte_count (take ends.i (first_line (drop m.start text)))) = near ends.i ends.within in
      let le : k.mark.utf8 ≤ m.utf8 = before k.mark k.line k.known (omega (arith, k.before, ends.is)) in
      omega (arith, bytes_on e m _ _ n h few, ends.is, k.near, le)

-- bytes are the units of UTF-8
pub bytes_utf8 : (n : ℕ) (line : List ℕ) → bytes_within (units_of Utf8) n line ≡ bytes_within len_utf8 n line
bytes_utf8 n [] = refl
bytes_utf8 n (c ∷ cs) = ap (λ m. cond (nat_le (len_utf8 c) n) (len_utf8 c + m) 0) (bytes_utf8 (n - len_utf8 c) cs)

-- the mark that is found in the table of a text, in its line k
pub table_walk : (e : Encoding) (text : List ℕ) (lines : Table) (items : List Mark) (k start : ℕ) (m : Mark) (n : ℕ) → AreLinesOf lines text → items ≡ lines.marks → k < length (line_starts text) → start ≡ get_or (line_starts text) k 0 → IsMark text m → m.start ≡ start → units_before e m ≤ n → All (λ j. j.start ≡ start → units_before e j ≤ n → j.utf8 ≤ m.utf8) items → bytes_within (units_of e) (n - units_before e m) (first_line (drop (m.start + m.utf8) text)) < 256
table_walk e text lines items k start m n are is there at mark line few last =
    let same : get_or lines.starts k 0 ≡ m.start = ap (λ xs. get_or xs k 0) are.starts ∙ sym at ∙ sym line in
    let near : EachIsNear lines.marks m.start (first_line (drop m.start text)) = subst (λ start. EachIsNear lines.marks start (first_line (drop start text))) same (are.near k 0 (omega (arith, ap length are.starts))) in
    let all : All (λ j. j.start ≡ m.start → units_before e j ≤ n → j.utf8 ≤ m.utf8) lines.marks = All-same (λ j. j.start ≡ m.start → units_before e j ≤ n → j.utf8 ≤ m.utf8) lines.marks items (sym is) (λ i d h s le. last i d h (s ∙ line) le) in
    short_walk e text lines.marks m n are.marks all few mark.counts near
