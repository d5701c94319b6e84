-- A mark, or the start of the line, is near each place of a text.
use Rattle.std.proofs.Common.{◌≡◌, ℕ, ◌/◌, ◌≤◌, ◌⊎◌, inl, inr, Bool, true, false, cond, nat_lt, List, [], ◌∷◌, ◌++◌, length, take, drop, length-append, append_assoc, refl, sym, ap, ◌∙◌, subst, arith}
use Rattle.std.proofs.lemmas.Bool.{cases_eq}
use Rattle.std.proofs.lemmas.Bool.Decides.{nat_tests}
use Rattle.std.proofs.lemmas.List.{append-nil, take-append-le, take_all}
use Rattle.std.proofs.lemmas.List.Elements.{All-push, All-same, All-weaker, Contains-append_left, Contains-push}
use Rattle.std.proofs.lemmas.List.Sums.{sum_by_push}
use Rattle.std.specs.List.{All, Contains}
use Rattle.std.specs.Char.{len_utf8}
use Rattle.ls_base.specs.Positions.{byte_count}
use Rattle.ls_base.specs.declared.encoding.Encoding.TheVariants.{Utf8}
use Rattle.text_positions.specs.declared.marks.Mark.{Mark}
use Rattle.text_positions.specs.Marks.{with_mark, IsLineBegin, IsPast, IsNear, EachIsNear}
use Rattle.text_positions.specs.Walks.{first_line}
use Rattle.text_positions.proofs.MarkWalks.{with_mark_cases}

-- a mark of its line, or the line's start, stands in the same stretch
pub record InStretch (marks : List Mark) (m : Mark) : Type 0 where
  pub mark : Mark
  pub known : IsLineBegin m.start mark ⊎ Contains marks mark
  pub line : mark.start ≡ m.start
  pub before : mark.utf8 ≤ m.utf8
  pub same : mark.utf8 / 256 ≡ m.utf8 / 256

near_from : (marks : List Mark) (m : Mark) (bytes : ℕ) → InStretch marks m → m.utf8 ≡ bytes → IsNear marks m.start bytes
near_from marks m bytes s e = record { mark = s.mark; known = s.known; line = s.line; before = omega (arith, s.before, e); near = omega (arith, s.same, e) }

-- with one mark more
known_more : (marks : List Mark) (next m : Mark) (start : ℕ) → IsLineBegin start m ⊎ Contains marks m → IsLineBegin start m ⊎ Contains (marks ++ next ∷ []) m
known_more marks next m start (inl begins) = inl begins
known_more marks next m start (inr among) = inr (Contains-append_left marks (next ∷ []) m among)

near_more : (marks : List Mark) (next : Mark) (start bytes : ℕ) → IsNear marks start bytes → IsNear (marks ++ next ∷ []) start bytes
near_more marks next start bytes n = record { mark = n.mark; known = known_more marks next n.mark start n.known; line = n.line; before = n.before; near = n.near }

near_kept : (marks new : List Mark) (next : Mark) (start bytes : ℕ) → (new ≡ marks) ⊎ (new ≡ marks ++ next ∷ []) → IsNear marks start bytes → IsNear new start bytes
near_kept marks new next start bytes (inl same) n = subst (λ (marks : List Mark). IsNear marks start bytes) (sym same) n
near_kept marks new next start bytes (inr more) n = subst (λ (marks : List Mark). IsNear marks start bytes) (sym more) (near_more marks next start bytes n)

-- ---- one pass over a text

-- a mark is near each place of the lines that begin there, as far as they were walked: the last one up to here
pub record Near (text left starts : List ℕ) (marks : List Mark) (here : Mark) : Type 0 where
  pub front : List ℕ
  pub whole : first_line (drop here.start text) ≡ front ++ first_line left
  pub bytes : here.utf8 ≡ byte_count front
  pub stretch : InStretch marks here
  pub walked : EachIsNear marks here.start front
  pub done : All (λ start. (start ≡ here.start) ⊎ EachIsNear marks start (first_line (drop start text))) starts

begin_stretch : (marks : List Mark) (m : Mark) (start : ℕ) → IsLineBegin start m → InStretch marks m
begin_stretch marks m start h = record { mark = m; known = inl (record { line = refl; units = h.units }); line = refl; before = omega arith; same = refl }

-- where a line begins, and the lines before it are done
pub near_begin : (text left starts : List ℕ) (marks : List Mark) (m : Mark) (start : ℕ) → IsLineBegin start m → left ≡ drop start text → All (λ s. (s ≡ start) ⊎ EachIsNear marks s (first_line (drop s text))) starts → Near text left starts marks m
near_begin text left starts marks m start h is done = record {
  front = [];
  whole = ap (λ n. first_line (drop n text)) h.line ∙ ap first_line (sym is);
  bytes = h.units Utf8;
  stretch = begin_stretch marks m start h;
  walked = λ i le. near_from marks m (byte_count (take i [])) (begin_stretch marks m start h) (h.units Utf8 ∙ ap byte_count (sym (take_all i [] (omega arith))));
  done = All-weaker (λ s. (s ≡ start) ⊎ EachIsNear marks s (first_line (drop s text))) _ (λ s at. at_line s at) starts done;
} where
  at_line : (s : ℕ) → (s ≡ start) ⊎ EachIsNear marks s (first_line (drop s text)) → (s ≡ m.start) ⊎ EachIsNear marks s (first_line (drop s text))
  at_line s (inl e) = inl (e ∙ sym h.line)
  at_line s (inr all) = inr all

-- a line that was walked to its end
line_done : (text left starts : List ℕ) (marks : List Mark) (here : Mark) → first_line left ≡ [] → Near text left starts marks here → (s : ℕ) → (s ≡ here.start) ⊎ EachIsNear marks s (first_line (drop s text)) → EachIsNear marks s (first_line (drop s text))
line_done text left starts marks here none n s (inr all) = all
line_done text left starts marks here none n s (inl e) =
    let all : first_line (drop here.start text) ≡ n.front = n.whole ∙ ap (λ xs. n.front ++ xs) none ∙ append-nil n.front in
    subst (λ s. EachIsNear marks s (first_line (drop s text))) (sym e) (subst (EachIsNear marks here.start) (sym all) n.walked)

pub near_done : (text left starts : List ℕ) (marks : List Mark) (here : Mark) → first_line left ≡ [] → Near text left starts marks here → All (λ s. EachIsNear marks s (first_line (drop s text))) starts
near_done text left starts marks here none n = All-weaker (λ s. (s ≡ here.start) ⊎ EachIsNear marks s (first_line (drop s text))) _ (line_done text left starts marks here none n) starts n.done

-- behind its end the next line begins
pub near_later : (text left more starts new : List ℕ) (marks : List Mark) (here next : Mark) (start : ℕ) → first_line left ≡ [] → new ≡ starts ++ start ∷ [] → IsLineBegin start next → more ≡ drop start text → Near text left starts marks here → Near text more new marks next
near_later text left more starts new marks here next start none pushed h is n =
    let done : All (λ s. EachIsNear marks s (first_line (drop s text))) starts = near_done text left starts marks here none n in
    near_begin text more new marks next start h is (All-same (λ s. (s ≡ start) ⊎ EachIsNear marks s (first_line (drop s text))) new _ pushed
    (All-push (λ s. (s ≡ start) ⊎ EachIsNear marks s (first_line (drop s text))) starts start (All-weaker (λ s. EachIsNear marks s (first_line (drop s text))) (λ s. (s ≡ start) ⊎ EachIsNear marks s (first_line (drop s text))) (λ s all. inr all) starts done) (inl refl)))

-- a mark where a stretch ended
stretch_past : (marks new : List Mark) (here next : Mark) (c : ℕ) → IsPast c here next → new ≡ with_mark here next marks → InStretch marks here → InStretch new next
stretch_past marks new here next c p e s = by_test (nat_lt (here.utf8 / 256) (next.utf8 / 256)) refl e where
  by_test : (b : Bool) → nat_lt (here.utf8 / 256) (next.utf8 / 256) ≡ b → new ≡ cond b (marks ++ next ∷ []) marks → InStretch new next
  by_test true t e = record {
    mark = next;
    known = inr (subst (λ (marks : List Mark). Contains marks next) (sym e) (Contains-push marks next));
    line = refl;
    before = omega arith;
    same = refl;
  }
  by_test false t e =
      let few : next.utf8 / 256 ≤ here.utf8 / 256 = grind (arith, nat_tests) in
      subst (λ (marks : List Mark). InStretch marks next) (sym e) (record {
        mark = s.mark;
        known = subst (λ start. IsLineBegin start s.mark ⊎ Contains marks s.mark) (sym p.line) s.known;
        line = s.line ∙ sym p.line;
        before = omega (arith, s.before, p.units Utf8);
        same = omega (arith, s.same, few, p.units Utf8);
      })

-- one character on
pub near_past : (text left more starts : List ℕ) (marks new : List Mark) (here next : Mark) (c : ℕ) → first_line left ≡ c ∷ first_line more → IsPast c here next → new ≡ with_mark here next marks → Near text left starts marks here → Near text more starts new next
near_past text left more starts marks new here next c line p e n =
    let stretch : InStretch new next = stretch_past marks new here next c p e n.stretch in
    let bytes : next.utf8 ≡ byte_count (n.front ++ c ∷ []) = omega (arith, p.units Utf8, n.bytes, sum_by_push len_utf8 n.front c) in
    let kept : (start bytes : ℕ) → IsNear marks start bytes → IsNear new start bytes = λ start bytes near. near_kept marks new next start bytes (with_mark_cases here next marks new e) near in
    record {
      front = n.front ++ c ∷ [];
      whole = ap (λ s. first_line (drop s text)) p.line ∙ n.whole ∙ ap (λ xs. n.front ++ xs) line ∙ sym (append_assoc n.front (c ∷ []) (first_line more));
      bytes = bytes;
      stretch = stretch;
      walked = λ i le. elim (cases_eq i (length (n.front ++ c ∷ []))) [
        | inl last ↦ near_from new next _ stretch (bytes ∙ ap byte_count (sym (take_all i (n.front ++ c ∷ []) (omega (arith, last)))))
        | inr other ↦
            let within : i ≤ length n.front = omega (arith, le, other, length-append n.front (c ∷ [])) in
            subst (λ start. IsNear new start (byte_count (take i (n.front ++ c ∷ [])))) (sym p.line)
            (subst (λ (xs : List ℕ). IsNear new here.start (byte_count xs)) (sym (take-append-le i n.front (c ∷ []) within)) (kept here.start (byte_count (take i n.front)) (n.walked i within)))
      ];
      done = All-weaker (λ s. (s ≡ here.start) ⊎ EachIsNear marks s (first_line (drop s text))) _ (λ s at. at_line s kept at) starts n.done;
    } where
      at_line : (s : ℕ) → ((start bytes : ℕ) → IsNear marks start bytes → IsNear new start bytes) → (s ≡ here.start) ⊎ EachIsNear marks s (first_line (drop s text)) → (s ≡ next.start) ⊎ EachIsNear new s (first_line (drop s text))
      at_line s kept (inl at) = inl (at ∙ sym p.line)
      at_line s kept (inr all) = inr (λ i le. kept s _ (all i le))

-- a carriage return that a line feed follows belongs to no line
pub near_return : (text left more starts : List ℕ) (marks : List Mark) (here : Mark) → first_line left ≡ first_line more → Near text left starts marks here → Near text more starts marks here
near_return text left more starts marks here line n = record {
  front = n.front;
  whole = n.whole ∙ ap (λ xs. n.front ++ xs) line;
  bytes = n.bytes;
  stretch = n.stretch;
  walked = n.walked;
  done = n.done;
}
