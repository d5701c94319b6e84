-- The macro uses that are counted while units are expanded in their turns are those of the program (R7RS 4.3, 5.6).
use Rattle.std.proofs.Common.{◌≡◌, ℕ, zero, suc, ◌+◌, List, [], ◌∷◌, ◌++◌, length, drop, slice_get, Option, Some, refl, sym, ap, ◌∙◌, arith}
use Rattle.std.specs.List.{fold}
use Rattle.std.proofs.lemmas.List.Sums.{fold_push}
use Rattle.scheme_model.specs.Requirements.{Known}
use Rattle.scheme_model.specs.IncludedUnits.{Placed}
use Rattle.scheme_model.specs.Program.{Prepared, prepare, WholeFault, TooMany, fault_before, is_ready, first_ready}
use Rattle.scheme_model.specs.ScopedProgram.{ScopedProgress, scoped_worked, scoped_work, scoped_before}
use Rattle.macro_uses.specs.ScopedUses.{scoped_uses_by_fault, scoped_worked_uses, scoped_work_uses}
use Rattle.document_units.specs.Turned.{turns, scoped_by_number, scoped_at}
use Rattle.program_expansion.specs.UsesInTurn.{counted_worked, counted_by_number, uses_at}
use Rattle.program_expansion.proofs.TurnWork.{IsWork}
use Rattle.program_expansion.proofs.TurnedLaws.{scoped_numbers, in_all, left_broken}

module _ (all : List Placed) (known : Known) where
  abbrev ps : List Prepared
  ps = prepare all 0 all

  -- ---- the work, and what it counts

  -- one unit after another
  abbrev counted_work : ℕ → ScopedProgress × ℕ → ScopedProgress × ℕ
  counted_work zero c = c
  counted_work (suc n) c = counted_work n (counted_worked all known (first_ready (is_ready all ps c.0.results) ps) c)

  work_counted : (n : ℕ) (g : ScopedProgress) (m : ℕ) → counted_work n (g, m) ≡ (scoped_work all ps known n g, m + scoped_work_uses all ps known n g)
  work_counted zero g m = λ j. (g, none_more m j)
    where
      none_more : (m : ℕ) → m ≡ m + 0
      none_more m = omega arith
  work_counted (suc n) g m =
      let o = first_ready (is_ready all ps g.results) ps in
      let now = scoped_worked_uses all ps known o g in
      let more = scoped_work_uses all ps known n (scoped_worked all ps known o g) in
      let e = together m now more in
      work_counted n (scoped_worked all ps known o g) (m + now) ∙ λ j. (scoped_work all ps known n (scoped_worked all ps known o g), e j)
    where
      together : (a b c : ℕ) → a + b + c ≡ a + (b + c)
      together a b c = omega arith

  is_counted : IsWork all (λ (c : ScopedProgress × ℕ). c.0.results) (counted_worked all known) counted_work
  is_counted = record {
    nothing = λ c. refl;
    next = λ n c. refl;
    none = λ c. let e = none_more c.1 in λ j. (c.0, e j);
    more = λ p c. scoped_numbers all known p (fault_before all ps p) c.0;
  }
    where
      none_more : (m : ℕ) → m + 0 ≡ m
      none_more m = omega arith

  -- ---- the units behind

  -- those that are too many begin no macro use
  behind : (qs : List Prepared) (c : ScopedProgress × ℕ) → ((n : ℕ) (p : Prepared) → slice_get qs n ≡ Some p → fault_before all ps p ≡ Some TooMany) →
      (fold (λ (s : ScopedProgress × ℕ) (p : Prepared). counted_worked all known (Some p) s) c qs).1 ≡ c.1
  behind [] c broken = refl
  behind (p ∷ qs) c broken =
      behind qs (counted_worked all known (Some p) c) (λ n q at. broken (suc n) q at)
      ∙ ap (λ (f : Option WholeFault). c.1 + scoped_uses_by_fault all known p f c.0) (broken 0 p refl) ∙ none_more c.1
    where
      none_more : (m : ℕ) → m + 0 ≡ m
      none_more m = omega arith

  -- ---- in turns

  pub uses_by_turns : scoped_work_uses all ps known (length ps) scoped_before ≡ uses_at all known (turns all)
  uses_by_turns =
      sym (none_before (scoped_work_uses all ps known (length ps) scoped_before))
      ∙ sym (ap (λ (c : ScopedProgress × ℕ). c.1) (work_counted (length ps) scoped_before 0))
      ∙ (ap (λ (c : ScopedProgress × ℕ). c.1) (in_all all (λ (c : ScopedProgress × ℕ). c.0.results) (counted_worked all known) counted_work is_counted (scoped_before, 0) refl)
      ∙ behind (drop 128 ps) (fold (counted_by_number all known) (scoped_before, 0) (turns all)) (left_broken all))
    where
      none_before : (n : ℕ) → 0 + n ≡ n
      none_before n = omega arith

  progress_so : (x : List ℕ) (c : ScopedProgress × ℕ) → (fold (counted_by_number all known) c x).0 ≡ fold (scoped_by_number all known) c.0 x
  progress_so [] c = refl
  progress_so (n ∷ x) c = progress_so x (counted_by_number all known c n)

  -- one unit more
  pub uses_push : (x : List ℕ) (n : ℕ) → uses_at all known (x ++ n ∷ []) ≡ uses_at all known x + scoped_worked_uses all ps known (slice_get ps n) (scoped_at all known x)
  uses_push x n =
      ap (λ (c : ScopedProgress × ℕ). c.1) (fold_push (counted_by_number all known) (scoped_before, 0) x n)
      ∙ ap (λ (g : ScopedProgress). uses_at all known x + scoped_worked_uses all ps known (slice_get ps n) g) (progress_so x (scoped_before, 0))
