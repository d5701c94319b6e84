-- The turns of units where some are broken are the order in which the definition of a program works on them, and those that are too
-- many come last and change nothing.
use Rattle.std.proofs.Common.{◌≡◌, ℕ, zero, suc, ◌+◌, ◌<◌, ◌≤◌, Bool, true, false, cond, List, [], ◌∷◌, ◌++◌, append-nil, append_assoc, length, map, take, drop, slice_get, Option, Some, None, refl, sym, ap, ◌∙◌, arith}
use Rattle.std.specs.Prelude.{◌-◌, nat_le, reverse}
use Rattle.std.specs.List.{fold}
use Rattle.std.proofs.lemmas.Bool.Decides.{nat_tests}
use Rattle.std.proofs.lemmas.List.{reverse-append}
use Rattle.std.proofs.lemmas.Option.{slice_get_within}
use Rattle.scheme_model.specs.Order.{is_some}
use Rattle.scheme_model.specs.Requirements.{Known}
use Rattle.scheme_model.specs.Substitution.{Table}
use Rattle.scheme_model.specs.UnitExpansion.{Formed}
use Rattle.scheme_model.specs.Entries.{Entry}
use Rattle.scheme_model.specs.IncludedUnits.{Placed}
use Rattle.scheme_model.specs.Program.{Prepared, prepare, UnitResult, SetResult, Progress, WholeFault, TooMany, broken_result, is_in, fault_before, unit_entries, with_entries, form_trees, forms_at_work, start_of, unit_over, unit_result, by_fault, worked, work, progress_before}
use Rattle.scheme_model.specs.ScopedProgram.{ScopedProgress, scoped_start_of, scoped_unit_over, scoped_by_fault, scoped_worked, scoped_work, scoped_before}
use Rattle.import_sets.specs.InTurn.{in_turn}
use Rattle.document_units.specs.Turned.{waiting, turns, expanded_at, scoped_at, left_out}
use Rattle.program_expansion.proofs.TurnSteps.{numbers, IsTurn}
use Rattle.program_expansion.proofs.TurnWork.{IsWork, AfterTurns, by_turns, turn_there, works_on, rest_last}
use Rattle.document_units.proofs.TurnGraph.{at_numbers, waiting_length, each_turn, turn_below, few_turns}

pub one_before : (r : UnitResult) (xs rs : List UnitResult) → reverse xs ++ r ∷ rs ≡ reverse (r ∷ xs) ++ rs
one_before r xs rs = sym (append_assoc (reverse xs) (r ∷ []) rs) ∙ ap (λ (l : List UnitResult). l ++ rs) (sym (reverse-append (r ∷ []) xs))

-- ---- the two definitions

unit_of_result : (p : Prepared) (imports : List Entry × List SetResult) (table : Table) (forms : Option (List Formed)) → (unit_result p imports table forms).unit ≡ p
unit_of_result p imports table None = refl
unit_of_result p imports table (Some fs) = refl

fault_numbers : (all : List Placed) (ps : List Prepared) (known : Known) (p : Prepared) (f : Option WholeFault) (g : Progress) → numbers (by_fault all ps known p f g).results ≡ p.number ∷ numbers g.results
fault_numbers all ps known p (Some fault) g = refl
fault_numbers all ps known p None g =
    let imports = unit_entries all g.results p in
    let q = unit_over known (form_trees p.number 0 (forms_at_work p)) (start_of p g.table g.macros (with_entries p.number imports.0 g.entry)) in
    ap (λ (u : Prepared). u.number ∷ numbers g.results) (unit_of_result p imports q.1.table q.0)

pub scoped_numbers : (all : List Placed) (known : Known) (p : Prepared) (f : Option WholeFault) (g : ScopedProgress) → numbers (scoped_by_fault all known p f g).results ≡ p.number ∷ numbers g.results
scoped_numbers all known p (Some fault) g = refl
scoped_numbers all known p None g =
    let imports = unit_entries all g.results p in
    let q = scoped_unit_over known p (scoped_start_of p g (with_entries p.number imports.0 g.entry)) in
    ap (λ (u : Prepared). u.number ∷ numbers g.results) (unit_of_result p imports q.1.table q.0)

is_work : (all : List Placed) (known : Known) → IsWork all (λ (g : Progress). g.results) (worked all (prepare all 0 all) known) (work all (prepare all 0 all) known)
is_work all known = record {
  nothing = λ s. refl;
  next = λ n s. refl;
  none = λ s. refl;
  more = λ p s. fault_numbers all (prepare all 0 all) known p (fault_before all (prepare all 0 all) p) s;
}

is_scoped : (all : List Placed) (known : Known) → IsWork all (λ (g : ScopedProgress). g.results) (scoped_worked all (prepare all 0 all) known) (scoped_work all (prepare all 0 all) known)
is_scoped all known = record {
  nothing = λ s. refl;
  next = λ n s. refl;
  none = λ s. refl;
  more = λ p s. scoped_numbers all known p (fault_before all (prepare all 0 all) p) s;
}

-- ---- the units behind

pub stands : (m : ℕ) (ps : List Prepared) (i : ℕ) → slice_get ps (length (take m ps) + i) ≡ slice_get (drop m ps) i
stands zero ps i = ap (slice_get ps) (none_more i)
  where
    none_more : (i : ℕ) → 0 + i ≡ i
    none_more i = omega arith
stands (suc m) [] i = nowhere (0 + i)
  where
    nowhere : (i : ℕ) → slice_get {X = Prepared} [] i ≡ None
    nowhere zero = refl
    nowhere (suc i) = refl
stands (suc m) (p ∷ ps) i = ap (slice_get (p ∷ ps)) (one_more (length (take m ps)) i) ∙ stands m ps i
  where
    one_more : (k i : ℕ) → suc k + i ≡ suc (k + i)
    one_more k i = omega arith

pub many : (m : ℕ) (ps : List Prepared) (n : ℕ) → length (take m ps) ≤ n → n < length ps → m ≤ n
many zero ps n le lt = omega arith
many (suc m) [] n le lt = absurd (omega arith)
many (suc m) (p ∷ ps) zero le lt = absurd (omega arith)
many (suc m) (p ∷ ps) (suc n) le lt = let r = many m ps n (omega arith) (omega arith) in omega arith

too_many : (all : List Placed) (ps : List Prepared) (p : Prepared) → 128 ≤ p.number → fault_before all ps p ≡ Some TooMany
too_many all ps p le = go _
  where
    over : nat_le 128 p.number ≡ true
    over = grind (arith, nat_tests)

    go : (o : Option WholeFault) → cond (nat_le 128 p.number) (Some TooMany) o ≡ Some TooMany
    go o = ap (λ (b : Bool). cond b (Some TooMany) o) over

rest_count : (m : ℕ) (ps : List Prepared) (t : ℕ) → t ≤ length (take m ps) → (more : ℕ) × ((t + more ≡ length ps) × (length (drop m ps) ≤ more))
rest_count m ps t le = (length ps - t, (let r = all_there m ps in omega arith, let r = all_there m ps in omega arith))
  where
    all_there : (m : ℕ) (ps : List Prepared) → length (take m ps) + length (drop m ps) ≡ length ps
    all_there zero ps = omega arith
    all_there (suc m) [] = omega arith
    all_there (suc m) (p ∷ ps) = let r = all_there m ps in omega arith

-- ---- in turns

module _ {S : Type 0} (all : List Placed) (results : S → List UnitResult) (step : Option Prepared → S → S) (work : ℕ → S → S) (is : IsWork all results step work) (start : S) (none : results start ≡ []) where
  abbrev ps : List Prepared
  ps = prepare all 0 all

  abbrev by : S → ℕ → S
  by s n = step (slice_get ps n) s

  begins : (x : List ℕ) → turns all ≡ x → in_turn (waiting all) (length (waiting all)) (reverse (numbers (results start))) ≡ x
  begins x h = ap (λ (rs : List UnitResult). in_turn (waiting all) (length (waiting all)) (reverse (numbers rs))) none ∙ h

  after : (x y : List ℕ) → turns all ≡ x ++ y → AfterTurns results by work start x
  after x y h = by_turns all (at_numbers all) results step work is x y (length (waiting all)) start (begins (x ++ y) h)

  there : (x y : List ℕ) (n : ℕ) → turns all ≡ x ++ n ∷ y → (p : Prepared) × IsTurn all (results (fold by start x)) n p
  there x y n h = turn_there all (at_numbers all) results step work is x y n (length (waiting all)) start (begins (x ++ n ∷ y) h)

  -- after all turns just their units are done
  all_done : reverse (numbers (results (fold by start (turns all)))) ≡ turns all
  all_done = (after (turns all) [] (sym (append-nil (turns all)))).done ∙ ap (λ (rs : List UnitResult). reverse (numbers rs) ++ turns all) none

  pub in_all : work (length ps) start ≡ fold (λ s p. step (Some p) s) (fold by start (turns all)) (drop 128 ps)
  in_all =
      ap (λ n. work n start) (sym count.1.0) ∙ works_on all (at_numbers all) results step work is (length (turns all)) count.0 start
      ∙ ap (work count.0) (after (turns all) [] (sym (append-nil (turns all)))).same
      ∙ rest_last all (at_numbers all) results step work is (drop 128 ps) (length (take 128 ps)) count.0 (fold by start (turns all)) (stands 128 ps)
      (λ n lt. ap (is_in n) all_done ∙ each_turn all n (let e = waiting_length all in omega arith))
      (λ n le. ap (is_in n) all_done ∙ outside n le (is_in n (turns all)) refl)
      (λ n p le at. ap (λ (o : Option WholeFault). is_some o) (too_many all ps p (let e = at_numbers all n p at in let lt = slice_get_within ps n p at in let m = many 128 ps n le lt in omega arith)))
      count.1.1
    where
      count : (more : ℕ) × ((length (turns all) + more ≡ length ps) × (length (drop 128 ps) ≤ more))
      count = rest_count 128 ps (length (turns all)) (let e = waiting_length all in let le = few_turns all in omega arith)

      outside : (n : ℕ) → length (take 128 ps) ≤ n → (b : Bool) → is_in n (turns all) ≡ b → is_in n (turns all) ≡ false
      outside n le true h = let e = waiting_length all in let lt = turn_below all n h in absurd (omega arith)
      outside n le false h = h

-- ---- what the definitions have

-- after units in their turns it is expanded what the definition has after as many
pub work_after : (all : List Placed) (known : Known) (x y : List ℕ) → turns all ≡ x ++ y → work all (prepare all 0 all) known (length x) progress_before ≡ expanded_at all known x
work_after all known x y h = (after all (λ (g : Progress). g.results) (worked all (prepare all 0 all) known) (work all (prepare all 0 all) known) (is_work all known) progress_before refl x y h).same

pub scoped_after : (all : List Placed) (known : Known) (x y : List ℕ) → turns all ≡ x ++ y → scoped_work all (prepare all 0 all) known (length x) scoped_before ≡ scoped_at all known x
scoped_after all known x y h =
    (after all (λ (g : ScopedProgress). g.results) (scoped_worked all (prepare all 0 all) known) (scoped_work all (prepare all 0 all) known) (is_scoped all known) scoped_before refl x y h).same

-- the unit whose turn it is is the next one of the definition, and is ready
pub scoped_turn : (all : List Placed) (known : Known) (x y : List ℕ) (n : ℕ) → turns all ≡ x ++ n ∷ y → (p : Prepared) × IsTurn all (scoped_at all known x).results n p
scoped_turn all known x y n h =
    there all (λ (g : ScopedProgress). g.results) (scoped_worked all (prepare all 0 all) known) (scoped_work all (prepare all 0 all) known) (is_scoped all known) scoped_before refl x y n h

-- those that are too many leave all as it was, and each of them comes to nothing
behind : (all : List Placed) (known : Known) (ps : List Prepared) (g : Progress) → ((n : ℕ) (p : Prepared) → slice_get ps n ≡ Some p → fault_before all (prepare all 0 all) p ≡ Some TooMany) →
    fold (λ (s : Progress) (p : Prepared). worked all (prepare all 0 all) known (Some p) s) g ps ≡ record g { results = reverse (map (λ (p : Prepared). broken_result p TooMany) ps) ++ g.results }
behind all known [] g broken = refl
behind all known (p ∷ ps) g broken =
    ap (λ (f : Option WholeFault). fold (λ (s : Progress) (p : Prepared). worked all (prepare all 0 all) known (Some p) s) (by_fault all (prepare all 0 all) known p f g) ps) (broken 0 p refl)
    ∙ behind all known ps (record g { results = broken_result p TooMany ∷ g.results }) (λ n q at. broken (suc n) q at)
    ∙ ap (λ (rs : List UnitResult). record g { results = rs }) (one_before (broken_result p TooMany) (map (λ (p : Prepared). broken_result p TooMany) ps) g.results)

scoped_behind : (all : List Placed) (known : Known) (ps : List Prepared) (g : ScopedProgress) → ((n : ℕ) (p : Prepared) → slice_get ps n ≡ Some p → fault_before all (prepare all 0 all) p ≡ Some TooMany) →
    fold (λ (s : ScopedProgress) (p : Prepared). scoped_worked all (prepare all 0 all) known (Some p) s) g ps ≡ record g { results = reverse (map (λ (p : Prepared). broken_result p TooMany) ps) ++ g.results }
scoped_behind all known [] g broken = refl
scoped_behind all known (p ∷ ps) g broken =
    ap (λ (f : Option WholeFault). fold (λ (s : ScopedProgress) (p : Prepared). scoped_worked all (prepare all 0 all) known (Some p) s) (scoped_by_fault all known p f g) ps) (broken 0 p refl)
    ∙ scoped_behind all known ps (record g { results = broken_result p TooMany ∷ g.results }) (λ n q at. broken (suc n) q at)
    ∙ ap (λ (rs : List UnitResult). record g { results = rs }) (one_before (broken_result p TooMany) (map (λ (p : Prepared). broken_result p TooMany) ps) g.results)

pub left_broken : (all : List Placed) (n : ℕ) (p : Prepared) → slice_get (drop 128 (prepare all 0 all)) n ≡ Some p → fault_before all (prepare all 0 all) p ≡ Some TooMany
left_broken all n p at =
    let ps : List Prepared = prepare all 0 all in
    let here : slice_get ps (length (take 128 ps) + n) ≡ Some p = stands 128 ps n ∙ at in
    let lt = slice_get_within ps (length (take 128 ps) + n) p here in
    let m = many 128 ps (length (take 128 ps) + n) (omega arith) lt in
    let e = at_numbers all (length (take 128 ps) + n) p here in
    too_many all ps p (omega arith)

-- at the end all units in their turns are expanded, and those that are too many came to nothing
pub work_by_turns : (all : List Placed) (known : Known) → let g = expanded_at all known (turns all) in
    work all (prepare all 0 all) known (length (prepare all 0 all)) progress_before ≡ record g { results = reverse (left_out (prepare all 0 all)) ++ g.results }
work_by_turns all known =
    in_all all (λ (g : Progress). g.results) (worked all (prepare all 0 all) known) (work all (prepare all 0 all) known) (is_work all known) progress_before refl
    ∙ behind all known (drop 128 (prepare all 0 all)) (expanded_at all known (turns all)) (left_broken all)

pub scoped_by_turns : (all : List Placed) (known : Known) → let g = scoped_at all known (turns all) in
    scoped_work all (prepare all 0 all) known (length (prepare all 0 all)) scoped_before ≡ record g { results = reverse (left_out (prepare all 0 all)) ++ g.results }
scoped_by_turns all known =
    in_all all (λ (g : ScopedProgress). g.results) (scoped_worked all (prepare all 0 all) known) (scoped_work all (prepare all 0 all) known) (is_scoped all known) scoped_before refl
    ∙ scoped_behind all known (drop 128 (prepare all 0 all)) (scoped_at all known (turns all)) (left_broken all)

-- just the units in their turns are done then
pub scoped_done : (all : List Placed) (known : Known) → reverse (numbers (scoped_at all known (turns all)).results) ≡ turns all
scoped_done all known = all_done all (λ (g : ScopedProgress). g.results) (scoped_worked all (prepare all 0 all) known) (scoped_work all (prepare all 0 all) known) (is_scoped all known) scoped_before refl

pub scoped_done_after : (all : List Placed) (known : Known) (x y : List ℕ) → turns all ≡ x ++ y → reverse (numbers (scoped_at all known x).results) ≡ x
scoped_done_after all known x y h =
    (after all (λ (g : ScopedProgress). g.results) (scoped_worked all (prepare all 0 all) known) (scoped_work all (prepare all 0 all) known) (is_scoped all known) scoped_before refl x y h).done
