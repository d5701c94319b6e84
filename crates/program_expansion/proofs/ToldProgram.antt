-- The units of the whole program, by what came of them, what is found in them and what breaks them.
use Rattle.std.proofs.Common.{◌≡◌, ℕ, ◌⊎◌, inl, inr, ◌<◌, ◌≤◌, nat_le, List, [], ◌∷◌, Bool, true, cond, length, slice_get, Option, Some, None, refl, sym, ap, ◌∙◌, subst, arith}
use Rattle.std.specs.Option.{option_map}
use Rattle.std.proofs.lemmas.Bool.{cases_lt}
use Rattle.std.proofs.lemmas.Bool.Decides.{nat_tests}
use Rattle.std.proofs.lemmas.Option.{same_Some, slice_get_within}
use Rattle.scheme_model.specs.Order.{is_some}
use Rattle.scheme_model.specs.Requirements.{Known}
use Rattle.scheme_model.specs.Substitution.{Table}
use Rattle.scheme_model.specs.IncludedUnits.{Placed}
use Rattle.scheme_model.specs.Program.{prepared, prepare, WholeFault, TooMany, UnitResult, Program, result_at, broken_result, fault_before}
use Rattle.scheme_model.specs.ScopedProgram.{ScopedProgress, scoped_program_with}
use Rattle.std.specs.Prelude.{◌==◌}
use Rattle.syntax_tree.specs.declared.trees.Work.{Work}
use Rattle.core_tree.specs.Units.{defined_by}
use Rattle.unit_imports.specs.declared.expanded.Expanded.{Expanded}
use Rattle.read_documents.specs.declared.heads.Head.{Head}
use Rattle.read_documents.specs.Broken.{told}
use Rattle.program_expansion.specs.UnitResults.{HaveCome, HeadsBy, IsCome, fault_by, so_far}
use Rattle.read_documents.specs.Places.{AreHeads}
use Rattle.read_documents.specs.Readings.{Read}
use Rattle.document_units.specs.Turned.{turns, scoped_at}
use Rattle.unit_results.specs.UnitsFound.{AreResultsOf, AreTold, HaveFound, IsTold}
use Rattle.read_documents.specs.UnitFindings.{IsFoundOf}
use Rattle.unit_results.proofs.ReadingLaws.{get}
use Rattle.program_expansion.proofs.ProgramOf.{comes_last, low, program_at, table_is, unit_prepared}
use Rattle.document_units.proofs.TurnGraph.{as_many}
use Rattle.program_expansion.proofs.TurnResults.{scoped_left, scoped_result, scoped_units}
use Rattle.program_expansion.proofs.UnitsFoundLaws.{found_stays}

module _ (us : List Placed) (known : Known) where
  abbrev whole : Program
  whole = scoped_program_with us (prepare us 0 us) known

  abbrev turned : ScopedProgress
  turned = scoped_at us known (turns us)

  below : (n : ℕ) (r : UnitResult) → slice_get whole.units n ≡ Some r → n < length (prepare us 0 us)
  below n r at = let within = slice_get_within whole.units n r at in let e = (scoped_units us known).0 in omega arith

  -- a unit that isn't too many has its result once its turn came, and one that is has none
  few_came : (n : ℕ) (r : UnitResult) → slice_get whole.units n ≡ Some r → n < 128 → result_at turned.results n ≡ Some r
  few_came n r at few = sym (scoped_result us known n few) ∙ (sym ((scoped_units us known).1 n (below n r at)) ∙ at)

  many_left : (n : ℕ) → 128 ≤ n → (o : Option UnitResult) → result_at turned.results n ≡ o → o ≡ None
  many_left n many None e = refl
  many_left n many (Some r) e = let l = (low us known n (ap (λ (q : Option UnitResult). is_some q) e)).0 in absurd (omega arith)

  many_broken : (n : ℕ) (r : UnitResult) → slice_get whole.units n ≡ Some r → 128 ≤ n → r.fault ≡ Some TooMany
  many_broken n r at many =
      let p = get (prepare us 0 us) n (below n r at) in
      let is : r ≡ broken_result p.0 TooMany = same_Some r (broken_result p.0 TooMany) (sym at ∙ ((scoped_units us known).1 n (below n r at) ∙ scoped_left us known n p.0 many p.1)) in
      ap (λ (q : UnitResult). q.fault) is

  too_many : (n : ℕ) (u : Placed) → 128 ≤ n → fault_before us (prepare us 0 us) (prepared us n u) ≡ Some TooMany
  too_many n u many = go (nat_le 128 n) (at_least n many)
    where
      at_least : (n : ℕ) → 128 ≤ n → nat_le 128 n ≡ true
      at_least n h = grind (arith, nat_tests)

      go : (b : Bool) → nat_le 128 n ≡ true → fault_before us (prepare us 0 us) (prepared us n u) ≡ Some TooMany
      go b e = rw e refl

  -- the program's units are those, by their numbers
  pub results_are : AreResultsOf us whole.units
  results_are n u at =
      let within = slice_get_within us n u at in
      let many = as_many us us 0 in
      let units = (scoped_units us known).0 in
      let r = get whole.units n (omega arith) in
      let p = unit_prepared us known n r.0 r.1 in
      let same : p.0 ≡ u = same_Some p.0 u (sym p.1.0 ∙ at) in
      (r.0, same_at whole.units n ∙ (program_at us known n ∙ r.1), p.1.1 ∙ ap (prepared us n) same)
    where
      same_at : (rs : List UnitResult) (n : ℕ) → result_at rs n ≡ result_at rs n
      same_at [] n = refl
      same_at (r ∷ rs) n = ap (λ (o : Option UnitResult). cond (r.unit.number == n) (Some r) o) (same_at rs n)

  module _ (rs : List Read) (work : Work) (hs : List Head) (es : List (Option Expanded)) (come : HaveCome us turned work es) (by : HeadsBy us turned hs) (found : HaveFound rs whole.units turned es) where
    some_told : (n : ℕ) (x : Expanded) (r : UnitResult) → slice_get es n ≡ Some (Some x) → slice_get whole.units n ≡ Some r → IsFoundOf rs whole r x.findings.items
    some_told n x r at there = go (cases_lt n 128)
      where
        go : (n < 128) ⊎ (128 ≤ n) → IsFoundOf rs whole r x.findings.items
        go (inl few) = found_stays rs whole.units (so_far turned) whole r (ap (λ (t : Table). defined_by r.unit.number t) (table_is us known)) x.findings.items (found n x r at (few_came n r there few))
        go (inr many) =
            let none : Some x ≡ None = subst (λ (o : Option UnitResult). IsCome us (so_far turned) work (Some x) o) (many_left n many (result_at turned.results n) refl) (come n (Some x) at) in
            absurd cc

    none_told : (n : ℕ) (h : Head) (r : UnitResult) → slice_get hs n ≡ Some h → slice_get es n ≡ Some None → slice_get whole.units n ≡ Some r → IsTold rs whole h None r
    none_told n h r head at there = go (cases_lt n 128)
      where
        u : (v : Placed) × ((slice_get us n ≡ Some v) × (r.unit ≡ prepared us n v))
        u = unit_prepared us known n r there

        broken : (f : WholeFault) × (r ≡ broken_result r.unit f)
        broken = comes_last us known work es come n None r at there

        go : (n < 128) ⊎ (128 ≤ n) → IsTold rs whole h None r
        go (inl few) =
            let fault : r.fault ≡ Some broken.0 = ap (λ (q : UnitResult). q.fault) broken.1 in
            (broken.0, by n u.0 h u.1.0 head ∙ (ap (λ (o : Option UnitResult). option_map told (fault_by us o (prepared us n u.0))) (few_came n r there few) ∙ ap (option_map told) fault), fault)
        go (inr many) = (
          TooMany,
          by n u.0 h u.1.0 head ∙ (ap (λ (o : Option UnitResult). option_map told (fault_by us o (prepared us n u.0))) (many_left n many (result_at turned.results n) refl) ∙ ap (option_map told) (too_many n u.0 many)),
          many_broken n r there many,
        )

    pub told_program : AreHeads rs 0 hs whole.units → length es ≡ length us → AreTold rs whole hs es
    told_program heads many = record {
      count = many ∙ sym ((scoped_units us known).0 ∙ as_many us us 0);
      heads = heads;
      each = λ n h e r head at there. each n h e r head at there;
    }
      where
        each : (n : ℕ) (h : Head) (e : Option Expanded) (r : UnitResult) → slice_get hs n ≡ Some h → slice_get es n ≡ Some e → slice_get whole.units n ≡ Some r → IsTold rs whole h e r
        each n h None r head at there = none_told n h r head at there
        each n h (Some x) r head at there = some_told n x r at there
