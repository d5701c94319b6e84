-- The Errors of units in reach, unit by unit.
use Rattle.std.proofs.Common.{◌≡◌, ◌⊎◌, inl, inr, ℕ, zero, suc, ◌+◌, ◌==◌, ◌<◌, List, [], ◌∷◌, ◌++◌, map, filter, length, take, drop, Bool, true, false, Option, Some, None, Result, Ok, Err, cond, slice_get, get_or, refl, sym, ap, ◌∙◌, subst, arith}
use Rattle.std.specs.List.{flat_map}
use Rattle.std.proofs.lemmas.Grind.{flat_map-append}
use Rattle.std.proofs.lemmas.List.{drop_more, take_more, take-append-drop}
use Rattle.std.proofs.lemmas.List.Concat.{flat_map-cons}
use Rattle.std.proofs.lemmas.Bool.Decides.{nat_tests}
use Rattle.ls_base.specs.declared.encoding.Encoding.{Encoding}
use Rattle.scheme_model.specs.Diagnostics.{Bytes, Diagnostic, Span}
use Rattle.scheme_model.specs.IncludedUnits.{Placed}
use Rattle.scheme_model.specs.Program.{Program, UnitResult, result_at}
use Rattle.scheme_model.specs.Requirements.{LibraryName}
use Rattle.syntax_tree.specs.declared.trees.Work.{Work}
use Rattle.core_tree.specs.Units.{UnitsStand}
use Rattle.core_tree.specs.declared.units.Unit.{Unit as CodeUnit}
use Rattle.document_store.specs.Texts.{Document}
use Rattle.read_documents.specs.Findings as findings
use Rattle.read_documents.specs.Places.{spans_of}
use Rattle.read_documents.specs.Readings.{Read, program_in}
use Rattle.read_documents.specs.UnitFindings.{first_error_at}
use Rattle.read_documents.specs.declared.places.PlacedError.{PlacedError}
use Rattle.program_answers.specs.Placed.{IsErrorAt}
use Rattle.program_answers.specs.ToldAnswers.{place_told}
use Rattle.rename_conditions.specs.Opened.{Opened, spans_read}
use Rattle.rename_conditions.specs.Renames as model
use Rattle.rename_conditions.specs.Renames.{unless, first_of, broken}
use Rattle.rename_planner.specs.Planning.{ComesTo, Holds, errors_in}
use Rattle.rename_answers.specs.ReadDocuments.{read_as}
use Rattle.rename_answers.specs.RenameOutcomes.{IsFaultOf}
use Rattle.rename_answers.specs.declared.faults.RenameFault.TheVariants as faults
use Rattle.rename_answers.proofs.PlaceLaws.{place_is}
use Rattle.rename_answers.proofs.SpansRead.{spans_as}

-- ---- results by their numbers

same_test : (a b : ℕ) → a ≡ b → (a == b) ≡ true
same_test a b h = grind (arith, nat_tests)

not_test : (a b : ℕ) → (a ≡ b → ⊥) → (a == b) ≡ false
not_test a b h = grind (arith, nat_tests)

nothing : (i : ℕ) → None ≡ slice_get {X = UnitResult} [] i
nothing zero = refl
nothing (suc i) = refl

module _ (work : Work) (text : LibraryName → List ℕ) (uris : List (List ℕ)) (all : List Placed) (p : Program) where
  by_number : (k i : ℕ) (cs : List CodeUnit) (us : List UnitResult) → UnitsStand work text uris all p k cs us → result_at us (k + i) ≡ slice_get us i
  by_number k i [] [] h = nothing i
  by_number k i [] (r ∷ us) h = absurd h
  by_number k i (c ∷ cs) [] h = absurd h
  by_number k zero (c ∷ cs) (r ∷ us) h =
      let e : r.unit.number ≡ k + 0 = let n = h.0.number in omega (arith, n) in ap (λ (b : Bool). cond b (Some r) (result_at us (k + 0))) (same_test r.unit.number (k + 0) e)
  by_number k (suc i) (c ∷ cs) (r ∷ us) h =
      let apart : r.unit.number ≡ k + suc i → ⊥ = λ e. let n = h.0.number in absurd (omega (arith, n, e)) in
      let one : k + suc i ≡ suc k + i = omega arith in
      ap (λ (b : Bool). cond b (Some r) (result_at us (k + suc i))) (not_test r.unit.number (k + suc i) apart) ∙ (ap (result_at us) one ∙ by_number (suc k) i cs us h.1)

  pub at_number : (i : ℕ) (cs : List CodeUnit) (us : List UnitResult) → UnitsStand work text uris all p 0 cs us → result_at us i ≡ slice_get us i
  at_number i cs us h = let e : i ≡ 0 + i = omega arith in ap (result_at us) e ∙ by_number 0 i cs us h

-- ---- one unit

abbrev errors_at : List (List Span) → Program → ℕ → List Diagnostic
errors_at spans p n = model.errors_of spans p (result_at p.units n)

told_first : (rs : List Read) (p : Program) (o : Option UnitResult) → first_error_at rs p o ≡ findings.first_of (model.errors_of (spans_of rs) p o)
told_first rs p None = refl
told_first rs p (Some r) = refl

-- what the code tells of a unit is the first of its Errors
told_of : (ds : List (List ℕ × Document)) (rs : List Read) (n : ℕ) → result_at (program_in rs).units n ≡ slice_get (program_in rs).units n →
    first_error_at rs (program_in rs) (slice_get (program_in rs).units n) ≡ findings.first_of (errors_at (spans_read (read_as ds rs)) (program_in rs) n)
told_of ds rs n at =
    told_first rs (program_in rs) (slice_get (program_in rs).units n)
    ∙ (λ j. findings.first_of (model.errors_of (sym (spans_as rs) j) (program_in rs) (sym at j)))

none_of : (e : Encoding) (ds : List (List ℕ × Document)) (xs : List Diagnostic) → IsErrorAt e ds (findings.first_of xs) None → xs ≡ []
none_of e ds [] h = refl
none_of e ds (x ∷ xs) h = absurd h

pub no_errors : (e : Encoding) (ds : List (List ℕ × Document)) (rs : List Read) (n : ℕ) → result_at (program_in rs).units n ≡ slice_get (program_in rs).units n →
    IsErrorAt e ds (first_error_at rs (program_in rs) (slice_get (program_in rs).units n)) None → errors_at (spans_read (read_as ds rs)) (program_in rs) n ≡ []
no_errors e ds rs n at h =
    none_of e ds (errors_at (spans_read (read_as ds rs)) (program_in rs) n) (subst (λ o. IsErrorAt e ds o None) (told_of ds rs n at) h)

refuses_by : (e : Encoding) (ds : List (List ℕ × Document)) (xs rest : List Diagnostic) (p : PlacedError) → IsErrorAt e ds (findings.first_of xs) (Some p) →
    ComesTo {B = Unit {0}} e ds Holds (unless (first_of (xs ++ rest)) broken) (Err (faults.BrokenUnit p.place p.code))
refuses_by e ds [] rest p h = absurd h
refuses_by e ds (x ∷ xs) rest p h =
    let b : Bytes = record { document = x.document; span = record { start = x.start; end = x.end } } in
    (b, (λ j. model.BrokenUnit b (sym h.1 j)), place_is e ds b p.place h.0)

pub refuses : (e : Encoding) (ds : List (List ℕ × Document)) (rs : List Read) (n : ℕ) (rest : List Diagnostic) (p : PlacedError) → result_at (program_in rs).units n ≡ slice_get (program_in rs).units n →
    IsErrorAt e ds (first_error_at rs (program_in rs) (slice_get (program_in rs).units n)) (Some p) →
    ComesTo {B = Unit {0}} e ds Holds (unless (first_of (errors_at (spans_read (read_as ds rs)) (program_in rs) n ++ rest)) broken) (Err (faults.BrokenUnit p.place p.code))
refuses e ds rs n rest p at h =
    refuses_by e ds (errors_at (spans_read (read_as ds rs)) (program_in rs) n) rest p (subst (λ o. IsErrorAt e ds o (Some p)) (told_of ds rs n at) h)

-- ---- units one by one

module _ (w : Opened) where
  abbrev own : ℕ → List Diagnostic
  own n = errors_at (spans_read w) w.program n

  pub none_more : (units : List ℕ) (i u : ℕ) → i < length units → u ≡ get_or units i u → errors_in w (take i units) ≡ [] → own u ≡ [] → errors_in w (take (i + 1) units) ≡ []
  none_more units i u lt is none here =
      ap (flat_map own) (take_more units i u lt ∙ ap (λ n. take i units ++ n ∷ []) (sym is)) ∙ flat_map-append own (take i units) (u ∷ [])
      ∙ (λ j. none j ++ flat_map own (u ∷ [])) ∙ flat_map-cons own u [] ∙ (λ j. here j ++ [])

  pub found_first : (units : List ℕ) (i u : ℕ) → i < length units → u ≡ get_or units i u → errors_in w (take i units) ≡ [] → errors_in w units ≡ own u ++ errors_in w (drop (i + 1) units)
  found_first units i u lt is none =
      ap (flat_map own) (sym (take-append-drop i units)) ∙ flat_map-append own (take i units) (drop i units) ∙ (λ j. none j ++ flat_map own (drop i units))
      ∙ ap (flat_map own) (drop_more units i u lt ∙ ap (λ n. n ∷ drop (i + 1) units) (sym is)) ∙ flat_map-cons own u (drop (i + 1) units)

pub any_default : (xs : List ℕ) (i a b : ℕ) → i < length xs → get_or xs i a ≡ get_or xs i b
any_default [] i a b lt = absurd (omega (arith, lt))
any_default (x ∷ xs) zero a b lt = refl
any_default (x ∷ xs) (suc i) a b lt = any_default xs i a b (omega (arith, lt))
