-- Units of a program one by one: what the code keeps of their findings, their Errors, and the first Error of each.
use Rattle.std.proofs.Common.{◌≡◌, ℕ, zero, suc, ◌+◌, ◌≤◌, ◌⊎◌, inl, inr, List, [], ◌∷◌, ◌++◌, append-nil, append_assoc, map, filter, take, length, slice_get, cond, Option, Some, None, BTreeMap, refl, sym, ap, ◌∙◌, subst, arith, eq-eqb, ne_eqb}
use Rattle.std.proofs.lemmas.List.{length_push}
use Rattle.std.proofs.lemmas.Option.{same_Some}
use Rattle.syntax_tree.proofs.Places.{push_cases}
use Rattle.scheme_model.specs.Program.{Program, UnitResult, result_at}
use Rattle.scheme_model.specs.Diagnostics.{Diagnostic, Span, all_diagnostics, sorted, unit_diagnostics}
use Rattle.core_tree.specs.Units.{error_as, unit_errors}
use Rattle.core_tree.specs.declared.units.Unit as code
use Rattle.read_documents.specs.declared.findings.At.{At}
use Rattle.read_documents.specs.declared.findings.Finding.{Finding}
use Rattle.read_documents.specs.declared.heads.Head.{Head}
use Rattle.read_documents.specs.Belongs.{error_in}
use Rattle.read_documents.specs.UnitFindings.{HaveErrors, AreFirstErrors, IsFoundOf, first_error_of, first_error_at}
use Rattle.read_documents.specs.Findings.{AreKept, all_told, errors_in, first_error_in, first_of, is_error}
use Rattle.read_documents.specs.Places.{AreHeads, spans_of}
use Rattle.read_documents.specs.Readings.{Read}

-- the result at a place is the one with its number
pub result_of : (rs : List Read) (k : ℕ) (hs : List Head) (us : List UnitResult) → AreHeads rs k hs us → (n m : ℕ) (r : UnitResult) → m ≡ k + n → slice_get us n ≡ Some r → result_at us m ≡ Some r
result_of rs k [] [] are n m r is at = absurd cc
result_of rs k [] (q ∷ us) are n m r is at = absurd are
result_of rs k (h ∷ hs) [] are n m r is at = absurd are
result_of rs k (h ∷ hs) (q ∷ us) are zero m r is at = ap (λ b. cond b (Some q) (result_at us m)) (eq-eqb q.unit.number m (let e = are.0.number in omega arith)) ∙ at
result_of rs k (h ∷ hs) (q ∷ us) are (suc n) m r is at =
    ap (λ b. cond b (Some q) (result_at us m)) (ne_eqb q.unit.number m (λ same. let e = are.0.number in omega arith)) ∙ result_of rs (suc k) hs us are.1 n m r (omega arith) at

-- ---- one unit more

module _ (spans : List (List Span)) (p : Program) where
  told_before : (us : List UnitResult) (n : ℕ) (r : UnitResult) → slice_get us n ≡ Some r → all_diagnostics spans p (take (suc n) us) ≡ all_diagnostics spans p (take n us) ++ unit_diagnostics spans p r r.fault
  told_before [] n r at = absurd cc
  told_before (q ∷ us) zero r at = append-nil (unit_diagnostics spans p q q.fault) ∙ ap (λ (x : UnitResult). unit_diagnostics spans p x x.fault) (same_Some q r at)
  told_before (q ∷ us) (suc n) r at =
      ap (λ ds. unit_diagnostics spans p q q.fault ++ ds) (told_before us n r at) ∙ sym (append_assoc (unit_diagnostics spans p q q.fault) (all_diagnostics spans p (take n us)) (unit_diagnostics spans p r r.fault))

all_of : {A : Type 0} (xs : List A) (n : ℕ) → length xs ≤ n → take n xs ≡ xs
all_of [] zero le = refl
all_of [] (suc n) le = refl
all_of (x ∷ xs) zero le = absurd (omega arith)
all_of (x ∷ xs) (suc n) le = ap (λ ys. x ∷ ys) (all_of xs n (omega arith))

-- the first Errors of units so far
abbrev pub FirstsSoFar : List Read → Program → List (Option (At × ℕ)) → Type 0
FirstsSoFar rs p es = (n : ℕ) (e : Option (At × ℕ)) (r : UnitResult) → slice_get es n ≡ Some e → slice_get p.units n ≡ Some r → e ≡ first_error_at rs p (Some r)

-- the units up to a number
pub record AreToldTo (rs : List Read) (p : Program) (n : ℕ) (ms : List (BTreeMap (ℕ × ℕ × List ℕ) ℕ)) (cs : List code.Unit) (es : List (Option (At × ℕ))) : Type 0 where
  pub kept : AreKept (all_diagnostics (spans_of rs) p (take n p.units)) ms
  pub errors : HaveErrors cs p.units
  pub firsts : FirstsSoFar rs p es
  pub many : length es ≡ n

pub none_told : (rs : List Read) (p : Program) (ms : List (BTreeMap (ℕ × ℕ × List ℕ) ℕ)) (cs : List code.Unit) (es : List (Option (At × ℕ))) → AreKept [] ms → cs ≡ [] → es ≡ [] → AreToldTo rs p 0 ms cs es
none_told rs p ms cs es kept no_units no_errors = record {
  kept = kept;
  errors = subst (λ (xs : List code.Unit). HaveErrors xs p.units) (sym no_units) (λ n c r at there. absurd cc);
  firsts = subst (λ (xs : List (Option (At × ℕ))). FirstsSoFar rs p xs) (sym no_errors) (λ n e r at there. absurd cc);
  many = ap (λ (xs : List (Option (At × ℕ))). length xs) no_errors;
}

module _ (rs : List Read) (p : Program) (n : ℕ) (r : UnitResult) (at : slice_get p.units n ≡ Some r) (fs : List Finding) (found : IsFoundOf rs p r fs) where
  found_first : first_error_in fs ≡ first_error_of (unit_diagnostics (spans_of rs) p r r.fault)
  found_first = ap (λ ds. first_of (filter (λ d. is_error d.code) (sorted ds))) found.told

  pub more_told : (ms new : List (BTreeMap (ℕ × ℕ × List ℕ) ℕ)) (cs more : List code.Unit) (c : code.Unit) (es firsts : List (Option (At × ℕ))) (e : Option (At × ℕ)) (m : ℕ) → m ≡ suc n →
      ((ds : List Diagnostic) → AreKept ds ms → AreKept (ds ++ all_told fs) new) → length cs ≡ n → more ≡ cs ++ c ∷ [] → map error_as c.errors ≡ errors_in fs → firsts ≡ es ++ e ∷ [] → e ≡ first_error_in fs →
      AreToldTo rs p n ms cs es → AreToldTo rs p m new more firsts
  more_told ms new cs more c es firsts e m next keeps long pushed errors first first_is told = record {
    kept =
        subst (λ k. AreKept (all_diagnostics (spans_of rs) p (take k p.units)) new) (sym next)
        (subst (λ ds. AreKept ds new) (ap (λ ds. all_diagnostics (spans_of rs) p (take n p.units) ++ ds) found.told ∙ sym (told_before (spans_of rs) p p.units n r at)) (keeps (all_diagnostics (spans_of rs) p (take n p.units)) told.kept));
    errors = subst (λ (xs : List code.Unit). HaveErrors xs p.units) (sym pushed) (λ k d s here there. by_unit k d s there (push_cases cs c k d here));
    firsts = subst (λ (xs : List (Option (At × ℕ))). FirstsSoFar rs p xs) (sym first) (λ k d s here there. by_error k d s there (push_cases es e k d here));
    many = ap (λ (xs : List (Option (At × ℕ))). length xs) first ∙ (length_push es e ∙ (let a = told.many in omega arith));
  }
    where
      by_unit : (k : ℕ) (d : code.Unit) (s : UnitResult) → slice_get p.units k ≡ Some s → (slice_get cs k ≡ Some d) ⊎ ((k ≡ length cs) × (d ≡ c)) → map error_as d.errors ≡ unit_errors s
      by_unit k d s there (inl q) = told.errors k d s q there
      by_unit k d s there (inr q) =
          let same : r ≡ s = same_Some r s (sym at ∙ (ap (slice_get p.units) (sym (q.0 ∙ long)) ∙ there)) in
          ap (λ (x : code.Unit). map error_as x.errors) q.1 ∙ (errors ∙ (found.errors ∙ ap unit_errors same))

      by_error : (k : ℕ) (d : Option (At × ℕ)) (s : UnitResult) → slice_get p.units k ≡ Some s → (slice_get es k ≡ Some d) ⊎ ((k ≡ length es) × (d ≡ e)) → d ≡ first_error_of (unit_diagnostics (spans_of rs) p s s.fault)
      by_error k d s there (inl q) = told.firsts k d s q there
      by_error k d s there (inr q) =
          let same : r ≡ s = same_Some r s (sym at ∙ (ap (slice_get p.units) (sym (q.0 ∙ told.many)) ∙ there)) in
          q.1 ∙ (first_is ∙ (found_first ∙ ap (λ (x : UnitResult). first_error_of (unit_diagnostics (spans_of rs) p x x.fault)) same))

-- all of them
pub kept_all : (rs : List Read) (p : Program) (n : ℕ) (ms : List (BTreeMap (ℕ × ℕ × List ℕ) ℕ)) (cs : List code.Unit) (es : List (Option (At × ℕ))) → length p.units ≤ n → AreToldTo rs p n ms cs es → AreKept (all_diagnostics (spans_of rs) p p.units) ms
kept_all rs p n ms cs es many told = subst (λ us. AreKept (all_diagnostics (spans_of rs) p us) ms) (all_of p.units n many) told.kept

pub firsts_all : (rs : List Read) (p : Program) (n : ℕ) (ms : List (BTreeMap (ℕ × ℕ × List ℕ) ℕ)) (cs : List code.Unit) (es : List (Option (At × ℕ))) → n ≡ length p.units → AreToldTo rs p n ms cs es → AreFirstErrors rs p es
firsts_all rs p n ms cs es many told = record { count = told.many ∙ many; each = told.firsts }

-- the first Error of the unit with a number
pub first_at : (rs : List Read) (p : Program) (es : List (Option (At × ℕ))) → AreFirstErrors rs p es → (n : ℕ) → error_in (slice_get es n) ≡ first_error_at rs p (slice_get p.units n)
first_at rs p es are n = go (slice_get es n) refl (slice_get p.units n) refl
  where
    there : {A B : Type 0} (xs : List A) (ys : List B) (n : ℕ) (y : B) → length xs ≡ length ys → slice_get xs n ≡ None → slice_get ys n ≡ Some y → ⊥
    there [] [] n y long lacks at = absurd cc
    there [] (b ∷ ys) n y long lacks at = absurd (omega arith)
    there (a ∷ xs) [] n y long lacks at = absurd (omega arith)
    there (a ∷ xs) (b ∷ ys) zero y long lacks at = absurd cc
    there (a ∷ xs) (b ∷ ys) (suc n) y long lacks at = there xs ys n y (omega arith) lacks at

    go : (e : Option (Option (At × ℕ))) → slice_get es n ≡ e → (r : Option UnitResult) → slice_get p.units n ≡ r → error_in e ≡ first_error_at rs p r
    go None lacks None none = refl
    go None lacks (Some r) at = absurd (there es p.units n r are.count lacks at)
    go (Some e) at None lacks = absurd (there p.units es n e (sym are.count) lacks at)
    go (Some e) at (Some r) is = are.each n e r at is
