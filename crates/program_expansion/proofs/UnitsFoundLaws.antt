-- What is found of a unit is what the definition has of it, part by part, and later units change nothing of it.
use Rattle.std.proofs.Common.{suc, map, length, arith, ◌≡◌, ℕ, ◌⊎◌, inl, inr, List, [], ◌∷◌, ◌++◌, append-nil, append_assoc, Bool, true, false, cond, slice_get, slice_set, Option, Some, None, refl, sym, ap, ◌∙◌, subst, eq-eqb}
use Rattle.std.specs.Prelude.{◌==◌, ◌&&◌, IfSome}
use Rattle.std.specs.List.{zip}
use Rattle.std.proofs.lemmas.Bool.Decides.{nat_tests}
use Rattle.scheme_model.specs.Entries.{Entry}
use Rattle.scheme_model.specs.Included.{LostString}
use Rattle.scheme_model.specs.Live.{unit_leaves}
use Rattle.scheme_model.specs.Order.{is_some}
use Rattle.scheme_model.specs.UnitExpansion.{Formed}
use Rattle.scheme_model.specs.Program.{Prepared, Program, SetResult, ExportFault, UnitResult, WholeFault, result_at, names_of_unit, export_all, unit_result, forms_at_work, with_refused}
use Rattle.scheme_model.specs.ScopedProgram.{ScopedProgress}
use Rattle.scheme_model.specs.Declarations.{forms_hold}
use Rattle.scheme_model.specs.Diagnostics.{Diagnostic, document_of, bytes_of, export_diagnostics, form_diagnostics, hiding_diagnostics, is_empty, lost_diagnostics, set_diagnostics, unbound_diagnostics, unit_diagnostics}
use Rattle.core_tree.specs.Units.{defined_by, export_errors, form_errors, set_errors, set_forms}
use Rattle.unit_sources.specs.UnitsRead.{lost_as}
use Rattle.unit_sources.specs.declared.units.LostString as code
use Rattle.unit_scopes.specs.Others.{InFront}
use Rattle.unit_imports.specs.declared.expanded.Expanded.{Expanded}
use Rattle.read_documents.specs.declared.findings.Finding.{Finding}
use Rattle.program_expansion.specs.UnitResults.{so_far}
use Rattle.read_documents.specs.Findings.{Adds, all_told, errors_in}
use Rattle.read_documents.specs.Places.{spans_of}
use Rattle.read_documents.specs.Readings.{Read}
use Rattle.unit_results.specs.UnitsFound.{in_the_end, AreSetsFound, HaveFound, no_import_diagnostics}
use Rattle.read_documents.specs.UnitFindings.{IsFoundOf}
use Rattle.read_documents.proofs.ChangedLaws.{set_cases}
use Rattle.unit_imports.proofs.HidingLaws.{hiding_same}
use Rattle.program_expansion.proofs.UnitGoes.{IsOfUnit, others_define}
use Rattle.program_expansion.proofs.UpTo.{test, other_result, own_result}

-- ---- other units

module _ (rs : List Read) (us : List UnitResult) (a b : Program) (r : UnitResult) (h : defined_by r.unit.number b.table ≡ defined_by r.unit.number a.table) where
  same_by : (f : Option WholeFault) → unit_diagnostics (spans_of rs) (in_the_end us a) r f ≡ unit_diagnostics (spans_of rs) (in_the_end us b) r f
  same_by None =
      let bytes = bytes_of (spans_of rs) us in
      let sets = set_diagnostics bytes (document_of us) r.unit.specs r.sets in
      ap (λ hi. sets ++ lost_diagnostics r.unit.placed.source.lost ++ export_diagnostics bytes r.unit.number r.export_faults ++ form_diagnostics bytes (forms_hold r.unit.number r.unit.forms) r.unit.number r.forms ++ hi ++ cond (is_empty sets && is_empty r.unit.placed.source.lost) (unbound_diagnostics bytes (unit_leaves r.forms)) [] ++ no_import_diagnostics (spans_of rs) r.unit)
      (sym (hiding_same bytes r.unit.number r.forms r.entries a.table b.table h))
  same_by (Some f) = refl

  -- what is found of a unit stays so where no more is defined of it
  pub found_stays : (fs : List Finding) → IsFoundOf rs (in_the_end us a) r fs → IsFoundOf rs (in_the_end us b) r fs
  found_stays fs found = record { told = found.told ∙ same_by r.fault; errors = found.errors }

-- ---- one unit more

module _ (rs : List Read) (us : List UnitResult) (g k : ScopedProgress) (n : ℕ) (r : UnitResult) (own : r.unit.number ≡ n) (new : is_some (result_at g.results r.unit.number) ≡ false) (next : k.results ≡ r ∷ g.results) (front : InFront (IsOfUnit n) g.table k.table)
    (numbered : (m : ℕ) (s : UnitResult) → result_at g.results m ≡ Some s → s.unit.number ≡ m) (es : List (Option Expanded)) (found : HaveFound rs us g es) where
  not_own : (m : ℕ) → (m ≡ n → ⊥) → (r.unit.number == m) ≡ false
  not_own m apart = go (test r.unit.number m (r.unit.number == m) refl)
    where
      go : (r.unit.number ≡ m) ⊎ ((r.unit.number == m) ≡ false) → (r.unit.number == m) ≡ false
      go (inl e) = absurd (apart (sym e ∙ own))
      go (inr e) = e

  other_found : (m : ℕ) (e : Expanded) (s : UnitResult) → (m ≡ n → ⊥) → slice_get es m ≡ Some (Some e) → result_at k.results m ≡ Some s → IsFoundOf rs (in_the_end us (so_far k)) s e.findings.items
  other_found m e s apart at there =
      let before : result_at g.results m ≡ Some s = sym (ap (λ ts. result_at ts m) next ∙ other_result g.results r new m (not_own m apart)) ∙ there in
      let away : s.unit.number ≡ n → ⊥ = λ same. apart (sym (numbered m s before) ∙ same) in
      found_stays rs us (so_far g) (so_far k) s (others_define n s.unit.number away g.table k.table front) e.findings.items (found m e s at before)

  pub found_set : (came : Option Expanded) → IfSome came (λ (e : Expanded). IsFoundOf rs (in_the_end us (so_far k)) r e.findings.items) → HaveFound rs us k (slice_set es n came)
  found_set came here m e s at there = go (set_cases es n came m (Some e) at)
    where
      go : ((m ≡ n) × (Some e ≡ came)) ⊎ ((m ≡ n → ⊥) × (slice_get es m ≡ Some (Some e))) → IsFoundOf rs (in_the_end us (so_far k)) s e.findings.items
      go (inl q) =
          let is : Some r ≡ Some s = sym (ap (λ ts. result_at ts m) next ∙ own_result g.results r new m (own ∙ sym q.0)) ∙ there in
          let same : r ≡ s = cc in
          let mine : IsFoundOf rs (in_the_end us (so_far k)) r e.findings.items = subst (λ (o : Option Expanded). IfSome o (λ (x : Expanded). IsFoundOf rs (in_the_end us (so_far k)) r x.findings.items)) (sym q.1) here in
          subst (λ (x : UnitResult). IsFoundOf rs (in_the_end us (so_far k)) x e.findings.items) same mine
      go (inr q) = other_found m e s q.0 q.1 there

  pub found_none : ((e : Expanded) → slice_get es n ≡ Some (Some e) → ⊥) → HaveFound rs us k es
  found_none nothing m e s at there = go (test r.unit.number m (r.unit.number == m) refl)
    where
      go : (r.unit.number ≡ m) ⊎ ((r.unit.number == m) ≡ false) → IsFoundOf rs (in_the_end us (so_far k)) s e.findings.items
      go (inl q) = absurd (nothing e (ap (slice_get es) (sym own ∙ q) ∙ at))
      go (inr q) = other_found m e s (λ same. clash (sym (eq-eqb r.unit.number m (own ∙ sym same)) ∙ q)) at there
        where
          clash : true ≡ false → ⊥
          clash z = cc
