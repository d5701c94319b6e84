use Rattle.std.proofs.Common.{◌≡◌, ℕ, List, Option, Some, None, slice_get, [], ◌∷◌, ◌++◌, length, sym, ap, ◌∙◌, subst}
use Rattle.std.proofs.lemmas.Option.{same_Some}
use Rattle.read_documents.proofs.Nths.{get_some, get_none}
use Rattle.scheme_model.specs.Program.{NotDefined, SameExport}
use Rattle.scheme_model.specs.Diagnostics.{bytes_of, export_diagnostics, or_start}
use Rattle.unit_sources.specs.Exports.{IsFault}
use Rattle.unit_sources.specs.Sources.{IsExport}
use Rattle.unit_sources.specs.declared.units.ExportSpec.{ExportSpec}
use Rattle.core_tree.specs.Units.{export_errors}
use Rattle.read_documents.specs.Findings.{all_told, error_by, errors_in}
use Rattle.read_documents.specs.Places.{spans_of}
use Rattle.read_documents.proofs.FoundLaws.{at_in}
use Rattle.unit_imports.proofs.ExportLaws.{spec_at, told_again, told_undefined}
use Rattle.unit_imports.proofs.exported.add_fault.Goals as goal

both_same : (m n : ℕ) (s t : List ℕ) → ◌≡◌ {A = Option (ℕ × List ℕ)} (Some (m, s)) (Some (n, t)) → (m ≡ n) × (s ≡ t)
both_same m n s t h = let e : ◌≡◌ {A = ℕ × List ℕ} (m, s) (n, t) = same_Some {A = ℕ × List ℕ} (m, s) (n, t) h in (ap (λ (q : ℕ × List ℕ). q.0) e, ap (λ (q : ℕ × List ℕ). q.1) e)

pub returns-in_default-clause-told : goal.returns-in_default-clause-told
returns-in_default-clause-told c = λ xs specs f is reads us places.
    elim f as
    (λ g.
    IsFault xs c.args.fault.now g →
    all_told c.args.findings.now.items ≡ all_told c.args.findings.now.items ++ export_diagnostics (bytes_of (spans_of reads) us) c.args.unit (g ∷ []))
    [ NotDefined x ↦ λ h. let e = c.in_default.ensures.defined x.inner.name h.1 in absurd cc | SameExport x ↦ λ h. let e = c.in_default.ensures.same x.outer.name h.1 in absurd cc ]
    is

pub returns-in_default-clause-errors : goal.returns-in_default-clause-errors
returns-in_default-clause-errors c = λ xs specs f is.
    elim f as
    (λ g. IsFault xs c.args.fault.now g → errors_in c.args.findings.now.items ≡ errors_in c.args.findings.now.items ++ export_errors (g ∷ []))
    [ NotDefined x ↦ λ h. let e = c.in_default.ensures.defined x.inner.name h.1 in absurd cc | SameExport x ↦ λ h. let e = c.in_default.ensures.same x.outer.name h.1 in absurd cc ]
    is

-- there is an export at the fault's place
pub returns-in_default-get-clause-told : goal.returns-in_default-get-clause-told
returns-in_default-get-clause-told c = λ xs specs f is reads us places.
    let none : slice_get c.args.specs.now c.args.fault.now.place ≡ None = get_none c.args.specs.now c.args.fault.now.place (sym c.in_default-get.ensures.lookup.0) in
    elim f as
    (λ g.
    IsFault xs c.args.fault.now g →
    all_told c.args.findings.now.items ≡ all_told c.args.findings.now.items ++ export_diagnostics (bytes_of (spans_of reads) us) c.args.unit (g ∷ [])) [
      | NotDefined x ↦ λ h. let r = spec_at c.args.specs.now xs specs c.args.fault.now.place x h.0 in let e : None ≡ Some r.spec = sym none ∙ r.there in absurd cc
      | SameExport x ↦ λ h. let r = spec_at c.args.specs.now xs specs c.args.fault.now.place x h.0 in let e : None ≡ Some r.spec = sym none ∙ r.there in absurd cc
    ]
    is

pub returns-in_default-get-clause-errors : goal.returns-in_default-get-clause-errors
returns-in_default-get-clause-errors c = λ xs specs f is.
    let none : slice_get c.args.specs.now c.args.fault.now.place ≡ None = get_none c.args.specs.now c.args.fault.now.place (sym c.in_default-get.ensures.lookup.0) in
    elim f as
    (λ g. IsFault xs c.args.fault.now g → errors_in c.args.findings.now.items ≡ errors_in c.args.findings.now.items ++ export_errors (g ∷ [])) [
      | NotDefined x ↦ λ h. let r = spec_at c.args.specs.now xs specs c.args.fault.now.place x h.0 in let e : None ≡ Some r.spec = sym none ∙ r.there in absurd cc
      | SameExport x ↦ λ h. let r = spec_at c.args.specs.now xs specs c.args.fault.now.place x h.0 in let e : None ≡ Some r.spec = sym none ∙ r.there in absurd cc
    ]
    is

pub returns-clause-inside : goal.returns-clause-inside
returns-clause-inside c = λ found.
    c.in_ok-add_found.ensures.inside (length c.args.places.documents.now) (at_in (length c.args.places.documents.now) c.at_or_form-at.result (c.at_or_form-at.ensures.inside c.requires.documents)) found

pub returns-clause-told : goal.returns-clause-told
returns-clause-told c = λ xs specs f is reads us places.
    let old = all_told c.args.findings.now.items in
    let new = all_told c.add_found.new.findings.items in
    let at = c.at_or_form-at.result in
    let spec = c.in-Some-get.spec.now in
    let bytes = bytes_of (spans_of reads) us in
    let here : slice_get c.args.specs.now c.args.fault.now.place ≡ Some spec = get_some c.args.specs.now c.args.fault.now.place spec (sym c.in-Some-get.ensures.lookup.0) c.in-Some-get.ensures.lookup.1 in
    let exact = c.at_or_form-at.ensures.exact reads us places in
    elim f as
    (λ g. IsFault xs c.args.fault.now g → new ≡ old ++ export_diagnostics bytes c.args.unit (g ∷ [])) [
      | NotDefined x ↦ λ h.
          let r = spec_at c.args.specs.now xs specs c.args.fault.now.place x h.0 in
          let own : IsExport spec x = subst (λ (s : ExportSpec). IsExport s x) (same_Some r.spec spec (sym r.there ∙ here)) r.is in
          let e = both_same c.in-Some.code 64 c.in-Some.name.now x.inner.name (c.in-Some.ensures.defined x.inner.name h.1) in
          told_undefined old new at bytes c.args.unit c.in-Some.code c.as_str-name.result.now x c.in_ok-add_found.ensures.told (exact ∙ (λ j. bytes (or_start c.args.unit (own.form j) (own.outer j).occ))) e.0 (c.as_str-name.ensures ∙ e.1)
      | SameExport x ↦ λ h.
          let r = spec_at c.args.specs.now xs specs c.args.fault.now.place x h.0 in
          let own : IsExport spec x = subst (λ (s : ExportSpec). IsExport s x) (same_Some r.spec spec (sym r.there ∙ here)) r.is in
          let e = both_same c.in-Some.code 65 c.in-Some.name.now x.outer.name (c.in-Some.ensures.same x.outer.name h.1) in
          told_again old new at bytes c.args.unit c.in-Some.code c.as_str-name.result.now x c.in_ok-add_found.ensures.told (exact ∙ (λ j. bytes (or_start c.args.unit (own.form j) (own.outer j).occ))) e.0 (c.as_str-name.ensures ∙ e.1)
    ]
    is

pub returns-clause-errors : goal.returns-clause-errors
returns-clause-errors c = λ xs specs f is.
    let old = errors_in c.args.findings.now.items in
    let new = errors_in c.add_found.new.findings.items in
    let spec = c.in-Some-get.spec.now in
    let here : slice_get c.args.specs.now c.args.fault.now.place ≡ Some spec = get_some c.args.specs.now c.args.fault.now.place spec (sym c.in-Some-get.ensures.lookup.0) c.in-Some-get.ensures.lookup.1 in
    elim f as
    (λ g. IsFault xs c.args.fault.now g → new ≡ old ++ export_errors (g ∷ [])) [
      | NotDefined x ↦ λ h.
          let r = spec_at c.args.specs.now xs specs c.args.fault.now.place x h.0 in
          let own : IsExport spec x = subst (λ (s : ExportSpec). IsExport s x) (same_Some r.spec spec (sym r.there ∙ here)) r.is in
          let e = both_same c.in-Some.code 64 c.in-Some.name.now x.inner.name (c.in-Some.ensures.defined x.inner.name h.1) in
          c.in_ok-add_found.ensures.errors ∙ (λ i. old ++ error_by (e.0 i) (own.form i))
      | SameExport x ↦ λ h.
          let r = spec_at c.args.specs.now xs specs c.args.fault.now.place x h.0 in
          let own : IsExport spec x = subst (λ (s : ExportSpec). IsExport s x) (same_Some r.spec spec (sym r.there ∙ here)) r.is in
          let e = both_same c.in-Some.code 65 c.in-Some.name.now x.outer.name (c.in-Some.ensures.same x.outer.name h.1) in
          c.in_ok-add_found.ensures.errors ∙ (λ i. old ++ error_by (e.0 i) (own.form i))
    ]
    is
