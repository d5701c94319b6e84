-- Exports of the code stand for some, and what is wrong in them is the definition's.
use Rattle.std.proofs.Common.{◌≡◌, ℕ, zero, suc, ◌+◌, List, [], ◌∷◌, ◌++◌, append-nil, append_assoc, length, drop, slice_get, Some, refl, sym, ap, ◌∙◌, subst}
use Rattle.std.specs.Prelude.{not}
use Rattle.scheme_model.specs.declared.Occ.{Occ}
use Rattle.scheme_model.specs.Program.{ExportSpec, ExportFault, NotDefined, SameExport}
use Rattle.scheme_model.specs.Diagnostics.{Diagnostic, Bytes, at_bytes, export_bytes, export_diagnostics}
use Rattle.import_sets.specs.Sets.{named}
use Rattle.import_sets.specs.Given.{same_place}
use Rattle.unit_sources.specs.Exports.{IsFault, AreFaults}
use Rattle.unit_sources.specs.Sources.{IsExport, AreExports}
use Rattle.unit_sources.specs.declared.exporting.ExportFault as code_fault
use Rattle.unit_sources.specs.declared.units.ExportSpec as code_export
use Rattle.read_documents.specs.declared.findings.At.{At}
use Rattle.read_documents.specs.Findings.{told_at}
use Rattle.read_documents.specs.Places.{bytes_at}
use Rattle.scheme_model.specs.DiagnosticTexts.{worded}
use Rattle.unit_imports.proofs.GivenLaws.{drop_at}

pub any_exports : (cs : List code_export.ExportSpec) → (xs : List ExportSpec) × AreExports cs xs
any_exports [] = ([], tt)
any_exports (c ∷ cs) =
    let r = any_exports cs in
    (record { form = c.form; inner = named c.inner; outer = named c.outer; renamed = not (same_place c.inner.occ c.outer.occ) } ∷ r.0, (record { form = refl; inner = refl; outer = refl; renamed = refl }, r.1))

-- ---- exports and their faults

pub record SpecAt (specs : List code_export.ExportSpec) (n : ℕ) (x : ExportSpec) : Type 0 where
  pub spec : code_export.ExportSpec
  pub there : slice_get specs n ≡ Some spec
  pub is : IsExport spec x

pub spec_at : (cs : List code_export.ExportSpec) (xs : List ExportSpec) → AreExports cs xs → (n : ℕ) (x : ExportSpec) → slice_get xs n ≡ Some x → SpecAt cs n x
spec_at [] [] h n x at = absurd cc
spec_at [] (y ∷ xs) h n x at = absurd h
spec_at (c ∷ cs) [] h n x at = absurd h
spec_at (c ∷ cs) (y ∷ xs) h zero x at = let same : y ≡ x = cc in record { spec = c; there = refl; is = subst (IsExport c) same h.0 }
spec_at (c ∷ cs) (y ∷ xs) h (suc n) x at = let r = spec_at cs xs h.1 n x at in record { spec = r.spec; there = r.there; is = r.is }

pub record FaultAt (xs : List ExportSpec) (gs : List ExportFault) (n : ℕ) (f : code_fault.ExportFault) : Type 0 where
  pub fault : ExportFault
  pub there : slice_get gs n ≡ Some fault
  pub is : IsFault xs f fault

pub fault_at : (xs : List ExportSpec) (fs : List code_fault.ExportFault) (gs : List ExportFault) → AreFaults xs fs gs → (n : ℕ) (f : code_fault.ExportFault) → slice_get fs n ≡ Some f → FaultAt xs gs n f
fault_at xs [] gs h n f at = absurd cc
fault_at xs (e ∷ fs) [] h n f at = absurd h
fault_at xs (e ∷ fs) (g ∷ gs) h zero f at = let same : e ≡ f = cc in record { fault = g; there = refl; is = subst (λ (x : code_fault.ExportFault). IsFault xs x g) same h.0 }
fault_at xs (e ∷ fs) (g ∷ gs) h (suc n) f at = let r = fault_at xs fs gs h.1 n f at in record { fault = r.fault; there = r.there; is = r.is }

export_next : (bytes : Occ → Bytes) (unit : ℕ) (g : ExportFault) (gs : List ExportFault) → export_diagnostics bytes unit (g ∷ gs) ≡ export_diagnostics bytes unit (g ∷ []) ++ export_diagnostics bytes unit gs
export_next bytes unit (NotDefined x) gs = refl
export_next bytes unit (SameExport x) gs = refl

-- one fault more is told
pub faults_next : (bytes : Occ → Bytes) (unit : ℕ) (gs : List ExportFault) (i : ℕ) (g : ExportFault) (now more whole : List Diagnostic) → slice_get gs i ≡ Some g → more ≡ now ++ export_diagnostics bytes unit (g ∷ []) →
    now ++ export_diagnostics bytes unit (drop i gs) ≡ whole → more ++ export_diagnostics bytes unit (drop (i + 1) gs) ≡ whole
faults_next bytes unit gs i g now more whole at e before =
    ap (λ (ds : List Diagnostic). ds ++ export_diagnostics bytes unit (drop (i + 1) gs)) e ∙ append_assoc now (export_diagnostics bytes unit (g ∷ [])) (export_diagnostics bytes unit (drop (i + 1) gs))
    ∙ ap (λ (ds : List Diagnostic). now ++ ds) (sym (export_next bytes unit g (drop (i + 1) gs))) ∙ sym (ap (λ (l : List ExportFault). now ++ export_diagnostics bytes unit l) (drop_at gs i g at)) ∙ before

pub faults_done : (bytes : Occ → Bytes) (unit : ℕ) (gs : List ExportFault) (i : ℕ) (now whole : List Diagnostic) → drop i gs ≡ [] → now ++ export_diagnostics bytes unit (drop i gs) ≡ whole → now ≡ whole
faults_done bytes unit gs i now whole none h = sym (append-nil now) ∙ ap (λ (l : List ExportFault). now ++ export_diagnostics bytes unit l) (sym none) ∙ h

pub as_many_faults : (xs : List ExportSpec) (fs : List code_fault.ExportFault) (gs : List ExportFault) → AreFaults xs fs gs → length fs ≡ length gs
as_many_faults xs [] [] h = refl
as_many_faults xs [] (g ∷ gs) h = absurd h
as_many_faults xs (f ∷ fs) [] h = absurd h
as_many_faults xs (f ∷ fs) (g ∷ gs) h = ap suc (as_many_faults xs fs gs h.1)

-- what is told at an export's external name, or at its declaration
pub told_undefined : (old new : List Diagnostic) (at : At) (bytes : Occ → Bytes) (unit code : ℕ) (name : List ℕ) (x : ExportSpec) → new ≡ old ++ told_at (Some at) code (worded code name) → bytes_at at ≡ export_bytes bytes unit x →
    code ≡ 64 → name ≡ x.inner.name → new ≡ old ++ export_diagnostics bytes unit (NotDefined x ∷ [])
told_undefined old new at bytes unit code name x e h c n = e ∙ (λ j. old ++ at_bytes (h j) (c j) (n j) ∷ [])

pub told_again : (old new : List Diagnostic) (at : At) (bytes : Occ → Bytes) (unit code : ℕ) (name : List ℕ) (x : ExportSpec) → new ≡ old ++ told_at (Some at) code (worded code name) → bytes_at at ≡ export_bytes bytes unit x →
    code ≡ 65 → name ≡ x.outer.name → new ≡ old ++ export_diagnostics bytes unit (SameExport x ∷ [])
told_again old new at bytes unit code name x e h c n = e ∙ (λ j. old ++ at_bytes (h j) (c j) (n j) ∷ [])
