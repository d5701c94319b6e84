-- What is found, and the diagnostics that it is.
use Rattle.std.proofs.Common.{◌≡◌, ℕ, zero, suc, drop, Bool, true, false, cond, List, [], ◌∷◌, ◌++◌, append-nil, append_assoc, Option, Some, refl, sym, ap, ◌∙◌, map, slice_get}
use Rattle.std.specs.Prelude.{reverse}
use Rattle.std.proofs.lemmas.List.{reverse-append}
use Rattle.std.proofs.lemmas.List.Concat.{flat_map-append}
use Rattle.std.proofs.lemmas.Option.{same_Some}
use Rattle.scheme_model.specs.Program.{ExportFault, NotDefined, SameExport}
use Rattle.core_tree.specs.Units.{export_errors}
use Rattle.scheme_model.specs.Diagnostics.{Diagnostic, Bytes, at_bytes, clash_diagnostics}
use Rattle.read_documents.specs.declared.findings.At.{At}
use Rattle.read_documents.specs.declared.findings.Finding.{Finding}
use Rattle.read_documents.specs.Findings.{told, told_at, all_told, errors_in, error_by, is_error}
use Rattle.read_documents.proofs.DiagnosedLaws.{errors_both}

-- one more
pub told_more : (fs new : List Finding) (f : Finding) (at : Option At) (code : ℕ) (text : List ℕ) → new ≡ fs ++ f ∷ [] → f.at ≡ at → f.code ≡ code → f.message ≡ text →
    all_told new ≡ all_told fs ++ told_at at code text
told_more fs new f at code text is a c t =
    ap all_told is ∙ flat_map-append told fs (f ∷ []) ∙ ap (λ (ds : List Diagnostic). all_told fs ++ ds) (append-nil (told f) ∙ (λ j. told_at (a j) (c j) (t j)))

-- ---- clashes

pub clashes_more : (b : Bytes) (ss ts : List (List ℕ)) → clash_diagnostics b (ss ++ ts) ≡ clash_diagnostics b ss ++ clash_diagnostics b ts
clashes_more b [] ts = refl
clashes_more b (s ∷ ss) ts = ap (λ (ds : List Diagnostic). at_bytes b 52 s ∷ ds) (clashes_more b ss ts)

-- the latest clash is told, and the others are left
pub clash_told : (b : Bytes) (ss rest : List (List ℕ)) (s : List ℕ) (old new more : List Diagnostic) → ss ≡ rest ++ s ∷ [] → new ≡ old ++ at_bytes b 52 s ∷ [] →
    old ++ clash_diagnostics b (reverse ss) ≡ more → new ++ clash_diagnostics b (reverse rest) ≡ more
clash_told b ss rest s old new more is n before =
    ap (λ (ds : List Diagnostic). ds ++ clash_diagnostics b (reverse rest)) n
    ∙ append_assoc old (at_bytes b 52 s ∷ []) (clash_diagnostics b (reverse rest))
    ∙ ap (λ (ts : List (List ℕ)). old ++ clash_diagnostics b ts) (sym (ap reverse is ∙ reverse-append rest (s ∷ []))) ∙ before

-- ---- Errors

pub error_more : (fs new : List Finding) (f : Finding) (code form : ℕ) → new ≡ fs ++ f ∷ [] → f.code ≡ code → f.form ≡ form → errors_in new ≡ errors_in fs ++ error_by code form
error_more fs new f code form is c m = ap errors_in is ∙ (errors_both fs (f ∷ []) ∙ (ap (λ (es : List (ℕ × ℕ)). errors_in fs ++ es) (one (is_error f.code)) ∙ (λ j. errors_in fs ++ error_by (c j) (m j))))
  where
    one : (b : Bool) → map {B = ℕ × ℕ} (λ (g : Finding). (g.code, g.form)) (cond b (f ∷ []) []) ≡ cond b ((f.code, f.form) ∷ []) []
    one true = refl
    one false = refl

-- the Errors of exports, one more
pub export_error_next : (gs : List ExportFault) (i j : ℕ) (g : ExportFault) (now new all : List (ℕ × ℕ)) → j ≡ suc i → slice_get gs i ≡ Some g → new ≡ now ++ export_errors (g ∷ []) → now ++ export_errors (drop i gs) ≡ all → new ++ export_errors (drop j gs) ≡ all
export_error_next gs i j g now new all next at one so =
    (λ k. one k ++ export_errors (drop (next k) gs)) ∙ (append_assoc now (export_errors (g ∷ [])) (export_errors (drop (suc i) gs)) ∙ (ap (λ (es : List (ℕ × ℕ)). now ++ es) (parted g (drop (suc i) gs) ∙ ap export_errors (sym (dropped gs i at))) ∙ so))
  where
    parted : (g : ExportFault) (rest : List ExportFault) → export_errors (g ∷ []) ++ export_errors rest ≡ export_errors (g ∷ rest)
    parted (NotDefined x) rest = refl
    parted (SameExport x) rest = refl

    dropped : (gs : List ExportFault) (i : ℕ) → slice_get gs i ≡ Some g → drop i gs ≡ g ∷ drop (suc i) gs
    dropped [] i h = absurd cc
    dropped (x ∷ gs) zero h = ap (λ (y : ExportFault). y ∷ gs) (same_Some x g h)
    dropped (x ∷ gs) (suc i) h = dropped gs i h
