-- A program without an import, told by what was read and by the definition.
use Rattle.std.proofs.Common.{◌≡◌, ℕ, List, [], ◌∷◌, ◌++◌, Bool, true, false, cond, Some, sym, ap, ◌∙◌, subst}
use Rattle.std.specs.Prelude.{◌&&◌, not}
use Rattle.std.specs.List.{list_any}
use Rattle.scheme_model.specs.Requirements.{LibraryName}
use Rattle.scheme_model.specs.Program.{Prepared, UnitResult, imports_nothing, is_import, is_program, result_at}
use Rattle.scheme_model.specs.Diagnostics.{Span, at_bytes, unit_start}
use Rattle.core_tree.specs.Units.{kind_as}
use Rattle.unit_sources.specs.UnitsRead.{forms_of}
use Rattle.unit_sources.specs.declared.units.UnitSource.{UnitSource}
use Rattle.read_documents.specs.declared.findings.At.{At}
use Rattle.read_documents.specs.declared.findings.Finding.{Finding}
use Rattle.read_documents.specs.Findings.{Adds, all_told, errors_in}
use Rattle.read_documents.specs.Places.{bytes_at, start_of}
use Rattle.unit_imports.specs.SetsGiven.{ImportsAs}
use Rattle.unit_results.specs.UnitsFound.{no_import_diagnostics}
use Rattle.scheme_model.specs.DiagnosticTexts.{worded}
use Rattle.read_documents.proofs.DiagnosedLaws.{adds_more}
use Rattle.unit_results.proofs.FoundParts.{adds_nothing}

pub imports_alike : (spelled : LibraryName → List ℕ) (c : UnitSource) (p : Prepared) → ImportsAs spelled c p → (b : Bool) → b ≡ (is_program (kind_as c.kind) && not (list_any is_import (forms_of c.forms))) → imports_nothing p ≡ b
imports_alike spelled c p h b is = (λ i. is_program (sym h.kind i) && not (list_any is_import (h.forms i))) ∙ sym is

module _ (spans : List (List Span)) (us : List UnitResult) (r : UnitResult) (unit : ℕ) (at : result_at us unit ≡ Some r) (start : At) (exact : bytes_at start ≡ start_of spans (result_at us unit)) (nothing : imports_nothing r.unit ≡ true) where
  pub no_import_told : (f : Finding) → f ≡ record { at = Some start; form = 0; code = 104; message = worded 104 [] } → (old new : List Finding) → new ≡ old ++ f ∷ [] → Adds old new (no_import_diagnostics spans r.unit) []
  no_import_told f same old new is =
      let place : bytes_at start ≡ unit_start spans r.unit = exact ∙ ap (start_of spans) at in
      adds_more old new (f ∷ []) (no_import_diagnostics spans r.unit) [] is
      (ap (λ (g : Finding). all_told (g ∷ [])) same
      ∙ (ap (λ b. at_bytes b 104 [] ∷ []) place ∙ ap (λ t. cond t (at_bytes (unit_start spans r.unit) 104 [] ∷ []) []) (sym nothing)))
      (ap (λ (g : Finding). errors_in (g ∷ [])) same)

pub import_there : (spans : List (List Span)) (p : Prepared) → imports_nothing p ≡ false → (old : List Finding) → Adds old old (no_import_diagnostics spans p) []
import_there spans p some old =
    subst (λ t. Adds old old (cond t (at_bytes (unit_start spans p) 104 [] ∷ []) []) []) (sym some) (adds_nothing old)
