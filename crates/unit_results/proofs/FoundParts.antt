-- What is found of a unit is what the definition has of it, part by part.
use Rattle.std.proofs.Common.{suc, map, length, arith, ◌≡◌, ℕ, ◌⊎◌, inl, inr, List, [], ◌∷◌, ◌++◌, append-nil, append_assoc, Bool, true, false, cond, slice_get, slice_set, Option, Some, None, refl, sym, ap, ◌∙◌, subst, eq-eqb}
use Rattle.std.specs.Prelude.{◌==◌, ◌&&◌, IfSome}
use Rattle.std.specs.List.{zip}
use Rattle.std.proofs.lemmas.Bool.Decides.{nat_tests}
use Rattle.scheme_model.specs.Entries.{Entry}
use Rattle.scheme_model.specs.Included.{LostString}
use Rattle.scheme_model.specs.Live.{unit_leaves}
use Rattle.scheme_model.specs.Order.{is_some}
use Rattle.scheme_model.specs.UnitExpansion.{Formed}
use Rattle.scheme_model.specs.Program.{Prepared, Program, SetResult, ExportFault, UnitResult, WholeFault, result_at, names_of_unit, export_all, unit_result, forms_at_work, with_refused}
use Rattle.scheme_model.specs.Declarations.{forms_hold}
use Rattle.scheme_model.specs.Diagnostics.{Diagnostic, document_of, bytes_of, export_diagnostics, form_diagnostics, hiding_diagnostics, is_empty, lost_diagnostics, set_diagnostics, unbound_diagnostics, unit_diagnostics}
use Rattle.core_tree.specs.Units.{defined_by, export_errors, form_errors, set_errors, set_forms}
use Rattle.unit_sources.specs.UnitsRead.{lost_as}
use Rattle.unit_sources.specs.declared.units.LostString as code
use Rattle.read_documents.specs.declared.findings.Finding.{Finding}
use Rattle.read_documents.specs.Findings.{Adds, all_told, errors_in}
use Rattle.read_documents.specs.Places.{spans_of}
use Rattle.read_documents.specs.Readings.{Read}
use Rattle.unit_results.specs.UnitsFound.{in_the_end, AreSetsFound, HaveFound, no_import_diagnostics}
use Rattle.read_documents.specs.UnitFindings.{IsFoundOf}

-- ---- findings behind others

pub adds_then : (a b c : List Finding) (ds fs : List Diagnostic) (es gs : List (ℕ × ℕ)) → Adds a b ds es → Adds b c fs gs → Adds a c (ds ++ fs) (es ++ gs)
adds_then a b c ds fs es gs h k = record {
  told = k.told ∙ (ap (λ xs. xs ++ fs) h.told ∙ append_assoc (all_told a) ds fs);
  errors = k.errors ∙ (ap (λ xs. xs ++ gs) h.errors ∙ append_assoc (errors_in a) es gs);
}

pub adds_nothing : (a : List Finding) → Adds a a [] []
adds_nothing a = record { told = sym (append-nil (all_told a)); errors = sym (append-nil (errors_in a)) }

-- ---- strings that mean no text

pub none_lost : (cs : List code.LostString) (ls : List LostString) → cs ≡ map lost_as ls → (length cs == 0) ≡ is_empty ls
none_lost cs [] h = ap (λ xs. length xs == 0) h
none_lost cs (l ∷ ls) h = ap (λ xs. length xs == 0) h ∙ some (length (map lost_as ls))
  where
    some : (n : ℕ) → (suc n == 0) ≡ false
    some n = grind (arith, nat_tests)

-- ---- a unit whose forms were expanded

module _ (rs : List Read) (us : List UnitResult) (q : Program) (p : Prepared) (imports : List Entry × List SetResult) (fs : List Formed) where
  abbrev sets : List Diagnostic
  sets = set_diagnostics (bytes_of (spans_of rs) us) (document_of us) p.specs imports.1

  abbrev faults : List ExportFault
  faults = (export_all (names_of_unit q.table p.number imports.0) [] p.exports).faults

  -- those that were expanded, and those that are refused
  abbrev forms : List Formed
  forms = with_refused p.number 0 (forms_at_work p) fs

  -- sets, strings that mean no text, exports, forms, definitions that hide, unbound names, no import
  pub all_found : (f0 g f1 f2 f3 f4 f5 : List Finding) (good : Bool) → AreSetsFound rs us p imports.1 f0 → Adds f0 g (lost_diagnostics p.placed.source.lost) [] → Adds g f1 (export_diagnostics (bytes_of (spans_of rs) us) p.number faults) (export_errors faults) →
      Adds f1 f2 (form_diagnostics (bytes_of (spans_of rs) us) (forms_hold p.number p.forms) p.number forms) (form_errors forms) → Adds f2 f3 (hiding_diagnostics (bytes_of (spans_of rs) us) p.number forms imports.0 q.table) [] → good ≡ (is_empty (all_told f0) && is_empty p.placed.source.lost) →
      Adds f3 f4 (cond good (unbound_diagnostics (bytes_of (spans_of rs) us) (unit_leaves forms)) []) [] → Adds f4 f5 (no_import_diagnostics (spans_of rs) p) [] → IsFoundOf rs (in_the_end us q) (unit_result p imports q.table (Some fs)) f5
  all_found f0 g f1 f2 f3 f4 f5 good a l b c d same e f =
      let bytes = bytes_of (spans_of rs) us in
      let lo = lost_diagnostics p.placed.source.lost in
      let ex = export_diagnostics bytes p.number faults in
      let fo = form_diagnostics bytes (forms_hold p.number p.forms) p.number forms in
      let hi = hiding_diagnostics bytes p.number forms imports.0 q.table in
      let un = cond good (unbound_diagnostics bytes (unit_leaves forms)) [] in
      let no = no_import_diagnostics (spans_of rs) p in
      let es = set_errors (zip (set_forms p.number 0 p.forms) imports.1) in
      let ee = export_errors faults in
      let fe = form_errors forms in
      let to0 = adds_then [] f0 g sets lo es [] a l in
      let to1 = adds_then [] g f1 (sets ++ lo) ex (es ++ []) ee to0 b in
      let to2 = adds_then [] f1 f2 (sets ++ lo ++ ex) fo (es ++ [] ++ ee) fe to1 c in
      let to3 = adds_then [] f2 f3 (sets ++ lo ++ ex ++ fo) hi (es ++ [] ++ ee ++ fe) [] to2 d in
      let to4 = adds_then [] f3 f4 (sets ++ lo ++ ex ++ fo ++ hi) un (es ++ [] ++ ee ++ fe ++ []) [] to3 e in
      let all = adds_then [] f4 f5 (sets ++ lo ++ ex ++ fo ++ hi ++ un) no (es ++ [] ++ ee ++ fe ++ [] ++ []) [] to4 f in
      let good_is : good ≡ (is_empty sets && is_empty p.placed.source.lost) = same ∙ ap (λ ds. is_empty ds && is_empty p.placed.source.lost) a.told in
      record {
        told = all.told ∙ ap (λ b. sets ++ lo ++ ex ++ fo ++ hi ++ cond b (unbound_diagnostics bytes (unit_leaves forms)) [] ++ no) good_is;
        errors = all.errors ∙ (append-nil (es ++ [] ++ ee ++ fe ++ [] ++ []) ∙ (append-nil (es ++ [] ++ ee ++ fe ++ []) ∙ (append-nil (es ++ [] ++ ee ++ fe) ∙ ap (λ xs. xs ++ ee ++ fe) (append-nil es))));
      }
