-- What is found wrong as the definition's diagnostics, and how the code keeps those of each document.
use Rattle.std.specs.Prelude.{◌≡◌, ℕ, ◌==◌, nat_lt, if◌then◌else◌, not, List, [], ◌∷◌, map, filter, slice_get, Bool, true, Option, Some, None, ◌++◌}
use Rattle.std.specs.List.{flat_map}
use Rattle.std.specs.BTreeMap.{BTreeMap}
use Rattle.std.specs.Borrow.{Bor}
use Rattle.scheme_model.specs.Diagnostics.{Diagnostic, is_before, sorted, Bytes}
use Rattle.read_documents.specs.declared.findings.At.{At}
use Rattle.read_documents.specs.declared.findings.Finding.{Finding}

-- ---- one finding

abbrev pub diagnostic : At → ℕ → List ℕ → Diagnostic
diagnostic at code text = record { document = at.document; start = at.span.start; end = at.span.end; code = code; text = text }

-- the diagnostic at a place, where there is one
abbrev pub told_at : Option At → ℕ → List ℕ → List Diagnostic
told_at None code text = []
told_at (Some at) code text = diagnostic at code text ∷ []

abbrev pub told : Finding → List Diagnostic
told f = told_at f.at f.code f.message

abbrev pub all_told : List Finding → List Diagnostic
all_told fs = flat_map told fs

-- ---- Errors

abbrev pub is_error : ℕ → Bool
is_error code = nat_lt code 100

-- the Errors among findings, by code and form
abbrev pub errors_in : List Finding → List (ℕ × ℕ)
errors_in fs = map (λ f. (f.code, f.form)) (filter (λ f. is_error f.code) fs)

-- one with a code and a form, where it is an Error
abbrev pub error_by : (code form : ℕ) → List (ℕ × ℕ)
error_by code form = if is_error code then (code, form) ∷ [] else []

-- the first of diagnostics: its place and its code
abbrev pub first_of : List Diagnostic → Option (At × ℕ)
first_of [] = None
first_of (d ∷ ds) = Some (record { document = d.document; span = record { start = d.start; end = d.end } }, d.code)

-- the first Error among findings, in the definition's order
abbrev pub first_error_in : List Finding → Option (At × ℕ)
first_error_in fs = first_of (filter (λ d. is_error d.code) (sorted (all_told fs)))

-- the place of an Error; none of a warning
abbrev pub error_place : Finding → Option At
error_place f = if is_error f.code then f.at else None

-- ---- the diagnostics of documents

abbrev pub in_document : ℕ → List Diagnostic → List Diagnostic
in_document place ds = filter (λ d. d.document == place) ds

-- a diagnostic of a document as the code keeps it: by start, code and text, with its end
abbrev pub kept : Diagnostic → (ℕ × ℕ × List ℕ) × ℕ
kept d = ((d.start, d.code, d.text), d.end)

-- for each document those that stand in it, in order
abbrev pub AreKept : List Diagnostic → List (BTreeMap (ℕ × ℕ × List ℕ) ℕ) → Type 0
AreKept ds all = (n : ℕ) (m : BTreeMap (ℕ × ℕ × List ℕ) ℕ) → slice_get all n ≡ Some m → m.entries ≡ map kept (in_document n (sorted ds))

-- ---- the first Error so far

-- a place and a finding are the first of these diagnostics
abbrev pub IsFirst : Option (At × Bor Finding) → List Diagnostic → Type 0
IsFirst None [] = Unit {0}
IsFirst None (d ∷ ds) = ⊥
IsFirst (Some f) [] = ⊥
IsFirst (Some f) (d ∷ ds) = diagnostic f.0 f.1.now.code f.1.now.message ≡ d

-- the first so far doesn't stand before this one
abbrev pub stands_first : Diagnostic → Option (At × Bor Finding) → Bool
stands_first d None = true
stands_first d (Some f) = not (is_before (diagnostic f.0 f.1.now.code f.1.now.message) d)

-- findings with more of them: these diagnostics, and these Errors by code and form
pub record Adds (old new : List Finding) (ds : List Diagnostic) (es : List (ℕ × ℕ)) : Type 0 where
  pub told : all_told new ≡ all_told old ++ ds
  pub errors : errors_in new ≡ errors_in old ++ es

abbrev pub at_of : Bytes → At
at_of b = record { document = b.document; span = record { start = b.span.start; end = b.span.end } }
