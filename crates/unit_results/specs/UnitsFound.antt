-- What is found wrong in units, as the definition's diagnostics and Errors of the program that they come to (R7RS 5.1, 5.6).
use Rattle.std.specs.Prelude.{◌≡◌, ◌<◌, ℕ, List, [], ◌∷◌, length, slice_get, Option, Some, None, if◌then◌else◌}
use Rattle.std.specs.List.{zip}
use Rattle.scheme_model.specs.Included.{LostString}
use Rattle.scheme_model.specs.IncludedUnits.{Placed}
use Rattle.scheme_model.specs.Program.{Prepared, prepared, imports_nothing, SetResult, UnitResult, Program, WholeFault, result_at}
use Rattle.scheme_model.specs.ScopedProgram.{ScopedProgress}
use Rattle.scheme_model.specs.Diagnostics.{Span, Diagnostic, document_of, at_bytes, bytes_of, set_diagnostics, unit_start}
use Rattle.core_tree.specs.Units.{set_errors, set_forms}
use Rattle.unit_imports.specs.declared.expanded.Expanded.{Expanded}
use Rattle.read_documents.specs.declared.findings.Finding.{Finding}
use Rattle.read_documents.specs.declared.heads.Head.{Head}
use Rattle.read_documents.specs.Broken.{told}
use Rattle.unit_results.specs.Came.{so_far}
use Rattle.read_documents.specs.Findings.{Adds}
use Rattle.read_documents.specs.Readings.{Read}
use Rattle.read_documents.specs.Places.{AreHeads, spans_of}
use Rattle.read_documents.specs.UnitFindings.{IsFoundOf}

-- ---- one unit

-- a program so far, which comes to have these units
abbrev pub in_the_end : List UnitResult → Program → Program
in_the_end us p = record { units = us; table = p.table; entry = p.entry }

-- what is found of a unit's import sets, which came to this
abbrev pub AreSetsFound : List Read → List UnitResult → Prepared → List SetResult → List Finding → Type 0
AreSetsFound rs us p sets fs = Adds [] fs (set_diagnostics (bytes_of (spans_of rs) us) (document_of us) p.specs sets) (set_errors (zip (set_forms p.number 0 p.forms) sets))

-- a program without an import is told
abbrev pub no_import_diagnostics : List (List Span) → Prepared → List Diagnostic
no_import_diagnostics spans p = if imports_nothing p then at_bytes (unit_start spans p) 104 [] ∷ [] else []

-- these strings, which mean no text, stand in so many documents
abbrev pub LostIn : (count : ℕ) → List LostString → Type 0
LostIn count ls = (n : ℕ) (l : LostString) → slice_get ls n ≡ Some l → l.document < count

-- ---- all units

-- those of all units do
abbrev pub AreLostIn : (count : ℕ) → List Placed → Type 0
AreLostIn count all = (n : ℕ) (u : Placed) → slice_get all n ≡ Some u → LostIn count u.source.lost

-- these are results of the units, each at its number
abbrev pub AreResultsOf : List Placed → List UnitResult → Type 0
AreResultsOf all us = (n : ℕ) (u : Placed) → slice_get all n ≡ Some u → (r : UnitResult) × (result_at us n ≡ Some r) × (r.unit ≡ prepared all n u)

-- what is found of the units that came so far
abbrev pub HaveFound : List Read → List UnitResult → ScopedProgress → List (Option Expanded) → Type 0
HaveFound rs us g es = (n : ℕ) (e : Expanded) (r : UnitResult) → slice_get es n ≡ Some (Some e) → result_at g.results n ≡ Some r → IsFoundOf rs (in_the_end us (so_far g)) r e.findings.items

-- ---- the whole program

-- what is found of a unit that came, or what breaks one of which nothing came
abbrev pub IsTold : List Read → Program → Head → Option Expanded → UnitResult → Type 0
IsTold rs p h None r = (f : WholeFault) × (h.fault ≡ Some (told f)) × (r.fault ≡ Some f)
IsTold rs p h (Some e) r = IsFoundOf rs p r e.findings.items

-- units with their heads, as they came, are those of a program
pub record AreTold (rs : List Read) (p : Program) (hs : List Head) (es : List (Option Expanded)) : Type 0 where
  pub count : length es ≡ length p.units
  pub heads : AreHeads rs 0 hs p.units
  pub each : (n : ℕ) (h : Head) (e : Option Expanded) (r : UnitResult) → slice_get hs n ≡ Some h → slice_get es n ≡ Some e → slice_get p.units n ≡ Some r → IsTold rs p h e r
