-- What is found of a definition that hides an import (R7RS 5.2).
use Rattle.std.specs.Prelude.{ℕ, List, [], ◌∷◌, Bool, true, false, Option, Some, None}
use Rattle.std.specs.Option.{is_some}
use Rattle.scheme_model.specs.declared.Occ.{Occ}
use Rattle.scheme_model.specs.Diagnostics.{Bytes, or_start}
use Rattle.core_tree.specs.declared.units.UnitForm.{UnitForm}
use Rattle.read_documents.specs.declared.findings.Finding.{Finding}
use Rattle.scheme_model.specs.DiagnosticTexts.{worded}
use Rattle.read_documents.specs.Findings.{at_of}

-- the finding of a definition that hides this name, where it hides one
abbrev pub hidden_found : (Occ → Bytes) → (unit form : ℕ) → Option Occ → Option (List ℕ) → List Finding
hidden_found bytes unit form occ None = []
hidden_found bytes unit form occ (Some s) = record { at = Some (at_of (bytes (or_start unit form occ))); form = form; code = 101; message = worded 101 s } ∷ []

-- a form, where there is one, has a fault
abbrev pub has_fault : Option UnitForm → Bool
has_fault None = false
has_fault (Some c) = is_some c.fault

-- a form with a fault shows that alone
abbrev pub unless_broken : Bool → List Finding → List Finding
unless_broken true fs = []
unless_broken false fs = fs
