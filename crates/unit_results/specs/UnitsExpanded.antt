-- What units came to, as far as it is sure whatever the units are.
use Rattle.std.specs.Prelude.{◌≡◌, ℕ, List, slice_get, Option, Some}
use Rattle.unit_imports.specs.declared.expanded.Expanded.{Expanded}
use Rattle.read_documents.specs.Places.{AreFoundIn}

-- what is found in each stands in so many documents
abbrev pub AreAllFound : (count : ℕ) → List (Option Expanded) → Type 0
AreAllFound count all = (n : ℕ) (e : Expanded) → slice_get all n ≡ Some (Some e) → AreFoundIn count e.findings.items
