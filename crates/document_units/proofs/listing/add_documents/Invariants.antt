use Rattle.std.proofs.Common.{◌≡◌, ℕ, List, take, length}
use Rattle.scheme_model.specs.Included.{Sources, all_texts}
use Rattle.scheme_model.specs.IncludedUnits.{units_from}
use Rattle.scheme_model.specs.Includes.{naming}
use Rattle.scheme_model.specs.Requirements.{LibraryName}
use Rattle.document_units.specs.Listing.{IsReader, AreAt}
use Rattle.document_units.specs.Sound.{IsSound}
use Rattle.document_units.specs.UnitsListed.{AreSoFar, WritesProper}
use Rattle.document_units.proofs.listing.add_documents.Given as goal

-- the units of the documents gone through
abbrev pub invariant-loop-place : goal.invariant-loop-place
invariant-loop-place l = record {
  sound : IsSound l.place l.units;
  far : (o : Sources) → IsReader o l.reader → AreAt o l.documents l.parts → length o.documents ≡ length l.documents → (spelled : LibraryName → List ℕ) → WritesProper spelled →
      AreSoFar o.documents spelled (units_from (all_texts o) o.known (naming o.documents) 0 (take l.place o.documents)) l.units;
}
