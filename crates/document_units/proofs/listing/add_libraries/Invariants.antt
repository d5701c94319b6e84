use Rattle.std.proofs.Common.{◌+◌, map, take}
use Rattle.scheme_model.specs.Included.{Sources, all_texts}
use Rattle.scheme_model.specs.IncludedUnits.{unless_circular, libraries_in}
use Rattle.datum_reader.specs.Views.{data_of}
use Rattle.document_units.specs.Listing.{IsReader, IsAt}
use Rattle.document_units.specs.Sound.{IsSound}
use Rattle.document_units.specs.UnitsListed.{AddsRead}
use Rattle.document_units.proofs.listing.add_libraries.Given as goal

-- the libraries among the data gone through were added
abbrev pub invariant-loop-datum : goal.invariant-loop-datum
invariant-loop-datum l = record {
  sound : IsSound (l.document + 1) l.units;
  added : (o : Sources) → IsReader o l.reader → IsAt o l.document l.items l.part →
      AddsRead o.documents l.document (map (unless_circular l.part.on_circle) (libraries_in (all_texts o) o.known l.document (data_of (take l.datum-index l.items)))) l.fn.units l.units;
}
