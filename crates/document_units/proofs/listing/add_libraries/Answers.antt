-- Each library among the data was read, and is added.
use Rattle.std.proofs.Common.{List, [], ◌∷◌, take, length, map, refl, sym, subst}
use Rattle.std.proofs.lemmas.List.{take_all}
use Rattle.std.proofs.lemmas.Option.{slice_get_read}
use Rattle.scheme_model.specs.Data as model
use Rattle.scheme_model.specs.Included.{all_texts}
use Rattle.scheme_model.specs.IncludedUnits.{UnitSource, unless_circular, libraries_in}
use Rattle.datum_reader.specs.declared.datum.Datum.{Datum}
use Rattle.datum_reader.specs.Views.{datum_of, data_of}
use Rattle.document_units.specs.Listing.{IsOneOf}
use Rattle.document_units.specs.UnitsListed.{AddsRead}
use Rattle.document_units.proofs.ListedUnits.{nothing_added, added_more}
use Rattle.document_units.proofs.ListedDocuments.{libraries_more}
use Rattle.document_units.proofs.UnitStarts.{one_at}
use Rattle.document_units.proofs.listing.add_libraries.Goals as goal

pub loop-datum-init : goal.loop-datum-init
loop-datum-init c = record { sound = c.requires.units; added = λ o reader at. nothing_added o.documents c.args.document c.args.units.now }

pub add_library-requires-clause-units : goal.add_library-requires-clause-units
add_library-requires-clause-units c = c.loop-datum.invariant.sound

pub add_library-requires-clause-read : goal.add_library-requires-clause-read
add_library-requires-clause-read c =
    c.requires.read c.loop-datum.datum-index c.datum-item.result
    (slice_get_read c.args.items.now (length c.args.items.now) c.loop-datum.datum-index c.datum-item.result refl c.loop-datum-test.true c.datum-item.is)

pub add_library-requires-clause-can : goal.add_library-requires-clause-can
add_library-requires-clause-can c = record { sources = c.requires.can.sources; reader = c.requires.can.reader; below = c.requires.can.below }

pub loop-datum-preserved : goal.loop-datum-preserved
loop-datum-preserved c =
    let l = c.loop-datum in
    let n = c.args.document in
    let b = c.args.part.on_circle in
    record {
      sound = c.in_ok-add_library.ensures.sound;
      added = λ o reader at.
          let t = all_texts o in
          let there = subst (λ (ds : List model.Datum). IsOneOf ds (datum_of c.datum-item.result)) (sym at.here)
          (one_at c.args.items.now l.datum-index c.datum-item.result (slice_get_read c.args.items.now (length c.args.items.now) l.datum-index c.datum-item.result refl c.loop-datum-test.true c.datum-item.is)) in
          subst (λ (us : List UnitSource). AddsRead o.documents n us c.args.units.now c.add_library.new.units) (libraries_more t o.known n b c.args.items.now l.datum-index c.datum-item.result c.loop-datum-test.true c.datum-item.is)
          (added_more o.documents n (map (unless_circular b) (libraries_in t o.known n (data_of (take l.datum-index c.args.items.now)))) (map (unless_circular b) (libraries_in t o.known n (datum_of c.datum-item.result ∷ [])))
          c.args.units.now l.units c.add_library.new.units (l.invariant.added o reader at) (c.in_ok-add_library.ensures.added o reader there));
    }

pub returns-clause-sound : goal.returns-clause-sound
returns-clause-sound c = c.loop-datum.invariant.sound

pub returns-clause-added : goal.returns-clause-added
returns-clause-added c = λ o reader at.
    subst (λ (ds : List Datum). AddsRead o.documents c.args.document (map (unless_circular c.args.part.on_circle) (libraries_in (all_texts o) o.known c.args.document (data_of ds))) c.args.units.now c.loop-datum.units)
    (take_all c.loop-datum.datum-index c.args.items.now c.loop-datum-test.false) (c.loop-datum.invariant.added o reader at)
