-- The units of one document more are sound in one more, and are listed behind those of the documents before.
use Rattle.std.proofs.Common.{◌≡◌, ◌<◌, ◌+◌, ℕ, List, map, Some, refl, sym, subst, length, slice_get, get_or, take, arith}
use Rattle.std.proofs.lemmas.List.{take_all}
use Rattle.std.proofs.lemmas.Option.{slice_get_read, slice_get-get_or, slice_get_within}
use Rattle.scheme_model.specs.Included.{all_texts}
use Rattle.scheme_model.specs.Includes as model
use Rattle.scheme_model.specs.Includes.{document_at, naming, program_data}
use Rattle.scheme_model.specs.IncludedUnits.{unless_circular, libraries_in, program_in, units_from}
use Rattle.datum_reader.specs.declared.datum.Datum as code
use Rattle.datum_reader.specs.Views.{data_of}
use Rattle.text_parts.specs.declared.parts.TextPart.{TextPart}
use Rattle.read_documents.specs.DataRead.{DataWereRead, AreReadIn, items_in}
use Rattle.document_units.specs.Listing.{CanRead, CanReadAll, IsAt}
use Rattle.document_units.specs.Sound.{IsSound}
use Rattle.document_units.specs.UnitsListed.{AreSoFar, AddsRead}
use Rattle.read_documents.specs.declared.documents.Document.{Document}
use Rattle.document_units.specs.declared.included.Reader.{Reader}
use Rattle.document_units.proofs.SoundLaws.{sound_none, sound_in}
use Rattle.document_units.proofs.ListedDocuments.{none_so_far, document_added}
use Rattle.document_units.proofs.ViewedDocuments.{document_or, items_read}
use Rattle.document_units.proofs.listing.add_documents.Goals as goal

pub loop-place-init : goal.loop-place-init
loop-place-init c = record {
  sound = sound_none _ c.new.ensures.items c.new-2.ensures.items;
  far = λ o reader at many spelled written. none_so_far o.documents spelled _ c.new.ensures.items c.new-2.ensures.items;
}

-- the document at a place
place_got : (cs : List Document) (k : ℕ) (d : Document) → k < length cs → d ≡ get_or cs k d → slice_get cs k ≡ Some d
place_got cs k d low is = slice_get_read cs (length cs) k d refl low is

read_at : (cs : List Document) (k : ℕ) (d : Document) (items : List code.Datum) → AreReadIn cs → slice_get cs k ≡ Some d → items ≡ items_in d → DataWereRead items
read_at cs k d items read there is = subst DataWereRead (sym is) (items_read d (read k d there))

can_read : (r : Reader) (cs : List Document) (ps : List TextPart) (k number : ℕ) (d : Document) (p : TextPart) (items : List code.Datum) → number ≡ k → CanReadAll r cs ps → slice_get cs k ≡ Some d → slice_get ps k ≡ Some p → items ≡ items_in d → CanRead r number items p
can_read r cs ps k number d p items same can there at is =
    let low : k < length cs = slice_get_within cs k d there in
    let many = can.many in
    record {
      sources = can.sources;
      reader = can.reader;
      at = subst (λ n. IsAt can.sources n items p) (sym same) (subst (λ (xs : List code.Datum). IsAt can.sources k xs p) (sym is) (can.at k d p there at));
      below = omega arith;
    }

pub add_libraries-requires-clause-units : goal.add_libraries-requires-clause-units
add_libraries-requires-clause-units c = let same = c.in_ok-number.ensures in sound_in c.loop-place.place (c.in_ok-number.number + 1) c.loop-place.units (omega arith) c.loop-place.invariant.sound

pub add_libraries-requires-clause-read : goal.add_libraries-requires-clause-read
add_libraries-requires-clause-read c =
    let d = c.index-documents-place.result in
    read_at c.args.documents.now c.loop-place.place d _ c.requires.read (place_got c.args.documents.now c.loop-place.place d (omega arith) c.index-documents-place.is) c.items_in-items.ensures

pub add_libraries-requires-clause-can : goal.add_libraries-requires-clause-can
add_libraries-requires-clause-can c =
    let cs = c.args.documents.now in
    let ps = c.args.parts.now in
    let k = c.loop-place.place in
    let d = c.index-documents-place.result in
    let low : k < length ps = (let many = c.requires.parts in omega arith) in
    can_read c.args.reader.now cs ps k c.in_ok-number.number d _ _ c.in_ok-number.ensures c.requires.can (place_got cs k d (omega arith) c.index-documents-place.is) (slice_get-get_or ps k _ low) c.items_in-items.ensures

pub add_program-requires-clause-can : goal.add_program-requires-clause-can
add_program-requires-clause-can c =
    let cs = c.args.documents.now in
    let ps = c.args.parts.now in
    let k = c.loop-place.place in
    let d = c.index-documents-place.result in
    let low : k < length ps = (let many = c.requires.parts in omega arith) in
    can_read c.args.reader.now cs ps k c.in_ok-number.number d _ _ c.in_ok-number.ensures c.requires.can (place_got cs k d (omega arith) c.index-documents-place.is) (slice_get-get_or ps k _ low) c.items_in-items.ensures

pub loop-place-preserved : goal.loop-place-preserved
loop-place-preserved c =
    let l = c.loop-place in
    let cs = c.args.documents.now in
    let ps = c.args.parts.now in
    let k = l.place in
    let n = c.in_ok-number.number in
    let d = c.index-documents-place.result in
    let same : n ≡ k = c.in_ok-number.ensures in
    let low : k < length ps = (let many = c.requires.parts in omega arith) in
    let there = place_got cs k d (omega arith) c.index-documents-place.is in
    record {
      sound = subst (λ m. IsSound (m + 1) c.add_program.new.units) same c.in_ok-add_program.ensures.sound;
      far = λ o reader at many spelled written.
          let ds = o.documents in
          let b = document_at ds k in
          let below : k < length ds = omega arith in
          let p = get_or ps k _ in
          let xs = c.items_in-items.result.now in
          let is : xs ≡ items_in d = c.items_in-items.ensures in
          let here : IsAt o k xs p = subst (λ (ys : List code.Datum). IsAt o k ys p) (sym is) (at k d p there (slice_get-get_or ps k _ low)) in
          let numbered : IsAt o n xs p = subst (λ m. IsAt o m xs p) (sym same) here in
          let libraries = subst (λ m. AddsRead ds m (map (unless_circular p.on_circle) (libraries_in (all_texts o) o.known m (data_of xs))) l.units c.add_libraries.new.units) same (c.in_ok-add_libraries.ensures.added o reader numbered) in
          let program = subst (λ m. AddsRead ds m (map (unless_circular p.on_circle) (program_in (all_texts o) m p.is_part (program_data (data_of xs)))) c.add_libraries.new.units c.add_program.new.units) same (c.in_ok-add_program.ensures.added o reader numbered) in
          document_added (all_texts o) o.known (naming ds) ds spelled ds k b p.on_circle p.is_part (data_of xs) l.units c.add_libraries.new.units c.add_program.new.units written below (document_or ds k b below) here.part.circle here.part.part here.here libraries program
          (l.invariant.far o reader at many spelled written);
    }

pub returns-clause-sound : goal.returns-clause-sound
returns-clause-sound c = let same : c.loop-place.place ≡ length c.args.documents.now = omega arith in subst (λ n. IsSound n c.loop-place.units) same c.loop-place.invariant.sound

pub returns-clause-listed : goal.returns-clause-listed
returns-clause-listed c = λ o reader at many spelled written.
    let all : take c.loop-place.place o.documents ≡ o.documents = take_all c.loop-place.place o.documents (omega arith) in
    subst (λ (ds : List model.Document). AreSoFar o.documents spelled (units_from (all_texts o) o.known (naming o.documents) 0 ds) c.loop-place.units) all (c.loop-place.invariant.far o reader at many spelled written)
