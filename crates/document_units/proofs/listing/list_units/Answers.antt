-- The documents are read by what they are to one another.
use Rattle.std.proofs.Common.{map, length, Result, Ok, Err, sym, ap, ◌∙◌, subst}
use Rattle.std.specs.Prelude.{IfOk, not}
use Rattle.std.specs.Option.{is_some}
use Rattle.std.proofs.lemmas.List.{length-map}
use Rattle.text_parts.specs.declared.parts.TextPart.{TextPart}
use Rattle.text_parts.specs.declared.texts.TextRead.{TextRead}
use Rattle.included_forms.specs.declared.tables.Text.{Text}
use Rattle.datum_reader.specs.Views.{data_of}
use Rattle.scheme_model.specs.Program.{units_of}
use Rattle.read_documents.specs.DataRead.{items_in}
use Rattle.document_units.specs.Listing.{sources_of, AreAt, CanReadAll}
use Rattle.document_units.specs.UnitsListed.{AreSoFar, AreUnitsListed}
use Rattle.read_documents.specs.declared.documents.Document.{Document}
use Rattle.document_units.proofs.ListedUnits.{all_listed}
use Rattle.document_units.proofs.ViewedDocuments.{alike_length}
use Rattle.document_units.proofs.ReaderLaws.{can_read_all, reads_opened, parts_opened, as_many_opened}
use Rattle.document_units.proofs.listing.list_units.Goals as goal

if_ok : {A E : Type 0} (P Q : A → Type 0) (r : Result A E) → ((a : A) → P a → Q a) → IfOk r P → IfOk r Q
if_ok P Q (Ok a) f h = f a h
if_ok P Q (Err e) f h = tt

pub texts_of-requires : goal.texts_of-requires
texts_of-requires c =
    ap length c.as_slice-2.ensures.value ∙ c.in_ok-parts.ensures.size
    ∙ alike_length (λ (t : TextRead). t.reads) (λ (d : Document). not (is_some d.fault)) c.as_slice.result.now c.args.documents.now (ap (map (λ (t : TextRead). t.reads)) c.as_slice.ensures.value ∙ c.in_ok-views.ensures.reads)

pub reader_of-requires : goal.reader_of-requires
reader_of-requires c =
    let many = alike_length (λ (t : Text). data_of t.«data».now) (λ (d : Document). data_of (items_in d)) c.as_slice-3.result.now c.args.documents.now (ap (map (λ (t : Text). data_of t.«data».now)) c.as_slice-3.ensures.value ∙ c.in_ok-texts.ensures.«data») in
    many ∙ sym (ap length c.in_ok-uris.ensures ∙ length-map c.args.documents.now (λ (d : Document). d.uri))

pub add_documents-requires-clause-parts : goal.add_documents-requires-clause-parts
add_documents-requires-clause-parts c =
    ap length c.as_slice-4.ensures.value ∙ c.in_ok-parts.ensures.size
    ∙ alike_length (λ (t : TextRead). t.reads) (λ (d : Document). not (is_some d.fault)) c.as_slice.result.now c.args.documents.now (ap (map (λ (t : TextRead). t.reads)) c.as_slice.ensures.value ∙ c.in_ok-views.ensures.reads)

pub add_documents-requires-clause-can : goal.add_documents-requires-clause-can
add_documents-requires-clause-can c =
    let viewed = ap (map (λ (t : TextRead). data_of t.«data».now)) c.as_slice.ensures.value ∙ c.in_ok-views.ensures.«data» in
    let reads = ap (map (λ (t : TextRead). t.reads)) c.as_slice.ensures.value ∙ c.in_ok-views.ensures.reads in
    let told = ap (map (λ (t : Text). data_of t.«data».now)) c.as_slice-3.ensures.value ∙ c.in_ok-texts.ensures.«data» in
    let units = ap (map (λ (t : Text). t.unit)) c.as_slice-3.ensures.value ∙ c.in_ok-texts.ensures.units ∙ ap (map (λ (p : TextPart). p.program)) c.as_slice-2.ensures.value in
    subst (CanReadAll c.in_ok-reader.reader c.args.documents.now) (sym c.as_slice-4.ensures.value)
    (can_read_all c.args.known.now.names c.in_ok-uris.uris c.as_slice.result.now c.args.documents.now c.in_ok-parts.parts.documents.items c.in_ok-uris.ensures viewed reads c.in_ok-parts.ensures.size c.in_ok-parts.ensures.documents c.requires
    c.as_slice-3.result.now told units c.in_ok-reader.reader c.in_ok-reader.ensures.reader c.in_ok-reader.ensures.uris)

pub returns-clause-listed : goal.returns-clause-listed
returns-clause-listed c = λ ds are knows spelled written.
    let names = c.args.known.now.names in
    let uris = c.in_ok-uris.uris in
    let vs = c.as_slice.result.now in
    let cs = c.args.documents.now in
    let ps = c.in_ok-parts.parts.documents.items in
    let xs = c.as_slice-3.result.now in
    let reader = c.in_ok-reader.reader in
    let viewed = ap (map (λ (t : TextRead). data_of t.«data».now)) c.as_slice.ensures.value ∙ c.in_ok-views.ensures.«data» in
    let reads = ap (map (λ (t : TextRead). t.reads)) c.as_slice.ensures.value ∙ c.in_ok-views.ensures.reads in
    let told = ap (map (λ (t : Text). data_of t.«data».now)) c.as_slice-3.ensures.value ∙ c.in_ok-texts.ensures.«data» in
    let units = ap (map (λ (t : Text). t.unit)) c.as_slice-3.ensures.value ∙ c.in_ok-texts.ensures.units ∙ ap (map (λ (p : TextPart). p.program)) c.as_slice-2.ensures.value in
    let size = c.in_ok-parts.ensures.size in
    let parts = c.in_ok-parts.ensures.documents in
    let by = c.in_ok-reader.ensures.reader in
    let same = c.in_ok-reader.ensures.uris in
    let read = reads_opened names uris vs cs ps c.in_ok-uris.ensures viewed reads size parts c.requires xs told units reader by same ds are knows in
    let at = parts_opened names uris vs cs ps c.in_ok-uris.ensures viewed reads size parts c.requires xs told units reader by same ds are in
    let many = as_many_opened names uris vs cs ps c.in_ok-uris.ensures viewed reads size parts c.requires xs told units reader by same ds are in
    if_ok (AreSoFar ds spelled (units_of ds)) (AreUnitsListed spelled ds) c.add_documents.result (λ u far. all_listed spelled ds u far)
    (c.add_documents.ensures.listed (sources_of ds) read (subst (AreAt (sources_of ds) cs) (sym c.as_slice-4.ensures.value) at) many spelled written)
