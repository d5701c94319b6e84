-- Documents that are opened are those that their texts are.
use Rattle.std.proofs.Common.{◌≡◌, ℕ, List, map, length, sym, ap, ◌∙◌, subst}
use Rattle.std.specs.Prelude.{not}
use Rattle.std.specs.Option.{is_some}
use Rattle.std.proofs.lemmas.List.{length-map}
use Rattle.scheme_model.specs.Includes.{Document as ModelDocument}
use Rattle.datum_reader.specs.Views.{data_of}
use Rattle.text_parts.specs.Parts.{IsTextPart}
use Rattle.text_parts.specs.Places.{Each}
use Rattle.text_parts.specs.declared.parts.TextPart.{TextPart}
use Rattle.text_parts.specs.declared.texts.TextRead.{TextRead}
use Rattle.read_documents.specs.declared.documents.Document.{Document}
use Rattle.document_units.proofs.ViewedDocuments.{alike_length, opened_viewed}
use Rattle.document_changes.proofs.PartMarks.{marks_are}
use Rattle.document_changes.proofs.parts.parts_of.Goals as goal

pub text_parts-requires : goal.text_parts-requires
text_parts-requires c =
    let cs = c.args.documents.now in
    ap (λ (vs : List TextRead). length vs) c.as_slice.ensures.value
    ∙ (alike_length (λ (v : TextRead). v.reads) (λ (d : Document). not (is_some d.fault)) c.in_ok-views.views.items cs c.in_ok-views.ensures.reads
    ∙ (sym (length-map cs (λ (d : Document). d.uri)) ∙ ap (λ (us : List (List ℕ)). length us) (sym c.in_ok-uris.ensures)))

pub returns : goal.returns
returns c = λ ds opened.
    let cs = c.args.documents.now in
    let vs = c.as_slice.result.now in
    let ps = c.in_ok-parts.parts.documents.items in
    let have = ap (λ (xs : List TextRead). map (λ (v : TextRead). data_of v.«data».now) xs) c.as_slice.ensures.value ∙ c.in_ok-views.ensures.data in
    let reads = ap (λ (xs : List TextRead). map (λ (v : TextRead). v.reads) xs) c.as_slice.ensures.value ∙ c.in_ok-views.ensures.reads in
    let same = opened_viewed c.in_ok-uris.uris vs ds cs c.in_ok-uris.ensures have reads opened in
    let long : length ps ≡ length ds =
    c.in_ok-parts.ensures.size ∙ (alike_length (λ (v : TextRead). v.reads) (λ (d : Document). not (is_some d.fault)) vs cs reads
    ∙ sym (alike_length (λ (d : ModelDocument). is_some d.read) (λ (d : Document). not (is_some d.fault)) ds cs opened.read)) in
    c.in_ok-marks_of.ensures ∙ ap (λ (xs : List TextPart). map (λ (p : TextPart). p.is_part) xs) c.as_slice-2.ensures.value
    ∙ marks_are ds ps (subst (λ (xs : List ModelDocument). Each (IsTextPart xs) ps) same c.in_ok-parts.ensures.documents) long
