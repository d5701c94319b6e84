-- Each list is as long as the texts are many, and tells of the documents that they are.
use Rattle.std.proofs.Common.{List, length, sym, ap, ◌∙◌, subst}
use Rattle.std.specs.Prelude.{Bool}
use Rattle.scheme_model.specs.Includes.{naming}
use Rattle.text_parts.specs.Documents.{documents_in}
use Rattle.text_parts.specs.Marks.{Rows}
use Rattle.text_parts.specs.Parts.{IsReach, IsTextPart}
use Rattle.text_parts.specs.Places.{Each}
use Rattle.text_parts.specs.Programs.{IsProgramPlace}
use Rattle.text_parts.proofs.NameLaws.{length_documents, length_naming}
use Rattle.text_parts.proofs.parts.text_parts.Goals as goal

pub documents-requires-clause-reaches : goal.documents-requires-clause-reaches
documents-requires-clause-reaches c =
    let ds = documents_in c.args.uris.now c.args.texts.now in
    ap length c.as_slice-3.ensures.value ∙ c.in_ok-reaches.ensures.size ∙ ap length c.as_slice.ensures.value ∙ c.in_ok-rows.ensures.size ∙ length_naming ds ∙ length_documents c.args.uris.now c.args.texts.now

pub in_order-requires : goal.in_order-requires
in_order-requires c =
    let ds = documents_in c.args.uris.now c.args.texts.now in
    ap length c.as_slice-6.ensures.value ∙ c.in_ok-reaches.ensures.size ∙ ap length c.as_slice.ensures.value ∙ c.in_ok-rows.ensures.size ∙ length_naming ds ∙ length_documents c.args.uris.now c.args.texts.now
    ∙ sym (ap length c.as_slice-5.ensures.value ∙ c.in_ok-documents.ensures.size)

pub returns-clause-documents : goal.returns-clause-documents
returns-clause-documents c =
    let ds = documents_in c.args.uris.now c.args.texts.now in
    let reached = c.in_ok-reaches.ensures.each (naming ds) (subst (λ (rs : List (List Bool)). Rows rs (naming ds)) (sym c.as_slice.ensures.value) c.in_ok-rows.ensures) in
    c.in_ok-documents.ensures.each c.args.uris.now (subst (λ (rs : List (List Bool)). Rows rs (naming ds)) (sym c.as_slice-2.ensures.value) c.in_ok-rows.ensures)
    (subst (Each (IsReach (naming ds))) (sym c.as_slice-3.ensures.value) reached) (subst (Each (IsProgramPlace ds)) (sym c.as_slice-4.ensures.value) (c.in_ok-programs.ensures.each c.args.uris.now))

pub returns-clause-order : goal.returns-clause-order
returns-clause-order c =
    let ds = documents_in c.args.uris.now c.args.texts.now in
    let reached = c.in_ok-reaches.ensures.each (naming ds) (subst (λ (rs : List (List Bool)). Rows rs (naming ds)) (sym c.as_slice.ensures.value) c.in_ok-rows.ensures) in
    let told = c.in_ok-documents.ensures.each c.args.uris.now (subst (λ (rs : List (List Bool)). Rows rs (naming ds)) (sym c.as_slice-2.ensures.value) c.in_ok-rows.ensures)
    (subst (Each (IsReach (naming ds))) (sym c.as_slice-3.ensures.value) reached) (subst (Each (IsProgramPlace ds)) (sym c.as_slice-4.ensures.value) (c.in_ok-programs.ensures.each c.args.uris.now)) in
    c.in_ok-order.ensures ds (ap length c.as_slice-5.ensures.value ∙ c.in_ok-documents.ensures.size ∙ sym (length_documents c.args.uris.now c.args.texts.now))
    (subst (Each (IsTextPart ds)) (sym c.as_slice-5.ensures.value) told) (subst (Each (IsReach (naming ds))) (sym c.as_slice-6.ensures.value) reached)
