use Rattle.std.proofs.Common.{◌≡◌, ℕ, List, Option, map, sym, ap, ◌∙◌, subst}
use Rattle.std.specs.BTreeMap.{get}
use Rattle.std.specs.FinMap.{entries}
use Rattle.std.specs.Ordering.{nat_cmp}
use Rattle.ls_base.specs.declared.places.Span.{Span}
use Rattle.scheme_model.specs.declared.Occ.{Occ}
use Rattle.read_documents.specs.Readings.{IsReadAs, program_in, span_seen}
use Rattle.text_edits.specs.Members.{Identifier, identifiers_of, name_at}
use Rattle.text_edits.specs.NewNames.{edits_of}
use Rattle.text_edits.specs.Views.{CanEdit, occ_cmp}
use Rattle.class_edits.proofs.IdentifierLaws.{by_names, identifiers_are}
use Rattle.class_edits.proofs.SpanLaws.{can_make, spans_are}
use Rattle.class_edits.proofs.edits.document_edits.Goals as goal

pub returns-clause-exact : goal.returns-clause-exact
returns-clause-exact c = λ rs are.
    let ds = entries c.args.texts.now in
    let document = c.args.document in
    let name : Occ → Option (List ℕ) = λ o. get occ_cmp c.args.members.now o in
    let us = (program_in rs).units in
    let names : ℕ → Option (List ℕ) = λ n. get nat_cmp c.in_ok-names.names n in
    let same : (n : ℕ) → names n ≡ name_at name (identifiers_of document us) n = λ n. c.in_ok-names.ensures n ∙ ap (λ (is : List Identifier). name_at name is n) (identifiers_are rs document 0 c.places.result.heads.now us (c.places.ensures.exact rs are).heads) in
    let spans = c.document.result.now.spans.items in
    c.in_ok-edits.ensures.exact
    ∙ ap (λ (ss : List Span). edits_of names c.text.result.now (map span_seen ss)) c.as_slice-spans.ensures.value
    ∙ by_names names (name_at name (identifiers_of document us)) same c.text.result.now (map span_seen spans)
    ∙ (λ j. edits_of (name_at name (identifiers_of document us)) (c.text.ensures j) (spans_are ds rs document c.document.result.now are c.requires c.document.ensures j))

pub returns-clause-made : goal.returns-clause-made
returns-clause-made c =
    let document = c.document.result.now in
    let text = c.text.result.now in
    let told = c.document.ensures in
    let names : ℕ → Option (List ℕ) = λ n. get nat_cmp c.in_ok-names.names n in
    subst (λ (t : List ℕ). CanEdit t c.in_ok-edits.edits) c.text.ensures
    (can_make text document told.read (subst (λ (t : List ℕ). IsReadAs t told.read) (sym c.text.ensures) told.is_read) told.so c.text.utf8 names c.in_ok-edits.edits (c.in_ok-edits.ensures.exact ∙ ap (λ (ss : List Span). edits_of names text (map span_seen ss)) c.as_slice-spans.ensures.value)
    (λ ts reads same. c.in_ok-edits.ensures.made ts reads (ap (map span_seen) c.as_slice-spans.ensures.value ∙ same)))
