-- The lines of a document are those of its text, and its list is put in behind those before.
use Rattle.std.proofs.Common.{◌≡◌, ◌<◌, ◌≤◌, ◌∙◌, ℕ, List, refl, Some, subst, sym, ap, length, take, arith, add-one}
use Rattle.std.proofs.lemmas.Option.{slice_get_read}
use Rattle.std.specs.FinMap.{entries}
use Rattle.document_store.specs.Texts.{Texts, text_at}
use Rattle.read_documents.specs.Listed.{lists_told}
use Rattle.program_answers.specs.Updates.{entries_shown}
use Rattle.read_documents.proofs.Nths.{take_all}
use Rattle.program_answers.proofs.TextLaws.{as_many, lines_in}
use Rattle.program_answers.proofs.ListLaws.{one_listed, lists_are}
use Rattle.program_answers.proofs.lists.lists.Goals as goal

pub list-requires : goal.list-requires
list-requires c =
    let below : c.loop-place.place < length c.documents-documents.result.now = omega arith in
    lines_in c.args.opened.now c.documents-documents.result.now c.documents-documents.ensures c.loop-place.place c.index-documents-place.result
    (slice_get_read c.documents-documents.result.now (length c.documents-documents.result.now) c.loop-place.place c.index-documents-place.result refl below c.index-documents-place.is)
    c.text_in-text.result.now (subst (λ (t : Texts). (x : List ℕ) → text_at t c.index-documents-place.result.uri ≡ Some x → c.text_in-text.result.now ≡ x) c.store-store.ensures c.text_in-text.ensures)

pub bounds-findings-place : goal.bounds-findings-place
bounds-findings-place c =
    let many = as_many (entries c.args.opened.now) c.documents-documents.result.now c.documents-documents.ensures in
    omega (arith, c.requires)

pub loop-place-preserved : goal.loop-place-preserved
loop-place-preserved c =
    let n = c.loop-place.place in
    let documents = c.documents-documents.result.now in
    let findings = c.args.findings.now in
    let many = as_many (entries c.args.opened.now) documents c.documents-documents.ensures in
    let below : n < length documents = omega arith in
    let within : n < length findings = omega (arith, c.requires) in
    let next = one_listed c.args.encoding c.args.opened.now documents c.documents-documents.ensures findings n c.index-documents-place.result c.index-findings-place.result c.text_in-text.result.now
    (slice_get_read documents (length documents) n c.index-documents-place.result refl below c.index-documents-place.is)
    (slice_get_read findings (length findings) n c.index-findings-place.result refl within c.index-findings-place.is)
    (subst (λ (t : Texts). (x : List ℕ) → text_at t c.index-documents-place.result.uri ≡ Some x → c.text_in-text.result.now ≡ x) c.store-store.ensures c.text_in-text.ensures)
    c.loop-place.lists c.insert.new.self c.in_ok-from_str.field-0 c.in_ok-list.list (c.in_ok-from_str.ensures.ok ∙ c.as_str.ensures) c.in_ok-list.ensures c.in_ok-insert.ensures.entries c.loop-place.invariant in
    subst (λ k. entries_shown c.insert.new.self ≡ lists_told c.args.encoding (take k (entries c.args.opened.now)) findings) (sym (add-one n)) next

pub returns-clause-told : goal.returns-clause-told
returns-clause-told c =
    let many = as_many (entries c.args.opened.now) c.documents-documents.result.now c.documents-documents.ensures in
    let over : length (entries c.args.opened.now) ≤ c.loop-place.place = omega arith in
    c.loop-place.invariant ∙ ap (λ ds. lists_told c.args.encoding ds c.args.findings.now) (take_all (entries c.args.opened.now) c.loop-place.place over)

pub returns-clause-listed : goal.returns-clause-listed
returns-clause-listed c = λ rs are found.
    let many = as_many (entries c.args.opened.now) c.documents-documents.result.now c.documents-documents.ensures in
    let over : length (entries c.args.opened.now) ≤ c.loop-place.place = omega arith in
    c.loop-place.invariant ∙ ap (λ ds. lists_told c.args.encoding ds c.args.findings.now) (take_all (entries c.args.opened.now) c.loop-place.place over)
    ∙ lists_are c.args.encoding (entries c.args.opened.now) rs c.args.findings.now are c.requires found
