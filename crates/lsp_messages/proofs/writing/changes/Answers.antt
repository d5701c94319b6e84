use Rattle.std.proofs.Common.{◌≡◌, ◌+◌, [], ◌∷◌, ◌++◌, drop, refl, sym, ap, ◌∙◌, subst, arith}
use Rattle.std.proofs.lemmas.List.{drop_more, drop_all}
use Rattle.serde_json.specs.Data.{no_members, object}
use Rattle.serde_json.specs.Written.{compact_text}
use Rattle.lsp_messages.specs.Replies.{with_documents, list_json, text_edit_json}
use Rattle.lsp_messages.specs.Written.{IsReadable, HoldTexts}
use Rattle.lsp_messages.proofs.Documents.{documents_step, IsReadable-documents}
use Rattle.lsp_messages.proofs.writing.changes.Goals as goal

pub loop-document-init : goal.loop-document-init
loop-document-init c = (no_members, subst (λ es. HoldTexts es no_members) (sym c.new-documents.ensures.empty) tt, refl, c.new-documents.ensures.ordered)

pub loop-document-preserved : goal.loop-document-preserved
loop-document-preserved c =
    let l = c.loop-document in
    let all = c.args.edits.now in
    let d = c.document-item.result in
    let rest = drop (l.document-index + 1) all in
    let here : drop l.document-index all ≡ d ∷ rest = drop_more all l.document-index d (omega arith) ∙ ap (λ y. y ∷ rest) (sym c.document-item.is) in
    let edits = c.as_slice.result.now in
    let written = c.in_ok-write_list.ensures in
    documents_step d _ rest all l.documents.entries c.insert.new.self.entries l.invariant.0 c.in_ok-uri.uri c.write_list.new.text edits here (c.in_ok-uri.ensures.ok ∙ c.as_str.ensures) c.as_slice.ensures
    (written.appended ∙ ap (λ s. s ++ compact_text (list_json text_edit_json edits)) c.new-list.ensures.bytes) written.readable c.in_ok-insert.ensures.entries l.invariant.1 l.invariant.2 c.insert.ensures.ordered

pub returns-clause-readable : goal.returns-clause-readable
returns-clause-readable c =
    let l = c.loop-document in
    let over : drop l.document-index c.args.edits.now ≡ [] = drop_all l.document-index c.args.edits.now (omega arith) in
    let same : l.invariant.0 ≡ with_documents no_members c.args.edits.now = ap (with_documents l.invariant.0) (sym over) ∙ l.invariant.2 in
    subst (λ ms. IsReadable (object ms)) same (IsReadable-documents l.documents.entries l.invariant.0 l.invariant.1 l.invariant.3)
