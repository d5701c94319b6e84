-- The first document with a fault is the first that stops.
use Rattle.std.proofs.Common.{◌≡◌, Some, sym, ap, ◌∙◌, refl, length, slice_get, add-one}
use Rattle.std.proofs.lemmas.Option.{slice_get_read}
use Rattle.read_documents.proofs.UnreadLaws.{goes_on, is_first, none_is}
use Rattle.read_documents.proofs.documents.first_unread.Goals as goal

pub loop-document-init : goal.loop-document-init
loop-document-init c = λ ds rs are read. refl

pub loop-document-preserved : goal.loop-document-preserved
loop-document-preserved c = λ ds rs are read.
    let at : slice_get c.args.documents.now c.loop-document.document-index ≡ Some c.document-item.result =
    slice_get_read c.args.documents.now (length c.args.documents.now) c.loop-document.document-index c.document-item.result refl c.loop-document-test.true c.document-item.is in
    c.loop-document.invariant ds rs are read ∙ rw add-one (goes_on ds c.args.documents.now rs c.loop-document.document-index c.document-item.result are read at (sym c.is_some.ensures ∙ c.if-is_some.false))

pub returns-then-is_some : goal.returns-then-is_some
returns-then-is_some c = λ ds rs are read.
    let at : slice_get c.args.documents.now c.loop-document.document-index ≡ Some c.document-item.result =
    slice_get_read c.args.documents.now (length c.args.documents.now) c.loop-document.document-index c.document-item.result refl c.loop-document-test.true c.document-item.is in
    ap Some c.as_str.ensures ∙ is_first ds c.args.documents.now rs c.loop-document.document-index c.document-item.result are read at (sym c.is_some.ensures ∙ c.if-is_some.true)
    ∙ sym (c.loop-document.invariant ds rs are read)

pub returns : goal.returns
returns c = λ ds rs are read.
    none_is ds c.args.documents.now rs c.loop-document.document-index are c.loop-document-test.false ∙ sym (c.loop-document.invariant ds rs are read)
