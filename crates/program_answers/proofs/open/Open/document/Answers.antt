-- The documents are those of the texts.
use Rattle.std.proofs.Common.{◌<◌, length, refl, ap, subst, arith}
use Rattle.std.proofs.lemmas.Option.{slice_get_read}
use Rattle.std.specs.FinMap.{entries}
use Rattle.document_store.specs.Texts.{Texts}
use Rattle.read_documents.specs.Readings.{IsDocument}
use Rattle.program_answers.specs.ToldAnswers.{document_at}
use Rattle.program_answers.proofs.OpenLaws.{document_is}
use Rattle.program_answers.proofs.TextLaws.{as_many}
use Rattle.program_answers.proofs.open.Open.document.Goals as goal

pub index-requires : goal.index-requires
index-requires c =
    let many = as_many (entries c.self.inside.store) c.self.inside.documents.items c.self.invariant.documents in
    let seen = ap (λ (t : Texts). length (entries t)) c.self.view_is in
    omega (arith, c.self.inside.documents.ok)

pub returns : goal.returns
returns c =
    let many = as_many (entries c.self.inside.store) c.self.inside.documents.items c.self.invariant.documents in
    let seen = ap (λ (t : Texts). length (entries t)) c.self.view_is in
    let below : c.args.number < length c.self.inside.documents.items = omega arith in
    let d = c.index.result.now in
    subst (λ (t : Texts). IsDocument (document_at (entries t) c.args.number) d) c.self.view_is
    (document_is (entries c.self.inside.store) c.self.inside.documents.items c.self.invariant.documents c.args.number d
    (slice_get_read c.self.inside.documents.items (length c.self.inside.documents.items) c.args.number d refl below c.index.ensures))
