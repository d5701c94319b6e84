-- The documents belong to the texts.
use Rattle.std.proofs.Common.{List, sym, subst}
use Rattle.std.specs.FinMap.{entries}
use Rattle.document_store.specs.Texts.{Texts}
use Rattle.read_documents.specs.Readings.{AreDocuments}
use Rattle.read_documents.specs.declared.documents.Document.{Document}
use Rattle.program_answers.proofs.open.Open.documents.Goals as goal

pub returns : goal.returns
returns c =
    subst (λ (cs : List Document). AreDocuments (entries c.args.self.now) cs) (sym c.as_slice.ensures.value)
    (subst (λ (t : Texts). AreDocuments (entries t) c.self.inside.documents.items) c.self.view_is c.self.invariant.documents)
