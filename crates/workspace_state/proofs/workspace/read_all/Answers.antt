-- What is read belongs to the texts.
use Rattle.std.proofs.Common.{List, sym, ◌∙◌, subst}
use Rattle.std.specs.FinMap.{entries}
use Rattle.read_documents.specs.DataRead.{AreOpened}
use Rattle.read_documents.specs.Readings.{documents_in}
use Rattle.read_documents.specs.declared.documents.Document.{Document}
use Rattle.read_documents.proofs.OpenedLaws.{documents_opened}
use Rattle.program_answers.proofs.TextLaws.{as_many}
use Rattle.workspace_state.proofs.workspace.read_all.Goals as goal

pub returns-clause-findings : goal.returns-clause-findings
returns-clause-findings g c = c.in_ok-reading.ensures.reading.findings ∙ as_many (entries c.args.store) c.in_ok-reading.reading.documents.items c.in_ok-reading.ensures.reading.belongs.documents

pub returns-clause-parts : goal.returns-clause-parts
returns-clause-parts g c = λ rs are.
    let documents = c.in_ok-reading.reading.documents.items in
    c.in_ok-parts.ensures (documents_in rs) (subst (λ (cs : List Document). AreOpened (documents_in rs) cs) (sym c.as_slice.ensures.value) (documents_opened (entries c.args.store) documents rs c.in_ok-reading.ensures.reading.belongs.documents are))
