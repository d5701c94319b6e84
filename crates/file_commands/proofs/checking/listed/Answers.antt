-- The lists are those of the texts, which are read so.
use Rattle.std.proofs.Common.{◌≡◌, ◌∙◌, BTreeMap, ℕ, List, length, sym, ap, subst}
use Rattle.std.specs.FinMap.{entries}
use Rattle.ls_base.specs.declared.encoding.Encoding.TheVariants.{Utf16}
use Rattle.document_store.specs.Texts.{Texts}
use Rattle.read_documents.specs.Listed.{AreFoundOf}
use Rattle.read_documents.specs.Readings.{AreReadAs}
use Rattle.program_answers.proofs.TextLaws.{as_many}
use Rattle.program_answers.specs.Updates.{AreListsOf, entries_shown}
use Rattle.file_commands.proofs.checking.listed.Goals as goal

pub lists-requires : goal.lists-requires
lists-requires g c =
    let r = c.in_ok-reading.ensures.reading in
    ap length c.as_slice.ensures.value ∙ r.findings ∙ as_many (entries c.args.store) c.in_ok-reading.reading.documents.items r.belongs.documents
    ∙ ap (λ (t : Texts). length (entries t)) (sym c.of-texts.ensures)

pub returns-clause-listed : goal.returns-clause-listed
returns-clause-listed g c = λ rs are.
    let same : c.of-texts.result ≡ c.args.store = c.of-texts.ensures in
    let found = subst (λ (fs : List (BTreeMap (ℕ × ℕ × List ℕ) ℕ)). AreFoundOf rs fs) (sym c.as_slice.ensures.value) (c.in_ok-reading.ensures.reading.found rs are) in
    subst (λ (t : Texts). AreListsOf Utf16 t rs (entries_shown c.in_ok-lists.field-0)) same (c.in_ok-lists.ensures.listed rs (subst (λ (t : Texts). AreReadAs (entries t) rs) (sym same) are) found)
