use Rattle.std.proofs.Common.{◌+◌, ℕ, List, true, ap, ◌∙◌, subst}
use Rattle.std.specs.FinMap.{entries}
use Rattle.std.specs.List.{sum_by}
use Rattle.ls_base.specs.declared.encoding.Encoding.{Encoding}
use Rattle.ls_base.specs.declared.encoding.Encoding.TheVariants.{Utf16}
use Rattle.document_store.specs.Texts.{Document, Texts}
use Rattle.read_documents.specs.Readings.{AreDocuments}
use Rattle.program_answers.specs.ToldAnswers.{answer_of}
use Rattle.program_answers.specs.Updates.{list_at}
use Rattle.program_answers.proofs.TextLaws.{as_many}
use Rattle.rename_answers.specs.ToldRenames.{rename_told, rename_uses}
use Rattle.scheme_model.specs.Session as model
use Rattle.generated_workspace.specs.Selfrun.{arrows_to, defined_at, edits_in, new_name, places_in}
use Rattle.generated_workspace.proofs.CountLaws.{all_counted}
use Rattle.generated_workspace.proofs.counting.count_all.Goals as goal

pub returns-clause-counts : goal.returns-clause-counts
returns-clause-counts g c = λ r rs is are.
    let texts = c.args.workspace.now.texts in
    let ds = entries texts in
    let cs = c.documents-opened.result.now in
    let e = c.requires.encoding in
    let uri = c.in_ok-uri.ensures in
    let documents : AreDocuments ds cs = subst (λ (t : Texts). AreDocuments (entries t) cs) c.open.ensures c.documents-opened.ensures in
    let at = c.as_str.ensures ∙ uri in
    let number = as_many ds cs documents in
    let diagnostics = c.in_ok-diagnostics.ensures ∙ all_counted Utf16 texts rs cs (list_at c.args.known.now) c.requires.known are documents in
    let arrows = c.in_ok-arrows.ensures rs are ∙ ap (λ (f : Encoding). sum_by (λ (d : List ℕ × Document). arrows_to d.0 (answer_of f ds rs d.0 defined_at model.Arrows)) ds) e in
    let references = c.in_ok-references.ensures rs are ∙ (λ i. places_in (answer_of (e i) ds rs (at i) defined_at (model.References true))) in
    let edits = c.in_ok-edits.ensures.edits r is ∙ (λ i. edits_in (rename_told r (e i) ds (uri i) defined_at new_name)) in
    λ i. record { documents = number i; diagnostics = diagnostics i; arrows = arrows i; references = references i; edits = edits i }

pub returns-clause-steps : goal.returns-clause-steps
returns-clause-steps g c = λ r is.
    let ds = entries c.args.workspace.now.texts in
    c.in_ok-edits.ensures.steps r is ∙ (λ i. c.args.steps.now + rename_uses r (c.requires.encoding i) ds (c.in_ok-uri.ensures i) defined_at new_name)
