-- The unit has what it came to, and its document's uri.
use Rattle.std.proofs.Common.{◌∙◌, Some, length, refl, ap, sym}
use Rattle.std.proofs.lemmas.Option.{slice_get_read}
use Rattle.read_documents.specs.Findings.{errors_in}
use Rattle.read_documents.specs.declared.documents.Document.{Document}
use Rattle.unit_imports.proofs.Collecting.{mapped_at}
use Rattle.unit_results.proofs.collecting.unit_of.Goals as goal

pub returns-clause-has : goal.returns-clause-has
returns-clause-has c = record { forms = c.forms.view_is; names = c.names.view_is; seconds = c.seconds.view_is; entries = c.from_vec.ensures; exports = c.exports.view_is }

pub returns-clause-uri : goal.returns-clause-uri
returns-clause-uri c =
    let ds = c.args.documents.now in
    let n = c.args.head.now.document in
    let d = c.index-documents-head.result in
    mapped_at (λ (x : Document). x.uri) ds n d (slice_get_read ds (length ds) n d refl c.requires c.index-documents-head.is) ∙ (ap (λ (x : Document). Some x.uri) c.index-documents-head.is ∙ ap Some (sym c.in_ok-clone.ensures.cases))

pub returns-clause-errors : goal.returns-clause-errors
returns-clause-errors c = c.in_ok-errors.ensures ∙ ap errors_in c.as_slice.ensures.value
