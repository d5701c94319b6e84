use Rattle.std.proofs.Common.{◌≡◌, ℕ, ◌∙◌, Some, [], ap}
use Rattle.scheme_model.specs.Program.{result_at}
use Rattle.scheme_model.specs.Diagnostics.{document_of}
use Rattle.read_documents.specs.declared.findings.Finding.{Finding}
use Rattle.scheme_model.specs.DiagnosticTexts.{worded}
use Rattle.read_documents.specs.Places.{spans_of, start_of}
use Rattle.program_findings.proofs.WholeLaws.{start_tells, whole_adds}
use Rattle.program_findings.proofs.diagnosing.whole_finding.Goals as goal

pub returns-clause-exact : goal.returns-clause-exact
returns-clause-exact c = λ rs us r f are at is.
    whole_adds (spans_of rs) (document_of us) r.unit c.start.result c.args.fault f
    (start_tells (spans_of rs) us r c.args.unit c.start.result c.args.fault at (c.start.ensures.exact rs us are ∙ ap (λ (n : ℕ). start_of (spans_of rs) (result_at us n)) c.text_unit.ensures)) is c.in_ok-new.field-0
    (c.in_ok-new.ensures ∙ (λ i. record { at = Some (c.whole_at-at.ensures i); form = 0; code = c.whole_number-code.ensures i; message = worded (c.whole_number-code.ensures i) [] }))
