-- The finding stands in the string's document, and is the definition's.
use Rattle.std.proofs.Common.{◌≡◌, ◌<◌, ◌≤◌, ◌++◌, ◌∷◌, [], ℕ, length, Some, sym, ap, ◌∙◌, subst, arith}
use Rattle.std.proofs.lemmas.Bool.Decides.{nat_tests}
use Rattle.scheme_model.specs.DiagnosticTexts.{worded}
use Rattle.unit_sources.specs.declared.units.LostString as code
use Rattle.read_documents.specs.declared.findings.At.{At}
use Rattle.read_documents.specs.declared.findings.Finding.{Finding}
use Rattle.read_documents.proofs.FoundLaws.{found_at}
use Rattle.program_findings.proofs.LostLaws.{string_found}
use Rattle.program_findings.proofs.diagnosing.add_string.Goals as goal

pub returns-then-document-places-clause-exact : goal.returns-then-document-places-clause-exact
returns-then-document-places-clause-exact c = λ l is inside.
    let over : length c.args.places.documents.now ≤ c.args.string.now.document = grind (arith, nat_tests) in
    let same : c.args.string.now.document ≡ l.document = ap (λ (s : code.LostString). s.document) is in
    absurd (omega arith)

pub returns-clause-inside : goal.returns-clause-inside
returns-clause-inside c = λ found.
    let below : c.args.string.now.document < length c.args.places.documents.now = grind (arith, nat_tests) in
    found_at (length c.args.places.documents.now) c.args.findings.now.items c.push.new.self.items c.in_ok-finding.finding c.new-at.result c.in_ok-push.ensures.items (ap (λ (f : Finding). f.at) c.in_ok-finding.ensures) (subst (λ (n : ℕ). n < length c.args.places.documents.now) (sym (ap (λ (a : At). a.document) c.new-at.ensures)) below) found

pub returns-clause-exact : goal.returns-clause-exact
returns-clause-exact c = λ l is inside.
    c.in_ok-push.ensures.items
    ∙ ap (λ (f : Finding). c.args.findings.now.items ++ f ∷ []) (string_found c.args.string.now l c.new-at.result c.in_ok-finding.finding is c.new-at.ensures (c.in_ok-finding.ensures ∙ (λ i. record { at = Some c.new-at.result; form = 0; code = 105; message = worded 105 (c.as_str-name.ensures i) })))
