use Rattle.std.proofs.Common.{[], ◌∷◌, ◌++◌, append-nil, ap, ◌∙◌, arith}
use Rattle.scheme_model.specs.DiagnosticTexts.{worded}
use Rattle.read_documents.specs.declared.findings.At.{At}
use Rattle.read_documents.specs.Findings.{all_told, diagnostic, errors_in}
use Rattle.read_documents.proofs.FoundLaws.{at_in}
use Rattle.unit_imports.proofs.GivenLaws.{unknown_told}
use Rattle.unit_imports.proofs.entries.add_unknown.Goals as goal

pub returns-clause-inside : goal.returns-clause-inside
returns-clause-inside c = λ count lt found.
    c.in_ok-add_found.ensures.inside count (at_in count c.at-at.result (let e = ap (λ (a : At). a.document) c.at-at.ensures in omega arith)) found

pub returns-clause-told : goal.returns-clause-told
returns-clause-told c = λ s spelled is bytes.
    unknown_told bytes c.args.set.document spelled c.args.set.spec.now s is (all_told c.args.findings.now.items) _
    (c.in_ok-add_found.ensures.told ∙ ap (λ (a : At). all_told c.args.findings.now.items ++ diagnostic a 102 (worded 102 []) ∷ []) c.at-at.ensures)

pub returns-clause-errors : goal.returns-clause-errors
returns-clause-errors c = c.in_ok-add_found.ensures.errors ∙ append-nil (errors_in c.args.findings.now.items)
