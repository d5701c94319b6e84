-- The finding stands where the unit does.
use Rattle.std.proofs.Common.{length, ap, ◌∙◌}
use Rattle.read_documents.specs.Places.{spans_of}
use Rattle.read_documents.specs.declared.findings.Finding.{Finding}
use Rattle.read_documents.proofs.FoundLaws.{found_at}
use Rattle.unit_results.proofs.NoImport.{imports_alike, import_there, no_import_told}
use Rattle.unit_results.proofs.results.add_no_import.Goals as goal

pub returns-in_ok-push-clause-inside : goal.returns-in_ok-push-clause-inside
returns-in_ok-push-clause-inside c = λ found.
    found_at (length c.args.places.documents.now) c.args.findings.now.items c.push.new.self.items c.in_ok-finding.finding c.start-start.result c.in_ok-push.ensures.items (ap (λ (f : Finding). f.at) c.in_ok-finding.ensures)
    (c.start-start.ensures.inside c.requires.places c.requires.documents) found

pub returns-in_ok-push-clause-exact : goal.returns-in_ok-push-clause-exact
returns-in_ok-push-clause-exact c = λ spelled rs us r are at imports.
    no_import_told (spans_of rs) us r c.args.unit at c.start-start.result (c.start-start.ensures.exact rs us are) (imports_alike spelled c.args.source.now r.unit imports c.imports_nothing.result c.imports_nothing.ensures ∙ c.if-imports_nothing.true)
    c.in_ok-finding.finding c.in_ok-finding.ensures c.args.findings.now.items c.push.new.self.items c.in_ok-push.ensures.items

pub returns-else-imports_nothing-clause-exact : goal.returns-else-imports_nothing-clause-exact
returns-else-imports_nothing-clause-exact c = λ spelled rs us r are at imports.
    import_there (spans_of rs) r.unit (imports_alike spelled c.args.source.now r.unit imports c.imports_nothing.result c.imports_nothing.ensures ∙ c.if-imports_nothing.false) c.args.findings.now.items
