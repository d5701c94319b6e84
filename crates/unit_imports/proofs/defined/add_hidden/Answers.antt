-- The finding stands where the definition does.
use Rattle.std.proofs.Common.{◌++◌, List, length, slice_get, ap, ◌∙◌}
use Rattle.scheme_model.specs.Diagnostics.{bytes_of}
use Rattle.unit_imports.specs.Defined.{hidden_at}
use Rattle.read_documents.specs.Places.{spans_of}
use Rattle.read_documents.specs.declared.findings.Finding.{Finding}
use Rattle.read_documents.proofs.FoundLaws.{found_at}
use Rattle.unit_imports.proofs.HidingLaws.{hides_one, hides_none}
use Rattle.unit_imports.proofs.defined.add_hidden.Goals as goal

pub returns-in_default-clause-exact : goal.returns-in_default-clause-exact
returns-in_default-clause-exact c = λ rs us are.
    hides_none (bytes_of (spans_of rs) us) c.args.unit c.args.form c.args.binder.occ (hidden_at c.args.joined.now.entries.items (slice_get c.args.symbols.now.idents c.args.binder.ident)) c.args.findings.now.items c.in_default.ensures

pub returns-clause-inside : goal.returns-clause-inside
returns-clause-inside c = λ found.
    found_at (length c.args.places.documents.now) c.args.findings.now.items c.push.new.self.items c.in_ok-finding.finding c.at_or_form-spot.result c.in_ok-push.ensures.items (ap (λ (f : Finding). f.at) c.in_ok-finding.ensures)
    (c.at_or_form-spot.ensures.inside c.requires.documents) found

pub returns-clause-exact : goal.returns-clause-exact
returns-clause-exact c = λ rs us are.
    c.in_ok-push.ensures.items
    ∙ ap (λ (fs : List Finding). c.args.findings.now.items ++ fs)
    (hides_one (bytes_of (spans_of rs) us) c.args.unit c.args.form c.args.binder.occ c.at_or_form-spot.result c.in-Some.name.now (hidden_at c.args.joined.now.entries.items (slice_get c.args.symbols.now.idents c.args.binder.ident))
    (c.at_or_form-spot.ensures.exact rs us are) c.in-Some.ensures c.in_ok-finding.finding c.in_ok-finding.ensures)
