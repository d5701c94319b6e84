use Rattle.std.proofs.Common.{sym, ap, ◌∙◌, subst}
use Rattle.read_documents.specs.declared.findings.Finding.{Finding}
use Rattle.read_documents.specs.Places.{AreFoundIn}
use Rattle.scheme_model.specs.DiagnosticTexts.{worded}
use Rattle.read_documents.proofs.FoundLaws.{found_more}
use Rattle.unit_imports.proofs.ToldLaws.{told_more, error_more}
use Rattle.unit_imports.proofs.entries.add_found.Goals as goal

pub returns-clause-inside : goal.returns-clause-inside
returns-clause-inside c = λ count inside found.
    let old = c.args.findings.now.items in
    let f = c.in_ok-new.field-0 in
    subst (AreFoundIn count) (sym c.in_ok-push.ensures.items) (found_more count old f found (λ a e. inside a (sym (ap (λ (x : Finding). x.at) c.in_ok-new.ensures) ∙ e)))

pub returns-clause-told : goal.returns-clause-told
returns-clause-told c =
    told_more c.args.findings.now.items _ c.in_ok-new.field-0 c.args.at c.args.code (worded c.args.code c.args.name.now) c.in_ok-push.ensures.items (ap (λ (x : Finding). x.at) c.in_ok-new.ensures)
    (ap (λ (x : Finding). x.code) c.in_ok-new.ensures) (ap (λ (x : Finding). x.message) c.in_ok-new.ensures)

pub returns-clause-errors : goal.returns-clause-errors
returns-clause-errors c = error_more c.args.findings.now.items _ c.in_ok-new.field-0 c.args.code c.args.form c.in_ok-push.ensures.items (ap (λ (x : Finding). x.code) c.in_ok-new.ensures) (ap (λ (x : Finding). x.form) c.in_ok-new.ensures)
