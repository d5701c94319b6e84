use Rattle.std.proofs.Common.{List, ℕ, ◌++◌, map, ap, ◌∙◌}
use Rattle.scheme_model.specs.Diagnostics.{clash_diagnostics}
use Rattle.read_documents.specs.Findings.{all_told, errors_in}
use Rattle.unit_imports.proofs.GivenLaws.{seen_at}
use Rattle.unit_imports.proofs.entries.with_entries.Goals as goal

pub returns-clause-exact : goal.returns-clause-exact
returns-clause-exact c = λ names apart es stand ds are. (c.in_ok-groups.ensures.exact c.requires names apart es stand ds are).groups

pub returns-clause-told : goal.returns-clause-told
returns-clause-told c = λ names apart es stand ds are.
    c.in_ok-add_clashes.ensures.told
    ∙ ap (λ (ss : List (List ℕ)). all_told c.args.findings.now.items ++ clash_diagnostics (seen_at c.args.set.document c.args.set.spec.now.span) ss) (c.in_ok-groups.ensures.exact c.requires names apart es stand ds are).clashes

pub returns-clause-errors : goal.returns-clause-errors
returns-clause-errors c = λ names apart es stand ds are.
    c.in_ok-add_clashes.ensures.errors
    ∙ ap (λ (ss : List (List ℕ)). errors_in c.args.findings.now.items ++ map (λ (s : List ℕ). (52, c.args.set.form)) ss) (c.in_ok-groups.ensures.exact c.requires names apart es stand ds are).clashes
