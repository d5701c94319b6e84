use Rattle.std.proofs.Common.{[], cond, sym, subst}
use Rattle.scheme_model.specs.Diagnostics.{bytes_of, unbound_diagnostics}
use Rattle.scheme_model.specs.Live.{unit_leaves}
use Rattle.read_documents.specs.Findings.{Adds}
use Rattle.read_documents.specs.Places.{spans_of}
use Rattle.unit_results.proofs.FoundParts.{adds_nothing}
use Rattle.unit_results.proofs.results.add_unbound_if.Goals as goal

pub returns-in_ok-add_unbound-clause-exact : goal.returns-in_ok-add_unbound-clause-exact
returns-in_ok-add_unbound-clause-exact c = λ rs us work unit fs are kept stand.
    subst (λ b. Adds c.args.findings.now.items c.add_unbound.new.findings.items (cond b (unbound_diagnostics (bytes_of (spans_of rs) us) (unit_leaves fs)) []) []) (sym c.if-are_found.true)
    (c.in_ok-add_unbound.ensures.exact rs us work unit fs are kept stand)

pub returns-else-are_found-clause-exact : goal.returns-else-are_found-clause-exact
returns-else-are_found-clause-exact c = λ rs us work unit fs are kept stand.
    subst (λ b. Adds c.args.findings.now.items c.args.findings.now.items (cond b (unbound_diagnostics (bytes_of (spans_of rs) us) (unit_leaves fs)) []) []) (sym c.if-are_found.false)
    (adds_nothing c.args.findings.now.items)
