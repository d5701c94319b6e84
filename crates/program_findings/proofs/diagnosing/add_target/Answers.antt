-- The finding stands where the use does, and is the definition's.
use Rattle.std.proofs.Common.{◌≡◌, ◌++◌, ◌∷◌, [], ◌∙◌, length, ap, sym}
use Rattle.scheme_model.specs.Diagnostics.{bytes_of}
use Rattle.read_documents.specs.declared.findings.Finding.{Finding}
use Rattle.read_documents.specs.Places.{spans_of}
use Rattle.read_documents.proofs.FoundLaws.{found_at}
use Rattle.program_findings.proofs.UnboundFound.{is_free, not_free}
use Rattle.program_findings.proofs.diagnosing.add_target.Goals as goal

pub returns-clause-inside : goal.returns-clause-inside
returns-clause-inside c = λ found.
    found_at (length c.args.places.documents.now) c.args.findings.now.items c.push.new.self.items c.in_ok-finding.finding c.at-spot.result c.in_ok-push.ensures.items (ap (λ (f : Finding). f.at) c.in_ok-finding.ensures)
    (c.at-spot.ensures.inside c.requires.documents) found

pub returns-clause-exact : goal.returns-clause-exact
returns-clause-exact c = λ rs us names m are kept is.
    c.in_ok-push.ensures.items
    ∙ ap (λ xs. c.args.findings.now.items ++ xs) (is_free (bytes_of (spans_of rs) us) names c.args.symbols.now kept c.in-Free.symbol c.in-Some.occ c.at-spot.result c.name-name.result.now c.args.target m is c.in-Free.is c.in-Some.is
    (c.at-spot.ensures.exact rs us are) c.name-name.ensures c.in_ok-finding.finding c.in_ok-finding.ensures)

pub returns-in_default-meaning : goal.returns-in_default-meaning
returns-in_default-meaning c = record {
  inside = λ found. found;
  exact = λ rs us names m are kept is. not_free (bytes_of (spans_of rs) us) names c.args.target m c.args.findings.now.items is c.in_default-meaning.not-Free;
}
