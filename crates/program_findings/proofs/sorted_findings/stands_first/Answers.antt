use Rattle.std.proofs.Common.{◌≡◌, ◌∙◌, ap, sym, is_le}
use Rattle.read_documents.specs.Findings.{diagnostic, stands_first}
use Rattle.read_documents.proofs.SortedLaws.{steps, not_behind}
use Rattle.program_findings.proofs.sorted_findings.stands_first.Goals as goal

pub returns : goal.returns
returns c =
    let d = diagnostic c.args.at c.args.finding.now.code c.args.finding.now.message in
    let before = diagnostic c.in-Some.before c.in-Some.other.now.code c.in-Some.other.now.message in
    let compared : c.is_le.result ≡ is_le (steps d before) = cc in
    compared ∙ not_behind d before ∙ ap (stands_first d) (sym c.in-Some.is)
