use Rattle.std.proofs.Common.{sym, ◌∙◌}
use Rattle.read_documents.proofs.KeptLaws.{some_told}
use Rattle.read_documents.proofs.findings.none_placed.Goals as goal

pub returns-then-is_some : goal.returns-then-is_some
returns-then-is_some c =
    some_told c.args.findings.now c.loop-finding.finding-index c.finding-item.result c.loop-finding-test.true c.finding-item.is (sym c.is_some.ensures ∙ c.if-is_some.true)
