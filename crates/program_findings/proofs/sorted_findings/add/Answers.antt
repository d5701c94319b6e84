use Rattle.std.proofs.Common.{◌++◌, ◌∙◌}
use Rattle.read_documents.specs.Findings.{all_told}
use Rattle.read_documents.proofs.KeptLaws.{kept_more}
use Rattle.program_findings.proofs.sorted_findings.add.Goals as goal

pub loop-finding-preserved : goal.loop-finding-preserved
loop-finding-preserved c = (
  c.in_ok-add_one.ensures.count ∙ c.loop-finding.invariant.0,
  λ ds h. kept_more ds c.loop-finding.yielded c.in-Some.finding c.add_one.new.all.items (c.in_ok-add_one.ensures.kept (ds ++ all_told c.loop-finding.yielded) (c.loop-finding.invariant.1 ds h)),
)
