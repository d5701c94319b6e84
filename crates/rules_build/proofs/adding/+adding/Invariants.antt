use Rattle.syntax_tree.specs.Numbered.{number_of}
use Rattle.rules_build.specs.Drafts.{Drafts, AreDrafts}
use Rattle.rules_build.proofs.AddLaws.{RowUpTo}
use Rattle.rules_build.proofs.adding.+adding.Given as goal

abbrev pub invariant-add_all-loop-plan : goal.invariant-add_all-loop-plan
invariant-add_all-loop-plan l = (ds : Drafts) → AreDrafts l.fn.work l.region l.plans ds → RowUpTo l.fn.work l.work l.region (number_of l.number) ds l.plan-index l.items.items
