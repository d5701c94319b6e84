-- The standard name is asked of the texts' program.
use Rattle.std.proofs.Common.{◌∙◌}
use Rattle.std.specs.FinMap.{entries}
use Rattle.workspace_state.specs.Indexed.{index_in}
use Rattle.program_answers.specs.Classed.{standard_for}
use Rattle.program_answers.specs.ToldAnswers.{facts_in, name_there}
use Rattle.workspace_state.proofs.IndexedLaws.{same_source}
use Rattle.workspace_state.proofs.workspace.Workspace.standard_at.Goals as goal

pub returns : goal.returns
returns c = λ rs are.
    let asked = c.asked-asked.result in
    let same = c.asked-asked.ensures in
    let source = same_source c.args.self.now.texts asked.texts.now (index_in c.in_ok-indexed.indexed) asked.index.now rs same.texts same.index (c.in_ok-indexed.ensures.source rs are) in
    c.in_ok-name.ensures rs source ∙ (λ j. standard_for (facts_in rs) (name_there (same.encoding j) (entries (same.texts j)) rs c.args.uri.now c.args.position))
