-- The class is asked of the texts' program.
use Rattle.std.proofs.Common.{subst}
use Rattle.std.specs.FinMap.{entries}
use Rattle.ls_base.specs.declared.encoding.Encoding.{Encoding}
use Rattle.document_store.specs.Texts.{Texts}
use Rattle.workspace_state.specs.Indexed.{index_in}
use Rattle.program_answers.specs.Classed.{IsClassAt}
use Rattle.program_answers.specs.ToldAnswers.{facts_in, name_there}
use Rattle.workspace_state.proofs.IndexedLaws.{same_source}
use Rattle.workspace_state.proofs.workspace.Workspace.class_at.Goals as goal

pub returns : goal.returns
returns c = λ rs are.
    let asked = c.asked-asked.result in
    let same = c.asked-asked.ensures in
    let encoding = c.args.self.now.encoding in
    let uri = c.args.uri.now in
    let position = c.args.position in
    let class = c.in_ok-class.class in
    let source = same_source c.args.self.now.texts asked.texts.now (index_in c.in_ok-indexed.indexed) asked.index.now rs same.texts same.index (c.in_ok-indexed.ensures.source rs are) in
    subst (λ (t : Texts). IsClassAt (entries t) (facts_in rs) (name_there encoding (entries t) rs uri position) class) same.texts
    (subst (λ (e : Encoding). IsClassAt (entries asked.texts.now) (facts_in rs) (name_there e (entries asked.texts.now) rs uri position) class) same.encoding (c.in_ok-class.ensures rs source))
