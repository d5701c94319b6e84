-- What is asked of the index that is there, or of a new one, is asked of the texts' program.
use Rattle.std.proofs.Common.{sym, ◌∙◌, subst}
use Rattle.std.specs.FinMap.{entries}
use Rattle.std.specs.List.Sorted.{IsStrictlySortedBy}
use Rattle.program_leaves.specs.Pairs.{pair_cmp}
use Rattle.arrow_index.specs.declared.index.Index.{Index}
use Rattle.workspace_state.specs.Indexed.{index_in}
use Rattle.program_answers.specs.ToldAnswers.{answer_of, query_of}
use Rattle.workspace_state.proofs.IndexedLaws.{same_source}
use Rattle.workspace_state.proofs.workspace.Workspace.answer.Goals as goal

pub answer-requires : goal.answer-requires
answer-requires c = subst (λ (i : Index). IsStrictlySortedBy pair_cmp i.arrows) (sym c.asked-asked.ensures.index) c.in_ok-indexed.ensures.sorted

pub returns : goal.returns
returns c = λ rs are.
    let asked = c.asked-asked.result in
    let same = c.asked-asked.ensures in
    let source = same_source c.args.self.now.texts asked.texts.now (index_in c.in_ok-indexed.indexed) asked.index.now rs same.texts same.index (c.in_ok-indexed.ensures.source rs are) in
    c.in_ok-answer.ensures rs source ∙ (λ j. answer_of (same.encoding j) (entries (same.texts j)) rs c.args.uri.now c.args.position (query_of c.args.query.now))
