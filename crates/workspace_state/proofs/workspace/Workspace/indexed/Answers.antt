-- However the texts are read, the index is that of their program.
use Rattle.std.proofs.Common.{sym, subst}
use Rattle.std.specs.FinMap.{entries}
use Rattle.program_answers.specs.AskedOf.{IsSource}
use Rattle.workspace_state.specs.Indexed.{index_in}
use Rattle.read_documents.specs.Readings.{AreReadAs}
use Rattle.workspace_state.specs.State.{State}
use Rattle.workspace_state.proofs.IndexedLaws.{some_program, source_of}
use Rattle.workspace_state.proofs.workspace.Workspace.indexed.Goals as goal

pub indexed-requires : goal.indexed-requires
indexed-requires c = some_program c.self.inside.texts c.self.inside.expansion.work c.self.inside.expansion.program c.self.invariant.program

pub returns-clause-sorted : goal.returns-clause-sorted
returns-clause-sorted c = c.in_ok-indexed.ensures.sorted

pub returns-clause-source : goal.returns-clause-source
returns-clause-source c = λ rs are.
    let index = index_in c.in_ok-indexed.indexed in
    let seen = subst (λ (s : State). AreReadAs (entries s.texts) rs) (sym c.self.view_is) are in
    subst (λ (s : State). IsSource s.texts rs index) c.self.view_is
    (source_of c.self.inside.texts c.self.inside.expansion.work c.self.inside.expansion.program index rs c.self.invariant.program c.in_ok-indexed.ensures seen)
