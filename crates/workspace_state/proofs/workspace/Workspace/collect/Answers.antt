-- However the texts are read, the program stands for that of them.
use Rattle.workspace_state.proofs.IndexedLaws.{some_program}
use Rattle.workspace_state.proofs.workspace.Workspace.collect.Goals as goal

pub collect-requires : goal.collect-requires
collect-requires c = some_program c.self.inside.texts c.self.inside.expansion.work c.self.inside.expansion.program c.self.invariant.program
