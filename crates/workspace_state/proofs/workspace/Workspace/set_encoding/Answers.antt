-- No document is open whose diagnostics have positions.
use Rattle.std.proofs.Common.{ap, ◌∙◌}
use Rattle.workspace_state.specs.State.{State}
use Rattle.program_answers.specs.Updates.{entries_shown}
use Rattle.workspace_state.proofs.NoTexts.{other_lists}
use Rattle.workspace_state.proofs.workspace.Workspace.set_encoding.Goals as goal

pub invariant_of-self : goal.invariant_of-self
invariant_of-self c = record {
  program = c.self.invariant.program;
  parts = c.self.invariant.parts;
  lists = other_lists c.self.inside.encoding c.args.encoding c.self.inside.texts (ap (λ (s : State). s.texts) c.self.view_is ∙ c.requires) (entries_shown c.self.inside.lists) c.self.invariant.lists;
}
