-- The texts stay, and their program stands in the trees as these have grown.
use Rattle.workspace_state.proofs.TrialLaws.{program_grown}
use Rattle.workspace_state.proofs.workspace.Workspace.try_edits.Goals as goal

pub invariant_of-self : goal.invariant_of-self
invariant_of-self g c = record {
  program =
      program_grown c.self.inside.expansion.work c.try_program.new.self.work c.try_program.ensures.trees c.try_program.ensures.names c.self.inside.texts c.self.inside.expansion.program c.try_program.new.self.program c.try_program.ensures.program c.self.invariant.program;
  lists = c.self.invariant.lists;
  parts = c.self.invariant.parts;
}

pub invariant_of-self-2 : goal.invariant_of-self-2
invariant_of-self-2 g c = record {
  program =
      program_grown c.self.inside.expansion.work c.try_program.new.self.work c.try_program.ensures.trees c.try_program.ensures.names c.self.inside.texts c.self.inside.expansion.program c.try_program.new.self.program c.try_program.ensures.program c.self.invariant.program;
  lists = c.self.invariant.lists;
  parts = c.self.invariant.parts;
}

pub returns-in_err-program-clause-of_texts : goal.returns-in_err-program-clause-of_texts
returns-in_err-program-clause-of_texts g c =
    program_grown c.self.inside.expansion.work c.try_program.new.self.work c.try_program.ensures.trees c.try_program.ensures.names c.self.inside.texts c.self.inside.expansion.program c.try_program.new.self.program c.try_program.ensures.program c.self.invariant.program

pub returns-clause-of_texts : goal.returns-clause-of_texts
returns-clause-of_texts g c =
    program_grown c.self.inside.expansion.work c.try_program.new.self.work c.try_program.ensures.trees c.try_program.ensures.names c.self.inside.texts c.self.inside.expansion.program c.try_program.new.self.program c.try_program.ensures.program c.self.invariant.program
