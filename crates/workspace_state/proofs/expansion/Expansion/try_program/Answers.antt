-- The units stand in the trees as these have grown, and no index is kept.
use Rattle.program_expansion.proofs.ProgramKept.{all_formed_on}
use Rattle.workspace_state.proofs.expansion.Expansion.try_program.Goals as goal

pub invariant_of-self : goal.invariant_of-self
invariant_of-self g c = record {
  formed = all_formed_on c.self.inside.work c.read_program.new.work c.read_program.ensures.trees c.read_program.ensures.names c.self.inside.program.units c.self.invariant.formed;
  of_program = tt;
}

pub invariant_of-self-2 : goal.invariant_of-self-2
invariant_of-self-2 g c = record {
  formed = all_formed_on c.self.inside.work c.read_program.new.work c.read_program.ensures.trees c.read_program.ensures.names c.self.inside.program.units c.self.invariant.formed;
  of_program = tt;
}
