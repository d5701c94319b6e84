-- Nothing is open.
use Rattle.std.proofs.Common.{ap, map}
use Rattle.ls_base.specs.declared.encoding.Encoding.TheVariants.{Utf16}
use Rattle.program_answers.specs.Updates.{entries_shown}
use Rattle.workspace_state.proofs.NoTexts.{no_program, no_lists, no_parts}
use Rattle.workspace_state.proofs.workspace.Workspace.new.Goals as goal

pub invariant_of-result : goal.invariant_of-result
invariant_of-result c = record {
  program = no_program c.new.result c.new.ensures c.new-2.result.work c.new-2.result.program c.new-2.ensures;
  parts = no_parts c.new.result c.new.ensures c.new-4.result.items c.new-4.ensures.items;
  lists = no_lists Utf16 c.new.result c.new.ensures (entries_shown c.new-3.result) (ap (map _) c.new-3.ensures.empty);
}
