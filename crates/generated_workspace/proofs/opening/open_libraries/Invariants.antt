use Rattle.std.proofs.Common.{◌≡◌, ◌+◌}
use Rattle.ls_base.specs.declared.encoding.Encoding.TheVariants.{Utf16}
use Rattle.program_answers.specs.Updates.{list_at}
use Rattle.rename_conditions.specs.Readers.{IsReader, Reader}
use Rattle.generated_workspace.specs.Generated.{libraries}
use Rattle.generated_workspace.specs.Known.{IsKnownOf}
use Rattle.generated_workspace.specs.Selfrun.{opening_uses}
use Rattle.generated_workspace.proofs.opening.open_libraries.Given as goal

-- the libraries gone through are open
abbrev pub invariant-loop-number : goal.invariant-loop-number
invariant-loop-number g l = record {
  texts : l.workspace.texts ≡ libraries l.number;
  encoding : l.workspace.encoding ≡ Utf16;
  known : IsKnownOf Utf16 l.workspace.texts (list_at l.known);
  steps : (r : Reader) → IsReader r → l.steps ≡ l.fn.steps + opening_uses r l.number;
}
