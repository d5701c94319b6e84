use Rattle.std.proofs.Common.{rules, append_assoc}
use Rattle.generated_workspace.proofs.texts.spaced.Goals as goal

pub returns : goal.returns
returns c = search (rules, append_assoc)
