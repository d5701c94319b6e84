use Rattle.std.proofs.Common.{rules, append_assoc}
use Rattle.generated_workspace.proofs.texts.begin_with.Goals as goal

pub returns : goal.returns
returns c = search (rules, append_assoc)
