use Rattle.std.proofs.Common.{rules, append_assoc}
use Rattle.generated_workspace.proofs.texts.library_exports.Goals as goal

pub returns : goal.returns
returns c = search (rules, append_assoc)
