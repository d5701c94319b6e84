-- The name is the one that is told.
use Rattle.std.proofs.Common.{ℕ, List, ◌+◌, ap, ◌∙◌}
use Rattle.std.specs.FinMap.{entries}
use Rattle.rename_answers.specs.ToldRenames.{rename_told, rename_uses}
use Rattle.generated_workspace.specs.Selfrun.{defined_at, edits_in}
use Rattle.generated_workspace.proofs.counting.count_edits.Goals as goal

pub returns-clause-edits : goal.returns-clause-edits
returns-clause-edits g c = λ r is.
    let w = c.args.workspace.now in
    c.in_ok-count_renamed.ensures.edits r is ∙ ap (λ (name : List ℕ). edits_in (rename_told r w.encoding (entries w.texts) c.args.uri.now defined_at name)) c.in_ok-name.ensures

pub returns-clause-steps : goal.returns-clause-steps
returns-clause-steps g c = λ r is.
    let w = c.args.workspace.now in
    c.in_ok-count_renamed.ensures.steps r is ∙ ap (λ (name : List ℕ). c.args.steps.now + rename_uses r w.encoding (entries w.texts) c.args.uri.now defined_at name) c.in_ok-name.ensures
