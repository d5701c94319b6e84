use Rattle.std.specs.FinMap.{entries}
use Rattle.rename_answers.specs.ToldRenames.{opened_as}
use Rattle.session_replies.proofs.Refused.{refused_so}
use Rattle.session_core.proofs.renames.refusal.Goals as goal

pub returns-clause-text : goal.returns-clause-text
returns-clause-text c = λ r answer is h.
    let e = c.args.workspace.now.encoding in
    let ds = entries c.args.workspace.now.texts in
    refused_so e ds (opened_as r ds) answer c.args.fault c.in_ok-refusal_text.field-0 c.in_ok-refusal_text.ensures.memory h
    (λ refusal k. c.in_ok-refusal_text.ensures.text r refusal is k)
