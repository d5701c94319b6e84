-- One text is opened where none was.
use Rattle.std.proofs.Common.{ap, ◌∙◌}
use Rattle.std.specs.FinMap.{entries}
use Rattle.workspace_state.specs.State.{State}
use Rattle.file_commands.proofs.CountLaws.{text_counted}
use Rattle.file_commands.proofs.OneText.{one_opened}
use Rattle.file_commands.proofs.renaming.open.Goals as goal

pub returns-clause-texts : goal.returns-clause-texts
returns-clause-texts g c =
    ap (λ (s : State). entries s.texts) c.in_ok-collect.ensures
    ∙ one_opened c.args.workspace.now.texts c.update.new.self.texts c.in_ok-clone.field-0 c.in_ok-of.field-0 c.args.name.now c.args.text.now c.requires.none c.in_ok-clone.ensures.cases c.in_ok-of.ensures c.requires.short c.in_ok-update.ensures.texts

pub returns-clause-encoding : goal.returns-clause-encoding
returns-clause-encoding g c =
    ap (λ (s : State). s.encoding) c.in_ok-collect.ensures ∙ c.update.ensures.encoding ∙ c.requires.encoding

pub returns-clause-steps : goal.returns-clause-steps
returns-clause-steps g c = λ r is.
    let one = one_opened c.args.workspace.now.texts c.update.new.self.texts c.in_ok-clone.field-0 c.in_ok-of.field-0 c.args.name.now c.args.text.now c.requires.none c.in_ok-clone.ensures.cases c.in_ok-of.ensures c.requires.short c.in_ok-update.ensures.texts in
    text_counted c.args.workspace.now.encoding c.args.workspace.now.texts c.in_ok-clone.field-0 c.in_ok-of.field-0 c.args.text.now c.requires.none c.in_ok-of.ensures c.requires.short c.args.name.now c.update.new.self.texts one
    c.args.steps.now c.update.new.steps c.in_ok-update.ensures.steps r is
