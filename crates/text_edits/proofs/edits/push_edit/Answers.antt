use Rattle.std.proofs.Common.{◌∙◌, ap}
use Rattle.text_edits.specs.NewNames as new
use Rattle.text_edits.proofs.EditRuns.{edit_pushed}
use Rattle.text_edits.proofs.edits.push_edit.Goals as goal

pub returns : goal.returns
returns c =
    edit_pushed c.args.edits.now c.push.new.self c.args.text.now c.args.name.now c.in_ok-text.text c.args.span c.in_ok-push.ensures.ok
    (c.in_ok-text.ensures ∙ ap (new.written c.args.name.now) c.has_bar.ensures)
