use Rattle.std.proofs.Common.{Ok, rules}
use Rattle.lsp_messages.specs.Messages.{message_of, Answers}
use Rattle.lsp_messages.proofs.Causes.{HasCause-Answers}
use Rattle.lsp_messages.proofs.reading.read_message.Goals as goal

pub returns-in_err-message-clause-cause : goal.returns-in_err-message-clause-cause
returns-in_err-message-clause-cause c =
    let exact : Answers c.from_residual.result (message_of c.args.body.now) = search rules in
    HasCause-Answers c.args.body.now c.from_residual.result exact

pub returns-clause-cause : goal.returns-clause-cause
returns-clause-cause c = HasCause-Answers c.args.body.now (Ok c.in_ok-message.field-0) c.in_ok-message.ensures
