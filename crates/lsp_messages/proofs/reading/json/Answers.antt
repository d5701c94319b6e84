use Rattle.std.proofs.Common.{sym, ◌∙◌, true≢false}
use Rattle.lsp_messages.proofs.Bodies.{json_of-utf8, json_of-none}
use Rattle.lsp_messages.proofs.reading.json.Goals as goal

pub returns-in-Ok : goal.returns-in-Ok
returns-in-Ok c = sym (json_of-utf8 c.args.body.now c.in-Ok.ensures.ok.0 ∙ c.in-Ok.ensures.ok.1)

pub returns-in-Err-2 : goal.returns-in-Err-2
returns-in-Err-2 c = sym (json_of-none c.args.body.now (c.in-Err.ensures.err (λ m. true≢false (sym (c.is_memory.ensures.1 m) ∙ c.if-is_memory.false))))
