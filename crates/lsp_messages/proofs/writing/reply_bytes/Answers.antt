use Rattle.lsp_messages.proofs.writing.reply_bytes.Goals as goal

pub returns-clause-text : goal.returns-clause-text
returns-clause-text c = c.in_ok-body.ensures.text

pub returns-clause-reads_back : goal.returns-clause-reads_back
returns-clause-reads_back c = c.in_ok-body.ensures.reads_back
