use Rattle.lsp_framing.proofs.Written.{written_again}
use Rattle.lsp_framing.proofs.laws.written_again.Goals as goal

pub returns : goal.returns
returns c = written_again
