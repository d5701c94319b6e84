use Rattle.lsp_framing.proofs.Feeding.{fault_stays}
use Rattle.lsp_framing.proofs.OneReading.{bodies_grow}
use Rattle.lsp_framing.proofs.laws.more_bytes.Goals as goal

pub returns : goal.returns
returns c = record { bodies = bodies_grow; fault = fault_stays }
