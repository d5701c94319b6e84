use Rattle.lsp_framing.proofs.EveryReading.{every_reading}
use Rattle.lsp_framing.proofs.OneReading.{one_reading}
use Rattle.lsp_framing.proofs.laws.one_reading.Goals as goal

pub returns : goal.returns
returns c = record { some = every_reading; only = one_reading }
