use Rattle.lsp_framing.proofs.Cuts.{all_fed, same_bytes}
use Rattle.lsp_framing.proofs.laws.any_cut.Goals as goal

pub returns : goal.returns
returns c = record { run = all_fed; same = same_bytes }
