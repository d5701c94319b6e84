use Rattle.text_arrows.proofs.OneText.{one_text, some_text}
use Rattle.text_arrows.proofs.laws.one_text.Goals as goal

pub returns : goal.returns
returns c = record { some = some_text; only = one_text }
