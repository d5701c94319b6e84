use Rattle.text_edits.proofs.CutLaws as cuts
use Rattle.text_edits.proofs.laws.edits_in_order.Goals as goal

pub returns : goal.returns
returns c = λ text ts new. cuts.text_in_order new text ts
