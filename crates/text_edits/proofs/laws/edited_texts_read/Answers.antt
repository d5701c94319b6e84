use Rattle.text_edits.proofs.NameLaws as names
use Rattle.text_edits.proofs.laws.edited_texts_read.Goals as goal

pub returns : goal.returns
returns c = λ text now ts ds new. names.text_renamed new text now ts ds
