use Rattle.text_edits.proofs.BackLaws as laws
use Rattle.text_edits.proofs.laws.old_names_restore.Goals as goal

pub returns : goal.returns
returns c = λ text now ts us ds new back. laws.restored text now ts us ds new back
