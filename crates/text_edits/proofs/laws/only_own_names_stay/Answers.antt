use Rattle.text_edits.proofs.OwnLaws as own
use Rattle.text_edits.proofs.laws.only_own_names_stay.Goals as goal

pub returns : goal.returns
returns c = λ text ts n t old name bars. own.own_name text ts n t old name bars
