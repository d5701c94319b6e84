use Rattle.renumbered_entries.proofs.EntriesBack.{editions_back, entry_back}
use Rattle.renumbered_entries.proofs.laws.entries_come_back.Goals as goal

pub returns-clause-entries : goal.returns-clause-entries
returns-clause-entries c = λ r s old_b old_c back work region e unit n x f k w u h. entry_back r s back old_b old_c work region e x f unit n k w u h

pub returns-clause-editions : goal.returns-clause-editions
returns-clause-editions c = λ r s back e f g there again n. editions_back r s back e f g there again n
