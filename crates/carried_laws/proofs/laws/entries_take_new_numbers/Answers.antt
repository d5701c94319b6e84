use Rattle.renumbering_laws.proofs.NewSurroundings.{old_numbers_apart, turns_move}
use Rattle.renumbering_laws.specs.NewSurroundings.{around_new}
use Rattle.carried_laws.proofs.Renumbered.{aside_moved, parts_moved, entry_moved}
use Rattle.carried_laws.proofs.laws.entries_take_new_numbers.Goals as goal

pub returns : goal.returns
returns c = record {
  aside = λ r b w turns t. aside_moved r (old_numbers_apart r b) b.definitions w (around_new r b w) (turns_move r b w) turns t;
  parts = λ r b w turns n l. parts_moved r (old_numbers_apart r b) b.definitions w (around_new r b w) (turns_move r b w) turns n l;
  entry = λ r b n x k w u h. entry_moved r b n x k w u h;
}
