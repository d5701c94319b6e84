use Rattle.carried_laws.proofs.MovedNumbers.{entry_from}
use Rattle.carried_laws.proofs.GoingOn.{entries_moved, kept_entries, expanded_entries}
use Rattle.carried_laws.proofs.laws.entries_go_on.Goals as goal

pub returns : goal.returns
returns c = record {
  renumbered = λ r b keep back h. entries_moved r b keep back h;
  kept = λ n xs gs h. kept_entries n xs gs h;
  numbered = λ n x k w u to h. entry_from n x k w u h to;
  expanded = λ w h. expanded_entries w h;
}
