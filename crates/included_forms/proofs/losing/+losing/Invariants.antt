use Rattle.std.proofs.Common.{◌≡◌, ℕ, ◌+◌, ◌*◌, List, length, map, take}
use Rattle.scheme_model.specs.Included.{Given, FlatForm, LostString, Lists, in_a_row}
use Rattle.included_forms.specs.Counted.{Stand, listing_of}
use Rattle.included_forms.specs.Losses.{AreSeen}
use Rattle.included_forms.proofs.LosingLaws.{LosesFrom}
use Rattle.included_forms.proofs.losing.+losing.Given as goal

abbrev pub decreases-lose : goal.decreases-lose
decreases-lose l = 3 * l.below + 2

abbrev pub decreases-lose_step : goal.decreases-lose_step
decreases-lose_step l = 3 * l.below + 1

abbrev pub decreases-lose_text : goal.decreases-lose_text
decreases-lose_text l = 3 * l.place + 3

abbrev pub invariant-lose-loop-k : goal.invariant-lose-loop-k
invariant-lose-loop-k l = record {
  as_many : length l.visits.items ≡ length l.parts;
  loses : (limit : ℕ) (gs : List Given) → Stand limit gs l.parts → AreSeen gs l.initial.visits.items l.initial.lost.items → (n : ℕ) (fs : List FlatForm) (ls : List LostString) →
      in_a_row limit (map (listing_of (take l.below gs)) l.steps) ≡ Lists n fs ls → LosesFrom limit gs l.below l.steps l.k l.initial.lost.items l.visits.items l.lost.items;
}
