use Rattle.std.proofs.Common.{◌≡◌, ℕ, ◌+◌, ◌*◌, List, map, take}
use Rattle.scheme_model.specs.Included.{Given, FlatForm, LostString, Lists, in_a_row}
use Rattle.included_forms.specs.Counted.{Stand, listing_of}
use Rattle.included_forms.proofs.WritingLaws.{LeftToWrite}
use Rattle.included_forms.proofs.writing.+writing.Given as goal

abbrev pub decreases-write : goal.decreases-write
decreases-write l = 3 * l.below + 2

abbrev pub decreases-write_step : goal.decreases-write_step
decreases-write_step l = 3 * l.below + 1

abbrev pub decreases-write_text : goal.decreases-write_text
decreases-write_text l = 3 * l.place + 3

abbrev pub invariant-write-loop-step : goal.invariant-write-loop-step
invariant-write-loop-step l = (limit : ℕ) (gs : List Given) → Stand limit gs l.parts → (n : ℕ) (fs : List FlatForm) (ls : List LostString) →
    in_a_row limit (map (listing_of (take l.below gs)) l.steps) ≡ Lists n fs ls → LeftToWrite limit (take l.below gs) l.steps l.step-index l.initial.forms.items l.forms.items fs
