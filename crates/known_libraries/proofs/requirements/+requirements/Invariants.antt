use Rattle.std.proofs.Common.{◌≡◌, ℕ, ◌*◌, ◌+◌, Bool, drop}
use Rattle.std.specs.Prelude.{◌&&◌, ◌||◌}
use Rattle.scheme_model.specs.declared.Occ.{Occ}
use Rattle.scheme_model.specs.Requirements.{Known, all_hold, some_holds}
use Rattle.datum_reader.specs.Views.{datum_of, data_of}
use Rattle.datum_reader.specs.Looks.{trees_at}
use Rattle.known_libraries.specs.PartsRead.{Knows, map_ok}
use Rattle.known_libraries.specs.Weights.{weight, row_weight}
use Rattle.known_libraries.proofs.requirements.+requirements.Given as goal

abbrev pub decreases-holds : goal.decreases-holds
decreases-holds l = 4 * weight (datum_of l.datum.now)

abbrev pub decreases-list_holds : goal.decreases-list_holds
decreases-list_holds l = 4 * row_weight (data_of l.parts.now) + 3

abbrev pub decreases-word_holds : goal.decreases-word_holds
decreases-word_holds l = 4 * row_weight (data_of l.parts.now) + 2

abbrev pub decreases-all_hold : goal.decreases-all_hold
decreases-all_hold l = 4 * row_weight (data_of l.parts.now) + 1

abbrev pub decreases-some_holds : goal.decreases-some_holds
decreases-some_holds l = 4 * row_weight (data_of l.parts.now) + 1

abbrev pub decreases-none_holds : goal.decreases-none_holds
decreases-none_holds l = 4 * row_weight (data_of l.parts.now) + 1

abbrev pub invariant-all_hold-loop-part : goal.invariant-all_hold-loop-part
invariant-all_hold-loop-part l = (has : Known) → Knows l.known has → (place : ℕ → Occ) →
    all_hold (λ s. s) has (trees_at place l.parts) ≡ map_ok (λ (b : Bool). l.hold && b) (all_hold (λ s. s) has (trees_at place (drop l.part-index l.parts)))

abbrev pub invariant-some_holds-loop-part : goal.invariant-some_holds-loop-part
invariant-some_holds-loop-part l = (has : Known) → Knows l.known has → (place : ℕ → Occ) →
    some_holds (λ s. s) has (trees_at place l.parts) ≡ map_ok (λ (b : Bool). l.hold || b) (some_holds (λ s. s) has (trees_at place (drop l.part-index l.parts)))
