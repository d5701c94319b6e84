use Rattle.std.proofs.Common.{◌≡◌, ◌*◌, ◌+◌, Bool}
use Rattle.std.specs.Prelude.{◌&&◌, ◌||◌}
use Rattle.scheme_model.specs.Trees.{Trees}
use Rattle.scheme_model.specs.Matching.{behind}
use Rattle.scheme_model.specs.Requirements.{Known, all_hold, some_holds}
use Rattle.scheme_model.specs.Ident.{Ident as Identifier, symbol_of}
use Rattle.syntax_tree.specs.Looks.{PartsStand}
use Rattle.feature_requirements.specs.Judged.{Knows, map_ok}
use Rattle.feature_requirements.proofs.requirements.Judge.+requirements.Given as goal

abbrev pub decreases-holds : goal.decreases-holds
decreases-holds l = 4 * l.left

abbrev pub decreases-list_holds : goal.decreases-list_holds
decreases-list_holds l = 4 * l.left + 3

abbrev pub decreases-word_holds : goal.decreases-word_holds
decreases-word_holds l = 4 * l.left + 2

abbrev pub decreases-all_hold : goal.decreases-all_hold
decreases-all_hold l = 4 * l.left + 1

abbrev pub decreases-some_holds : goal.decreases-some_holds
decreases-some_holds l = 4 * l.left + 1

abbrev pub decreases-none_holds : goal.decreases-none_holds
decreases-none_holds l = 4 * l.left + 1

abbrev pub invariant-all_hold-loop-part : goal.invariant-all_hold-loop-part
invariant-all_hold-loop-part l = (known : Known) (ts : Trees Identifier) → Knows l.self.libraries.now known → PartsStand l.self.work.now l.parts ts →
    all_hold symbol_of known ts ≡ map_ok (λ (b : Bool). l.hold && b) (all_hold symbol_of known (behind l.part-index ts))

abbrev pub invariant-some_holds-loop-part : goal.invariant-some_holds-loop-part
invariant-some_holds-loop-part l = (known : Known) (ts : Trees Identifier) → Knows l.self.libraries.now known → PartsStand l.self.work.now l.parts ts →
    some_holds symbol_of known ts ≡ map_ok (λ (b : Bool). l.hold || b) (some_holds symbol_of known (behind l.part-index ts))
