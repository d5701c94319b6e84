use Rattle.std.proofs.Common.{◌≡◌, ◌<◌, List, length, drop}
use Rattle.std.specs.Prelude.{IfSome}
use Rattle.scheme_model.specs.Trees.{Tree, Trees}
use Rattle.scheme_model.specs.Requirements.{Known}
use Rattle.scheme_model.specs.Ident.{Ident as Identifier}
use Rattle.core_forms.specs.Parts.{AllMatch, IsChoice}
use Rattle.feature_requirements.specs.Judged.{Knows, chosen_among}
use Rattle.feature_requirements.proofs.ChoiceLaws.{after_choice}
use Rattle.feature_requirements.proofs.requirements.Judge.chosen.Given as goal

abbrev pub invariant-loop-k : goal.invariant-loop-k
invariant-loop-k l = record {
  so_far : (known : Known) (ps : List (Tree Identifier × Trees Identifier)) → Knows l.self.libraries.now known → AllMatch (IsChoice l.self.work.now) l.choices ps → chosen_among known ps ≡ after_choice ps l.chosen (chosen_among known (drop l.k ps));
  within : IfSome l.chosen (λ j. j < length l.choices);
}
