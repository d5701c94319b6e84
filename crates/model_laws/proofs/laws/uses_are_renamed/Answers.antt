use Rattle.std.proofs.Common.{◌≡◌, ℕ, Bool, List}
use Rattle.scheme_model.specs.Identifiers.{Name}
use Rattle.scheme_model.specs.Ident.{Ident}
use Rattle.scheme_model.specs.Trees.{Tree, Trees, Tail}
use Rattle.scheme_model.specs.RulesShape.{Names, Rules, rules_map, role_of, dots_of}
use Rattle.scheme_model.specs.Matching.{Binding, matcher}
use Rattle.scheme_model.specs.Renaming.{Renames}
use Rattle.scheme_model.proofs.RenamingLaws.{reads_is, finds_is}
use Rattle.scheme_model.proofs.RulesLaws.{role_of-map, dots_of-map}
use Rattle.scheme_model.proofs.MatchLaws.{first_match-map}
use Rattle.scheme_model.proofs.BuildLaws.{build-map}
use Rattle.scheme_model.proofs.CompareLaws.{compared-map}
use Rattle.model_laws.proofs.laws.uses_are_renamed.Goals as goal

pub returns : goal.returns
returns c = record {
  matched = λ (f g : Ident → Name) (n : Names Ident) (m : Names Name) (told : Renames f n m) (means : Ident → Ident → Bool) (means_so : Name → Name → Bool) (same : (i j : Ident) → means_so (f i) (g j) ≡ means i j) (r : Rules Ident) (ts : Trees Ident) (tail : Tail Ident).
      finds_is (first_match-map Ident Ident Name Name f g (matcher n r means) (matcher m (rules_map f r) means_so) (record { role = role_of-map Ident Name f n m told r; dots = dots_of-map Ident Name f n m told r; means = same }) r.rules ts tail);
  built = λ (f g : Ident → Name) (n : Names Ident) (m : Names Name) (told : Renames f n m) (insert : Ident → Ident) (insert_so : Name → Name) (same : (i : Ident) → insert_so (f i) ≡ g (insert i)) (r : Rules Ident) (t : Tree Ident) (bindings : List (Binding Ident Ident)) (left : ℕ).
      reads_is (build-map Ident Ident Name Name f g Ident Name f n m told r insert insert_so same t bindings left);
  compared = λ (f g : Ident → Name) (n : Names Ident) (m : Names Name) (told : Renames f n m) (r : Rules Ident) (ts : Trees Ident) (tail : Tail Ident).
      compared-map Ident Ident Name Name f g (role_of n r) (role_of m (rules_map f r)) (role_of-map Ident Name f n m told r) (dots_of n r) (dots_of m (rules_map f r)) (dots_of-map Ident Name f n m told r) r.rules ts tail;
}
