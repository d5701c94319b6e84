use Rattle.scheme_model.specs.Identifiers.{Name}
use Rattle.scheme_model.specs.Ident.{Ident}
use Rattle.scheme_model.specs.Trees.{Trees, Tail}
use Rattle.scheme_model.specs.RulesShape.{Names, Rules}
use Rattle.scheme_model.specs.Renaming.{Renames}
use Rattle.scheme_model.proofs.RenamingLaws.{reads_is}
use Rattle.scheme_model.proofs.RulesLaws.{rules_of-map}
use Rattle.model_laws.proofs.LeafLaws.{leaves_of-map}
use Rattle.model_laws.proofs.laws.rules_are_renamed.Goals as goal

pub returns : goal.returns
returns c = record {
  checked = λ (f : Ident → Name) (n : Names Ident) (m : Names Name) (told : Renames f n m) (ts : Trees Ident) (tail : Tail Ident). reads_is (rules_of-map Ident Name f n m told ts tail);
  leaves = λ (f : Ident → Name) (n : Names Ident) (m : Names Name) (told : Renames f n m) (r : Rules Ident). leaves_of-map Ident Name f n m told r;
}
