use Rattle.scheme_model.specs.Identifiers.{Name}
use Rattle.scheme_model.specs.Ident.{Ident}
use Rattle.scheme_model.specs.Trees.{Trees, Tail}
use Rattle.scheme_model.specs.Requirements.{Known}
use Rattle.scheme_model.specs.RulesShape.{Names}
use Rattle.scheme_model.specs.Renaming.{Renames}
use Rattle.scheme_model.proofs.RenamingLaws.{reads_is}
use Rattle.scheme_model.proofs.ShapeLaws.{one_of-map, some_of-map, if_of-map, error_text_of-map, named_tree_of-map, syntax_of-map, lambda_of-map, case_lambda_of-map, definition_of-map, values_of-map, record_of-map, local_macros_of-map}
use Rattle.model_laws.proofs.RequirementLaws.{chosen_of-map}
use Rattle.model_laws.proofs.laws.forms_are_renamed.Goals as goal

pub returns : goal.returns
returns c = record {
  quoted = λ (f : Ident → Name) (ts : Trees Ident) (tail : Tail Ident). reads_is (one_of-map Ident Name f ts tail);
  sequence = λ (f : Ident → Name) (ts : Trees Ident) (tail : Tail Ident). reads_is (some_of-map Ident Name f ts tail);
  conditional = λ (f : Ident → Name) (ts : Trees Ident) (tail : Tail Ident). reads_is (if_of-map Ident Name f ts tail);
  text = λ (f : Ident → Name) (ts : Trees Ident) (tail : Tail Ident). reads_is (error_text_of-map Ident Name f ts tail);
  assignment = λ (f : Ident → Name) (ts : Trees Ident) (tail : Tail Ident). reads_is (named_tree_of-map Ident Name f ts tail);
  macro_rules = λ (f : Ident → Name) (ts : Trees Ident) (tail : Tail Ident). reads_is (syntax_of-map Ident Name f ts tail);
  procedure = λ (f : Ident → Name) (n : Names Ident) (m : Names Name) (told : Renames f n m) (ts : Trees Ident) (tail : Tail Ident). reads_is (lambda_of-map Ident Name f n.same m.same told.same ts tail);
  procedures = λ (f : Ident → Name) (n : Names Ident) (m : Names Name) (told : Renames f n m) (ts : Trees Ident) (tail : Tail Ident). reads_is (case_lambda_of-map Ident Name f n.same m.same told.same ts tail);
  definition = λ (f : Ident → Name) (n : Names Ident) (m : Names Name) (told : Renames f n m) (ts : Trees Ident) (tail : Tail Ident). reads_is (definition_of-map Ident Name f n.same m.same told.same ts tail);
  several = λ (f : Ident → Name) (n : Names Ident) (m : Names Name) (told : Renames f n m) (ts : Trees Ident) (tail : Tail Ident). reads_is (values_of-map Ident Name f n.same m.same told.same ts tail);
  record_type = λ (f : Ident → Name) (n : Names Ident) (m : Names Name) (told : Renames f n m) (ts : Trees Ident) (tail : Tail Ident). reads_is (record_of-map Ident Name f n.same m.same told.same ts tail);
  local_macros = λ (f : Ident → Name) (n : Names Ident) (m : Names Name) (told : Renames f n m) (ts : Trees Ident) (tail : Tail Ident). reads_is (local_macros_of-map Ident Name f n.same m.same told.same ts tail);
  conditions = λ (f : Ident → Name) (n : Names Ident) (m : Names Name) (known : Known) (told : Renames f n m) (ts : Trees Ident) (tail : Tail Ident). reads_is (chosen_of-map Ident Name f n.strip m.strip told.strip known ts tail);
}
