use Rattle.syntax_tree.specs.Names.{Names}
use Rattle.syntax_tree.specs.declared.trees.Work.{Work}
use Rattle.syntax_tree.specs.declared.trees.table.Region.{Region}
use Rattle.unit_scopes.proofs.ImportLaws.{same_trees}
use Rattle.unit_scopes.proofs.OutcomeLaws.{grows_itself, grows_on, names_on, trees_on}
use Rattle.expansion_laws.proofs.laws.works_grow.Goals as goal

pub returns : goal.returns
returns c = record {
  itself = λ (w : Work) (region : Region). grows_itself w region;
  steps = λ (a b d : Work) (region : Region) first next. grows_on a b d region first next;
  trees = λ (a b d : Work) first next. trees_on a b d first next;
  names = λ (a b d : Names) first next. names_on a b d first next;
  same = λ (old new : Work) trees names. same_trees old new trees names;
}
