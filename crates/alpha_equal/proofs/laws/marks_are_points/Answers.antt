use Rattle.std.proofs.Common.{ℕ, List}
use Rattle.scheme_model.specs.Cores.{Parts}
use Rattle.scheme_model.specs.Substitution.{Table}
use Rattle.syntax_tree.specs.declared.trees.Work.{Work}
use Rattle.core_tree.specs.declared.units.ExpandedItem.{ExpandedItem}
use Rattle.alpha_equal.proofs.CoreLaws.{form_are}
use Rattle.alpha_equal.proofs.laws.marks_are_points.Goals as goal

pub returns : goal.returns
returns c = λ (work : Work) (table : Table) (unit form : ℕ) (items : List ExpandedItem) (ps : Parts) stand bind. form_are work table unit form items ps stand bind
