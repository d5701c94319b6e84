use Rattle.std.proofs.Common.{ℕ, List}
use Rattle.scheme_model.specs.Ident.{Ident}
use Rattle.scheme_model.specs.Order.{Item, WaitingUse}
use Rattle.syntax_tree.specs.declared.trees.Work.{Work}
use Rattle.syntax_tree.specs.declared.trees.table.Region.{Region}
use Rattle.form_parts.specs.declared.items.Item as code_item
use Rattle.form_parts.specs.declared.items.WaitingUse as code_waiting
use Rattle.unit_scopes.proofs.CoreStandLaws.{kept_on}
use Rattle.expansion_laws.proofs.PartsStay.{items_on, uses_on}
use Rattle.expansion_laws.proofs.laws.items_stay.Goals as goal

pub returns : goal.returns
returns c = record {
  item = λ (old new : Work) (region : Region) (unit form : ℕ) (x : code_item.Item) (i : Item Ident) trees names h. kept_on old new trees names unit form region x.kept i h;
  items = λ (old new : Work) (region : Region) (unit form : ℕ) (xs : List code_item.Item) (ys : List (Item Ident)) trees names h. items_on old new trees names unit region form xs ys h;
  uses = λ (old new : Work) (unit form : ℕ) (xs : List code_waiting.WaitingUse) (us : List (WaitingUse Ident)) trees names h. uses_on old new trees names unit form xs us h;
}
