use Rattle.std.proofs.Common.{ℕ, List}
use Rattle.scheme_model.specs.Cores.{Part, Parts}
use Rattle.scheme_model.specs.Steps.{Broken}
use Rattle.scheme_model.specs.UnitExpansion.{Formed}
use Rattle.syntax_tree.specs.Names.{Names}
use Rattle.syntax_tree.specs.declared.trees.Work.{Work}
use Rattle.core_tree.specs.declared.cores.CorePart.{CorePart}
use Rattle.core_tree.specs.declared.traces.FormFault.{FormFault}
use Rattle.core_tree.specs.declared.units.UnitForm.{UnitForm}
use Rattle.unit_scopes.proofs.CoreStandLaws.{part_on, parts_stand_on}
use Rattle.expansion_laws.proofs.PartsStay.{fault_on, forms_on}
use Rattle.expansion_laws.proofs.laws.parts_stay.Goals as goal

pub returns : goal.returns
returns c = record {
  part = λ (old new : Work) (unit form : ℕ) (x : CorePart) (p : Part) trees names h. part_on old new trees names unit form x p h;
  parts = λ (old new : Work) (unit form : ℕ) (xs : List CorePart) (ps : Parts) trees names h. parts_stand_on old new trees names unit form xs ps h;
  fault = λ (old new : Names) (e : FormFault) (b : Broken) names h. fault_on old new names e b h;
  forms = λ (old new : Work) (unit form : ℕ) (cs : List UnitForm) (fs : List Formed) trees names h. forms_on old new trees names unit cs fs form h;
}
