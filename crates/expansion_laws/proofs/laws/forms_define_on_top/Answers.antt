use Rattle.std.proofs.Common.{ℕ, List}
use Rattle.scheme_model.specs.Ident.{Ident}
use Rattle.scheme_model.specs.Trees.{Tree}
use Rattle.scheme_model.specs.Requirements.{Known}
use Rattle.scheme_model.specs.Order.{Item, Note}
use Rattle.scheme_model.specs.ScopedExpansion.{FramedIdent, ScopedState}
use Rattle.expansion_laws.proofs.TopForms.{declared_binds, expanded_binds}
use Rattle.expansion_laws.proofs.laws.forms_define_on_top.Goals as goal

pub returns : goal.returns
returns c = record {
  declared = λ (known : Known) (n : ℕ) (t : Tree Ident) (notes : List (Note FramedIdent)) (s : ScopedState). declared_binds known n t notes s;
  expanded = λ (known : Known) (n : ℕ) (i : Item Ident) (s : ScopedState) h. expanded_binds known n i s h;
}
