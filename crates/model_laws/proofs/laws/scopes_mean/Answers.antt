use Rattle.scheme_model.specs.Ident.{Ident}
use Rattle.scheme_model.specs.Substitution.{Table, Entries}
use Rattle.scheme_model.specs.Scopes.{Chain, Uses, AreOutside}
use Rattle.scheme_model.proofs.ScopeLaws.{meaning_image}
use Rattle.model_laws.proofs.laws.scopes_mean.Goals as goal

pub returns : goal.returns
returns c = λ (table : Table) (entry : Entries) (uses : Uses) (c : Chain) (i : Ident) (plain : AreOutside table uses). meaning_image table entry uses plain c i
