use Rattle.std.proofs.Common.{◌≡◌, Option}
use Rattle.scheme_model.specs.Identifiers.{Name}
use Rattle.scheme_model.specs.Ident.{Ident}
use Rattle.scheme_model.specs.Trees.{Tree}
use Rattle.scheme_model.specs.Quasiquote.{Mark}
use Rattle.scheme_model.proofs.RenamingLaws.{reads_is}
use Rattle.model_laws.proofs.QuasiLaws.{quasi_of-map}
use Rattle.model_laws.proofs.laws.quasiquotations_are_renamed.Goals as goal

pub returns : goal.returns
returns c = λ (f : Ident → Name) (mark : Ident → Option Mark) (mark_of : Name → Option Mark) (same : (i : Ident) → mark_of (f i) ≡ mark i) (t : Tree Ident). reads_is (quasi_of-map Ident Name f mark mark_of same t)
