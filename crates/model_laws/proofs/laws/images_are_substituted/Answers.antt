use Rattle.scheme_model.proofs.ScopeLaws.{images_substituted}
use Rattle.model_laws.proofs.laws.images_are_substituted.Goals as goal

pub returns : goal.returns
returns c = images_substituted
