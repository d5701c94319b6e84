use Rattle.scheme_model.proofs.ScopeLaws.{erase_image, strip_image, same_image}
use Rattle.model_laws.proofs.laws.images_are_names.Goals as goal

pub returns : goal.returns
returns c = record { erased = erase_image; symbol = strip_image; apart = same_image }
