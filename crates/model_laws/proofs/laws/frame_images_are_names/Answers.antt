use Rattle.model_laws.proofs.FrameNames.{erase_frame_image, strip_frame_image, same_frame_image}
use Rattle.model_laws.proofs.laws.frame_images_are_names.Goals as goal

pub returns : goal.returns
returns c = record { erased = erase_frame_image; symbol = strip_frame_image; apart = same_frame_image }
