use Rattle.canon_image_parts.proofs.Returning.{images_come_back}
use Rattle.canon_image.proofs.laws.images_come_back.Goals as goal

pub returns : goal.returns
returns c = images_come_back
