use Rattle.canon_image_parts.proofs.Stopping.{stops_once}
use Rattle.canon_image.proofs.laws.stops_once.Goals as goal

pub returns : goal.returns
returns c = stops_once
