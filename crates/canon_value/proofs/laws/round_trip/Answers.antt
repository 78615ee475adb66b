use Rattle.canon_value_parts.proofs.RoundTrip.{round_trip}
use Rattle.canon_value.proofs.laws.round_trip.Goals as goal

pub returns : goal.returns
returns c = round_trip
