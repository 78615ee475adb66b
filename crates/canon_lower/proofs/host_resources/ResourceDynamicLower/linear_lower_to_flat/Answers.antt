use Rattle.canon_types.specs.Resource.{as_host_dynamic}
use Rattle.canon_lower.proofs.host_resources.ResourceDynamicLower.linear_lower_to_flat.Goals as goal
use Rattle.canon_typed.proofs.Layouts.{is_handle}

pub lower_held-requires-clause-fits : goal.lower_held-requires-clause-fits
lower_held-requires-clause-fits g c = is_handle as_host_dynamic c.args.cx.now.core.now.component.types c.args.ty c.requires.fits
