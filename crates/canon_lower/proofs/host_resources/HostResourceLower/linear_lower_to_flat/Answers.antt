use Rattle.canon_lower.proofs.host_resources.HostResourceLower.linear_lower_to_flat.Goals as goal
use Rattle.canon_typed.proofs.Layouts.{is_handle}

pub lower_held-requires-clause-fits : goal.lower_held-requires-clause-fits
lower_held-requires-clause-fits g c = is_handle g.T.HostResourceType.checked c.args.cx.now.core.now.component.types c.args.ty c.requires.fits
