use Rattle.canon_lower.proofs.host_resources.HostResourceLower.linear_lower_to_memory.Goals as goal
use Rattle.canon_typed.proofs.Layouts.{is_handle}

pub store_held-requires-clause-fits : goal.store_held-requires-clause-fits
store_held-requires-clause-fits g c = is_handle g.T.HostResourceType.checked c.args.cx.now.core.now.component.types c.args.ty c.requires.fits
