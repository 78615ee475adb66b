use Rattle.std.proofs.Common.{map, ap, ◌∙◌, nat_eq}
use Rattle.canon_script.specs.Script as spec
use Rattle.canon_script.proofs.Work.{no_work}
use Rattle.canon_script.proofs.limits.fits.Goals as goal

pub returns-in-None : goal.returns-in-None
returns-in-None c =
    let items = map spec.item_view c.args.items.now in
    ap (λ n. nat_eq n 0) c.in-Some.ensures.0 ∙ no_work (spec.final_memory c.args.memory items) (spec.times_entered items) spec.max_memory spec.max_work c.in-None.ensures
