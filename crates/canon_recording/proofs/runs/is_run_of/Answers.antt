use Rattle.std.proofs.Common.{subst, subst₂}
use Rattle.std.specs.Prelude.{IsTrue, ◌↔◌}
use Rattle.canon_func.specs.Runs.{IsOneRun}
use Rattle.canon_recording.proofs.runs.is_run_of.Goals as goal

pub returns : goal.returns
returns c =
    let same = subst (λ es. IsTrue c.is_run.result ↔ IsOneRun c.export_func-func.result c.export_post-post.result es) c.as_slice.ensures c.is_run.ensures in
    subst₂ (λ f p. IsTrue c.is_run.result ↔ IsOneRun f p c.args.call.now.events) c.export_func-func.ensures c.export_post-post.ensures same
