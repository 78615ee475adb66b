use Rattle.std.proofs.Common.{subst, sym, true≢false, ◌^◌, ◌∙◌}
use Rattle.std.specs.Prelude.{IsTrue, ◌↔◌}
use Rattle.canon_func.specs.Runs.{Grows}
use Rattle.canon_recording.proofs.runs.is_run_from.Goals as goal

pub returns-then-is_run_of : goal.returns-then-is_run_of
returns-then-is_run_of c =
    let longer = subst (λ es. IsTrue c.grows.result ↔ Grows c.args.len es (2 ^ 32)) c.as_slice.ensures c.grows.ensures in
    (λ h. (c.is_run_of.ensures.0 c.if-is_run_of.true, longer.0 h), λ p. longer.1 p.1)

pub returns-else-is_run_of : goal.returns-else-is_run_of
returns-else-is_run_of c = (λ h. absurd (true≢false (sym h ∙ c.if-is_run_of.false)), λ p. absurd (true≢false (sym (c.is_run_of.ensures.1 p.0) ∙ c.if-is_run_of.false)))
