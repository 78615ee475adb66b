use Rattle.std.proofs.Common.{None, arith, length, refl, sym, ◌<◌, ◌∙◌}
use Rattle.canon_named.specs.Named.{FailsPayload, PassesPayload}
use Rattle.canon_named.proofs.Zips.{all_more, any_at, on_err}
use Rattle.canon_named.proofs.named.pass_payloads.Goals as goal
use Rattle.canon_named.proofs.named.pass_payloads.Goals.{in-Some-Some+in_ok-test-in-Some-Some, in-None-None}

pub returns-in_err-test-in-Some-Some-clause-err : goal.returns-in_err-test-in-Some-Some-clause-err
returns-in_err-test-in-Some-Some-clause-err g c =
    let m : c.loop-k.k < length c.args.payloads.now = omega (arith, c.requires.count, c.loop-k-test.true) in
    on_err c.from_residual.result
    (any_at (FailsPayload _ c.args.types.now) c.args.parts.now c.args.payloads.now c.loop-k.k None _ c.index-payloads-k.result _ c.loop-k-test.true m c.in-Some-Some.is-0 (sym c.index-payloads-k.is ∙ c.in-Some-Some.is-1)
    (record { shown = _; shows = refl; beside = c.args.types; holds = refl; says = c.in_err-test-in-Some-Some.ensures.0 }))

pub returns-in_default-clause-err : goal.returns-in_default-clause-err
returns-in_default-clause-err g c =
    let m : c.loop-k.k < length c.args.payloads.now = omega (arith, c.requires.count, c.loop-k-test.true) in
    any_at (FailsPayload _ c.args.types.now) c.args.parts.now c.args.payloads.now c.loop-k.k None _ c.index-payloads-k.result _ c.loop-k-test.true m c.in_default.is-0 (sym c.index-payloads-k.is ∙ c.in_default.is-1) tt

pub returns-in_default-2-clause-err : goal.returns-in_default-2-clause-err
returns-in_default-2-clause-err g c =
    let m : c.loop-k.k < length c.args.payloads.now = omega (arith, c.requires.count, c.loop-k-test.true) in
    any_at (FailsPayload _ c.args.types.now) c.args.parts.now c.args.payloads.now c.loop-k.k None _ c.index-payloads-k.result _ c.loop-k-test.true m c.in_default.is-0 (sym c.index-payloads-k.is ∙ c.in_default.is-1) tt

pub loop-k-preserved : goal.loop-k-preserved
loop-k-preserved g c =
    let m : c.loop-k.k < length c.args.payloads.now = omega (arith, c.requires.count, c.loop-k-test.true) in
    let more = all_more (PassesPayload _ c.args.types.now) c.args.parts.now c.args.payloads.now c.loop-k.k None in
    elim c.match-part.branch [
      | in-Some-Some+in_ok-test-in-Some-Some w ↦
          more _ c.index-payloads-k.result _ c.loop-k-test.true m w.in-Some-Some.is-0 (sym c.index-payloads-k.is ∙ w.in-Some-Some.is-1) c.loop-k.invariant
          (record { shown = _; shows = refl; beside = c.args.types; holds = refl; says = w.in_ok-test-in-Some-Some.ensures.0 })
      | in-None-None w ↦ more _ c.index-payloads-k.result _ c.loop-k-test.true m w.in-None-None.is-0 (sym c.index-payloads-k.is ∙ w.in-None-None.is-1) c.loop-k.invariant tt
    ]
