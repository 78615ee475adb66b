use Rattle.std.proofs.Common.{ap₂, arith, ◌*◌, ◌+◌, ◌∙◌}
use Rattle.std.proofs.lemmas.List.{length-set}
use Rattle.canon_text.proofs.Pairs.{units-set}
use Rattle.canon_text.proofs.units.make_units.Goals as goal

pub loop-i-preserved : goal.loop-i-preserved
loop-i-preserved c =
    let unit = c.from.result + 256 * c.from-in-loop-i.result in (
      length-set c.loop-i.units c.loop-i.i unit ∙ c.loop-i.invariant.0,
      units-set c.args.src.now c.loop-i.units c.args.from c.loop-i.i unit (omega (arith, c.loop-i.invariant.0, c.min-count.ensures, c.loop-i-test.true)) c.loop-i.invariant.1 (omega (arith, c.min-count.ensures, c.loop-i-test.true))
          (ap₂ (λ low high. low + 256 * high) c.from.ensures c.from-in-loop-i.ensures),
    )
