use Rattle.std.proofs.Common.{arith, inl, inr, length, ◌+◌, ◌/◌, ◌<◌, ◌≡◌}
use Rattle.canon_text.proofs.Pairs.{cuts_none_end, cuts_none_last, length-units_in}
use Rattle.canon_text.specs.Decoding.{units_in}
use Rattle.canon_text.proofs.units.make_piece.Goals.{else-from-count-via-then-from-count+then-last-ge55296+else-last-lt56320, else-from-count-via-then-from-count+else-last-ge55296, else-from-count-via-else-from-count}
use Rattle.canon_text.proofs.units.make_piece.Goals as goal

pub returns-clause-whole : goal.returns-clause-whole
returns-clause-whole c =
    let a = c.args in
    let source = units_in a.src.now in
    let made = c.make_units-count in
    let count = made.result in
    let long : length source ≡ length a.src.now / 2 = length-units_in a.src.now in
    let some : 0 < count = omega (arith, made.ensures.count, c.requires.some, c.requires.room) in
    elim c.else-from-count.branch [
      | else-from-count-via-then-from-count+then-last-ge55296+else-last-lt56320 w ↦
          cuts_none_last source made.new.units a.from count (a.from + count) (omega arith) made.ensures.made some (inr (omega (arith, w.if-last-lt56320.false)))
      | else-from-count-via-then-from-count+else-last-ge55296 w ↦
          cuts_none_last source made.new.units a.from count (a.from + count) (omega arith) made.ensures.made some (inl (omega (arith, w.if-last-ge55296.false)))
      | else-from-count-via-else-from-count w ↦ cuts_none_end source (a.from + count) (omega (arith, long, w.if-from-count.false))
    ]
