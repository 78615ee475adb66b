use Rattle.std.proofs.Common.{ap, arith, sym, ◌+◌, ◌-◌, ◌∙◌, ◌≡◌}
use Rattle.canon_text.specs.Writing.{inflating}
use Rattle.canon_text.proofs.Bytes.{inflating_start}
use Rattle.canon_text.proofs.UnitBlocks.{inflating_block}
use Rattle.canon_text.proofs.unit_blocks.inflate_blocks.Goals as goal

pub loop-left-init : goal.loop-left-init
loop-left-init c = record { small = omega arith; bytes = λ k. omega (arith, c.type_inv.dst k); stands = sym (inflating_start c.args.dst.now c.args.count) }

pub loop-left-preserved : goal.loop-left-preserved
loop-left-preserved c =
    let one : c.loop-left.left ≡ c.loop-left.left - 8 + 8 = omega arith in
    record {
      small = omega (arith, c.loop-left.invariant.small);
      bytes = c.loop-left.invariant.bytes;
      stands = inflating_block c.args.dst.now
          c.loop-left.dst _ c.args.count (c.loop-left.left - 8) 8 (c.loop-left.invariant.stands ∙ ap (λ n. inflating c.args.dst.now c.args.count n) one)
          (omega (arith, c.loop-left.invariant.small)) c.requires c.store_bytes.ensures;
    }
