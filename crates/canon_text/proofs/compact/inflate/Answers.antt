use Rattle.std.proofs.Common.{ap, arith, sym, ◌+◌, ◌-◌, ◌∙◌, ◌≡◌}
use Rattle.canon_text.specs.Writing.{inflating}
use Rattle.canon_text.proofs.Bytes.{inflating_end, inflating_step, latin1_front, length-inflated}
use Rattle.canon_text.proofs.compact.inflate.Goals as goal

pub loop-i-init : goal.loop-i-init
loop-i-init c = record { stands = c.inflate_blocks-left.ensures.writes; bytes = c.inflate_blocks-left.ensures.bytes }

pub loop-i-preserved : goal.loop-i-preserved
loop-i-preserved c =
    let one : c.loop-i.i - 1 + 1 ≡ c.loop-i.i = omega arith in
    let begin : c.loop-i.dst ≡ inflating c.args.dst.now c.args.count (c.loop-i.i - 1 + 1) = c.loop-i.invariant.stands ∙ ap (λ n. inflating c.args.dst.now c.args.count n) (sym one) in
    record {
      stands = inflating_step c.args.dst.now c.loop-i.dst _ c.args.count (c.loop-i.i - 1) c.from.result begin (omega (arith, c.loop-i.auto.i, c.inflate_blocks-left.ensures.left)) c.requires c.from.ensures c.write_unit.ensures;
      bytes = c.loop-i.invariant.bytes;
    }

pub returns : goal.returns
returns c =
    let last : c.loop-i.i ≡ 0 = omega arith in
    let small = latin1_front c.args.dst.now c.args.count c.loop-i.invariant.bytes in
    record {
      writes = c.loop-i.invariant.stands ∙ ap (λ n. inflating c.args.dst.now c.args.count n) last ∙ inflating_end c.args.dst.now c.args.count c.requires small;
      long = length-inflated c.args.dst.now c.args.count c.requires small;
    }
