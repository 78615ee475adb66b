use Rattle.std.proofs.Common.{map}
use Rattle.canon_script.specs.Typed.{name_view, string_and_long_in}
use Rattle.canon_script.proofs.Members.{literals_end, literals_step, map_grown}
use Rattle.canon_script.proofs.typed_params.each_pair.Goals as goal

pub loop-item-preserved : goal.loop-item-preserved
loop-item-preserved c =
    literals_step string_and_long_in c.args.items.now c.loop-item.item-index c.item-item.result (map name_view c.loop-item.pairs.items) (map name_view c.keep.new.row.items) (name_view c.in_ok-pair.pair)
    c.loop-item-test.true c.item-item.is c.in_ok-pair.ensures (map_grown name_view c.loop-item.pairs.items c.keep.new.row.items c.in_ok-pair.pair c.in_ok-keep.ensures.ok) c.loop-item.invariant

pub returns : goal.returns
returns c = literals_end string_and_long_in c.args.items.now c.loop-item.item-index (map name_view c.loop-item.pairs.items) c.loop-item-test.false c.loop-item.invariant
