use Rattle.canon_literals.proofs.Held.{map_collected, record_collected}
use Rattle.canon_literals.proofs.resources.+collect.Goals as goal

pub collect-returns-in-Map : goal.collect-returns-in-Map
collect-returns-in-Map t c =
    map_collected c.collect_pairs.result c.args.found.now.items c.collect_pairs.new.found.items c.args.value.now c.in-Map.pairs c.deref-in-Map.result.now c.in-Map.is c.deref-in-Map.ensures.value c.collect_pairs.ensures

pub collect-returns-in-Record : goal.collect-returns-in-Record
collect-returns-in-Record t c =
    record_collected c.collect_fields.result c.args.found.now.items c.collect_fields.new.found.items c.args.value.now c.in-Record.fields c.deref-in-Record.result.now c.in-Record.is c.deref-in-Record.ensures.value c.collect_fields.ensures
