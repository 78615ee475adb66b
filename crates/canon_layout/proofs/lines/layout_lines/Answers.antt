use Rattle.serde_json.specs.View.{view}
use Rattle.canon_layout.proofs.Known.{layout_known}
use Rattle.canon_layout.proofs.lines.layout_lines.Goals as goal

pub print_funcs-requires : goal.print_funcs-requires
print_funcs-requires c = let stands = layout_known (view c.args.v.now) _ c.in_ok-table.ensures.table in stands.few
