use Rattle.std.proofs.Common.{◌<◌, length, rules}
use Rattle.canon_layout.proofs.FuncLines.{funcs_more}
use Rattle.canon_layout.proofs.lines.print_funcs.Goals as goal

pub loop-i-preserved : goal.loop-i-preserved
loop-i-preserved c =
    let there : c.from_u32-func.result < length c.args.table.now.funcs = search rules in
    funcs_more c.args.table.now c.loop-i.i c.from_u32-func.result _ _ _ c.from_u32-func.ensures there c.in_ok-print_func.ensures c.loop-i.invariant
