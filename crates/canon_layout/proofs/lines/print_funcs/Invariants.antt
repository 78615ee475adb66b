use Rattle.std.proofs.Common.{◌≡◌, ◌++◌, drop, string_bytes}
use Rattle.canon_layout.specs.Lines as spec
use Rattle.canon_layout.proofs.lines.print_funcs.Given as goal

-- the text so far and the lines of what is left are the whole
abbrev pub invariant-loop-i : goal.invariant-loop-i
invariant-loop-i l = string_bytes l.text ++ spec.func_lines l.table l.i (drop l.i l.table.funcs) ≡ string_bytes l.fn.text ++ spec.func_lines l.table 0 l.table.funcs
