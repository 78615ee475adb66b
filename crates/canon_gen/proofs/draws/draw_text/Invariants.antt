use Rattle.std.proofs.Common.{◌≡◌, ◌-◌, ◌++◌, string_bytes}
use Rattle.canon_gen.specs.Draws as spec
use Rattle.canon_gen.proofs.draws.draw_text.Given as goal

-- the text so far and the characters that are left are the whole
abbrev pub invariant-loop : goal.invariant-loop
invariant-loop l =
    (string_bytes l.text ++ spec.characters (l.len - l.counter) l.state ≡ spec.text_drawn l.fn.k l.fn.state)
    × (spec.after_draws (l.len - l.counter) l.state ≡ spec.after_text l.fn.k l.fn.state)
