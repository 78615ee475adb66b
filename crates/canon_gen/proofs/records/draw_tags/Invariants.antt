use Rattle.std.proofs.Common.{◌≡◌, ◌-◌, ◌++◌, map}
use Rattle.canon_literals.specs.Literals.{literals_view, text}
use Rattle.canon_gen.specs.Draws.{after_texts, texts}
use Rattle.canon_gen.specs.Records as spec
use Rattle.canon_gen.proofs.records.draw_tags.Given as goal

-- the tags so far and those that are left are all
abbrev pub invariant-loop : goal.invariant-loop
invariant-loop l =
    (literals_view l.tags.items ++ map text (texts (l.count - l.counter) l.state) ≡ map text (spec.tags l.fn.state))
    × (after_texts (l.count - l.counter) l.state ≡ spec.after_tags l.fn.state)
