use Rattle.std.proofs.Common.{◌≡◌, ◌++◌, drop, option_map}
use Rattle.canon_literals.specs.Literals.{literals_of, literals_view}
use Rattle.canon_script.specs.Typed as spec
use Rattle.canon_script.proofs.typed_params.each_number.Given as goal

-- the numbers so far and those that are left are all of them
abbrev pub invariant-loop-item : goal.invariant-loop-item
invariant-loop-item l =
    option_map (λ ns. l.numbers.items ++ ns) (spec.each_literal spec.literal_number (literals_of (literals_view (drop l.item-index l.items)))) ≡ spec.each_literal spec.literal_number (literals_of (literals_view l.items))
