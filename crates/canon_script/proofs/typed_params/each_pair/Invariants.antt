use Rattle.std.proofs.Common.{◌≡◌, ◌++◌, drop, map, option_map}
use Rattle.canon_literals.specs.Literals.{literals_of, literals_view}
use Rattle.canon_script.specs.Typed as spec
use Rattle.canon_script.proofs.typed_params.each_pair.Given as goal

-- the pairs so far and those that are left are all of them
abbrev pub invariant-loop-item : goal.invariant-loop-item
invariant-loop-item l =
    option_map (λ ps. map spec.name_view l.pairs.items ++ ps)
    (spec.each_literal spec.string_and_long_in (literals_of (literals_view (drop l.item-index l.items)))) ≡ spec.each_literal spec.string_and_long_in (literals_of (literals_view l.items))
