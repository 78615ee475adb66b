-- What is left completes the depth so far.
use Rattle.std.proofs.Common.{◌≡◌, List, drop, max}
use Rattle.canon_types.specs.declared.types.InterfaceType.{InterfaceType}
use Rattle.canon_types.specs.Depth.{deepest}
use Rattle.canon_types.specs.Table.{members_of}
use Rattle.canon_types.proofs.table.ComponentTypes.deepest.Given as goal

abbrev pub invariant-loop-ty : goal.invariant-loop-ty
invariant-loop-ty l =
    let depth_of = λ (types : List InterfaceType). deepest (members_of l.self types) in
    max l.deepest (depth_of (drop l.ty-index l.types)) ≡ depth_of l.types
