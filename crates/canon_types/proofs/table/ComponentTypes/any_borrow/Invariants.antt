-- None of those before has one.
use Rattle.std.proofs.Common.{◌≡◌, drop}
use Rattle.canon_types.specs.Depth.{member_borrows}
use Rattle.canon_types.specs.Table.{members_of}
use Rattle.canon_types.proofs.table.ComponentTypes.any_borrow.Given as goal

abbrev pub invariant-loop-ty : goal.invariant-loop-ty
invariant-loop-ty l = member_borrows (members_of l.self (drop l.ty-index l.types)) ≡ member_borrows (members_of l.self l.types)
