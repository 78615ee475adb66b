use Rattle.std.specs.List.{AllWithin}
use Rattle.canon_replay_guest.specs.Lawful.{IsOldOrApart}
use Rattle.canon_replay_guest.proofs.live.are_free.Given as goal

abbrev pub invariant-loop-b : goal.invariant-loop-b
invariant-loop-b l = AllWithin (IsOldOrApart l.old l.new) l.blocks 0 l.b-index
