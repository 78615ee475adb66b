-- those so far are copied
use Rattle.std.proofs.Common.{◌≡◌, map, take}
use Rattle.canon_imports.specs.Imports.{entries_of}
use Rattle.canon_player.specs.Session.{entry_view, served_view}
use Rattle.canon_player.proofs.served.served_after.Given as goal

abbrev pub invariant-loop-line : goal.invariant-loop-line
invariant-loop-line l = map served_view l.served.items ≡ map entry_view (entries_of (take l.line-index l.later))
