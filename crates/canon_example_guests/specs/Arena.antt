-- What the calls of an arena do to its counts.
use Rattle.std.specs.Prelude.{ℕ, ◌+◌, ◌≤◌, ◌≡◌, Result, Ok, Err}
use Rattle.canon_memory.specs.declared.error.GuestFault.{GuestFault}
use Rattle.canon_memory.specs.declared.error.GuestFault.TheVariants as fault
use Rattle.canon_scripted.specs.Scripted.{raised_count}
use Rattle.canon_example_guests.specs.declared.arena.Arena.{Arena}

-- a fault counts once, and nothing else changes
abbrev pub Counts : GuestFault → Arena → Arena → Type 0
Counts fault.Trap before after = (after ≡ record before { traps = raised_count before.traps }) × (before.traps ≤ after.traps)
Counts fault.OutOfMemory before after = (after ≡ record before { shortages = raised_count before.shortages }) × (before.shortages ≤ after.shortages)

-- an answer of `start` changes nothing
abbrev pub Starts : {T : Type 0} → Result T GuestFault → Arena → Arena → Type 0
Starts (Ok step) before after = after ≡ before
Starts (Err fault) before after = Counts fault before after

-- an answer of `realloc` is counted, and may add a block
abbrev pub CountsAnswer : Result ℕ GuestFault → Arena → Arena → Type 0
CountsAnswer (Ok at) before after = after ≡ record before { blocks = after.blocks; answers = before.answers + 1 }
CountsAnswer (Err fault) before after = Counts fault before after
