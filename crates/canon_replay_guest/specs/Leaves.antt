-- What the parts of a call leave.
use Rattle.std.specs.Prelude.{Err, List, None, Ok, Option, Result, [], length, min, ℕ, ◌+◌, ◌≡◌, ◌≢◌, ◌≤◌, ◌⊎◌}
use Rattle.canon_model.specs.Requests.{Call}
use Rattle.canon_memory.specs.declared.error.GuestFault.{GuestFault}
use Rattle.canon_memory.specs.declared.error.GuestFault.TheVariants as fault
use Rattle.canon_memory.specs.declared.guest.Step.{Step}
use Rattle.canon_memory.specs.Watch.{relisted}
use Rattle.canon_scripted.specs.Scripted.{raised_count}
use Rattle.canon_replay_guest.specs.Lawful.{IsLawfulAnswer}
use Rattle.canon_replay_guest.specs.Moves.{GuestRequest, IsNext, IsRecordedAnswer, IsStep, Replays, TakesStep, answered, ended, reallocates, stepped, trapped}
use Rattle.canon_replay_guest.specs.Replaying.{CanGrow, IsOpened, Replaying, event_after, grown_to, moved, next_event, stopped_for, trapped_again, wanted_length}
use Rattle.canon_replay_guest.specs.declared.stop.Stop.TheVariants as stop

-- want of memory is counted
abbrev pub run_out : Replaying → Replaying
run_out g = record g { shortages = raised_count g.shortages }

-- no count falls
abbrev pub IsLater : Replaying → Replaying → Type 0
IsLater g h = (g.traps ≤ h.traps) × (g.shortages ≤ h.shortages)

-- Want of memory was answered: it passed no event, and may have opened a call.
abbrev pub IsOutOfMemory : Replaying → Replaying → Type 0
IsOutOfMemory g h = (mid : Replaying) × ((mid ≡ g) ⊎ IsOpened g mid) × (h ≡ run_out mid)

-- A call was opened, and memory grown; or why not.
abbrev pub Began : Replaying → List ℕ → Replaying → List ℕ → Result (Unit {0}) GuestFault → Type 0
Began g bytes h after (Ok done) = (g.stop ≡ None) × IsOpened g h × (after ≡ grown_to bytes (wanted_length h (length bytes))) × CanGrow (length bytes) (wanted_length h (length bytes))
Began g bytes h after (Err fault.Trap) = (after ≡ bytes) × (((g.stop ≢ None) × (h ≡ trapped_again g))
    ⊎ ((g.stop ≡ None) × ((mid : Replaying) × IsOpened g mid × ¬ (CanGrow (length bytes) (wanted_length mid (length bytes))) × (h ≡ stopped_for mid stop.Unfit))))
Began g bytes h after (Err fault.OutOfMemory) = (after ≡ bytes) × ((mid : Replaying) × IsOpened g mid × (h ≡ run_out mid))

-- The recorded step was made, or why not.
abbrev pub StepsAsRecorded : Replaying → List ℕ → Replaying → List ℕ → Result Step GuestFault → Type 0
StepsAsRecorded g bytes h after (Ok step) = IsStep (event_after g) (length bytes) step after × (h ≡ record g { at = g.at + 2; live = [] })
StepsAsRecorded g bytes h after (Err fault.Trap) = TakesStep (event_after g) bytes after (Err fault.Trap) × (h ≡ stopped_for g stop.Unfit)
StepsAsRecorded g bytes h after (Err fault.OutOfMemory) = h ≡ run_out g

-- The recorded answer was given, and the first bytes of the old block copied; or why not.
abbrev pub AnswersAsRecorded : Replaying → List ℕ → Call → Replaying → List ℕ → Result ℕ GuestFault → Type 0
AnswersAsRecorded g bytes c h after (Ok answer) = IsRecordedAnswer (next_event g) c answer × IsLawfulAnswer g.live (length bytes) c answer
    × (after ≡ moved bytes c.old answer (min c.old_size c.new_size)) × (h ≡ record g { at = g.at + 1; live = relisted g.live c answer })
AnswersAsRecorded g bytes c h after (Err fault.Trap) = (after ≡ bytes) × ((¬ (IsNext (next_event g) (reallocates c)) × (h ≡ stopped_for g stop.Differs))
    ⊎ ((answer : ℕ) × IsRecordedAnswer (next_event g) c answer × ¬ (IsLawfulAnswer g.live (length bytes) c answer) × (h ≡ stopped_for g stop.Unlawful)))
AnswersAsRecorded g bytes c h after (Err fault.OutOfMemory) = (after ≡ bytes) × (h ≡ run_out g)

-- ---- whole calls

abbrev pub DoesStep : GuestRequest → Replaying → List ℕ → Replaying → List ℕ → Result Step GuestFault → Type 0
DoesStep q g bytes h after (Ok step) = Replays g (stepped q bytes after step) h
DoesStep q g bytes h after (Err fault.Trap) = Replays g (trapped q bytes (length after)) h
DoesStep q g bytes h after (Err fault.OutOfMemory) = IsOutOfMemory g h

abbrev pub DoesEnd : GuestRequest → Replaying → List ℕ → Replaying → Result (Unit {0}) GuestFault → Type 0
DoesEnd q g bytes h (Ok done) = Replays g (ended q bytes) h
DoesEnd q g bytes h (Err fault.Trap) = Replays g (trapped q bytes (length bytes)) h
DoesEnd q g bytes h (Err fault.OutOfMemory) = IsOutOfMemory g h

-- memory was grown, and then the first bytes of the old block were copied
abbrev pub IsCopied : List ℕ → Call → ℕ → List ℕ → Type 0
IsCopied bytes c answer after = after ≡ moved (grown_to bytes (length after)) c.old answer (min c.old_size c.new_size)

abbrev pub ReallocatesAsRecorded : Replaying → List ℕ → Call → Replaying → List ℕ → Result ℕ GuestFault → Type 0
ReallocatesAsRecorded g bytes c h after (Ok answer) = Replays g (answered c (length bytes) (length after) answer) h × IsCopied bytes c answer after
ReallocatesAsRecorded g bytes c h after (Err fault.Trap) = Replays g (trapped (reallocates c) bytes (length after)) h × (length bytes ≤ length after)
ReallocatesAsRecorded g bytes c h after (Err fault.OutOfMemory) = IsOutOfMemory g h × (length bytes ≤ length after)
