-- A journal: the events that tell what a guest was asked and did, in order.
use Rattle.std.specs.Prelude.{◌≡◌, ℕ, List, [], ◌∷◌, ◌++◌, length, Option, None, Some, Result, Ok, Err}
use Rattle.canon_model.specs.Requests.{Call}
use Rattle.canon_memory.specs.declared.error.GuestFault.{GuestFault}
use Rattle.canon_memory.specs.declared.error.GuestFault.TheVariants as fault
use Rattle.canon_memory.specs.declared.event.Event.{Event}
use Rattle.canon_memory.specs.declared.event.Event.TheVariants as event
use Rattle.canon_memory.specs.declared.guest.Step.{Step}
use Rattle.canon_memory.specs.declared.guest.Step.TheVariants as step

-- a journal that is told has these events more at its end
abbrev pub AddsEvents : Option (List Event) → Option (List Event) → List Event → Type 0
AddsEvents None after events = after ≡ None
AddsEvents (Some before) after events = after ≡ Some (before ++ events)

-- the event of what a guest did that was let go, with memory after it
abbrev pub step_event : Step → List ℕ → Event
step_event (step.Return words) after = event.Return words after
step_event (step.Import index words) after = event.Ask index words after

-- the trap of a call that isn't `realloc`, in a memory of so many bytes
abbrev pub trap_event : ℕ → Event
trap_event len = event.Trap None len

-- the events of a guest that was let go by `first`, in a memory of so many bytes, by what it answered; none for want
-- of memory
abbrev pub step_events : Event → ℕ → List ℕ → Result Step GuestFault → List Event
step_events first len after (Ok done) = first ∷ step_event done after ∷ []
step_events first len after (Err fault.Trap) = first ∷ trap_event len ∷ []
step_events first len after (Err fault.OutOfMemory) = []

abbrev pub start_events : ℕ → List ℕ → List ℕ → List ℕ → Result Step GuestFault → List Event
start_events func words before after result = step_events (event.Start func words before) (length before) after result

abbrev pub resume_events : List ℕ → List ℕ → List ℕ → Result Step GuestFault → List Event
resume_events words before after result = step_events (event.Resume words before) (length before) after result

-- the events of a call that the guest ends itself, by its event
abbrev pub ended_events : Event → ℕ → Result (Unit {0}) GuestFault → List Event
ended_events first len (Ok done) = first ∷ []
ended_events first len (Err fault.Trap) = first ∷ trap_event len ∷ []
ended_events first len (Err fault.OutOfMemory) = []

abbrev pub post_events : ℕ → List ℕ → List ℕ → Result (Unit {0}) GuestFault → List Event
post_events func words before result = ended_events (event.Post func words) (length before) result

abbrev pub dtor_events : ℕ → ℕ → List ℕ → Result (Unit {0}) GuestFault → List Event
dtor_events func rep before result = ended_events (event.Dtor func rep) (length before) result

-- of `realloc`: its answer, or the trap with what was asked
abbrev pub answer_event : Call → ℕ → Event
answer_event c answer = event.Realloc c.old c.old_size c.align c.new_size answer

abbrev pub asked_trap : Call → ℕ → Event
asked_trap c len = event.Trap (Some (c.old, c.old_size, c.align, c.new_size)) len

abbrev pub realloc_events : Call → List ℕ → Result ℕ GuestFault → List Event
realloc_events c before (Ok answer) = answer_event c answer ∷ []
realloc_events c before (Err fault.Trap) = asked_trap c (length before) ∷ []
realloc_events c before (Err fault.OutOfMemory) = []
