-- The events of each call of a guest behind a channel are those that its messages tell.
use Rattle.std.proofs.Common.{Err, List, Ok, Option, Result, [], ap, refl, sym, subst, ℕ, ◌++◌, ◌∙◌, ◌∷◌, ◌≡◌}
use Rattle.std.proofs.lemmas.List.{append-nil}
use Rattle.canon_model.specs.Requests.{Call}
use Rattle.canon_memory.specs.Guest.{OnAnswer}
use Rattle.canon_memory.specs.Journal.{dtor_events, post_events, realloc_events, resume_events, start_events}
use Rattle.canon_memory.specs.declared.error.GuestFault.{GuestFault}
use Rattle.canon_memory.specs.declared.error.GuestFault.TheVariants as fault
use Rattle.canon_memory.specs.declared.event.Event.{Event}
use Rattle.canon_memory.specs.declared.guest.Step.{Step}
use Rattle.canon_memory.specs.declared.guest.Step.TheVariants as step
use Rattle.canon_relay.specs.Channel.{AddsMessages, Message}
use Rattle.canon_relay.specs.Relay.{Converses, OnBlock, OnDone, OnStep, TellsEvents, Turn}
use Rattle.canon_relay.specs.declared.demand.Demand.TheVariants as demand

module _ (log log2 : Option (List Message)) where
  one : (events : List Event) (messages : List Message) → AddsMessages log log2 messages → TellsEvents events messages → Converses log log2 events
  one events messages added told = record {
    turns = record { events = events; messages = messages } ∷ [];
    are = (told, tt);
    events_are = sym (append-nil events);
    passed = subst (AddsMessages log log2) (sym (append-nil messages)) added;
  }

  pub start_converses : (func : ℕ) (words before after : List ℕ) (r : Result Step GuestFault) → OnStep log log2 (demand.Start func) words before after r
      → OnAnswer r (Converses log log2 (start_events func words before after r))
  start_converses func words before after (Ok (step.Return results)) h = one _ h.0 h.1 h.2
  start_converses func words before after (Ok (step.Import index asked)) h = one _ h.0 h.1 h.2
  start_converses func words before after (Err fault.Trap) h = one _ h.0 h.1 (refl, h.2)
  start_converses func words before after (Err fault.OutOfMemory) h = tt

  pub resume_converses : (words before after : List ℕ) (r : Result Step GuestFault) → OnStep log log2 demand.Resume words before after r
      → OnAnswer r (Converses log log2 (resume_events words before after r))
  resume_converses words before after (Ok (step.Return results)) h = one _ h.0 h.1 h.2
  resume_converses words before after (Ok (step.Import index asked)) h = one _ h.0 h.1 h.2
  resume_converses words before after (Err fault.Trap) h = one _ h.0 h.1 (refl, h.2)
  resume_converses words before after (Err fault.OutOfMemory) h = tt

  pub realloc_converses : (c : Call) (before after : List ℕ) (r : Result ℕ GuestFault) → OnBlock log log2 (demand.Realloc c.old c.old_size c.align c.new_size) before after r
      → OnAnswer r (Converses log log2 (realloc_events c before r))
  realloc_converses c before after (Ok at) h = one _ h.0 h.1 (before, after, h.2)
  realloc_converses c before after (Err fault.Trap) h = one _ h.0 h.1 (before, refl, h.2)
  realloc_converses c before after (Err fault.OutOfMemory) h = tt

  pub post_converses : (func : ℕ) (words before after : List ℕ) (r : Result (Unit {0}) GuestFault) → OnDone log log2 (demand.PostReturn func) words before after r
      → OnAnswer r (Converses log log2 (post_events func words before r))
  post_converses func words before after (Ok x) h = one _ h.0 h.1 (before, after, h.2)
  post_converses func words before after (Err fault.Trap) h = one _ h.0 h.1 (before, refl, h.2)
  post_converses func words before after (Err fault.OutOfMemory) h = tt

  pub dtor_converses : (func rep : ℕ) (before after : List ℕ) (r : Result (Unit {0}) GuestFault) → OnDone log log2 (demand.Dtor func rep) [] before after r
      → OnAnswer r (Converses log log2 (dtor_events func rep before r))
  dtor_converses func rep before after (Ok x) h = one _ h.0 h.1 (before, after, h.2)
  dtor_converses func rep before after (Err fault.Trap) h = one _ h.0 h.1 (before, refl, h.2)
  dtor_converses func rep before after (Err fault.OutOfMemory) h = tt
