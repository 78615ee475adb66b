-- How far what was told follows what was recorded of a call.
use Rattle.std.specs.Prelude.{List, None, Option, Some, [], flat_map, length, slice_get, suc, take, ℕ, ⊤, ◌++◌, ◌+◌, ◌<◌, ◌∷◌, ◌≡◌, ◌≤◌, ◌⊎◌}
use Rattle.canon_model.specs.Memory.{Block}
use Rattle.canon_model.specs.Requests.{Call}
use Rattle.canon_memory.specs.declared.event.Event.{Event}
use Rattle.canon_memory.specs.declared.event.Event.TheVariants as event
use Rattle.canon_memory.specs.Guest.{GuestIn}
use Rattle.canon_memory.specs.Realloc.{call}
use Rattle.canon_memory.specs.Watch.{live_along}
use Rattle.canon_replay_guest.specs.Lawful.{IsLawfulAnswer}
use Rattle.canon_replay_guest.specs.Moves.{Chain, GuestRequest, IsOtherRequest, IsRecordedAnswer, ReplayMoves, RequestOutcome, destroys, outcome_events, posts, reallocates, resumes, starts}
use Rattle.canon_replay_guest.specs.Passing.{AreAlike, AreUntrapped, PassesRecorded}
use Rattle.canon_replay_guest.specs.Replaying.{Replaying, call_events, events_now}
use Rattle.canon_replay_guest.specs.declared.stop.Stop.{Stop}
use Rattle.canon_replay_guest.specs.declared.stop.Stop.TheVariants as stop

-- the event is of this request, answered or not
abbrev pub IsOfRequest : Event → GuestRequest → Type 0
IsOfRequest (event.Start f ws m) (starts g vs) = (f ≡ g) × (ws ≡ vs)
IsOfRequest (event.Resume ws m) (resumes vs) = ws ≡ vs
IsOfRequest (event.Realloc old old_size align new_size answer) (reallocates c) = call old old_size align new_size ≡ c
IsOfRequest (event.Trap (Some (old, old_size, align, new_size)) len) (reallocates c) = call old old_size align new_size ≡ c
IsOfRequest (event.Post f ws) (posts g vs) = (f ≡ g) × (ws ≡ vs)
IsOfRequest (event.Dtor f r) (destroys g s) = (f ≡ g) × (r ≡ s)
IsOfRequest _ _ = ⊥

-- Of a request, the recorded event there, the blocks that live and the length of memory: why what is recorded isn't followed.
abbrev pub IsLeftBy : Stop → Option Event → List Block → ℕ → GuestRequest → Type 0
IsLeftBy stop.Differs e live len q = IsOtherRequest e q
IsLeftBy stop.Unlawful e live len q = (c : Call) × (answer : ℕ) × (q ≡ reallocates c) × IsRecordedAnswer e c answer × ¬ (IsLawfulAnswer live len c answer)
IsLeftBy stop.Unfit e live len q = ⊤

-- The events told are alike the recorded ones up to a place, where a request was made at which they aren't followed; `live` lived before, and memory
-- has `len` bytes after.
pub record Leaves (why : Stop) (recorded : List Event) (place : ℕ) (live : List Block) (len : ℕ) (events : List Event) : Type 0 where
  pub followed : List Event
  pub made : Event
  pub rest : List Event
  pub is : events ≡ followed ++ made ∷ rest
  pub alike : AreAlike followed (take place recorded)
  pub request : GuestRequest
  pub of : IsOfRequest made request
  pub left : IsLeftBy why (slice_get recorded place) (live_along live followed) len request

-- it is in a call, or has passed all of the call before
abbrev pub InCall : ℕ → Replaying → Type 0
InCall k g = (g.call ≡ k) ⊎ ((suc g.call ≡ k) × (length (events_now g) ≤ g.at))

-- it is before the first event of a call
abbrev pub IsBefore : ℕ → Replaying → Type 0
IsBefore k g = ((g.call ≡ k) × (g.at ≡ 0)) ⊎ ((suc g.call ≡ k) × (length (events_now g) ≤ g.at))

-- so many recorded events of the call were passed, where it is in the call, and else none
abbrev pub IsPassedCount : ℕ → Replaying → ℕ → Type 0
IsPassedCount k h n = ((h.call ≡ k) × (n ≡ h.at)) ⊎ ((suc h.call ≡ k) × (n ≡ 0))

-- From before a call: it follows what is recorded of it.
pub record Follows (k : ℕ) (g h : Replaying) (events : List Event) : Type 0 where
  pub going : h.stop ≡ None
  pub same : h.recorded ≡ g.recorded
  pub in_call : InCall k h
  pub count : ℕ
  pub passes : IsPassedCount k h count
  pub alike : AreAlike events (take count (call_events g.recorded k))
  pub live : h.live ≡ live_along g.live events

-- Or it trapped at the place where it is; or requests were made past the call's last recorded event.
abbrev pub TrapsInCall : ℕ → Replaying → Replaying → ℕ → List Event → Type 0
TrapsInCall k g h len events = (why : Stop) × (h.stop ≡ Some why) × (h.call ≡ k) × Leaves why (call_events g.recorded k) h.at g.live len events

abbrev pub Overruns : ℕ → Replaying → Replaying → ℕ → List Event → Type 0
Overruns k g h len events = (k < h.call) × Leaves stop.Differs (call_events g.recorded k) (length (call_events g.recorded k)) g.live len events

-- From before one of the recorded calls on, whatever is asked of it, it does one of the three.
abbrev pub MovesFollow : Type 0
MovesFollow = (k : ℕ) (g h : GuestIn Replaying) (events : List Event) → g.guest.stop ≡ None → k < length g.guest.recorded → IsBefore k g.guest → ReplayMoves g events h
    → Follows k g.guest h.guest events ⊎ TrapsInCall k g.guest h.guest h.len events ⊎ Overruns k g.guest h.guest h.len events

-- What calls that didn't trap tell is alike the recorded events that were passed.
abbrev pub ChainPasses : Type 0
ChainPasses = (g h : Replaying) (len last : ℕ) (calls : List RequestOutcome) → AreUntrapped calls → Chain g len calls h last → PassesRecorded g h (flat_map outcome_events calls)
