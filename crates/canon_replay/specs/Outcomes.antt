-- Where a guest that replays is in a call.
use Rattle.std.specs.Prelude.{Bool, None, Option, Some, false, if◌then◌else◌, length, nat_eq, nat_le, nat_lt, true, ℕ, ◌&&◌}
use Rattle.canon_replay_guest.specs.Replaying.{Replaying, call_events}
use Rattle.canon_replay_guest.specs.declared.stop.Stop.{Stop}
use Rattle.canon_replay_guest.specs.declared.stop.Stop.TheVariants as stop
use Rattle.canon_replay.specs.declared.outcome.Outcome.{Outcome}
use Rattle.canon_replay.specs.declared.outcome.Outcome.TheVariants as outcome

-- how many recorded events of call k it passed: none before the call, and all after it
abbrev pub place_in_call : ℕ → Replaying → ℕ
place_in_call k g = if nat_lt g.call k then 0 else (if nat_eq g.call k && nat_lt g.at (length (call_events g.recorded k)) then g.at else length (call_events g.recorded k))

abbrev pub is_unlawful : Option Stop → Bool
is_unlawful (Some stop.Unlawful) = true
is_unlawful _ = false

-- it trapped in the call at an answer that isn't lawful, or else the call isn't as it was recorded
abbrev pub outcome_at : ℕ → Replaying → Outcome
outcome_at k g = if nat_eq g.call k && is_unlawful g.stop then outcome.Unlawful k (place_in_call k g) else outcome.Differs k (place_in_call k g)

abbrev pub is_going : Option Stop → Bool
is_going None = true
is_going (Some why) = false

-- it passed all recorded events of call k, and didn't trap
abbrev pub has_passed : ℕ → Replaying → Bool
has_passed k g = is_going g.stop && (nat_eq g.call k && nat_le (length (call_events g.recorded k)) g.at)
