-- What was told against what was recorded.
use Rattle.std.specs.Prelude.{List, [], ◌++◌, ◌∷◌, ◌≡◌, ⊤}
use Rattle.canon_memory.specs.declared.event.Event.{Event}
use Rattle.canon_memory.specs.declared.event.Event.TheVariants as event
use Rattle.canon_replay_guest.specs.Moves.{RequestOutcome, answered, ended, stepped, trapped}
use Rattle.canon_replay_guest.specs.Replaying.{Replaying, passed_events}

-- the same event, but for the memory in which it was started or resumed
abbrev pub IsAlike : Event → Event → Type 0
IsAlike (event.Start f ws m) (event.Start g vs n) = (f ≡ g) × (ws ≡ vs)
IsAlike (event.Resume ws m) (event.Resume vs n) = ws ≡ vs
IsAlike e r = e ≡ r

abbrev pub AreAlike : List Event → List Event → Type 0
AreAlike [] rs = rs ≡ []
AreAlike (e ∷ es) rs = (r : Event) × (rest : List Event) × (rs ≡ r ∷ rest) × IsAlike e r × AreAlike es rest

-- it didn't trap
abbrev pub IsUntrapped : RequestOutcome → Type 0
IsUntrapped (trapped q before after) = ⊥
IsUntrapped _ = ⊤

abbrev pub AreUntrapped : List RequestOutcome → Type 0
AreUntrapped [] = ⊤
AreUntrapped (x ∷ xs) = IsUntrapped x × AreUntrapped xs

-- these recorded events were passed, and what was told is alike them
pub record PassesRecorded (g h : Replaying) (events : List Event) : Type 0 where
  pub next : List Event
  pub same : h.recorded ≡ g.recorded
  pub goes : passed_events h ≡ passed_events g ++ next
  pub alike : AreAlike events next
