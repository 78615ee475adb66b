-- What is left of a run at each stage of it.
use Rattle.std.specs.Prelude.{Bool, List, None, Option, Some, [], false, if◌then◌else◌, nat_eq, true, ℕ, ◌++◌, ◌∷◌, ◌≡◌, ◌↔◌}
use Rattle.canon_lowering.specs.Lowering.{Answer, events_of}
use Rattle.canon_memory.specs.declared.event.Event.{Event}
use Rattle.canon_memory.specs.declared.event.Event.TheVariants as event
use Rattle.canon_func.specs.Runs.{AskTurn, IsOneRun, events_in, last_len, posts}
use Rattle.canon_recording.specs.declared.runs.Stage.{Stage}
use Rattle.canon_recording.specs.declared.runs.Stage.TheVariants as stage

-- asks that are served, a return, and post-return where there is one
pub record RunsOn (post : Option ℕ) (events : List Event) : Type 0 where
  pub turns : List AskTurn
  pub returned : List ℕ
  pub after : List ℕ
  pub is : events ≡ events_in turns ++ event.Return returned after ∷ posts post returned

-- blocks that are asked for, and then a resume and the rest
pub record IsServedOn (post : Option ℕ) (events : List Event) : Type 0 where
  pub answers : List Answer
  pub words : List ℕ
  pub memory : List ℕ
  pub rest : List Event
  pub is : events ≡ events_of answers None ++ event.Resume words memory ∷ rest
  pub runs : RunsOn post rest

-- of a run of this function and this post-return, where these words were returned last
abbrev pub IsLeftOfRun : ℕ → Option ℕ → Stage → List ℕ → List Event → Type 0
IsLeftOfRun func post stage.Before returned events = IsOneRun func post events
IsLeftOfRun func post stage.Runs returned events = RunsOn post events
IsLeftOfRun func post stage.Asks returned events = IsServedOn post events
IsLeftOfRun func post stage.Returned returned events = events ≡ posts post returned
IsLeftOfRun func post stage.Ended returned events = events ≡ []

-- the stage to which an event leads, if any: while blocks are asked for, while the guest runs, and after it asked for an import
abbrev pub after_before : ℕ → Event → Option Stage
after_before func (event.Realloc old old_size align new_size answer) = Some stage.Before
after_before func (event.Start started words memory) = if nat_eq started func then Some stage.Runs else None
after_before func _ = None

abbrev pub after_runs : Event → Option Stage
after_runs (event.Ask index words memory) = Some stage.Asks
after_runs (event.Return words memory) = Some stage.Returned
after_runs _ = None

abbrev pub after_asks : Event → Option Stage
after_asks (event.Realloc old old_size align new_size answer) = Some stage.Asks
after_asks (event.Resume words memory) = Some stage.Runs
after_asks _ = None

-- whether nothing is left at a stage
abbrev pub is_end : Option ℕ → Stage → Bool
is_end None stage.Returned = true
is_end _ stage.Ended = true
is_end _ _ = false

abbrev pub returned_after : List ℕ → Event → List ℕ
returned_after returned (event.Return words memory) = words
returned_after returned _ = returned

-- The event leads from a stage to this one, or to none.
abbrev pub LeadsTo : ℕ → Option ℕ → Stage → List ℕ → Event → Option Stage → Type 0
LeadsTo func post s returned e None = (events : List Event) → ¬ IsLeftOfRun func post s returned (e ∷ events)
LeadsTo func post s returned e (Some next) = (events : List Event) → IsLeftOfRun func post s returned (e ∷ events) ↔ IsLeftOfRun func post next (returned_after returned e) events

-- the length of the memory that the event tells, or of memory before it
abbrev pub len_in : Event → ℕ → ℕ
len_in (event.Trap asked at) len = at
len_in e len = last_len len (e ∷ [])
