-- What a call of a scripted guest leaves.
use Rattle.std.specs.Prelude.{◌≡◌, ℕ, ◌++◌, if◌then◌else◌, List, [], ◌∷◌, length, Result, Ok, Err}
use Rattle.canon_model.specs.Requests.{Call}
use Rattle.canon_memory.specs.declared.error.GuestFault.{GuestFault}
use Rattle.canon_memory.specs.declared.error.GuestFault.TheVariants as fault
use Rattle.canon_scripted.specs.Allocator.{copied}
use Rattle.canon_scripted.specs.Orders.{next_order}
use Rattle.canon_scripted.specs.Scripted.{Doing, is_free, marks_of_origins, raised_count, realloc, told}
use Rattle.canon_scripted.specs.declared.actions.Action.{Action}

-- a fault raises its count
abbrev pub with_fault_counted : GuestFault → Doing → Doing
with_fault_counted fault.Trap g = record g { traps = raised_count g.traps }
with_fault_counted fault.OutOfMemory g = record g { shortages = raised_count g.shortages }

abbrev pub counted : {T : Type 0} → Result T GuestFault → Doing → Doing
counted (Ok x) g = g
counted (Err f) g = with_fault_counted f g

abbrev pub with_actions : Doing → List Action → Doing
with_actions g actions = record g { plan = record g.plan { actions = actions } }

-- ---- a call of `realloc`

-- It answered what the plan says. The old block's first bytes are copied where the allocator answered.
pub record AnswersAsPlanned (g : Doing) (memory : List ℕ) (c : Call) (h : Doing) (after : List ℕ) (answer : ℕ) : Type 0 where
  pub told : realloc (length memory) g.plan c ≡ told (Ok answer) h.plan
  pub marks : h.marks ≡ g.marks ++ marks_of_origins (is_free (next_order g.plan.reallocs) ∷ [])
  pub bytes : after ≡ (if is_free (next_order g.plan.reallocs) then copied memory c answer else memory)

pub record Traps (g : Doing) (memory : List ℕ) (c : Call) (h : Doing) (after : List ℕ) : Type 0 where
  pub told : realloc (length memory) g.plan c ≡ told (Err fault.Trap) h.plan
  pub marks : h.marks ≡ g.marks
  pub bytes : after ≡ memory

pub record Wants (g : Doing) (memory : List ℕ) (h : Doing) (after : List ℕ) : Type 0 where
  pub marks : h.marks ≡ g.marks
  pub bytes : after ≡ memory

-- before its fault is counted; a call that doesn't answer writes nothing
abbrev pub DoesRealloc : Doing → List ℕ → Call → Doing → List ℕ → Result ℕ GuestFault → Type 0
DoesRealloc g memory c h after (Ok answer) = AnswersAsPlanned g memory c h after answer
DoesRealloc g memory c h after (Err fault.Trap) = Traps g memory c h after
DoesRealloc g memory c h after (Err fault.OutOfMemory) = Wants g memory h after
