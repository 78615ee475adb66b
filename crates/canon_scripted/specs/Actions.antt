-- What a guest does that carries out actions.
use Rattle.std.specs.Prelude.{ℕ, ◌+◌, ◌^◌, ◌++◌, if◌then◌else◌, List, [], ◌∷◌, drop, length, take, nat_le, replicate, Option, None, Some, Result, Ok, Err}
use Rattle.canon_memory.specs.declared.error.GuestFault.{GuestFault}
use Rattle.canon_memory.specs.declared.error.GuestFault.TheVariants as fault
use Rattle.canon_memory.specs.declared.guest.Step.{Step}
use Rattle.canon_memory.specs.declared.guest.Step.TheVariants as step
use Rattle.canon_scripted.specs.declared.actions.Action.{Action}
use Rattle.canon_scripted.specs.declared.actions.Action.TheVariants as action

-- what came of its actions: memory as it left it, what it did then, and the actions that are left
pub record ActionTurn : Type 0 where
  pub memory : List ℕ
  pub result : Result Step GuestFault
  pub left : List Action

abbrev pub turn : List ℕ → Result Step GuestFault → List Action → ActionTurn
turn memory result left = record { memory = memory; result = result; left = left }

-- these bytes in the place of those at the address
abbrev pub written : List ℕ → ℕ → List ℕ → List ℕ
written memory address bytes = take address memory ++ bytes ++ drop (address + length bytes) memory

-- Its actions in order, up to and with the first return, ask or trap. It also traps where they run out, where a write
-- passes the end of memory, and where memory would pass 2 ^ 32 bytes. What was written before it traps stays.
abbrev pub carry_out : List Action → List ℕ → ActionTurn
carry_out [] memory = turn memory (Err fault.Trap) []
carry_out (action.Write address bytes ∷ left) memory =
    if nat_le (address + length bytes) (length memory) then carry_out left (written memory address bytes) else turn memory (Err fault.Trap) left
carry_out (action.Grow by ∷ left) memory =
    if nat_le (length memory + by) (2 ^ 32) then carry_out left (memory ++ replicate by 0) else turn memory (Err fault.Trap) left
carry_out (action.Return words ∷ left) memory = turn memory (Ok (step.Return words)) left
carry_out (action.Ask index words ∷ left) memory = turn memory (Ok (step.Import index words)) left
carry_out (action.Trap ∷ left) memory = turn memory (Err fault.Trap) left

-- what is left to come of actions after one of them: the next follows where it answered nothing
abbrev pub acted : List ℕ → Result (Option Step) GuestFault → List Action → ActionTurn
acted memory (Ok None) left = carry_out left memory
acted memory (Ok (Some done)) left = turn memory (Ok done) left
acted memory (Err f) left = turn memory (Err f) left
