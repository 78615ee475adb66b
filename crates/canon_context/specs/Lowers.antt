-- What lowering and lifting answer.
use Rattle.std.specs.Prelude.{ℕ, Result, Ok, Err}
use Rattle.canon_lowering.specs.Lowering.{Ending, done, misaligned, out_of_bounds, refused, short, trapped}
use Rattle.canon_memory.specs.declared.error.GuestFault.{GuestFault}
use Rattle.canon_memory.specs.declared.error.GuestFault.TheVariants as guest
use Rattle.canon_context.specs.declared.fault.Fault.{Fault}
use Rattle.canon_context.specs.declared.fault.Fault.TheVariants as fault

-- how a lowering ended with this fault; one of lifting is kept apart by `Blames`
abbrev pub fault_ending : Fault → Ending
fault_ending (fault.ReallocMisaligned a) = misaligned a
fault_ending (fault.ReallocOutOfBounds a) = out_of_bounds a
fault_ending fault.GuestTrap = trapped
fault_ending fault.OutOfMemory = short
fault_ending _ = refused

abbrev pub ending_of : {T : Type 0} → Result T Fault → Ending
ending_of (Ok x) = done
ending_of (Err e) = fault_ending e

-- what the guest's `realloc` answered, by what the context's did
abbrev pub guest_answer : Result ℕ Fault → Result ℕ GuestFault
guest_answer (Ok a) = Ok a
guest_answer (Err (fault.ReallocMisaligned a)) = Ok a
guest_answer (Err (fault.ReallocOutOfBounds a)) = Ok a
guest_answer (Err fault.GuestTrap) = Err guest.Trap
guest_answer (Err _) = Err guest.OutOfMemory

-- the answer, where there is one
abbrev pub answer_of : Result ℕ Fault → ℕ
answer_of (Ok a) = a
answer_of (Err e) = 0
