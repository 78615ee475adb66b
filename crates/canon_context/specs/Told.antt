-- How the faults of lifting are reported.
use Rattle.std.specs.Prelude.{Some, ◌≡◌, ◌≤◌, ◌-◌, ◌^◌, ◌⊎◌}
use Rattle.canon_resources.specs.Parts.{refusal_of}
use Rattle.canon_model.specs.Reach as reach
use Rattle.canon_model.specs.Reach.{Kind, badly_spelled, misaligned, no_case, no_scalar, out_of_bounds}
use Rattle.canon_model.specs.Text.{in_utf16, in_utf8}
use Rattle.canon_context.specs.declared.fault.At.{At}
use Rattle.canon_context.specs.declared.fault.At.TheVariants as at
use Rattle.canon_context.specs.declared.fault.Fault.{Fault}
use Rattle.canon_context.specs.declared.fault.Fault.TheVariants as fault

-- where the fault stands
abbrev pub place_of : At → reach.At
place_of (at.Word k) = reach.word k
place_of (at.Address a) = reach.address a

-- the same, where the index of a word stays at the last number of a `u32`
abbrev pub IsPlace : At → reach.At → Type 0
IsPlace (at.Word k) (reach.word i) = (k ≡ i) ⊎ ((k ≡ 2 ^ 32 - 1) × (2 ^ 32 ≤ i))
IsPlace (at.Word k) (reach.address b) = ⊥
IsPlace (at.Address a) (reach.word i) = ⊥
IsPlace (at.Address a) (reach.address b) = a ≡ b

-- F has one of this kind at the reported place
abbrev pub Exactly : (Kind → reach.At → Type 0) → Kind → At → Type 0
Exactly F k x = F k (place_of x)

abbrev pub ToldAt : (Kind → reach.At → Type 0) → Kind → At → Type 0
ToldAt F k x = (y : reach.At) × IsPlace x y × F k y

-- The fault is one of lifting, and F has one of its kind at its place; or the fuel was too low (`Low`). Why the ledger refused a handle
-- follows from its steps, but it is never out of memory, which alone is free.
abbrev pub LiftBlames : (Kind → At → Type 0) → Type 0 → Fault → Type 0
LiftBlames F Low (fault.PointerMisaligned x) = F misaligned x
LiftBlames F Low (fault.PointerOutOfBounds x) = F out_of_bounds x
LiftBlames F Low (fault.InvalidUtf8 x) = F (badly_spelled in_utf8) x
LiftBlames F Low (fault.InvalidUtf16 x) = F (badly_spelled in_utf16) x
LiftBlames F Low (fault.InvalidChar x) = F no_scalar x
LiftBlames F Low (fault.BadDiscriminant x n) = F (no_case n) x
LiftBlames F Low fault.HostcallFuelExhausted = Low
LiftBlames F Low fault.OutOfMemory = Unit {0}
LiftBlames F Low (fault.Resource e) = refusal_of e ≡ Some e
LiftBlames F Low (fault.TypeMismatch k) = ⊥
LiftBlames F Low (fault.FieldName k) = ⊥
LiftBlames F Low (fault.LengthMismatch k) = ⊥
LiftBlames F Low (fault.UnknownCase k) = ⊥
LiftBlames F Low (fault.UnknownFlag k) = ⊥
LiftBlames F Low (fault.PayloadExpected k) = ⊥
LiftBlames F Low (fault.PayloadNotExpected k) = ⊥
LiftBlames F Low (fault.StringTooLong n) = ⊥
LiftBlames F Low (fault.SizeOverflow n) = ⊥
LiftBlames F Low (fault.ReallocMisaligned a) = ⊥
LiftBlames F Low (fault.ReallocOutOfBounds a) = ⊥
LiftBlames F Low fault.GuestTrap = ⊥

-- the fault is no refusal of the ledger
abbrev pub IsNoRefusal : Fault → Type 0
IsNoRefusal (fault.Resource e) = ⊥
IsNoRefusal _ = Unit {0}
