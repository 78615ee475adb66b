-- The fuel of lifting.
use Rattle.std.specs.Prelude.{◌≡◌, ◌+◌, ◌<◌, Err, Ok, Result, ℕ}
use Rattle.canon_context.specs.declared.fault.Fault.{Fault}
use Rattle.canon_context.specs.declared.fault.Fault.TheVariants as fault

-- An amount was taken from the fuel, or there was less and it stays.
abbrev pub Charged : ℕ → ℕ → ℕ → Result (Unit {0}) Fault → Type 0
Charged amount before after (Ok x) = before ≡ after + amount
Charged amount before after (Err e) = (e ≡ fault.HostcallFuelExhausted) × (before < amount) × (after ≡ before)
