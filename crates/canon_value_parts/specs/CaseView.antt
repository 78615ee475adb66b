-- The payload of a value as its case sees it.
use Rattle.std.specs.Borrow.{Bor}
use Rattle.std.specs.Prelude.{Box, None, Option, Some, ◌≡◌, ℕ}
use Rattle.std.specs.declared.alloc.Global.{Global}
use Rattle.canon_types.specs.declared.types.InterfaceType.{InterfaceType}
use Rattle.canon_context.specs.declared.fault.Fault.{Fault}
use Rattle.canon_context.specs.declared.fault.Fault.TheVariants as fault
use Rattle.canon_value_parts.specs.declared.members.Members.{Members}
use Rattle.canon_value_parts.specs.declared.members.Members.TheVariants as members
use Rattle.canon_val.specs.declared.val.Val.{Val}

-- a payload of the case's type, where it has one, as members
abbrev pub IsPayloadViewed : Option InterfaceType → Option (Box Val Global) → Members → Type 0
IsPayloadViewed None None ms = ms ≡ members.Empty
IsPayloadViewed (Some type) (Some b) ms = (v : Bor Val) × (ms ≡ members.Single type v) × (v.now ≡ b.value)
IsPayloadViewed _ _ ms = ⊥

-- the case has a payload and the value, which has this place, has none; or the other way round
abbrev pub Misses : Option InterfaceType → Option (Box Val Global) → ℕ → Fault → Type 0
Misses (Some type) None place e = e ≡ fault.PayloadExpected place
Misses None (Some b) place e = e ≡ fault.PayloadNotExpected place
Misses _ _ place e = ⊥
