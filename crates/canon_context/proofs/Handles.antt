-- The tables of a core's handles.
use Rattle.std.proofs.Common.{Some, ap, arith, length, subst, ℕ, ◌<◌, ◌≡◌}
use Rattle.std.specs.Option.{option_map_or}
use Rattle.std.specs.Prelude.{slice_get}
use Rattle.canon_ledger.specs.Ledger.{LedgerState}
use Rattle.canon_ledger.specs.Places.{HasType, instance_of}
use Rattle.canon_types.specs.Table.{HasResource, TypeTable}
use Rattle.canon_types.specs.declared.types.TypeResourceTable.{TypeResourceTable}

-- a resource type has its instance's table, since its instance is below 256
pub placed : (types : TypeTable) (ty : ℕ) (l : LedgerState) (r : TypeResourceTable) → HasResource types ty → slice_get types.resources ty ≡ Some r → r.instance < 256 → length l.handles.tables ≡ 257 → HasType (Some types) ty l
placed types ty l r has found small many =
    let e : instance_of types ty ≡ r.instance = ap (λ o. option_map_or (λ (t : TypeResourceTable). t.instance) o 0) found in
    (has, omega arith)

-- the same where the table was looked up elsewhere
pub placed_by : (known types : TypeTable) (ty : ℕ) (l : LedgerState) (r : TypeResourceTable) → HasResource types ty → slice_get known.resources ty ≡ Some r → r.instance < 256
    → length l.handles.tables ≡ 257 → known ≡ types → HasType (Some types) ty l
placed_by known types ty l r has found small many same = placed types ty l r has (subst (λ (t : TypeTable). slice_get t.resources ty ≡ Some r) same found) small many
