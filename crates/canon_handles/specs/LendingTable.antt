-- What becomes of a table out of which an entry is lent to be written.
use Rattle.std.specs.Prelude.{◌≡◌, ℕ, Result}
use Rattle.std.specs.Borrow.{Fml, MutBor, RattleType, LendsSoOk}
use Rattle.canon_handles.specs.declared.error.HandleError.{HandleError}
use Rattle.canon_handles.specs.contracts.entry_table.EntryTable.{the_row}
use Rattle.canon_handles.specs.Table.{TableState, with_entry}

abbrev pub stored_with : {E : Type 0} → TableState E → ℕ → E → TableState E
stored_with s i e = record { table = with_entry s.table i e; spare = s.spare }

abbrev pub LendsEntry : (E : RattleType) → MutBor (TableState E.Denot) → ℕ → Result (MutBor E.Denot) HandleError → Fml
LendsEntry E s i r = LendsSoOk (the_row E) E s r (λ n w. n ≡ stored_with s.now i w) (λ n. n ≡ s.now)
