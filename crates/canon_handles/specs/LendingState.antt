-- What becomes of a handle table out of which the state of an end is lent to be written.
use Rattle.std.specs.Prelude.{◌≡◌, ℕ, Result}
use Rattle.std.specs.Borrow.{Fml, MutBor, LendsSoOk}
use Rattle.canon_handles.specs.declared.error.HandleError.{HandleError}
use Rattle.canon_handles.specs.declared.handle.Entry.{Entry}
use Rattle.canon_handles.specs.declared.handle.TransmitLocalState.{TransmitLocalState}
use Rattle.canon_handles.specs.contracts.handle.TransmitLocalState as state
use Rattle.canon_handles.specs.contracts.handle_table.HandleTable.{the_row}
use Rattle.canon_handles.specs.Table.{TableState}
use Rattle.canon_handles.specs.Calls.{with_state}

abbrev pub stored_in_state : TableState Entry → ℕ → TransmitLocalState → TableState Entry
stored_in_state s i w = record { table = with_state s.table i w; spare = s.spare }

abbrev pub LendsTableState : MutBor (TableState Entry) → ℕ → Result (MutBor TransmitLocalState) HandleError → Fml
LendsTableState s i r = LendsSoOk the_row state.the_row s r (λ n w. n ≡ stored_in_state s.now i w) (λ n. n ≡ s.now)
