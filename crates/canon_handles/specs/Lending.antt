-- What becomes of an entry out of which its state is lent to be written.
use Rattle.std.specs.Prelude.{◌≡◌, Result, Ok, Err, MatchResult}
use Rattle.std.specs.Borrow.{Fml, MutBor, LendsIfOk}
use Rattle.canon_handles.specs.declared.handle.Entry.{Entry}
use Rattle.canon_handles.specs.declared.handle.Entry.TheVariants as entry
use Rattle.canon_handles.specs.declared.handle.TransmitLocalState.{TransmitLocalState}
use Rattle.canon_handles.specs.declared.error.HandleError.{HandleError}
use Rattle.canon_handles.specs.declared.error.HandleError.TheVariants.{WrongKind}
use Rattle.canon_handles.specs.Calls.{entry_in_state}
use Rattle.canon_handles.specs.contracts.handle.TransmitLocalState as state
use Rattle.canon_handles.specs.contracts.handle.Entry as of_entry

-- the state of an end
abbrev pub state_in : Entry → Result TransmitLocalState HandleError
state_in (entry.Stream ty rep state) = Ok state
state_in (entry.Future ty rep state) = Ok state
state_in _ = Err WrongKind

-- what is lent is this
abbrev pub HandsOut : {A : Type 0} → Result A HandleError → Result (MutBor A) HandleError → Type 0
HandsOut r result = MatchResult result (λ s. r ≡ Ok s.now) (λ e. r ≡ Err e)

abbrev pub LendsEntryState : MutBor Entry → Result (MutBor TransmitLocalState) HandleError → Fml
LendsEntryState e r = LendsIfOk of_entry.the_row state.the_row e r (entry_in_state e.now) e.now
