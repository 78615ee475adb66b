-- The calls of a handle table, each as one step on a table of entries and a counter.
use Rattle.std.specs.Prelude.{◌≡◌, ℕ, ◌+◌, ◌-◌, ◌==◌, nat_le, Bool, true, false, not, Option, Some, None, is_some, Result, Ok, Err, sum_by}
use Rattle.canon_handles.specs.declared.handle.Scope.{Scope}
use Rattle.canon_handles.specs.declared.handle.TypedResource.{TypedResource}
use Rattle.canon_handles.specs.declared.handle.TypedResource.TheVariants.{Host, Component}
use Rattle.canon_handles.specs.declared.handle.TypedResourceIndex.{TypedResourceIndex}
use Rattle.canon_handles.specs.declared.handle.TypedResourceIndex.TheVariants.{Host as HostIndex, Component as ComponentIndex}
use Rattle.canon_handles.specs.declared.handle.RemovedResource.{RemovedResource}
use Rattle.canon_handles.specs.declared.handle.RemovedResource.TheVariants.{Own, Borrow}
use Rattle.canon_handles.specs.declared.handle.TransmitLocalState.{TransmitLocalState}
use Rattle.canon_handles.specs.declared.handle.TransmitLocalState.TheVariants.{Write, Read, Busy as BusyEnd}
use Rattle.canon_handles.specs.declared.handle.Waitable.{Waitable}
use Rattle.canon_handles.specs.declared.handle.Waitable.TheVariants as waitable
use Rattle.canon_handles.specs.declared.handle.Entry.{Entry}
use Rattle.canon_handles.specs.declared.handle.Entry.TheVariants as entry
use Rattle.canon_handles.specs.declared.handle.GuestThread.{GuestThread}
use Rattle.canon_handles.specs.declared.error.HandleError.{HandleError}
use Rattle.canon_handles.specs.declared.error.HandleError.TheVariants.{UnknownHandle, NotAResource, ResourceTypeMismatch, StillLent, TooManyLends, HandleLimit, WrongKind, WrongType, WrongEnd, Busy}
use Rattle.canon_handles.specs.Step.{refuse_if, and_then, put}
use Rattle.canon_handles.specs.Table.{Table, Counter, Outcome, entry_at, entry_count, with_entry, insert, look_up, remove_with, is_at_limit, one_more, one_less}

abbrev pub lends_of : Option Entry → ℕ
lends_of (Some (entry.ResourceOwn resource lend_count)) = lend_count
lends_of _ = 0

abbrev pub is_own : Option Entry → Bool
is_own (Some (entry.ResourceOwn resource lend_count)) = true
is_own _ = false

-- how many lends there are
abbrev pub lend_count : Table Entry → ℕ
lend_count t = sum_by lends_of t.array

-- the entries of a table and their lends, which are what it has of the live handles
abbrev pub held_count : Table Entry → ℕ
held_count t = entry_count t + lend_count t

-- there is an entry, which is not lent
abbrev pub IsUnlent : Option Entry → Type 0
IsUnlent o = (is_some o ≡ true) × (lends_of o ≡ 0)

-- table and counter go up or down by as many handles
abbrev pub KeepsCount : Table Entry → Table Entry → Counter → Counter → Type 0
KeepsCount t t' c c' = held_count t' + c.live ≡ held_count t + c'.live

-- Resources

abbrev pub raw_index : TypedResourceIndex → ℕ
raw_index (HostIndex i) = i
raw_index (ComponentIndex ty i) = i

-- the representation, where index and resource are of one type
abbrev pub rep_as : TypedResourceIndex → TypedResource → Result ℕ HandleError
rep_as (HostIndex i) (Host rep) = Ok rep
rep_as (ComponentIndex expected i) (Component ty rep) = refuse_if (not (ty == expected)) ResourceTypeMismatch (Ok rep)
rep_as (HostIndex i) (Component ty rep) = Err ResourceTypeMismatch
rep_as (ComponentIndex expected i) (Host rep) = Err ResourceTypeMismatch

abbrev pub read_rep : TypedResourceIndex → Entry → Result ℕ HandleError
read_rep idx (entry.ResourceOwn resource lends) = rep_as idx resource
read_rep idx (entry.ResourceBorrow resource scope) = rep_as idx resource
read_rep idx _ = Err NotAResource

-- a lent handle is not removed, whatever the type asked for
abbrev pub read_removed : TypedResourceIndex → Entry → Result RemovedResource HandleError
read_removed idx (entry.ResourceOwn resource lends) = refuse_if (not (lends == 0)) StillLent (and_then (rep_as idx resource) (λ rep. Ok (Own rep)))
read_removed idx (entry.ResourceBorrow resource scope) = and_then (rep_as idx resource) (λ rep. Ok (Borrow scope))
read_removed idx _ = Err NotAResource

abbrev pub resource_own_insert : Table Entry → Counter → TypedResource → Outcome Entry ℕ
resource_own_insert t c resource = insert t c (entry.ResourceOwn resource 0)

abbrev pub resource_borrow_insert : Table Entry → Counter → TypedResource → Scope → Outcome Entry ℕ
resource_borrow_insert t c resource scope = insert t c (entry.ResourceBorrow resource scope)

abbrev pub handle_rep : Table Entry → TypedResourceIndex → Result ℕ HandleError
handle_rep t idx = look_up (read_rep idx) t (raw_index idx)

-- an own handle is lent so often at most, 2^32 - 1 times
abbrev pub most_lends : ℕ
most_lends = 4294967295

-- the representation, and whether an own handle was lent
abbrev pub lend_entry : Table Entry → Counter → TypedResourceIndex → Option Entry → Outcome Entry (ℕ × Bool)
lend_entry t c idx None = Err UnknownHandle
lend_entry t c idx (Some (entry.ResourceOwn resource lends)) =
    and_then (rep_as idx resource) (λ rep.
    refuse_if (nat_le most_lends lends) TooManyLends
    (refuse_if (is_at_limit c) HandleLimit
    (Ok ((rep, true), with_entry t (raw_index idx) (entry.ResourceOwn resource (lends + 1)), one_more c))))
lend_entry t c idx (Some (entry.ResourceBorrow resource scope)) = and_then (rep_as idx resource) (λ rep. Ok ((rep, false), t, c))
lend_entry t c idx (Some _) = Err NotAResource

abbrev pub resource_lend : Table Entry → Counter → TypedResourceIndex → Outcome Entry (ℕ × Bool)
resource_lend t c idx = lend_entry t c idx (entry_at t (raw_index idx))

-- a lend is given back
abbrev pub undo_lend_entry : Table Entry → Counter → ℕ → Option Entry → Outcome Entry (Unit {0})
undo_lend_entry t c i None = Err UnknownHandle
undo_lend_entry t c i (Some (entry.ResourceOwn resource lends)) = Ok (tt, with_entry t i (entry.ResourceOwn resource (lends - 1)), one_less c)
undo_lend_entry t c i (Some _) = Err NotAResource

abbrev pub resource_undo_lend : Table Entry → Counter → TypedResourceIndex → Outcome Entry (Unit {0})
resource_undo_lend t c idx = undo_lend_entry t c (raw_index idx) (entry_at t (raw_index idx))

abbrev pub remove_resource : Table Entry → Counter → TypedResourceIndex → Outcome Entry RemovedResource
remove_resource t c idx = remove_with (read_removed idx) t c (raw_index idx)

-- Streams and futures

abbrev pub read_stream : ℕ → Entry → Result (ℕ × TransmitLocalState) HandleError
read_stream expected (entry.Stream ty rep state) = refuse_if (not (ty == expected)) WrongType (Ok (rep, state))
read_stream expected _ = Err WrongKind

abbrev pub read_future : ℕ → Entry → Result (ℕ × TransmitLocalState) HandleError
read_future expected (entry.Future ty rep state) = refuse_if (not (ty == expected)) WrongType (Ok (rep, state))
read_future expected _ = Err WrongKind

-- an end in another state
abbrev pub entry_in_state : Entry → TransmitLocalState → Entry
entry_in_state (entry.Stream ty rep old) s = entry.Stream ty rep s
entry_in_state (entry.Future ty rep old) s = entry.Future ty rep s
entry_in_state e s = e

abbrev pub in_state : Option Entry → TransmitLocalState → Option Entry
in_state None s = None
in_state (Some e) s = Some (entry_in_state e s)

-- the table after the state of a stream's or a future's end was written
abbrev pub with_state : Table Entry → ℕ → TransmitLocalState → Table Entry
with_state t i s = record { array = put t.array i (in_state (entry_at t i) s); free = t.free; max = t.max }

-- the representation of a readable end that no operation uses, and whether it is done
abbrev pub readable : ℕ × TransmitLocalState → Result (ℕ × Bool) HandleError
readable (rep, Read done) = Ok (rep, done)
readable (rep, Write done) = Err WrongEnd
readable (rep, BusyEnd) = Err Busy

abbrev pub writable : ℕ × TransmitLocalState → Result (ℕ × Bool) HandleError
writable (rep, Write done) = Ok (rep, done)
writable (rep, Read done) = Err WrongEnd
writable (rep, BusyEnd) = Err Busy

abbrev pub stream_insert_read : Table Entry → Counter → ℕ → ℕ → Outcome Entry ℕ
stream_insert_read t c ty rep = insert t c (entry.Stream ty rep (Read false))

abbrev pub stream_insert_write : Table Entry → Counter → ℕ → ℕ → Outcome Entry ℕ
stream_insert_write t c ty rep = insert t c (entry.Stream ty rep (Write false))

abbrev pub stream_rep : Table Entry → ℕ → ℕ → Result (ℕ × TransmitLocalState) HandleError
stream_rep t ty i = look_up (read_stream ty) t i

-- the state of a stream's end
abbrev pub stream_state : Table Entry → ℕ → ℕ → Result TransmitLocalState HandleError
stream_state t ty i = and_then (stream_rep t ty i) (λ p. Ok p.1)

abbrev pub stream_remove_readable : Table Entry → Counter → ℕ → ℕ → Outcome Entry (ℕ × Bool)
stream_remove_readable t c ty i = remove_with (λ e. and_then (read_stream ty e) readable) t c i

abbrev pub stream_remove_writable : Table Entry → Counter → ℕ → ℕ → Outcome Entry ℕ
stream_remove_writable t c ty i = remove_with (λ e. and_then (and_then (read_stream ty e) writable) (λ p. Ok p.0)) t c i

abbrev pub future_insert_read : Table Entry → Counter → ℕ → ℕ → Outcome Entry ℕ
future_insert_read t c ty rep = insert t c (entry.Future ty rep (Read false))

abbrev pub future_insert_write : Table Entry → Counter → ℕ → ℕ → Outcome Entry ℕ
future_insert_write t c ty rep = insert t c (entry.Future ty rep (Write false))

abbrev pub future_rep : Table Entry → ℕ → ℕ → Result (ℕ × TransmitLocalState) HandleError
future_rep t ty i = look_up (read_future ty) t i

-- the state of a future's end
abbrev pub future_state : Table Entry → ℕ → ℕ → Result TransmitLocalState HandleError
future_state t ty i = and_then (future_rep t ty i) (λ p. Ok p.1)

abbrev pub future_remove_readable : Table Entry → Counter → ℕ → ℕ → Outcome Entry (ℕ × Bool)
future_remove_readable t c ty i = remove_with (λ e. and_then (read_future ty e) readable) t c i

abbrev pub future_remove_writable : Table Entry → Counter → ℕ → ℕ → Outcome Entry (ℕ × Bool)
future_remove_writable t c ty i = remove_with (λ e. and_then (read_future ty e) writable) t c i

-- Error contexts, subtasks, waitable sets

abbrev pub read_error_context : Entry → Result ℕ HandleError
read_error_context (entry.ErrorContext rep) = Ok rep
read_error_context _ = Err WrongKind

-- the representation, and whether the subtask is the host's
abbrev pub read_subtask : Entry → Result (ℕ × Bool) HandleError
read_subtask (entry.Subtask rep is_host) = Ok (rep, is_host)
read_subtask _ = Err WrongKind

abbrev pub read_waitable_set : Entry → Result ℕ HandleError
read_waitable_set (entry.WaitableSet rep) = Ok rep
read_waitable_set _ = Err WrongKind

abbrev pub read_waitable : Entry → Result (ℕ × Waitable) HandleError
read_waitable (entry.Subtask rep is_host) = Ok (rep, waitable.Subtask is_host)
read_waitable (entry.Future ty rep state) = Ok (rep, waitable.Future)
read_waitable (entry.Stream ty rep state) = Ok (rep, waitable.Stream)
read_waitable _ = Err WrongKind

abbrev pub error_context_insert : Table Entry → Counter → ℕ → Outcome Entry ℕ
error_context_insert t c rep = insert t c (entry.ErrorContext rep)

abbrev pub error_context_rep : Table Entry → ℕ → Result ℕ HandleError
error_context_rep t i = look_up read_error_context t i

abbrev pub error_context_drop : Table Entry → Counter → ℕ → Outcome Entry ℕ
error_context_drop t c i = remove_with read_error_context t c i

abbrev pub subtask_insert_guest : Table Entry → Counter → ℕ → Outcome Entry ℕ
subtask_insert_guest t c rep = insert t c (entry.Subtask rep false)

abbrev pub subtask_insert_host : Table Entry → Counter → ℕ → Outcome Entry ℕ
subtask_insert_host t c rep = insert t c (entry.Subtask rep true)

abbrev pub subtask_rep : Table Entry → ℕ → Result (ℕ × Bool) HandleError
subtask_rep t i = look_up read_subtask t i

abbrev pub subtask_remove : Table Entry → Counter → ℕ → Outcome Entry (ℕ × Bool)
subtask_remove t c i = remove_with read_subtask t c i

abbrev pub waitable_set_insert : Table Entry → Counter → ℕ → Outcome Entry ℕ
waitable_set_insert t c rep = insert t c (entry.WaitableSet rep)

abbrev pub waitable_set_rep : Table Entry → ℕ → Result ℕ HandleError
waitable_set_rep t i = look_up read_waitable_set t i

abbrev pub waitable_set_remove : Table Entry → Counter → ℕ → Outcome Entry ℕ
waitable_set_remove t c i = remove_with read_waitable_set t c i

abbrev pub waitable_rep : Table Entry → ℕ → Result (ℕ × Waitable) HandleError
waitable_rep t i = look_up read_waitable t i

-- Guest threads, which have a table of their own

abbrev pub read_guest_thread : GuestThread → Result ℕ HandleError
read_guest_thread thread = Ok thread.rep

abbrev pub guest_thread_insert : Table GuestThread → Counter → ℕ → Outcome GuestThread ℕ
guest_thread_insert t c rep = insert t c (record { rep = rep })

abbrev pub guest_thread_rep : Table GuestThread → ℕ → Result ℕ HandleError
guest_thread_rep t i = look_up read_guest_thread t i

abbrev pub guest_thread_remove : Table GuestThread → Counter → ℕ → Outcome GuestThread ℕ
guest_thread_remove t c i = remove_with read_guest_thread t c i
