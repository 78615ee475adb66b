-- What is asked of what is said of an ask of a function of the host, and of the steps of its form.
use Rattle.std.proofs.Common.{Err, List, None, Ok, Option, Result, Some, length, ℕ, ◌++◌, ◌≡◌, ◌⊎◌}
use Rattle.std.specs.Prelude.{IfErr, OnOk, take}
use Rattle.canon_model.specs.Layout.{members_flat}
use Rattle.canon_memory.specs.declared.event.Event.{Event}
use Rattle.canon_memory.specs.Guest.{Goes, GuestIn, Moment, Seen}
use Rattle.canon_ledger.specs.Ledger.{LedgerState}
use Rattle.canon_resources.specs.Parts.{LeavesStop, LeavesTake}
use Rattle.canon_lowering.specs.Lowering.{AllLawful, Answer, Trap, events_of, marks_of}
use Rattle.canon_context.specs.Core.{Parts, guest_of, moment_of}
use Rattle.canon_context.specs.Host.{HostSteps}
use Rattle.canon_context.specs.declared.fault.Fault.{Fault}
use Rattle.canon_context.specs.declared.fault.Fault.TheVariants as fault
use Rattle.canon_context.specs.declared.host.HostStop.{HostStop}
use Rattle.canon_context.specs.Faults.{stop_of}
use Rattle.canon_host.specs.Forms.{in_view}
use Rattle.canon_host.specs.HostSide.{Answering, LoggedEntry}
use Rattle.canon_host.specs.Serves.{EndsAsk, Steps, Values}
use Rattle.canon_host.specs.declared.asked.Asked.{Asked}
use Rattle.canon_host.specs.declared.error.HostError.{HostError}
use Rattle.canon_host.specs.declared.error.HostError.TheVariants as host
use Rattle.canon_func.specs.AskForms.{AskForm}
use Rattle.canon_func.specs.AskValues.{asked_results}
use Rattle.canon_func.specs.Call.{OnAnswered}
use Rattle.canon_func.specs.HostAsks.{asked_error, host_error}
use Rattle.canon_func.specs.Steps.{RisesAt, TrapsLate}
use Rattle.canon_func.specs.Stores.{Callee}
use Rattle.canon_func.specs.declared.error.Error.{Error}
use Rattle.canon_func.specs.declared.error.Error.TheVariants as error

-- of each form
pub record AskSound {T : Type 0} (its : AskForm T) : Type 0 where
  -- memory may always be wanting, and nothing is done else for a refusal alone
  pub short : (callee : Callee) (asked : Asked) (index : ℕ) (log : Option (List LoggedEntry)) → its.declines callee asked index log (error.Fault fault.OutOfMemory)
  pub declined : (callee : Callee) (asked : Asked) (index : ℕ) (log : Option (List LoggedEntry)) (e : Error) → its.declines callee asked index log e → (e ≡ error.Fault fault.OutOfMemory) ⊎ (e ≡ error.HostRefused index)
  -- lifting doesn't trap, goes through the handles up to some step, and isn't refused where nothing but memory is wanting
  pub calm : (store : ℕ) (callee : Callee) (fuel : ℕ) (asked : Asked) (words memory : List ℕ) (l n : LedgerState) (f : Fault) → its.lifts store callee fuel asked words memory l (Err f) n → ¬ (f ≡ fault.GuestTrap)
  pub unlifted : (store : ℕ) (callee : Callee) (fuel : ℕ) (asked : Asked) (words memory : List ℕ) (l n : LedgerState) (f : Fault) → its.lifts store callee fuel asked words memory l (Err f) n
      → LeavesStop (stop_of f) l (its.parts store callee asked words memory) n
  pub lift_excluded : (store : ℕ) (callee : Callee) (fuel : ℕ) (asked : Asked) (words memory : List ℕ) (l n : LedgerState) (index : ℕ) (f : Fault)
      → its.liftable store callee fuel asked words memory l → its.lifts store callee fuel asked words memory l (Err f) n
      → asked_error index f ≡ error.Fault fault.OutOfMemory
  -- lowering goes through the handles, or up to some step; and where the guest trapped, the last request did
  pub given : (callee : Callee) (asked : Asked) (at : ℕ) (from to : Moment) (results : its.Results) (low : List ℕ) (answers : List Answer) (trap : Option Trap) (l n : LedgerState)
      → its.lowers callee asked at from to results low answers trap l n (Ok tt) → (hs : List ℕ) × LeavesTake l (its.gives callee asked results) hs n
  pub ungiven : (callee : Callee) (asked : Asked) (at : ℕ) (from to : Moment) (results : its.Results) (low : List ℕ) (answers : List Answer) (trap : Option Trap) (l n : LedgerState) (f : Fault)
      → its.lowers callee asked at from to results low answers trap l n (Err f) → LeavesStop (stop_of f) l (its.gives callee asked results) n
  pub traps : (callee : Callee) (asked : Asked) (at : ℕ) (from to : Moment) (results : its.Results) (low : List ℕ) (answers : List Answer) (trap : Option Trap) (l n : LedgerState)
      → its.lowers callee asked at from to results low answers trap l n (Err fault.GuestTrap) → (t : Trap) × (trap ≡ Some t)

-- of each form that is lawful
pub record AskLawful {T : Type 0} (its : AskForm T) : Type 0 where
  -- handles of parameters are taken by their parts
  pub taken : (store : ℕ) (callee : Callee) (fuel : ℕ) (asked : Asked) (words memory : List ℕ) (l n : LedgerState) (params : its.Params) → its.lifts store callee fuel asked words memory l (Ok params) n
      → (hs : List ℕ) × LeavesTake l (its.parts store callee asked words memory) hs n
  -- lowering isn't refused where nothing but memory is wanting
  pub lower_excluded : (callee : Callee) (asked : Asked) (at : ℕ) (from to : Moment) (results : its.Results) (low : List ℕ) (answers : List Answer) (trap : Option Trap) (l n : LedgerState) (f : Fault)
      → its.lowerable callee asked from.bytes results l → its.lowers callee asked at from to results low answers trap l n (Err f) → AllLawful answers → trap ≡ None → f ≡ fault.OutOfMemory

-- what is answered to a lowering
abbrev pub asked_answer : ℕ → Result (Unit {0}) Fault → Result (Unit {0}) Error
asked_answer index (Ok x) = Ok tt
asked_answer index (Err f) = Err (asked_error index f)

-- Results were lowered on the way from one core to another, from this ledger.
pub record LowersAs {T G : Type 0} (its : AskForm T) (seen : G → Seen) (moves : GuestIn G → List Event → GuestIn G → Type 0) (index : ℕ) (a b : Parts T G) (callee : Callee) (asked : Asked)
    (storage2 : List ℕ) (at : ℕ) (results : its.Results) (l : LedgerState)
    (r : Result (Unit {0}) Fault) : Type 0 where
  pub answers : List Answer
  pub trap : Option Trap
  pub lowers : its.lowers callee asked at (moment_of seen a) (moment_of seen b) results (take (members_flat (asked_results callee asked)) storage2) answers trap l b.ledger r
  pub goes : Goes (moment_of seen a) (moment_of seen b) (marks_of answers) (events_of answers trap)
  pub done : OnOk r (trap ≡ None)
  pub late : TrapsLate (length a.memory) trap
  pub rises : IfErr r (λ f. RisesAt (asked_error index f) (moment_of seen a) (moment_of seen b))
  pub moved : OnAnswered {T = Unit {0}} (asked_answer index r) (moves (guest_of a) (events_of answers trap) (guest_of b))

-- The steps of a form, of an ask on the way from one core to another, say what is said of it; `Logged` is the log after an ask that was served.
pub record FollowsSteps {T G P S : Type 0} (its : AskForm T) (answers_so : Answering T) (how : Steps T G its.Params P its.Results S) (Logged : Values P its.Results → Option (List LoggedEntry))
    (seen : G → Seen) (moves : GuestIn G → List Event → GuestIn G → Type 0)
    (log : Option (List LoggedEntry)) (index : ℕ) (a b : Parts T G) (callee : Callee) (asked : Asked) (words pad storage2 : List ℕ) : Type 0 where
  pub declines : (e : HostError) → how.declines a e → its.declines callee asked index log (host_error index e)
  pub lifts : (l : LedgerState) (r : Result its.Params Fault) (lifted : Parts T G) → how.lifts (record a { ledger = l }) (words ++ pad) r lifted
      → its.lifts a.id callee a.fuel asked words a.memory l r lifted.ledger × (lifted ≡ record a { ledger = lifted.ledger })
  pub fails : (before after : Parts T G) (e : HostError) → how.fails before e after → (e ≡ host.Fault fault.OutOfMemory) × (after ≡ before)
  pub gives : (before after : Parts T G) (params : its.Params) (results : its.Results) → how.gives before (how.told params) after results
      → HostSteps before.ledger after.ledger × (after ≡ record before { state = after.state; ledger = after.ledger })
      × its.gave answers_so index log asked (in_view before) params (Ok results) after.state after.ledger
  pub stops : (before after : Parts T G) (params : its.Params) (why : HostStop) (left : S) → how.stops before (how.told params) why after left
      → HostSteps before.ledger after.ledger × (after ≡ record before { state = after.state; ledger = after.ledger })
      × its.gave answers_so index log asked (in_view before) params (Err why) after.state after.ledger
  pub logs : (params : its.Params) (told : Values P its.Results) → told.params ≡ how.told params → Logged told ≡ its.logged_with log index params told.results
  pub ends : (before left : Parts T G) (ws : List ℕ) (r : Result ℕ Fault) → how.ends before ws r left → EndsAsk seen moves asked before ws r left
  -- once the guest was told of the place for results
  pub lowers : (g : G) (s : T) (l : LedgerState) (at : ℕ) (results : its.Results) (r : Result (Unit {0}) Fault) → how.lowers (record a { guest = g; state = s; ledger = l }) at results r b storage2
      → LowersAs its seen moves index (record a { guest = g }) b callee asked storage2 at results l r
  pub state : (g : G) (s : T) (l : LedgerState) (at : ℕ) (results : its.Results) (r : Result (Unit {0}) Fault) → how.lowers (record a { guest = g; state = s; ledger = l }) at results r b storage2 → b.state ≡ s
  pub id : (g : G) (s : T) (l : LedgerState) (at : ℕ) (results : its.Results) (r : Result (Unit {0}) Fault) → how.lowers (record a { guest = g; state = s; ledger = l }) at results r b storage2 → b.id ≡ a.id
