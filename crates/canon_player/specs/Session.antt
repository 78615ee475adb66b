-- What a script, played, leaves: one record for each item, in order, and the store between them.
use Rattle.std.specs.Prelude.{Bool, Err, List, None, Ok, Option, Result, Some, [], false, is_err, length, map, nat_lt, not, replicate, slice_get, true, ℕ, ⊤, ◌⊎◌, ◌++◌, ◌∷◌, ◌≡◌, ◌≢◌, ◌||◌}
use Rattle.canon_lowering.specs.Storing.{narrow}
use Rattle.canon_model.specs.Shape.{no_members}
use Rattle.canon_abi.specs.Options.{encoding_of}
use Rattle.canon_types.specs.Instance.{Instance}
use Rattle.canon_types.specs.Table.{param_members, result_members}
use Rattle.canon_types.specs.declared.resource.ResourceType.TheVariants.{HostDynamic}
use Rattle.canon_types.specs.declared.types.TypeFunc.{TypeFunc}
use Rattle.canon_memory.specs.declared.event.Event.{Event}
use Rattle.canon_memory.specs.Guest.{GuestIn, Mark, Moment, guest_in, moment}
use Rattle.canon_scripted.specs.Allocator.{Allocator}
use Rattle.canon_scripted.specs.Scripted.{CarriesOut, Plan, traps_after}
use Rattle.canon_scripted.specs.declared.actions.Action.{Action}
use Rattle.canon_scripted.specs.declared.orders.Ordered.{Ordered}
use Rattle.canon_ledger.specs.Index.{GivenIndex}
use Rattle.canon_ledger.specs.Ledger.{Done, LedgerState, given, host_resource_drop, host_resource_lower_own, new_ledger}
use Rattle.canon_ledger.specs.declared.fault.ResourceFault.{ResourceFault}
use Rattle.canon_resources.specs.Held.{Any, any, host_index, table_handle}
use Rattle.canon_resources.specs.declared.any.ResourceAnyHandle.{ResourceAnyHandle}
use Rattle.canon_resources.specs.declared.any.ResourceAnyHandle.TheVariants.{Synthetic}
use Rattle.canon_context.specs.declared.fault.Fault.TheVariants as fault
use Rattle.canon_value_parts.specs.Resources.{all_resources}
use Rattle.canon_val.specs.declared.val.Val.{Val}
use Rattle.canon_val.specs.declared.val.Val.TheVariants as val
use Rattle.canon_host.specs.HostSide.{LoggedEntry, HostSide}
use Rattle.canon_func.specs.Asks.{Limits, allowed}
use Rattle.canon_func.specs.Call.{IsCallOf, call_refusal, dynamic, dynamic_results, entry_refusal}
use Rattle.canon_func.specs.Drop.{IsCutOff, IsDropped, destructor_at, destructor_events, drop_refusal}
use Rattle.canon_func.specs.Passing.{Arguments, ReturnedValues}
use Rattle.canon_func.specs.Runs.{ByLegs, Leg, Living}
use Rattle.canon_func.specs.Stores.{Callee}
use Rattle.canon_func.specs.Typed.{FitsParams, FitsResults, params_shape, typed_args, typed_results}
use Rattle.canon_func.specs.declared.error.Error.{Error}
use Rattle.canon_func.specs.declared.error.Error.TheVariants as error
use Rattle.canon_script.specs.Imports.{HostAnswer}
use Rattle.canon_literals.specs.Literals.{Literal, all_known, held_among, listed_resource, literals_view, replaced}
use Rattle.canon_script.specs.Script.{Play, ScriptCall, ScriptItem, ScriptTyped, call_item, drop_item, new_item, typed_item}
use Rattle.canon_script.specs.Typed.{TypedValues, a_number, a_text, the_numbers, the_pairs}
use Rattle.canon_script.specs.declared.script.NewItem.{NewItem}
use Rattle.canon_imports.specs.Imports.{GivesAnswers}
use Rattle.canon_transcript.specs.Text.{Served}
use Rattle.canon_transcript.specs.declared.transcript.Answer.{Answer}
use Rattle.canon_transcript.specs.declared.transcript.Answer.TheVariants as answer
use Rattle.canon_transcript.specs.declared.transcript.Head.{Head}
use Rattle.canon_transcript.specs.declared.transcript.Head.TheVariants as head
use Rattle.canon_transcript.specs.declared.transcript.Record.{Record}
use Rattle.canon_player.specs.Options.{options_number, post_of, script_options}
use Rattle.canon_player.specs.Signatures.{Passing, Returning, Signature, number_signature, numbers_signature, pairs_signature, text_signature}

-- ---- the functions of a script

-- its types, in the store of this number
abbrev pub script_types : Play → Instance
script_types play = record { types = play.types; store = 0 }

abbrev pub callee_with : Play → ℕ → Option TypeFunc → Callee
callee_with play i None = record {
  func = i;
  types = script_types play;
  imports = play.imports;
  options = script_options play.types play.encoding play.posts;
  params = no_members;
  results = no_members;
  encoding = encoding_of play.encoding;
  post = None;
  async_ = false;
}
callee_with play i (Some f) = record {
  func = i;
  types = script_types play;
  imports = play.imports;
  options = script_options play.types play.encoding play.posts;
  params = param_members play.types f;
  results = result_members play.types f;
  encoding = encoding_of play.encoding;
  post = post_of i (slice_get play.posts i);
  async_ = f.async_;
}

-- function i of the script: its core function has the same number
abbrev pub played_callee : Play → ℕ → Callee
played_callee play i = callee_with play i (slice_get play.types.funcs i)

-- ---- the store between two items

-- Its number, whether it is trapped, its memory, the ledger of its handles, the asks that functions of the host served so far and how many they
-- refused for no fault, and of its guest the allocator, a mark for each answer of `realloc` so far, and how often it trapped and answered
-- out of memory. Out of memory alone is caused by the last count, and leaves no record.
pub record State : Type 0 where
  pub store : ℕ
  pub trapped : Bool
  pub memory : List ℕ
  pub ledger : LedgerState
  pub log : List LoggedEntry
  pub refusals : ℕ
  pub allocator : Allocator
  pub marks : List Mark
  pub traps : ℕ
  pub shortages : ℕ

-- at first memory is zeros, no handle lives, of which there may be `handles`, no ask was served, and the allocator begins at `heap`
abbrev pub at_first : Play → State
at_first play = record {
  store = 0;
  trapped = false;
  memory = replicate play.memory 0;
  ledger = new_ledger 256 play.handles 0;
  log = [];
  refusals = 0;
  allocator = record { top = play.heap; live = [] };
  marks = [];
  traps = 0;
  shortages = 0;
}

-- as a call sees it that has added these events
abbrev pub moment_with_events : State → List Event → Moment
moment_with_events s events = moment (record { journal = Some events; marks = s.marks; live = s.allocator.live; holds = false; traps = s.traps; shortages = s.shortages }) s.memory

-- what it has beside its guest: its functions of the host share no data
abbrev pub host_side_of : State → HostSide (Unit {0})
host_side_of s = record { store = s.store; state = tt; ledger = s.ledger; log = Some s.log; refusals = s.refusals }

-- what the guest is to do in a call: these actions, with these answers of `realloc`
abbrev pub plan_with : List Action → List Ordered → Bool → Allocator → Plan
plan_with guest reallocs post_trap allocator = record { actions = guest; reallocs = reallocs; post_trap = post_trap; dtor_trap = false; allocator = allocator }

abbrev pub plan_of : ScriptCall → Allocator → Plan
plan_of call = plan_with call.guest call.reallocs call.post_trap

abbrev pub typed_plan : ScriptTyped → Allocator → Plan
typed_plan call = plan_with call.guest call.reallocs call.post_trap

-- and in a drop

abbrev pub drop_plan : Bool → Allocator → Plan
drop_plan dtor_trap allocator = record { actions = []; reallocs = []; post_trap = false; dtor_trap = dtor_trap; allocator = allocator }

-- ---- answers

-- it tells how the item ended: that was done, and a typed call's types were the function's
abbrev pub IsEnd : Answer → Type 0
IsEnd (answer.Ok results) = ⊤
IsEnd (answer.Err e) = ⊤
IsEnd answer.Typecheck = ⊥
IsEnd answer.Skipped = ⊥

-- how it ended, and the results that it left
abbrev pub answer_outcome : Answer → Result (Unit {0}) Error
answer_outcome (answer.Ok results) = Ok tt
answer_outcome (answer.Err e) = Err e
answer_outcome answer.Typecheck = Ok tt
answer_outcome answer.Skipped = Ok tt

abbrev pub answer_values : Answer → List Val
answer_values (answer.Ok results) = results.items
answer_values (answer.Err e) = []
answer_values answer.Typecheck = []
answer_values answer.Skipped = []

-- it tells how a call ended: which values stand for its results, or its error
abbrev pub Tells : {R : Type 0} → (R → List Val → Type 0) → Result R Error → Answer → Type 0
Tells Told (Ok results) (answer.Ok values) = Told results values.items
Tells Told (Err e) (answer.Err f) = e ≡ f
Tells Told ended a = ⊥

-- the guest did nothing, and no function of the host served an ask
abbrev pub IsSilent : Record → Type 0
IsSilent r = (r.events ≡ []) × (r.served.items ≡ [])

-- nothing was done and nothing changed, and this was answered
abbrev pub Idle : State → State → Record → Answer → Type 0
Idle before after r a = (r.answer ≡ a) × IsSilent r × (after ≡ before)

-- it answered Ok with these values
abbrev pub AnswersOk : Answer → List Val → Type 0
AnswersOk a vs = IsEnd a × (answer_outcome a ≡ Ok tt) × (answer_values a ≡ vs)

-- ---- served asks

-- an ask that was served, apart from how its values are kept: of the log, and of a record
abbrev pub entry_view : LoggedEntry → ℕ × List Literal × List Literal
entry_view e = (e.index, literals_view e.params, literals_view e.results)

abbrev pub served_view : Served → ℕ × List Literal × List Literal
served_view s = (s.0, literals_view s.1.items, literals_view s.2.items)

-- the log grew by some asks, and the record lists these, in order
pub record Logs (before after : List LoggedEntry) (served : List Served) : Type 0 where
  pub entries : List LoggedEntry
  pub grown : after ≡ before ++ entries
  pub told : map served_view served ≡ map entry_view entries

-- ---- a call

-- a scripted post-return and a destructor leave memory as it was
abbrev pub LeavesSame : List ℕ → List ℕ → Type 0
LeavesSame memory after = after ≡ memory

-- by its plan, in a memory of so many bytes, a guest did these events, which left it that plan in a memory of so many
abbrev pub ActsBy : GuestIn Plan → List Event → GuestIn Plan → Type 0
ActsBy before events after = (new_marks : List Mark) × CarriesOut before.guest before.len events new_marks after.guest after.len

-- what lives with a scripted guest, which holds no places
abbrev pub living_of : Allocator → Living
living_of a = record { blocks = a.live; holds = false }

-- One guest made its way so from before to after, in legs to its asks, at each of which the leg's blocks lived by its plan.
abbrev pub LivesBy : GuestIn Plan → GuestIn Plan → List Leg → List Event → Type 0
LivesBy before after = ByLegs ActsBy (λ g. living_of g.guest.allocator) (λ g rest. ActsBy g rest after) before

-- The guest was entered, and acted by its plan in its memory, from the length before to the length after; its traps are counted;
-- the asks and the results were within these limits; the store is trapped where the call was refused. After an answer that is Ok, memory is
-- that of the return; after a refusal nothing reads its bytes, since every later call is refused. The memory that the run has
-- sufficed. Functions of the host give these answers, by the asks that they served so far, and the record lists those that they served in
-- this call. The record's answer tells how the call ended, by these values in the place of the results.
pub record WasItemCalled {R : Type 0} (args : Arguments) (its : ReturnedValues R) (Told : R → List Val → Type 0) (callee : Callee) (limits : Limits) (answers : List (List HostAnswer)) (plan : Allocator → Plan)
    (before after : State) (r : Record) : Type 0 where
  pub ended : Result R Error
  pub told : Tells Told ended r.answer
  pub left : Plan
  pub called : IsCallOf args its (LivesBy (guest_in (plan before.allocator) (narrow before.memory)) (guest_in left (narrow after.memory))) LeavesSame (GivesAnswers answers) callee limits
      (moment_with_events before []) (moment_with_events after r.events) (host_side_of before) (host_side_of after) ended r.events
  pub served : Logs before.log after.log r.served.items
  pub new_marks : List Mark
  pub does : CarriesOut (plan before.allocator) (length before.memory) r.events new_marks left (length after.memory)
  pub allocator : after.allocator ≡ left.allocator
  pub marks : after.marks ≡ before.marks ++ new_marks
  pub traps : after.traps ≡ traps_after before.traps r.events
  pub shortages : after.shortages ≡ before.shortages
  pub trapped : after.trapped ≡ is_err ended
  pub sufficed : ended ≢ Err (error.Fault fault.OutOfMemory)

-- the values are the results themselves
abbrev pub Themselves : List Val → List Val → Type 0
Themselves results values = values ≡ results

-- A call with dynamic values: its parameters are those of the script, with the resources of the list in the place of their numbers.
pub record WasCalledWith (callee : Callee) (limits : Limits) (answers : List (List HostAnswer)) (call : ScriptCall) (list : List Any) (before after : State) (r : Record) : Type 0 where
  pub params : List Val
  pub params_are : literals_view params ≡ map (replaced (listed_resource list)) call.params
  pub called : WasItemCalled (dynamic callee params) (dynamic_results callee) Themselves callee limits answers (plan_of call) before after r

-- It was refused before the guest was entered, which leaves everything as it was; else it was called.
abbrev pub Called : Callee → Limits → List (List HostAnswer) → ScriptCall → List Any → State → State → Record → Option Error → Type 0
Called callee limits answers call list before after r (Some e) = Idle before after r (answer.Err e)
Called callee limits answers call list before after r None = WasCalledWith callee limits answers call list before after r

-- ---- a typed call

-- the type of a function, by its number: those of a script are the first of its table
abbrev pub func_type : Callee → ℕ → Option TypeFunc
func_type callee func = slice_get callee.types.types.funcs func

module _ {P R : Type 0} (passing : Passing P) (returning : Returning R) where
  -- the function's parameters and results are of the signature's types
  abbrev pub HasSignature : Callee → ℕ → Type 0
  HasSignature callee func = FitsParams passing.fits callee.types (func_type callee func) × FitsResults returning.fits callee.types (func_type callee func)

  -- the values have the literals of the results
  abbrev pub Printed : R → List Val → Type 0
  Printed results values = literals_view values ≡ returning.literals results

  -- With these parameters: refused before the guest was entered, or called. The results are lifted by the function's own options, in the
  -- store of its types.
  abbrev pub TypedCalled : ℕ → Callee → Limits → List (List HostAnswer) → (Allocator → Plan) → P → State → State → Record → Option Error → Type 0
  TypedCalled func callee limits answers plan params before after r (Some e) = Idle before after r (answer.Err e)
  TypedCalled func callee limits answers plan params before after r None =
      WasItemCalled (typed_args (passing.walks params) (passing.gives callee.types (params_shape callee) params) callee)
      (typed_results returning.reading (options_number func) callee.types.store callee) Printed callee limits answers plan before after r

  -- Where the function has another signature, nothing was done.
  abbrev pub TypedWith : ℕ → Callee → Limits → List (List HostAnswer) → (Allocator → Plan) → P → State → State → Record → Type 0
  TypedWith func callee limits answers plan params before after r =
      ((¬ HasSignature callee func) × Idle before after r answer.Typecheck)
      ⊎ (HasSignature callee func × TypedCalled func callee limits answers plan params before after r (entry_refusal callee before.trapped))

-- with parameters that are the values of the script
abbrev pub TypedBy : {P R : Type 0} → Signature P R → Callee → Limits → List (List HostAnswer) → ScriptTyped → State → State → Record → Type 0
TypedBy {P} sig callee limits answers call before after r =
    (params : P) × (sig.values params ≡ call.params) × TypedWith sig.passing sig.returning call.func callee limits answers (typed_plan call) params before after r

-- by the signature of the values
abbrev pub WasTyped : TypedValues → Callee → Limits → List (List HostAnswer) → ScriptTyped → State → State → Record → Type 0
WasTyped (a_number n) = TypedBy number_signature
WasTyped (a_text s) = TypedBy text_signature
WasTyped (the_numbers ns) = TypedBy numbers_signature
WasTyped (the_pairs ps flag) = TypedBy pairs_signature

-- ---- a new resource

-- a resource of the host of a type that a number gives
abbrev pub dynamic_resource : ResourceAnyHandle → ℕ → Val
dynamic_resource handle ty = val.Resource (any handle (HostDynamic ty))

-- what the insertion of its handle answered
abbrev pub Inserted : ℕ → Result GivenIndex ResourceFault → Answer → Type 0
Inserted ty (Ok x) a = AnswersOk a (dynamic_resource (table_handle x true) ty ∷ [])
Inserted ty (Err e) a = a ≡ answer.Err (error.Fault (fault.Resource e))

-- An own handle was put into the host's table; or the ledger refused it.
pub record WasInserted (n : NewItem) (step : Done GivenIndex) (before after : State) (r : Record) : Type 0 where
  pub answered : Inserted n.ty step.answer r.answer
  pub silent : IsSilent r
  pub leaves : after ≡ record before { ledger = step.after }

-- a borrow has no handle
abbrev pub WasMade : Bool → NewItem → State → State → Record → Type 0
WasMade true n before after r = AnswersOk r.answer (dynamic_resource (Synthetic n.rep) n.ty ∷ []) × IsSilent r × (after ≡ before)
WasMade false n before after r = WasInserted n (given before.ledger (host_resource_lower_own before.ledger n.rep None None)) before after r

-- ---- a drop

-- what became of the handle at an index, by the answer
abbrev pub Removed : GivenIndex → State → State → Result (Unit {0}) Error → Type 0
Removed x before after (Ok _) = IsDropped x before.ledger after.ledger before.trapped after.trapped × (after.memory ≡ before.memory)
Removed x before after (Err (error.Fault fault.GuestTrap)) = IsCutOff x before.ledger after.ledger after.trapped
Removed x before after (Err (error.Fault (fault.Resource e))) = ((host_resource_drop before.ledger x).answer ≡ Err e) × (after ≡ record before { ledger = (host_resource_drop before.ledger x).after })
Removed x before after (Err _) = ⊥

-- The handle at an index was removed, and where it was an own handle with a destructor the guest ran that once; or the ledger refused
-- it. A destructor that traps leaves the store trapped, and nothing reads memory any more.
pub record WasRemoved (x : GivenIndex) (dtor_trap : Bool) (before after : State) (r : Record) : Type 0 where
  pub removed : Removed x before after (answer_outcome r.answer)
  pub played : IsEnd r.answer
  pub no_values : answer_values r.answer ≡ []
  pub ran : r.events ≡ destructor_events (destructor_at before.ledger x) before.memory (answer_outcome r.answer)
  pub left : Plan
  pub does : CarriesOut (drop_plan dtor_trap before.allocator) (length before.memory) r.events [] left (length after.memory)
  pub served_none : r.served.items ≡ []
  pub store : after.store ≡ before.store
  pub log : after.log ≡ before.log
  pub refusals : after.refusals ≡ before.refusals
  pub allocator : after.allocator ≡ left.allocator
  pub marks : after.marks ≡ before.marks
  pub traps : after.traps ≡ traps_after before.traps r.events
  pub shortages : after.shortages ≡ before.shortages

-- refused before a scope was entered, or not
abbrev pub DroppedAt : GivenIndex → Bool → State → State → Record → Option Error → Type 0
DroppedAt x dtor_trap before after r (Some e) = Idle before after r (answer.Err e)
DroppedAt x dtor_trap before after r None = WasRemoved x dtor_trap before after r

-- a borrow that the host made has no handle, and nothing is done
abbrev pub DroppedBy : Option GivenIndex → Bool → State → State → Record → Type 0
DroppedBy None dtor_trap before after r = AnswersOk r.answer [] × IsSilent r × (after ≡ before)
DroppedBy (Some x) dtor_trap before after r = DroppedAt x dtor_trap before after r (drop_refusal before.ledger before.trapped x)

-- of a resource of the list
abbrev pub WasDropped : Option Any → Bool → State → State → Record → Type 0
WasDropped None dtor_trap before after r = ⊥
WasDropped (Some x) dtor_trap before after r = DroppedBy (host_index x.handle) dtor_trap before after r

-- ---- an item

abbrev pub head_of : ScriptItem → Head
head_of (call_item c) = head.Call c.func
head_of (typed_item c) = head.Typed c.func
head_of (new_item n) = head.New
head_of (drop_item d) = head.Drop d.resource

-- An item is skipped that names a number which no resource of the list has; after the store was trapped, each new resource and each drop.
-- A typed call never is.
abbrev pub skips : ScriptItem → List Any → State → Bool
skips (call_item c) list before = not (all_known (length list) (held_among c.params))
skips (typed_item c) list before = false
skips (new_item n) list before = before.trapped
skips (drop_item d) list before = before.trapped || not (nat_lt d.resource (length list))

abbrev pub WasPlayed : (ℕ → Callee) → Limits → List (List HostAnswer) → ScriptItem → List Any → State → State → Record → Type 0
WasPlayed callees limits answers (call_item c) list before after r =
    Called (callees c.func) limits answers c list before after r (call_refusal (callees c.func) (length c.params) c.slots before.trapped)
WasPlayed callees limits answers (typed_item c) list before after r = WasTyped c.params (callees c.func) limits answers c before after r
WasPlayed callees limits answers (new_item n) list before after r = WasMade n.borrow n before after r
WasPlayed callees limits answers (drop_item d) list before after r = WasDropped (slice_get list d.resource) d.dtor_trap before after r

abbrev pub Happened : Bool → (ℕ → Callee) → Limits → List (List HostAnswer) → ScriptItem → List Any → State → State → Record → Type 0
Happened true callees limits answers i list before after r = Idle before after r answer.Skipped
Happened false callees limits answers i list before after r = WasPlayed callees limits answers i list before after r

-- The record of an item, with the list of resources before it and the store before and after it: with how many handles live after it.
pub record IsPlayed (callees : ℕ → Callee) (limits : Limits) (answers : List (List HostAnswer)) (i : ScriptItem) (list : List Any) (before after : State) (r : Record) : Type 0 where
  pub head : r.head ≡ head_of i
  pub happened : Happened (skips i list before) callees limits answers i list before after r
  pub live : r.live ≡ after.ledger.handles.counter.live

-- ---- all items

-- One record for each item, in order, from one state of the store on; each call of one of these callees has these limits anew, and the
-- functions of the host give these answers in all of them. The list of resources grows by those of each answer, depth first; one
-- among the values of a served ask isn't added.
abbrev pub Plays : (ℕ → Callee) → Limits → List (List HostAnswer) → List ScriptItem → List Any → State → List Record → Type 0
Plays callees limits answers [] list before [] = ⊤
Plays callees limits answers (i ∷ is) list before (r ∷ records) =
    (after : State) × IsPlayed callees limits answers i list before after r × Plays callees limits answers is (list ++ all_resources (answer_values r.answer)) after records
Plays callees limits answers [] list before (r ∷ records) = ⊥
Plays callees limits answers (i ∷ is) list before [] = ⊥

-- what a script's session leaves in the transcript
abbrev pub Session : Play → List Record → Type 0
Session play records = Plays (played_callee play) (allowed play.fuel play.turns) play.answers play.items [] (at_first play) records
