-- What a command does in a store whose code runs in an engine.
use Rattle.std.specs.Prelude.{Bool, Err, IfNone, IfSome, IsNone, List, None, Ok, OnErr, OnOk, Option, Result, Some, Vec, [], false, if◌then◌else◌, length, map, slice_get, true, ℕ, ◌+◌, ◌++◌, ◌∷◌, ◌<◌, ◌≤◌, ◌^◌, ◌≡◌, ◌⊎◌}
use Rattle.std.specs.declared.alloc.Global.{Global}
use Rattle.canon_image_parts.specs.Read.{IsNumberedRead}
use Rattle.canon_image_parts.specs.Written.{IsListedImage}
use Rattle.canon_image_parts.specs.declared.error.ImageError.{ImageError}
use Rattle.canon_image_parts.specs.declared.error.ImageError.TheVariants as image
use Rattle.canon_model.specs.Shape.{Shape}
use Rattle.canon_types.specs.Table.{shape_of, types_of}
use Rattle.canon_types.specs.declared.types.InterfaceType.TheVariants as ty
use Rattle.canon_types.specs.declared.types.TypeFunc.{TypeFunc}
use Rattle.canon_types.specs.declared.resource.ResourceType.TheVariants.{HostDynamic}
use Rattle.canon_resources.specs.Held.{Any, any, host_index, table_handle}
use Rattle.canon_ledger.specs.Index.{GivenIndex}
use Rattle.canon_ledger.specs.Ledger.{Did, given, host_resource_lower_own}
use Rattle.canon_ledger.specs.declared.fault.ResourceFault.{ResourceFault}
use Rattle.canon_memory.specs.Guest.{GuestIn, Mark, Seen}
use Rattle.canon_memory.specs.Watch.{WatchedMoves, Watching, watched_seen}
use Rattle.canon_memory.specs.declared.event.Event.{Event}
use Rattle.canon_relay.specs.Channel.{Message}
use Rattle.canon_relay.specs.Relay.{RelayMoves, Relaying, relay_seen}
use Rattle.canon_relay.specs.Wire.{number_bytes}
use Rattle.canon_events.specs.Bytes.{events_bytes}
use Rattle.canon_events.specs.Guest.{MaybeMoves, journal_kept, maybe_seen, without_journal}
use Rattle.canon_events.specs.declared.guest.MaybeJournaled.{MaybeJournaled}
use Rattle.canon_context.specs.Asks.{SameButHandles}
use Rattle.canon_context.specs.Core.{Parts, SameButLedger, component_types, guest_of, moment_of}
use Rattle.canon_context.specs.declared.fault.Fault.TheVariants as fault
use Rattle.canon_host.specs.HostSide.{host_side}
use Rattle.canon_func.specs.Asks.{allowed}
use Rattle.canon_func.specs.Call.{Adding, IsCall, LivesUntil, OnAnswered, call_refusal, refused_by}
use Rattle.canon_func.specs.Drop.{IsDrop, drop_refusal}
use Rattle.canon_func.specs.Steps.{SameButHost}
use Rattle.canon_func.specs.Stores.{Named, StoreView, callee_of, type_of}
use Rattle.canon_func.specs.declared.error.Error.{Error}
use Rattle.canon_func.specs.declared.error.Error.TheVariants as error
use Rattle.canon_val.specs.declared.val.Val.{Val}
use Rattle.canon_val.specs.declared.val.Val.TheVariants as val
use Rattle.canon_serve.specs.Asks.{Hosting, serves_imports}
use Rattle.canon_serve.specs.Images.{AreLooked, are_listed}
use Rattle.canon_serve.specs.declared.answer.Answer.{Answer}
use Rattle.canon_serve.specs.declared.answer.Answer.TheVariants as answer
use Rattle.canon_serve.specs.declared.answer.Senseless.TheVariants as senseless
use Rattle.canon_serve.specs.declared.command.Command.{Command}
use Rattle.canon_serve.specs.declared.command.Command.TheVariants as command
use Rattle.canon_serve.specs.declared.imports.ChannelImports.{ChannelImports}

-- ---- a store whose code runs in an engine behind a channel, whose events may be kept, and whose answers of `realloc` are tested

abbrev pub EngineStore : Type 0 → Type 0 → Type 0
EngineStore E H = StoreView (Hosting H) (Watching (MaybeJournaled (Relaying E))) ChannelImports

abbrev pub EngineParts : Type 0 → Type 0 → Type 0
EngineParts E H = Parts (Hosting H) (Watching (MaybeJournaled (Relaying E)))

abbrev pub engine_seen : {E : Type 0} → Watching (MaybeJournaled (Relaying E)) → Seen
engine_seen w = watched_seen (λ g. maybe_seen relay_seen g) w

abbrev pub EngineMoves : {E : Type 0} → (E → Option (List Message)) → GuestIn (Watching (MaybeJournaled (Relaying E))) → List Event → GuestIn (Watching (MaybeJournaled (Relaying E))) → Type 0
EngineMoves log w events x = WatchedMoves (MaybeMoves (RelayMoves log)) w events x

-- ---- a session's state: a store, and the resources that were made or answered so far, which are named by their places

pub record EngineSession (E H : Type 0) : Type 0 where
  pub store : EngineStore E H
  pub list : List Any

abbrev pub session : {E H : Type 0} → EngineStore E H → List Any → EngineSession E H
session store list = record { store = store; list = list }

abbrev pub with_list_in : {E H : Type 0} → EngineStore E H → List Any → EngineStore E H
with_list_in store list = record store { core = record store.core { state = record store.core.state { list = list } } }

-- its store while a call lasts: the list stands in the data, where functions of the host reach it
abbrev pub lent_store : {E H : Type 0} → EngineSession E H → EngineStore E H
lent_store s = with_list_in s.store s.list

-- ---- what the channels expose of the messages that passed: those to the engine, and to the functions of the host

pub record SessionLogs (E H : Type 0) : Type 0 where
  pub engine : E → Option (List Message)
  pub host : H → Option (List Message)

abbrev pub both_logs : {E H : Type 0} → (E → Option (List Message)) → (H → Option (List Message)) → SessionLogs E H
both_logs engine host = record { engine = engine; host = host }

-- ---- marks

abbrev pub mark_byte : Mark → ℕ
mark_byte m = (if m.lawful then 1 else 0) + (if m.tidy then 2 else 0)

abbrev pub IsDone : List ℕ → Answer → Type 0
IsDone bytes (answer.Done given) = given.items ≡ bytes
IsDone bytes a = ⊥

-- ---- a call

-- The answer tells how a call ended: the image of its results, whose resources were added to the list, or its error.
abbrev pub TellsCall : Shape → Result (Unit {0}) Error → List Val → List Any → List Any → Answer → Type 0
TellsCall s (Ok x) results before after (answer.Done bytes) = (vs : Vec Val Global) × (vs.items ≡ results) × IsListedImage before after s (val.Tuple vs) bytes.items
TellsCall s (Err e) results before after (answer.Refused refusal) = (refusal ≡ e) × (after ≡ before)
TellsCall s result results before after a = ⊥

-- why the bytes of parameters are none, as an answer
abbrev pub IsSenseless : ImageError → Answer → Type 0
IsSenseless (image.Truncated place) a = a ≡ answer.Senseless (senseless.NoImage place)
IsSenseless (image.Malformed place) a = a ≡ answer.Senseless (senseless.NoImage place)
IsSenseless (image.Trailing place) a = a ≡ answer.Senseless (senseless.NoImage place)
IsSenseless e a = ⊥

-- ---- a new resource

-- an own handle of the host's table, of a type that a number gives
abbrev pub owned_resource : ℕ → GivenIndex → Any
owned_resource ty index = any (table_handle index true) (HostDynamic ty)

-- Its number is answered and it is added to the list; or the ledger refused it.
abbrev pub TellsNew : ℕ → Result GivenIndex ResourceFault → List Any → List Any → Answer → Type 0
TellsNew ty (Ok index) before after a = IsDone (number_bytes (length before)) a × (after ≡ before ++ owned_resource ty index ∷ [])
TellsNew ty (Err e) before after a = (a ≡ answer.Refused (error.Fault (fault.Resource e))) × (after ≡ before)

-- numbers of 32 bits
abbrev pub AreNarrowOperands : ℕ → ℕ → Type 0
AreNarrowOperands ty rep = (ty < 2 ^ 32) × (rep < 2 ^ 32)

abbrev pub AreWideOperands : ℕ → ℕ → Type 0
AreWideOperands ty rep = (2 ^ 32 ≤ ty) ⊎ (2 ^ 32 ≤ rep)

-- ---- a drop

-- the answer tells how it ended
abbrev pub TellsDrop : Result (Unit {0}) Error → Answer → Type 0
TellsDrop (Ok x) (answer.Done bytes) = bytes.items ≡ []
TellsDrop (Err e) (answer.Refused refusal) = refusal ≡ e
TellsDrop result a = ⊥

module _ {E H : Type 0} (logs : SessionLogs E H) where
  -- A function was called with these parameters and so many slots for results, which it left so: refused before the guest was entered,
  -- which leaves the store as it was, or called.
  pub record CallsStore (f : Named) (params : List Val) (slots : ℕ) (store store2 : EngineStore E H) (result : Result (Unit {0}) Error) (results : List Val) : Type 0 where
    pub refused : refused_by result ≡ call_refusal (callee_of store f) (length params) slots store.trapped
    pub unchanged : IfSome (refused_by result) (λ e. store2 ≡ store)
    pub call : IsNone (refused_by result) → Adding (moment_of engine_seen store.core) (moment_of engine_seen store2.core)
        (λ events. OnAnswered result (EngineMoves logs.engine (guest_of store.core) events (guest_of store2.core)))
        (λ events. IsCall (LivesUntil engine_seen (EngineMoves logs.engine) (guest_of store.core) (guest_of store2.core) result) (λ before after. Unit {0}) (serves_imports logs.host)
        (callee_of store f) (allowed store.core.fuel store.turns) params (moment_of engine_seen store.core) (moment_of engine_seen store2.core)
        (host_side store.core None store.imports.refusals) (host_side store2.core None store2.imports.refusals) result results events)
    pub trapped : IsNone (refused_by result) → OnErr result (store2.trapped ≡ true)
    pub runs : OnOk result (store2.trapped ≡ store.trapped)
    pub same : SameButHost store.core store2.core
    pub turns : store2.turns ≡ store.turns

  -- The same of a session, whose list stood in the store's data meanwhile: what functions of the host were handed is at its end.
  abbrev pub CallsExport : Named → List Val → ℕ → EngineSession E H → EngineSession E H → Result (Unit {0}) Error → List Val → Type 0
  CallsExport f params slots s s2 result results = CallsStore f params slots (lent_store s) (lent_store s2) result results × (s2.store.core.state.list ≡ s.store.core.state.list)

  -- it answered Ok, and then the list alone may have changed
  abbrev pub CallsOk : Named → List Val → ℕ → EngineSession E H → EngineSession E H → Type 0
  CallsOk f params slots s s2 = (results : List Val) × (left : EngineSession E H) × CallsExport f params slots s left (Ok tt) results × (s2.store ≡ left.store)

  -- the shapes of the tuples of a function's parameters and results
  abbrev pub params_tuple_shape : EngineStore E H → TypeFunc → Shape
  params_tuple_shape store f = shape_of (component_types store.core) (ty.Tuple f.params)

  abbrev pub results_tuple_shape : EngineStore E H → TypeFunc → Shape
  results_tuple_shape store f = shape_of (component_types store.core) (ty.Tuple f.results)

  -- these bytes are the image of these parameters, for so many results, with borrows of their numbers for resources; or they are none
  abbrev pub IsReadParams : EngineStore E H → TypeFunc → List ℕ → Result (Vec Val Global × ℕ) ImageError → Type 0
  IsReadParams store t bytes (Ok p) = IsNumberedRead (params_tuple_shape store t) bytes (Ok (val.Tuple p.0)) × (p.1 ≡ length (types_of (component_types store.core) t.results))
  IsReadParams store t bytes (Err e) = IsNumberedRead (params_tuple_shape store t) bytes (Err e)

  -- With these parameters the function was called, and the answer tells how that ended.
  pub record AnswersCall (f : Named) (t : TypeFunc) (params : List Val) (s s2 : EngineSession E H) (a : Answer) : Type 0 where
    pub slots : ℕ
    pub slots_are : slots ≡ length (types_of (component_types s.store.core) t.results)
    pub result : Result (Unit {0}) Error
    pub results : List Val
    pub left : EngineSession E H
    pub called : CallsExport f params slots s left result results
    pub told : TellsCall (results_tuple_shape s.store t) result results left.list s2.list a
    pub rest : s2.store ≡ left.store

  -- nothing was done, and this was answered
  abbrev pub OnlyAnswers : EngineSession E H → EngineSession E H → Answer → Answer → Type 0
  OnlyAnswers s s2 a is = (a ≡ is) × (s2 ≡ s)

  -- by whether each number among the parameters is one of the list
  abbrev pub ByNumbers : Named → TypeFunc → List Val → EngineSession E H → EngineSession E H → Answer → Bool → Type 0
  ByNumbers f t given s s2 a true = (params : List Val) × AreLooked s.list given params × AnswersCall f t params s s2 a
  ByNumbers f t given s s2 a false = OnlyAnswers s s2 a (answer.Senseless senseless.NoResource)

  -- by what the bytes of the parameters are
  abbrev pub ByReading : Named → TypeFunc → EngineSession E H → EngineSession E H → Answer → Result Val ImageError → Type 0
  ByReading f t s s2 a (Ok v) = (given : Vec Val Global) × (v ≡ val.Tuple given) × ByNumbers f t given.items s s2 a (are_listed s.list given.items)
  ByReading f t s s2 a (Err e) = IsSenseless e a × (s2 ≡ s)

  -- a function of this type, by how the bytes of the parameters are read
  abbrev pub CalledBy : Named → TypeFunc → List ℕ → EngineSession E H → EngineSession E H → Answer → Type 0
  CalledBy f t bytes s s2 a = (read : Result Val ImageError) × IsNumberedRead (params_tuple_shape s.store t) bytes read × ByReading f t s s2 a read

  abbrev pub CalledOf : Named → List ℕ → EngineSession E H → EngineSession E H → Answer → Option TypeFunc → Type 0
  CalledOf f bytes s s2 a (Some t) = CalledBy f t bytes s s2 a
  CalledOf f bytes s s2 a None = ⊥

  -- the component has an export of this number
  abbrev pub HasExport : EngineStore E H → ℕ → Type 0
  HasExport store export = (export < 2 ^ 32) × (export < length store.core.component.exports.items)

  abbrev pub without_marks : EngineStore E H → EngineStore E H
  without_marks store = record store { core = record store.core { guest = record store.core.guest { marks = [] } } }

  abbrev pub without_events : EngineStore E H → EngineStore E H
  without_events store = record store { core = record store.core { guest = record store.core.guest { guest = without_journal store.core.guest.guest } } }

  -- The events that were kept are told, and forgotten; or none are kept.
  abbrev pub TellsKeptEvents : Option (List Event) → EngineStore E H → EngineStore E H → Answer → Type 0
  TellsKeptEvents None store store2 a = (a ≡ answer.Senseless senseless.NoEvents) × (store2 ≡ store)
  TellsKeptEvents (Some events) store store2 a = IsDone (events_bytes events) a × (store2 ≡ without_events store)

  -- ---- a resource

  -- An own handle was put into the host's table, or the ledger refused it: nothing but the ledger changed.
  pub record InsertsHandle (rep : ℕ) (store store2 : EngineStore E H) (result : Result GivenIndex ResourceFault) : Type 0 where
    pub did : Did (given store.core.ledger (host_resource_lower_own store.core.ledger rep None None)) result store.core.ledger store2.core.ledger
    pub same : SameButLedger store.core store2.core
    pub rest : store2 ≡ record store { core = store2.core }

  -- and this was answered
  abbrev pub IsMade : ℕ → ℕ → EngineSession E H → EngineSession E H → Answer → Type 0
  IsMade ty rep s s2 a = (result : Result GivenIndex ResourceFault) × InsertsHandle rep s.store s2.store result × TellsNew ty result s.list s2.list a

  -- a resource was made, or its type or its representation has more than 32 bits
  abbrev pub MakesNew : ℕ → ℕ → EngineSession E H → EngineSession E H → Answer → Type 0
  MakesNew ty rep s s2 a = (AreNarrowOperands ty rep × IsMade ty rep s s2 a) ⊎ (AreWideOperands ty rep × OnlyAnswers s s2 a (answer.Senseless senseless.TooWide))

  -- A resource was dropped, as `resource_drop` does: a borrow without a handle is nothing, a stale handle is refused, and else its handle leaves the
  -- host's table and its destructor runs.
  pub record DropsHandle (x : Any) (store store2 : EngineStore E H) (result : Result (Unit {0}) Error) : Type 0 where
    pub no_handle : IfNone (host_index x.handle) ((result ≡ Ok tt) × (store2 ≡ store))
    pub refused : IfSome (host_index x.handle) (λ i. IfSome (drop_refusal store.core.ledger store.trapped i) (λ e. (result ≡ Err e) × (store2 ≡ store)))
    pub drops : IfSome (host_index x.handle) (λ i. IfNone (drop_refusal store.core.ledger store.trapped i) (IsDrop engine_seen (EngineMoves logs.engine) (λ m n. Unit {0}) i store store2 result))
    pub same : SameButHandles store.core store2.core
    pub turns : store2.turns ≡ store.turns
    pub imports : store2.imports ≡ store.imports

  -- the resource of a number was dropped, or there is none
  abbrev pub DropsListed : EngineSession E H → EngineSession E H → Answer → Option Any → Type 0
  DropsListed s s2 a (Some x) = (result : Result (Unit {0}) Error) × DropsHandle x s.store s2.store result × TellsDrop result a × (s2.list ≡ s.list)
  DropsListed s s2 a None = OnlyAnswers s s2 a (answer.Senseless senseless.NoResource)

  -- ---- a command

  abbrev pub export_named : EngineStore E H → ℕ → Named
  export_named store export = record { store = store.core.id; export = export }

  -- the export of a number was called, or there is none
  abbrev pub CalledAt : ℕ → List ℕ → EngineSession E H → EngineSession E H → Answer → Type 0
  CalledAt export bytes s s2 a =
      (HasExport s.store export × CalledOf (export_named s.store export) bytes s s2 a (type_of s.store (export_named s.store export)))
      ⊎ ((HasExport s.store export → ⊥) × OnlyAnswers s s2 a (answer.Senseless senseless.NoExport))

  -- What was answered to a command, and what it left: a call by the export of that number, if there is one; how many handles live; the marks since
  -- the last time, which are forgotten then; a resource of a number that was dropped, and a new one; and the events since the last time, which are
  -- forgotten too.
  abbrev pub CarriesOutCommand : Command → EngineSession E H → EngineSession E H → Answer → Type 0
  CarriesOutCommand (command.Call export params) s s2 a = CalledAt export params.items s s2 a
  CarriesOutCommand command.Live s s2 a = IsDone (number_bytes s.store.core.ledger.handles.counter.live) a × (s2 ≡ s)
  CarriesOutCommand command.Marks s s2 a = IsDone (map mark_byte s.store.core.guest.marks) a × (s2 ≡ session (without_marks s.store) s.list)
  CarriesOutCommand (command.Drop number) s s2 a = DropsListed s s2 a (slice_get s.list number)
  CarriesOutCommand (command.New ty rep) s s2 a = MakesNew ty rep s s2 a
  CarriesOutCommand command.Events s s2 a = TellsKeptEvents (journal_kept s.store.core.guest.guest) s.store s2.store a × (s2.list ≡ s.list)
  CarriesOutCommand command.End s s2 a = OnlyAnswers s s2 a (answer.Senseless senseless.NoCommand)
  CarriesOutCommand (command.Begin all keeps json) s s2 a = OnlyAnswers s s2 a (answer.Senseless senseless.NoCommand)
  CarriesOutCommand command.Unknown s s2 a = OnlyAnswers s s2 a (answer.Senseless senseless.NoCommand)

  -- ---- want of memory

  -- The function, which has a type, was called with the parameters of an image, each of whose numbers is one of the list, and answered Ok.
  pub record IsDoneCall (f : Named) (bytes : List ℕ) (s s2 : EngineSession E H) : Type 0 where
    pub type : TypeFunc
    pub typed : type_of s.store f ≡ Some type
    pub given : Vec Val Global
    pub slots : ℕ
    pub params : List Val
    pub read : IsReadParams s.store type bytes (Ok (given, slots))
    pub known : are_listed s.list given.items ≡ true
    pub looked : AreLooked s.list given.items params
    pub called : CallsOk f params slots s s2

  -- what a call with parameters in which numbers stand for resources did for whose answer memory ran out
  abbrev pub NumberedShort : Named → List Val → ℕ → EngineSession E H → EngineSession E H → Type 0
  NumberedShort f given slots s s2 = (s2 ≡ s) ⊎ ((params : List Val) × (are_listed s.list given ≡ true) × AreLooked s.list given params × CallsOk f params slots s s2)

  -- what a call did for whose answer memory ran out: nothing, or it is that for the image of its results
  abbrev pub CallsShort : Named → List ℕ → EngineSession E H → EngineSession E H → Type 0
  CallsShort f bytes s s2 = (s2 ≡ s) ⊎ IsDoneCall f bytes s s2

  -- the same of a new resource, whose type and representation have no more than 32 bits: nothing, or its handle has no place in the list
  abbrev pub NewShort : ℕ → ℕ → EngineSession E H → EngineSession E H → Type 0
  NewShort ty rep s s2 = (s2 ≡ s) ⊎ (AreNarrowOperands ty rep × ((index : GivenIndex) × InsertsHandle rep s.store s2.store (Ok index)) × (s2.list ≡ s.list))

  -- what a command did for whose answer memory ran out
  abbrev pub AnswersShort : Command → EngineSession E H → EngineSession E H → Type 0
  AnswersShort (command.Call export params) s s2 = CallsShort (export_named s.store export) params.items s s2
  AnswersShort command.Live s s2 = s2 ≡ s
  AnswersShort command.Marks s s2 = s2 ≡ s
  AnswersShort (command.New ty rep) s s2 = NewShort ty rep s s2
  AnswersShort command.Events s s2 = s2 ≡ s
  AnswersShort asked s s2 = ⊥
