-- A session: commands that are heard, carried out and answered, one after another, in the store of a component and with a list of resources.
use Rattle.std.specs.Prelude.{Bool, List, Option, Vec, [], ◌++◌, ◌∷◌, ◌≡◌, ◌⊎◌, ℕ}
use Rattle.std.specs.declared.alloc.Global.{Global}
use Rattle.canon_context.specs.declared.fault.Fault.TheVariants as fault
use Rattle.canon_func.specs.declared.error.Error.TheVariants as error
use Rattle.canon_relay.specs.Channel.{AddsMessages, Message}
use Rattle.canon_relay.specs.Relay.{PassesMessages}
use Rattle.canon_serve.specs.Begins.{HasComponent, HasNoComponent, IsBegun}
use Rattle.canon_serve.specs.Carries.{AnswersShort, CarriesOutCommand, EngineSession, EngineStore, SessionLogs, session}
use Rattle.canon_serve.specs.Messages.{HearsCommand, HearsHead, HearsNone, IsStrictPrefix, answer_messages}
use Rattle.canon_serve.specs.declared.answer.Answer.{Answer}
use Rattle.canon_serve.specs.declared.answer.Answer.TheVariants as answer
use Rattle.canon_serve.specs.declared.answer.Senseless.{Senseless}
use Rattle.canon_serve.specs.declared.answer.Senseless.TheVariants as senseless
use Rattle.canon_serve.specs.declared.begin.NoStore.{NoStore}
use Rattle.canon_serve.specs.declared.begin.NoStore.TheVariants as no_store
use Rattle.canon_serve.specs.declared.command.Command.{Command}
use Rattle.canon_serve.specs.declared.command.Command.TheVariants as command
use Rattle.canon_serve.specs.declared.command.Unheard.{Unheard}
use Rattle.canon_serve.specs.declared.command.Unheard.TheVariants as unheard
use Rattle.canon_serve.specs.declared.serving.End.{End}
use Rattle.canon_serve.specs.declared.serving.End.TheVariants as end

-- ---- commands and their answers

-- a command that was heard, and the answer that was told
pub record CommandTurn : Type 0 where
  pub asked : Command
  pub heard : List Message
  pub answered : Answer

abbrev pub one_turn_messages : CommandTurn → List Message
one_turn_messages t = t.heard ++ answer_messages t.answered

abbrev pub command_messages : List CommandTurn → List Message
command_messages [] = []
command_messages (t ∷ ts) = one_turn_messages t ++ command_messages ts

-- a session goes on after any command but one
abbrev pub GoesOnAfter : Command → Type 0
GoesOnAfter command.End = ⊥
GoesOnAfter _ = Unit {0}

-- memory may run out for the answer of any but these
abbrev pub MayRunShort : Command → Type 0
MayRunShort command.End = ⊥
MayRunShort (command.Begin all keeps json) = ⊥
MayRunShort (command.Drop number) = ⊥
MayRunShort command.Unknown = ⊥
MayRunShort _ = Unit {0}

-- a command was heard, and memory ran out as it was carried out
abbrev pub IsCutCommand : List Message → Type 0
IsCutCommand messages = (asked : Command) × MayRunShort asked × HearsCommand asked messages

module _ {E H : Type 0} (logs : SessionLogs E H) where
  -- the command, which doesn't end the session, was heard and carried out, from one state to another, with this answer
  abbrev pub ServesTurn : CommandTurn → EngineSession E H → EngineSession E H → Type 0
  ServesTurn t s s2 = GoesOnAfter t.asked × HearsCommand t.asked t.heard × CarriesOutCommand logs t.asked s s2 t.answered

  -- each was, one after another
  abbrev pub ServesTurns : List CommandTurn → EngineSession E H → EngineSession E H → Type 0
  ServesTurns [] s s2 = s2 ≡ s
  ServesTurns (t ∷ ts) s s2 = (next : EngineSession E H) × ServesTurn t s next × ServesTurns ts next s2

  -- one was, and its messages passed over the caller's channel, and nothing else
  abbrev pub ServesOne : Option (List Message) → Option (List Message) → EngineSession E H → EngineSession E H → Type 0
  ServesOne log1 log2 s s2 = (t : CommandTurn) × ServesTurn t s s2 × AddsMessages log1 log2 (one_turn_messages t)

  -- each was, and their messages passed over the caller's channel, and nothing else
  pub record ServesAll (log1 log2 : Option (List Message)) (s s2 : EngineSession E H) : Type 0 where
    pub turns : List CommandTurn
    pub serves : ServesTurns turns s s2
    pub passed : AddsMessages log1 log2 (command_messages turns)

  -- ---- the end

  -- a command was heard and carried out, and its answer was told, but not whole
  pub record IsCutAnswer (s : EngineSession E H) (messages : List Message) : Type 0 where
    pub turn : CommandTurn
    pub next : EngineSession E H
    pub serves : ServesTurn turn s next
    pub part : List Message
    pub first : IsStrictPrefix (answer_messages turn.answered) part
    pub are : messages ≡ turn.heard ++ part

  -- By how it ended: which answer wasn't told whole, or that there is none for want of memory.
  abbrev pub CutsCommand : End → Command → EngineSession E H → EngineSession E H → Option (List Message) → Option (List Message) → Type 0
  CutsCommand end.Broken asked s s2 log1 log2 = (a : Answer) × CarriesOutCommand logs asked s s2 a × PassesMessages log1 log2 (IsStrictPrefix (answer_messages a))
  CutsCommand end.OutOfMemory asked s s2 log1 log2 = AnswersShort logs asked s s2 × (log2 ≡ log1)
  CutsCommand _ asked s s2 log1 log2 = ⊥

  -- what passed last, by how the session ended
  abbrev pub EndsSession : End → EngineSession E H → List Message → Type 0
  EndsSession end.Asked s messages = HearsCommand command.End messages
  EndsSession end.Broken s messages = HearsNone messages ⊎ IsCutAnswer s messages
  EndsSession end.OutOfMemory s messages = HearsHead messages ⊎ IsCutCommand messages
  EndsSession _ s messages = ⊥

  -- Commands were served, and then the session ended so.
  pub record ServesUntil (log1 log2 : Option (List Message)) (s : EngineSession E H) (why : End) : Type 0 where
    pub last : EngineSession E H
    pub between : Option (List Message)
    pub served : ServesAll log1 between s last
    pub ends : PassesMessages between log2 (EndsSession why last)

-- ---- the first command

-- how it is answered: the store of its component began; there is none; the engine didn't instantiate it; or it is another command
abbrev pub IsFirstAnswer : Command → Answer → Type 0
IsFirstAnswer (command.Begin all keeps json) (answer.Done bytes) = HasComponent json.items × (bytes.items ≡ [])
IsFirstAnswer (command.Begin all keeps json) (answer.Senseless senseless.NoComponent) = HasNoComponent json.items
IsFirstAnswer (command.Begin all keeps json) (answer.Refused (error.Fault fault.GuestTrap)) = HasComponent json.items
IsFirstAnswer (command.Begin all keeps json) a = ⊥
IsFirstAnswer asked (answer.Senseless senseless.NoCommand) = Unit {0}
IsFirstAnswer asked a = ⊥

-- it was heard, and an answer of this kind was told
pub record IsFirstTurn (IsKind : Answer → Type 0) (messages : List Message) : Type 0 where
  pub turn : CommandTurn
  pub heard : HearsCommand turn.asked turn.heard
  pub answered : IsFirstAnswer turn.asked turn.answered
  pub kind : IsKind turn.answered
  pub are : messages ≡ one_turn_messages turn

-- it was heard, and an answer was told, but not whole
pub record IsCutFirst (messages : List Message) : Type 0 where
  pub turn : CommandTurn
  pub heard : HearsCommand turn.asked turn.heard
  pub answered : IsFirstAnswer turn.asked turn.answered
  pub part : List Message
  pub first : IsStrictPrefix (answer_messages turn.answered) part
  pub are : messages ≡ turn.heard ++ part

-- An answer was told, and the session ended so; or it was told, but not whole, as the channel failed.
abbrev pub ToldOrCut : Answer → End → Option (List Message) → Option (List Message) → End → Type 0
ToldOrCut a why log1 log2 result = ((result ≡ why) × AddsMessages log1 log2 (answer_messages a)) ⊎ ((result ≡ end.Broken) × PassesMessages log1 log2 (IsStrictPrefix (answer_messages a)))

-- how a session ends that has no store, by the cause
abbrev pub EndsUnbegun : NoStore → Option (List Message) → Option (List Message) → End → Type 0
EndsUnbegun no_store.NoComponent log1 log2 result = ToldOrCut (answer.Senseless senseless.NoComponent) end.NoComponent log1 log2 result
EndsUnbegun no_store.NotInstantiated log1 log2 result = ToldOrCut (answer.Refused (error.Fault fault.GuestTrap)) end.NotInstantiated log1 log2 result
EndsUnbegun no_store.OutOfMemory log1 log2 result = (result ≡ end.OutOfMemory) × (log2 ≡ log1)

-- how a session ends in which nothing more was heard
abbrev pub unheard_end : Unheard → End
unheard_end unheard.Broken = end.Broken
unheard_end unheard.OutOfMemory = end.OutOfMemory

-- what passed, by how a session ended in which no command was served
abbrev pub EndsAtOnce : End → List Message → Type 0
EndsAtOnce end.Asked messages = ⊥
EndsAtOnce end.Broken messages = HearsNone messages ⊎ IsCutFirst messages
EndsAtOnce end.OutOfMemory messages = HearsHead messages ⊎ ((watches_all keeps_events : Bool) × (json : Vec ℕ Global) × HearsCommand (command.Begin watches_all keeps_events json) messages)
EndsAtOnce end.NoComponent messages = IsFirstTurn (λ a. (why : Senseless) × (a ≡ answer.Senseless why)) messages
EndsAtOnce end.NotInstantiated messages = IsFirstTurn (λ a. a ≡ answer.Refused (error.Fault fault.GuestTrap)) messages

-- ---- a session

module _ {E H : Type 0} (logs : SessionLogs E H) (engine : E) (host : H) where
  -- A component was heard, and its store began, which was told.
  pub record BeginsSession (log1 log2 : Option (List Message)) (store : EngineStore E H) : Type 0 where
    pub watches_all : Bool
    pub keeps_events : Bool
    pub json : Vec ℕ Global
    pub heard : List Message
    pub is_heard : HearsCommand (command.Begin watches_all keeps_events json) heard
    pub begun : IsBegun logs.engine engine host watches_all keeps_events json.items store
    pub empty : Vec ℕ Global
    pub is_empty : empty.items ≡ []
    pub passed : AddsMessages log1 log2 (heard ++ answer_messages (answer.Done empty))

  -- Its store began, and commands were served in it, from no resources on, until the session ended.
  pub record ServesSession (log1 log2 : Option (List Message)) (why : End) : Type 0 where
    pub store : EngineStore E H
    pub between : Option (List Message)
    pub begins : BeginsSession log1 between store
    pub served : ServesUntil logs between log2 (session store []) why

  -- a session, or one that ended before a command was served
  abbrev pub IsSession : Option (List Message) → Option (List Message) → End → Type 0
  IsSession log1 log2 why = ServesSession log1 log2 why ⊎ PassesMessages log1 log2 (EndsAtOnce why)
