-- What functions of the host are asked over a channel, and what they give.
use Rattle.std.specs.Prelude.{Err, List, Ok, Option, Result, Vec, [], false, length, map, true, ◌++◌, ◌<◌, ◌∷◌, ◌≡◌, ◌≢◌, ◌≤◌, ◌⊎◌, ℕ}
use Rattle.std.specs.declared.alloc.Global.{Global}
use Rattle.canon_context.specs.declared.host.HostStop.{HostStop}
use Rattle.canon_context.specs.declared.host.HostStop.TheVariants as stop
use Rattle.canon_host.specs.Forms.{ValuesAnswering, over_values}
use Rattle.canon_host.specs.HostSide.{Giving}
use Rattle.canon_image_parts.specs.Read.{IsNumberedRead}
use Rattle.canon_image_parts.specs.Written.{IsListedImage}
use Rattle.canon_image_parts.specs.declared.error.ImageError.{ImageError}
use Rattle.canon_image_parts.specs.declared.error.ImageError.TheVariants as image
use Rattle.canon_ledger.specs.Index.{GivenIndex}
use Rattle.canon_ledger.specs.Ledger.{HostDrop, LedgerState, run_steps}
use Rattle.canon_literals.specs.Literals.{held_among, literals_view}
use Rattle.canon_model.specs.Shape.{Shape}
use Rattle.canon_relay.specs.Channel.{Message, heard, told}
use Rattle.canon_relay.specs.Relay.{PassesMessages}
use Rattle.canon_relay.specs.Wire.{number_at, numbers_bytes}
use Rattle.canon_resources.specs.Held.{Any}
use Rattle.canon_resources.specs.declared.any.ResourceAnyHandle.{ResourceAnyHandle}
use Rattle.canon_resources.specs.declared.any.ResourceAnyHandle.TheVariants as handle
use Rattle.canon_types.specs.Table.{TypeTable, shape_of}
use Rattle.canon_types.specs.declared.types.InterfaceType.TheVariants as ty
use Rattle.canon_types.specs.declared.types.TypeFunc.{TypeFunc}
use Rattle.canon_val.specs.declared.val.Val.{Val}
use Rattle.canon_val.specs.declared.val.Val.TheVariants as val
use Rattle.canon_serve.specs.Images.{AreLooked, are_listed}
use Rattle.canon_serve.specs.Messages.{IsStrictPrefix, heard_bytes, told_bytes}

-- The data of a session's store: the channel to the functions of the host, and the list of the resources that have numbers.
pub record Hosting (H : Type 0) : Type 0 where
  pub channel : H
  pub list : List Any

-- ---- the messages

-- an ask: 6, the number of the import, how many bytes the image of its parameters has, and these
abbrev pub ask_messages : ℕ → List ℕ → List Message
ask_messages n asked = told (numbers_bytes (6 ∷ n ∷ length asked ∷ [])) ∷ told_bytes asked

-- an answer: its status, and its bytes, at most 16,777,216
pub record HearsStatus (status : ℕ) (answered : List ℕ) (messages : List Message) : Type 0 where
  pub head : List ℕ
  pub sized : length head ≡ 16
  pub status_is : number_at head 0 ≡ status
  pub count : length answered ≡ number_at head 8
  pub few : length answered ≤ 16777216
  pub are : messages ≡ heard head ∷ heard_bytes answered

-- no answer was heard whole: nothing, or the first 16 bytes of one that has more
abbrev pub HearsNoStatus : List Message → Type 0
HearsNoStatus messages = (messages ≡ []) ⊎ ((head : List ℕ) × (length head ≡ 16) × (0 < number_at head 8) × (messages ≡ heard head ∷ []))

-- no answer was heard whole, or one of another status than 0
abbrev pub HearsRefusal : List Message → Type 0
HearsRefusal messages = HearsNoStatus messages ⊎ ((status : ℕ) × (answered : List ℕ) × (status ≢ 0) × HearsStatus status answered messages)

-- the ask was told whole, and then this was heard
abbrev pub ThenHears : ℕ → List ℕ → (List Message → Type 0) → List Message → Type 0
ThenHears n asked P messages = (rest : List Message) × (messages ≡ ask_messages n asked ++ rest) × P rest

-- it was answered with these bytes
abbrev pub IsServedAsk : ℕ → List ℕ → List ℕ → List Message → Type 0
IsServedAsk n asked answered messages = ThenHears n asked (HearsStatus 0 answered) messages

-- it wasn't told whole, or it was refused
abbrev pub IsRefusedAsk : ℕ → List ℕ → List Message → Type 0
IsRefusedAsk n asked messages = IsStrictPrefix (ask_messages n asked) messages ⊎ ThenHears n asked HearsRefusal messages

-- ---- the values

-- the bytes are the image of results, with the resource of the list in the place of each number, and each number is one of the list
abbrev pub ReadsResults : Shape → List Any → List ℕ → List Val → Type 0
ReadsResults s list answered results = (given : Vec Val Global) × IsNumberedRead s answered (Ok (val.Tuple given)) × (are_listed list given.items ≡ true) × AreLooked list given.items results

-- they are no image of results, or a number among them is none of the list
abbrev pub ReadsNone : Shape → List Any → List ℕ → Type 0
ReadsNone s list answered =
    ((e : ImageError) × (e ≢ image.OutOfMemory) × IsNumberedRead s answered (Err e))
    ⊎ ((given : Vec Val Global) × IsNumberedRead s answered (Ok (val.Tuple given)) × (are_listed list given.items ≡ false))

-- by what is answered to the guest
abbrev pub ReadsAnswer : Shape → List Any → List ℕ → Result (List Val) HostStop → Type 0
ReadsAnswer s list answered (Ok results) = ReadsResults s list answered results
ReadsAnswer s list answered (Err stop.Refused) = ReadsNone s list answered
ReadsAnswer s list answered (Err stop.OutOfMemory) = Unit {0}

-- the bytes are the image of these values, whose resources were added to the list
abbrev pub ListsValues : Shape → List Val → List Any → List Any → List ℕ → Type 0
ListsValues s values before after bytes = (copies : Vec Val Global) × (literals_view copies.items ≡ literals_view values) × IsListedImage before after s (val.Tuple copies) bytes

-- ---- borrows

abbrev pub borrow_of : ResourceAnyHandle → List GivenIndex
borrow_of (handle.Borrow x) = x ∷ []
borrow_of h = []

abbrev pub borrows_in : List Any → List GivenIndex
borrows_in [] = []
borrows_in (x ∷ xs) = borrow_of x.handle ++ borrows_in xs

-- the handles of the host's table that are borrows among values, in order
abbrev pub borrows_among : List Val → List GivenIndex
borrows_among values = borrows_in (held_among (literals_view values))

-- the ledger once each of them was dropped
abbrev pub without_borrows : List Val → LedgerState → LedgerState
without_borrows values l = run_steps (map HostDrop (borrows_among values)) l

-- the borrows among its parameters were dropped, or, where memory ran out, none
abbrev pub DropsBorrows : Result (List Val) HostStop → List Val → LedgerState → LedgerState → Type 0
DropsBorrows (Err stop.OutOfMemory) params before after = (after ≡ before) ⊎ (after ≡ without_borrows params before)
DropsBorrows answer params before after = after ≡ without_borrows params before

-- ---- an ask

module _ {H : Type 0} (log : H → Option (List Message)) where
  -- it was told with the image of its parameters, and was answered so
  abbrev pub AnswersAsk : ℕ → Shape → List ℕ → Hosting H → Hosting H → Result (List Val) HostStop → Type 0
  AnswersAsk n s asked before after (Ok results) = (answered : List ℕ) × PassesMessages (log before.channel) (log after.channel) (IsServedAsk n asked answered) × ReadsResults s after.list answered results
  AnswersAsk n s asked before after (Err stop.Refused) =
      PassesMessages (log before.channel) (log after.channel) (λ messages. IsRefusedAsk n asked messages ⊎ ((answered : List ℕ) × IsServedAsk n asked answered messages × ReadsNone s after.list answered))
  AnswersAsk n s asked before after (Err stop.OutOfMemory) = Unit {0}

  -- The resources of its parameters were added to the list, and it was answered; or memory ran out before.
  pub record AsksHost (n : ℕ) (types : TypeTable) (type : TypeFunc) (before : Hosting H) (params : List Val) (answer : Result (List Val) HostStop) (after : Hosting H) : Type 0 where
    pub ask :
        ((asked : List ℕ) × ListsValues (shape_of types (ty.Tuple type.params)) params before.list after.list asked × AnswersAsk n (shape_of types (ty.Tuple type.results)) asked before after answer)
        ⊎ ((answer ≡ Err stop.OutOfMemory) × (after ≡ before))

  -- what the import of a number may answer
  abbrev pub MayServe : ℕ → ValuesAnswering (Hosting H)
  MayServe n type reached params answer state ledger = AsksHost n reached.types.types type reached.state params answer state × DropsBorrows answer params reached.ledger ledger

  abbrev pub serves_imports : Giving (Hosting H)
  serves_imports = record { answers = λ entries n before params result after. ⊥; form = λ n. over_values (MayServe n) }
