-- What a guest behind a channel does, and what passes over the channel meanwhile.
use Rattle.std.specs.Prelude.{Err, List, None, Ok, Option, Result, Some, [], false, length, replicate, suc, zero, ℕ, ◌++◌, ◌∷◌, ◌≡◌, ◌≢◌, ◌≤◌, ◌<◌, ◌^◌, ◌⊎◌}
use Rattle.std.proofs.Common.{ap, refl, subst, sym, ◌∙◌}
use Rattle.std.proofs.lemmas.List.{append-nil, append_assoc}
use Rattle.canon_memory.specs.Guest.{GuestIn, Mark, Seen}
use Rattle.canon_memory.specs.declared.error.GuestFault.{GuestFault}
use Rattle.canon_memory.specs.declared.error.GuestFault.TheVariants as fault
use Rattle.canon_memory.specs.declared.event.Event.{Event}
use Rattle.canon_memory.specs.declared.event.Event.TheVariants as event
use Rattle.canon_memory.specs.declared.guest.Step.{Step}
use Rattle.canon_memory.specs.declared.guest.Step.TheVariants as step
use Rattle.canon_relay.specs.Channel.{AddsMessages, Message, heard, lent, told}
use Rattle.canon_relay.specs.Wire.{demand_bytes, reply_count, reply_grown, reply_kind, reply_number, reply_words}
use Rattle.canon_relay.specs.declared.counts.Counts.{Counts}
use Rattle.canon_relay.specs.declared.demand.Demand.{Demand}
use Rattle.canon_relay.specs.declared.demand.Demand.TheVariants as demand

-- a guest behind a channel, with how many blocks it gave, and how often it trapped and was out of memory
pub record Relaying (C : Type 0) : Type 0 where
  pub channel : C
  pub counts : Counts

-- the mark of an answer that nobody tested
abbrev pub untested : Mark
untested = record { lawful = false; tidy = false }

abbrev pub relay_seen : {C : Type 0} → Relaying C → Seen
relay_seen g = record { journal = None; marks = replicate g.counts.blocks untested; live = []; holds = false; traps = g.counts.traps; shortages = g.counts.shortages }

-- ---- one exchange with the engine

-- memory is lent again, where it is to be longer by so many zeros
abbrev pub lent_again : ℕ → List ℕ → List ℕ → List Message
lent_again zero ran after = []
lent_again (suc n) ran after = lent (ran ++ replicate (suc n) 0) after ∷ []

-- where it isn't, it is as it was given back
abbrev pub IsAsGivenBack : ℕ → List ℕ → List ℕ → Type 0
IsAsGivenBack zero ran after = after ≡ ran
IsAsGivenBack (suc n) ran after = Unit {0}

-- The messages of one exchange: a demand of these bytes is told, memory is lent and given back, a reply is heard, and a memory that is to be longer by it
-- is lent again.
abbrev pub exchange_messages : List ℕ → List ℕ → List ℕ → List ℕ → List ℕ → List Message
exchange_messages asked before ran reply after = told asked ∷ lent before ran ∷ heard reply ∷ lent_again (reply_grown reply) ran after

-- They passed, and the reply is of this kind and has 168 bytes.
pub record Replied (kind : ℕ) (asked before after reply : List ℕ) (messages : List Message) : Type 0 where
  pub ran : List ℕ
  pub passed : messages ≡ exchange_messages asked before ran reply after
  pub left : IsAsGivenBack (reply_grown reply) ran after
  pub kind_is : reply_kind reply ≡ kind
  pub sized : length reply ≡ 168

-- what the reply to a demand is, and which messages it took
abbrev pub Replies : ℕ → Demand → List ℕ → List ℕ → List ℕ → (List ℕ → Type 0) → List Message → Type 0
Replies kind d words before after Says messages = (reply : List ℕ) × Replied kind (demand_bytes d (length before) words) before after reply messages × Says reply

-- An engine that was let go returned these words, or asks for an import with them: at most 17.
abbrev pub RepliesStep : Demand → List ℕ → List ℕ → List ℕ → Step → List Message → Type 0
RepliesStep d words before after (step.Return results) = Replies 0 d words before after (λ reply. (reply_words reply ≡ results) × (reply_count reply ≤ 17))
RepliesStep d words before after (step.Import index asked) = Replies 1 d words before after (λ reply. (reply_number reply ≡ index) × (reply_words reply ≡ asked) × (reply_count reply ≤ 17))

-- it gave a block
abbrev pub RepliesBlock : Demand → List ℕ → List ℕ → ℕ → List Message → Type 0
RepliesBlock d before after at = Replies 0 d [] before after (λ reply. (reply_number reply ≡ at) × (reply_count reply ≡ 0) × (at < 2 ^ 32))

-- it did something that returns nothing
abbrev pub RepliesDone : Demand → List ℕ → List ℕ → List ℕ → List Message → Type 0
RepliesDone d words before after = Replies 0 d words before after (λ reply. Unit {0})

-- ---- no reply

-- What passed where a demand has no answer: none, some or all messages of an exchange, and if all, the reply is one that is refused.
pub record StopsExchange (asked before : List ℕ) (Refused : List ℕ → Type 0) (messages : List Message) : Type 0 where
  pub ran : List ℕ
  pub reply : List ℕ
  pub after : List ℕ
  pub rest : List Message
  pub part : exchange_messages asked before ran reply after ≡ messages ++ rest
  pub sized : length reply ≡ 168
  pub refused : rest ≡ [] → Refused reply

-- a reply that is no return and no ask, and doesn't say that memory ran out
abbrev pub IsNoReply : List ℕ → Type 0
IsNoReply reply = (1 < reply_kind reply) × (reply_kind reply ≢ 3)

-- one that has more words than there is room for, or asks for an import by more than 32 bits
abbrev pub IsNoStepReply : List ℕ → Type 0
IsNoStepReply reply = IsNoReply reply ⊎ ((17 < reply_count reply) ⊎ ((reply_kind reply ≡ 1) × (2 ^ 32 ≤ reply_number reply)))

-- one that is an ask or none
abbrev pub IsNoDoneReply : List ℕ → Type 0
IsNoDoneReply reply = (reply_kind reply ≡ 1) ⊎ IsNoReply reply

-- or has words, or an address of more than 32 bits
abbrev pub IsNoBlockReply : List ℕ → Type 0
IsNoBlockReply reply = IsNoDoneReply reply ⊎ ((0 < reply_count reply) ⊎ (2 ^ 32 ≤ reply_number reply))

abbrev pub AnyReply : List ℕ → Type 0
AnyReply reply = Unit {0}

-- ---- an answer of the guest

-- an exposed log has messages more, of which this is so
abbrev pub PassesMessages : Option (List Message) → Option (List Message) → (List Message → Type 0) → Type 0
PassesMessages log log2 P = (messages : List Message) × AddsMessages log log2 messages × P messages

-- What passed before a fault. For want of memory any reply may be left.
abbrev pub StopsDemand : Option (List Message) → Option (List Message) → List ℕ → List ℕ → (List ℕ → Type 0) → GuestFault → Type 0
StopsDemand log log2 asked before Refused fault.Trap = PassesMessages log log2 (StopsExchange asked before Refused)
StopsDemand log log2 asked before Refused fault.OutOfMemory = PassesMessages log log2 (StopsExchange asked before AnyReply)

-- what passed by the answer to a demand of these bytes, over this memory
abbrev pub OnReply : {T : Type 0} → Option (List Message) → Option (List Message) → List ℕ → List ℕ → (List ℕ → Type 0) → (T → List Message → Type 0) → Result T GuestFault → Type 0
OnReply log log2 asked before Refused P (Ok x) = PassesMessages log log2 (P x)
OnReply log log2 asked before Refused P (Err e) = StopsDemand log log2 asked before Refused e

-- of a start or a resume, of a `realloc`, and of what returns nothing
abbrev pub OnStep : Option (List Message) → Option (List Message) → Demand → List ℕ → List ℕ → List ℕ → Result Step GuestFault → Type 0
OnStep log log2 d words before after r = OnReply log log2 (demand_bytes d (length before) words) before IsNoStepReply (RepliesStep d words before after) r

abbrev pub OnBlock : Option (List Message) → Option (List Message) → Demand → List ℕ → List ℕ → Result ℕ GuestFault → Type 0
OnBlock log log2 d before after r = OnReply log log2 (demand_bytes d (length before) []) before IsNoBlockReply (RepliesBlock d before after) r

abbrev pub OnDone : Option (List Message) → Option (List Message) → Demand → List ℕ → List ℕ → List ℕ → Result (Unit {0}) GuestFault → Type 0
OnDone log log2 d words before after r = OnReply log log2 (demand_bytes d (length before) words) before IsNoDoneReply (λ x. RepliesDone d words before after) r

-- ---- events and messages

-- what a guest that was let go did, by the events after the one that let it go
abbrev pub TellsStep : Demand → List ℕ → List ℕ → List Event → List Message → Type 0
TellsStep d words before (event.Return results after ∷ []) messages = RepliesStep d words before after (step.Return results) messages
TellsStep d words before (event.Ask index asked after ∷ []) messages = RepliesStep d words before after (step.Import index asked) messages
TellsStep d words before (event.Trap None len ∷ []) messages = (length before ≡ len) × StopsExchange (demand_bytes d (length before) words) before IsNoStepReply messages
TellsStep d words before _ messages = ⊥

-- what it ended itself
abbrev pub TellsEnd : Demand → List ℕ → List Event → List Message → Type 0
TellsEnd d words [] messages = (before after : List ℕ) × RepliesDone d words before after messages
TellsEnd d words (event.Trap None len ∷ []) messages = (before : List ℕ) × (length before ≡ len) × StopsExchange (demand_bytes d (length before) words) before IsNoDoneReply messages
TellsEnd d words _ messages = ⊥

-- The messages of one call of a guest are those of its events: the demand is what the guest was asked, and the reply what it did.
abbrev pub TellsEvents : List Event → List Message → Type 0
TellsEvents (event.Start func words before ∷ rest) messages = TellsStep (demand.Start func) words before rest messages
TellsEvents (event.Resume words before ∷ rest) messages = TellsStep demand.Resume words before rest messages
TellsEvents (event.Realloc old old_size align new_size answer ∷ []) messages = (before after : List ℕ) × RepliesBlock (demand.Realloc old old_size align new_size) before after answer messages
TellsEvents (event.Post func words ∷ rest) messages = TellsEnd (demand.PostReturn func) words rest messages
TellsEvents (event.Dtor func rep ∷ rest) messages = TellsEnd (demand.Dtor func rep) [] rest messages
TellsEvents (event.Trap (Some (old, old_size, align, new_size)) len ∷ []) messages =
    (before : List ℕ) × (length before ≡ len) × StopsExchange (demand_bytes (demand.Realloc old old_size align new_size) (length before) []) before IsNoBlockReply messages
TellsEvents _ messages = ⊥

-- one call of a guest: its events, and the messages that passed
pub record Turn : Type 0 where
  pub events : List Event
  pub messages : List Message

abbrev pub IsTurn : Turn → Type 0
IsTurn t = TellsEvents t.events t.messages

abbrev pub AreTurns : List Turn → Type 0
AreTurns [] = Unit {0}
AreTurns (t ∷ ts) = IsTurn t × AreTurns ts

abbrev pub turn_events : List Turn → List Event
turn_events [] = []
turn_events (t ∷ ts) = t.events ++ turn_events ts

abbrev pub turn_messages : List Turn → List Message
turn_messages [] = []
turn_messages (t ∷ ts) = t.messages ++ turn_messages ts

-- Call by call, the events are those that the messages tell, and nothing else passed.
pub record Converses (log log2 : Option (List Message)) (events : List Event) : Type 0 where
  pub turns : List Turn
  pub are : AreTurns turns
  pub events_are : events ≡ turn_events turns
  pub passed : AddsMessages log log2 (turn_messages turns)

abbrev pub RelayMoves : {C : Type 0} → (C → Option (List Message)) → GuestIn (Relaying C) → List Event → GuestIn (Relaying C) → Type 0
RelayMoves log g events h = Converses (log g.guest.channel) (log h.guest.channel) events

-- ---- one conversation after another

pub adds_none : (log : Option (List Message)) → AddsMessages log log []
adds_none None = refl
adds_none (Some ms) = ap Some (sym (append-nil ms))

pub adds_both : (a b c : Option (List Message)) (xs ys : List Message) → AddsMessages a b xs → AddsMessages b c ys → AddsMessages a c (xs ++ ys)
adds_both None b c xs ys f g = rw f at g
adds_both (Some ms) b c xs ys f g = (rw f at g) ∙ ap Some (append_assoc ms xs ys)

turns_append : (ts us : List Turn) → AreTurns ts → AreTurns us → AreTurns (ts ++ us)
turns_append [] us f g = g
turns_append (t ∷ ts) us f g = (f.0, turns_append ts us f.1 g)

events_append : (ts us : List Turn) → turn_events (ts ++ us) ≡ turn_events ts ++ turn_events us
events_append [] us = refl
events_append (t ∷ ts) us = ap (λ es. t.events ++ es) (events_append ts us) ∙ sym (append_assoc t.events (turn_events ts) (turn_events us))

messages_append : (ts us : List Turn) → turn_messages (ts ++ us) ≡ turn_messages ts ++ turn_messages us
messages_append [] us = refl
messages_append (t ∷ ts) us = ap (λ es. t.messages ++ es) (messages_append ts us) ∙ sym (append_assoc t.messages (turn_messages ts) (turn_messages us))

pub says_nothing : (log : Option (List Message)) → Converses log log []
says_nothing log = record { turns = []; are = tt; events_are = refl; passed = adds_none log }

pub says_both : (a b c : Option (List Message)) (xs ys : List Event) → Converses a b xs → Converses b c ys → Converses a c (xs ++ ys)
says_both a b c xs ys f g = record {
  turns = f.turns ++ g.turns;
  are = turns_append f.turns g.turns f.are g.are;
  events_are = ap (λ es. es ++ ys) f.events_are ∙ ap (λ es. turn_events f.turns ++ es) g.events_are ∙ sym (events_append f.turns g.turns);
  passed = subst (AddsMessages a c) (sym (messages_append f.turns g.turns)) (adds_both a b c (turn_messages f.turns) (turn_messages g.turns) f.passed g.passed);
}
