-- The store in which recorded calls are made again.
use Rattle.std.specs.Prelude.{List, None, Some, [], false, ℕ, ◌≡◌}
use Rattle.canon_memory.specs.declared.event.Event.{Event}
use Rattle.canon_memory.specs.Guest.{GuestIn, JournaledMoves, Recorded, Seen}
use Rattle.canon_replay_guest.specs.Moves.{ReplayMoves}
use Rattle.canon_replay_guest.specs.Replaying.{Replaying, replay_seen}
use Rattle.canon_context.specs.declared.component.Component.{Component}
use Rattle.canon_func.specs.Stores.{Named, StoreView}
use Rattle.canon_ledger.specs.Ledger.{new_ledger}
use Rattle.canon_recording.specs.Recordings.{ServedAsk, served_asks}
use Rattle.canon_replay.specs.declared.imports.ReplayImports.{ReplayImports}

abbrev pub ReplayStore : Type 0
ReplayStore = StoreView (Unit {0}) (Recorded Replaying) ReplayImports

-- the guest that replays, how it is seen together with its journal, and how both move
abbrev pub guest_in_store : ReplayStore → Replaying
guest_in_store store = store.core.guest.guest

abbrev pub journaled_seen : Recorded Replaying → Seen
journaled_seen j = record (replay_seen j.guest) { journal = Some j.events; shortages = j.shortages }

abbrev pub JournaledReplays : GuestIn (Recorded Replaying) → List Event → GuestIn (Recorded Replaying) → Type 0
JournaledReplays g events h = JournaledMoves ReplayMoves g events h

-- the recorded asks that its imports answer
abbrev pub asks_in_store : ReplayStore → List ServedAsk
asks_in_store store = served_asks store.imports.asks.items

-- the function of an export
abbrev pub named_export : ReplayStore → ℕ → Named
named_export store export = record { store = store.core.id; export = export }

-- Nothing was done in it: it is of this component, and has this fuel and this limit of turns for each call; memory is empty, and its pointers have 32
-- bits; no handle lives; its guest is at the first of these events, and its imports at the first of these asks.
pub record IsNewStore (c : Component) (recorded : List (List Event)) (asks : List ServedAsk) (fuel turns : ℕ) (store : ReplayStore) : Type 0 where
  pub component : store.core.component ≡ c
  pub fuel_is : store.core.fuel ≡ fuel
  pub turns_is : store.turns ≡ turns
  pub memory : store.core.memory ≡ []
  pub narrow : store.core.wide ≡ false
  pub handles : store.core.ledger ≡ new_ledger 256 0 0
  pub guest : guest_in_store store ≡ record { recorded = recorded; call = 0; at = 0; stop = None; live = []; traps = 0; shortages = 0 }
  pub journal : store.core.guest.events ≡ []
  pub unshort : store.core.guest.shortages ≡ 0
  pub asks_are : asks_in_store store ≡ asks
  pub served : store.imports.lines.items ≡ []
  pub refused : store.imports.refusals ≡ 0
  pub untrapped : store.trapped ≡ false
