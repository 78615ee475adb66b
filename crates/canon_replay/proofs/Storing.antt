-- A store in which nothing was done, by how it was made.
use Rattle.std.proofs.Common.{List, None, [], ap, false, ℕ, ◌∙◌, ◌≡◌}
use Rattle.canon_memory.specs.Guest.{Recorded}
use Rattle.canon_memory.specs.declared.event.Event.{Event}
use Rattle.canon_replay_guest.specs.Replaying.{Replaying}
use Rattle.canon_ledger.specs.Ledger.{new_ledger}
use Rattle.canon_context.specs.Core.{Parts}
use Rattle.canon_context.specs.declared.component.Component.{Component}
use Rattle.canon_recording.specs.Recordings.{ServedAsk, served_asks}
use Rattle.canon_replay.specs.Stores.{IsNewStore, ReplayStore}
use Rattle.canon_replay.specs.declared.imports.ReplayImports.{ReplayImports}

abbrev ReplayParts : Type 0
ReplayParts = Parts (Unit {0}) (Recorded Replaying)

pub new_store : (c : Component) (events : List (List Event)) (asks : List ServedAsk) (fuel turns id : ℕ) (guest : Recorded Replaying) (imports : ReplayImports) (core : ReplayParts) (store : ReplayStore)
    → store ≡ record { core = core; imports = imports; turns = turns; trapped = false }
    → core ≡ record { id = id; state = tt; guest = guest; memory = []; wide = false; component = c; ledger = new_ledger 256 0 0; fuel = fuel }
    → guest ≡ record { guest = record { recorded = events; call = 0; at = 0; stop = None; live = []; traps = 0; shortages = 0 }; events = []; shortages = 0 }
    → served_asks imports.asks.items ≡ asks → imports.lines.items ≡ [] → imports.refusals ≡ 0 → IsNewStore c events asks fuel turns store
new_store c events asks fuel turns id guest imports core store s k g a l r = record {
  component = of_core (λ (p : ReplayParts). p.component);
  fuel_is = of_core (λ (p : ReplayParts). p.fuel);
  turns_is = ap (λ (x : ReplayStore). x.turns) s;
  memory = of_core (λ (p : ReplayParts). p.memory);
  narrow = of_core (λ (p : ReplayParts). p.wide);
  handles = of_core (λ (p : ReplayParts). p.ledger);
  guest = of_core (λ (p : ReplayParts). p.guest.guest) ∙ ap (λ (j : Recorded Replaying). j.guest) g;
  journal = of_core (λ (p : ReplayParts). p.guest.events) ∙ ap (λ (j : Recorded Replaying). j.events) g;
  unshort = of_core (λ (p : ReplayParts). p.guest.shortages) ∙ ap (λ (j : Recorded Replaying). j.shortages) g;
  asks_are = ap (λ (x : ReplayStore). served_asks x.imports.asks.items) s ∙ a;
  served = ap (λ (x : ReplayStore). x.imports.lines.items) s ∙ l;
  refused = ap (λ (x : ReplayStore). x.imports.refusals) s ∙ r;
  untrapped = ap (λ (x : ReplayStore). x.trapped) s;
}
  where
    of_core : {X : Type 0} (f : ReplayParts → X) → f store.core ≡ f (record { id = id; state = tt; guest = guest; memory = []; wide = false; component = c; ledger = new_ledger 256 0 0; fuel = fuel })
    of_core f = ap (λ (x : ReplayStore). f x.core) s ∙ ap f k
