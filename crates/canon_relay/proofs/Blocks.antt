-- A guest behind a channel gave a block.
use Rattle.std.proofs.Common.{List, Ok, ap, arith, false, length, refl, replicate, ℕ, ◌+◌, ◌≤◌, ◌≡◌, ◌∙◌}
use Rattle.std.proofs.lemmas.Grind.{replicate_next}
use Rattle.canon_model.specs.Requests.{Call}
use Rattle.canon_memory.specs.Guest.{Reallocates, moment}
use Rattle.canon_relay.specs.Relay.{Relaying, relay_seen, untested}
use Rattle.canon_relay.specs.declared.counts.Counts.{Counts}

pub gave : {C : Type 0} (g h : Relaying C) (m n : List ℕ) (c : Call) (at : ℕ) → h.counts ≡ record g.counts { blocks = g.counts.blocks + 1 } → length m ≤ length n
    → Reallocates (moment (relay_seen g) m) (moment (relay_seen h) n) c (Ok at)
gave g h m n c at same longer =
    let traps = ap (λ (k : Counts). k.traps) same in
    let shortages = ap (λ (k : Counts). k.shortages) same in (
      untested,
      record {
        goes = record {
          no_shorter = longer;
          traps_later = omega (arith, traps);
          shortages_later = omega (arith, shortages);
          marks = ap (λ (k : Counts). replicate k.blocks untested) same ∙ replicate_next g.counts.blocks untested;
          events = refl;
        };
        lawful = λ h. cc;
        tidy = λ h. cc;
      },
    )
