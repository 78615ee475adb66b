-- The guest was started, and each of its asks so far was served.
use Rattle.std.proofs.Common.{Ok, ◌≡◌}
use Rattle.canon_func.specs.Call.{LivesUntil}
use Rattle.canon_context.specs.Core.{guest_of, moment_of}
use Rattle.canon_host.specs.HostSide.{host_side}
use Rattle.canon_func.specs.Asks.{allowed}
use Rattle.canon_func.specs.Steps.{SameButHost, Stepping}
use Rattle.canon_func.specs.Stores.{export_callee}
use Rattle.canon_func.proofs.asks.run_core.Given as goal

abbrev pub invariant-loop : goal.invariant-loop
invariant-loop g l =
    let seen = g.G.Guest.seen in
    let imports = g.I.Imports in
    record {
      same : SameButHost l.fn.core l.core;
      plan : imports.plan l.imports ≡ imports.plan l.fn.imports;
      ready : imports.ready l.imports;
      stepping : Stepping (imports.gives (imports.plan l.fn.imports)) (export_callee l.fn.core.component l.export) (allowed l.fn.core.fuel l.turns)
          (LivesUntil {U = Unit {0}} seen g.G.Guest.moves (guest_of l.fn.core) (guest_of l.core) (Ok tt))
          l.words (moment_of seen l.fn.core) (moment_of seen l.core)
          (host_side l.fn.core (imports.log l.fn.imports) (imports.refusals l.fn.imports)) (host_side l.core (imports.log l.imports) (imports.refusals l.imports)) l.counter l.step;
    }
