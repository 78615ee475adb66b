use Rattle.std.proofs.Common.{Err, List, Ok, [], arith, refl, subst, sym, ℕ, ◌∙◌}
use Rattle.canon_memory.specs.declared.event.Event.{Event}
use Rattle.canon_memory.specs.declared.guest.Step.{Step}
use Rattle.canon_memory.specs.declared.guest.Step.TheVariants as step
use Rattle.canon_memory.specs.Guest.{Goes}
use Rattle.canon_context.specs.Core.{guest_of, moment_of}
use Rattle.canon_host.specs.HostSide.{host_side}
use Rattle.canon_func.specs.Asks.{allowed}
use Rattle.canon_func.specs.Call.{LivesUntil, OnAnswered}
use Rattle.canon_func.specs.Runs.{Leg}
use Rattle.canon_func.specs.Steps.{ServesAsk, Serving, Stepping}
use Rattle.canon_func.specs.Stores.{export_callee}
use Rattle.canon_func.proofs.Asking.{but_host, has_exhausted, has_returned, has_stopped, not_started, side_same, then_host}
use Rattle.canon_func.proofs.Composed.{retyped}
use Rattle.canon_func.proofs.Lived.{lives_ask, lives_then}
use Rattle.canon_func.proofs.Turns.{stepping_begin, stepping_more}
use Rattle.canon_func.proofs.asks.run_core.Goals as goal

pub returns-in-Err-clause-did : goal.returns-in-Err-clause-did
returns-in-Err-clause-did g c =
    let seen = g.G.Guest.seen in
    let moves = g.G.Guest.moves in
    let imports = g.I.Imports in
    let i = c.args.imports.now in
    let before = c.args.core.now in
    let after = c.start.new.core in
    let e = c.in-Err.error in
    not_started (imports.gives (imports.plan i)) (export_callee before.component c.args.export.now) (allowed before.fuel c.args.turns) (LivesUntil {U = List ℕ} g.G.Guest.seen g.G.Guest.moves (guest_of before) (guest_of after) (Err e))
    c.args.words.now (moment_of seen before) (host_side before (imports.log i) (imports.refusals i)) (moment_of seen after)
    (host_side after (imports.log i) (imports.refusals i)) e (λ es. OnAnswered {T = Step} (Err e) (moves (guest_of before) es (guest_of after))) (λ es h. retyped Step (List ℕ) e (moves (guest_of before) es (guest_of after)) h)
    (side_same before after (imports.log i) (imports.refusals i) c.in-Err.ensures.same) c.in-Err.ensures.did

pub loop-init : goal.loop-init
loop-init g c =
    let seen = g.G.Guest.seen in
    let moves = g.G.Guest.moves in
    let imports = g.I.Imports in
    let i = c.args.imports.now in
    let before = c.args.core.now in
    let now = c.start.new.core in
    let callee = export_callee before.component c.args.export.now in
    let limits = allowed before.fuel c.args.turns in
    let gives = imports.gives (imports.plan i) in
    let host = host_side before (imports.log i) (imports.refusals i) in
    let did = c.in-Ok.ensures.did in
    record {
      same = but_host before now c.in-Ok.ensures.same;
      plan = refl;
      ready = c.requires.ready;
      stepping = subst (λ k. Stepping gives callee limits (LivesUntil {U = Unit {0}} g.G.Guest.seen g.G.Guest.moves (guest_of before) (guest_of now) (Ok tt)) c.args.words.now (moment_of seen before) (moment_of seen now) host k 0 c.in-Ok.step)
          (sym (side_same before now (imports.log i) (imports.refusals i) c.in-Ok.ensures.same))
          (stepping_begin gives callee limits (LivesUntil {U = Unit {0}} g.G.Guest.seen g.G.Guest.moves (guest_of before) (guest_of now) (Ok tt)) c.args.words.now (moment_of seen before) host (moment_of seen now) c.in-Ok.step
          (subst (λ es. Goes (moment_of seen before) (moment_of seen now) [] es) did.so did.goes) (subst (λ es. moves (guest_of before) es (guest_of now)) did.so did.moves));
    }

pub returns-in-Err-serve-clause-did : goal.returns-in-Err-serve-clause-did
returns-in-Err-serve-clause-did g c =
    let seen = g.G.Guest.seen in
    let moves = g.G.Guest.moves in
    let imports = g.I.Imports in
    let i = c.args.imports.now in
    let j = c.loop.imports in
    let k = c.serve.new.imports in
    let before = c.args.core.now in
    let mid = c.loop.core in
    let after = c.serve.new.core in
    let callee = export_callee before.component c.args.export.now in
    let limits = allowed before.fuel c.args.turns in
    let gives = imports.gives (imports.plan i) in
    let words = c.args.words.now in
    let asked = c.as_slice.result.now in
    let index = c.in-Import.index in
    let e = c.in-Err-serve.error in
    let host = host_side before (imports.log i) (imports.refusals i) in
    let served = host_side mid (imports.log j) (imports.refusals j) in
    let left = host_side after (imports.log k) (imports.refusals k) in
    let before_lives : List Leg → List Event → Type 0 = LivesUntil {U = Unit {0}} g.G.Guest.seen g.G.Guest.moves (guest_of before) (guest_of mid) (Ok tt) in
    let so_far : Stepping gives callee limits before_lives words (moment_of seen before) (moment_of seen mid) host served c.loop.counter (step.Import index asked) =
    subst (λ ws. Stepping gives callee limits before_lives words (moment_of seen before) (moment_of seen mid) host served c.loop.counter (step.Import index ws)) (sym c.as_slice.ensures)
    (subst (λ st. Stepping gives callee limits before_lives words (moment_of seen before) (moment_of seen mid) host served c.loop.counter st) c.in-Import.is c.loop.invariant.stepping) in
    let N : List Event → Type 0 = λ es. OnAnswered {T = Step} (Err e) (moves (guest_of mid) es (guest_of after)) in
    let one : Serving (moment_of seen mid) (moment_of seen after) N (ServesAsk gives callee before.fuel index asked (moment_of seen mid) (moment_of seen after) served left (Err e)) =
    subst (λ p. Serving (moment_of seen mid) (moment_of seen after) N (ServesAsk (imports.gives p) callee before.fuel index asked (moment_of seen mid) (moment_of seen after) served left (Err e))) c.loop.invariant.plan
    (subst (λ q. Serving (moment_of seen mid) (moment_of seen after) N (ServesAsk (imports.gives (imports.plan j)) (export_callee q.component c.args.export.now) q.fuel index asked (moment_of seen mid) (moment_of seen after) served left (Err e)))
    c.loop.invariant.same c.in-Err-serve.ensures.did) in
    has_stopped gives callee limits (LivesUntil {U = List ℕ} g.G.Guest.seen g.G.Guest.moves (guest_of before) (guest_of after) (Err e)) words (moment_of seen before) host (moment_of seen mid) (moment_of seen after) served left
    before_lives N
    (λ xs ys p q. lives_then seen moves (List ℕ) (Unit {0}) tt (Err e) (guest_of before) (guest_of mid) (guest_of after) g.met.G.Guest.goes_on [] xs ys p (retyped Step (List ℕ) e (moves (guest_of mid) ys (guest_of after)) q))
    (λ legs xs ys p q. lives_ask seen moves (List ℕ) (Unit {0}) tt (Err e) (guest_of before) (guest_of mid) (guest_of after) legs xs ys p (retyped Step (List ℕ) e (moves (guest_of mid) ys (guest_of after)) q))
    c.loop.counter index asked e so_far (omega (arith, c.loop-test.true)) one

pub loop-preserved : goal.loop-preserved
loop-preserved g c =
    let seen = g.G.Guest.seen in
    let moves = g.G.Guest.moves in
    let imports = g.I.Imports in
    let i = c.args.imports.now in
    let j = c.loop.imports in
    let k = c.serve.new.imports in
    let before = c.args.core.now in
    let mid = c.loop.core in
    let after = c.serve.new.core in
    let callee = export_callee before.component c.args.export.now in
    let limits = allowed before.fuel c.args.turns in
    let gives = imports.gives (imports.plan i) in
    let words = c.args.words.now in
    let asked = c.as_slice.result.now in
    let index = c.in-Import.index in
    let next = c.in-Ok-serve.step in
    let host = host_side before (imports.log i) (imports.refusals i) in
    let served = host_side mid (imports.log j) (imports.refusals j) in
    let left = host_side after (imports.log k) (imports.refusals k) in
    let before_lives : List Leg → List Event → Type 0 = LivesUntil {U = Unit {0}} g.G.Guest.seen g.G.Guest.moves (guest_of before) (guest_of mid) (Ok tt) in
    let so_far : Stepping gives callee limits before_lives words (moment_of seen before) (moment_of seen mid) host served c.loop.counter (step.Import index asked) =
    subst (λ ws. Stepping gives callee limits before_lives words (moment_of seen before) (moment_of seen mid) host served c.loop.counter (step.Import index ws)) (sym c.as_slice.ensures)
    (subst (λ st. Stepping gives callee limits before_lives words (moment_of seen before) (moment_of seen mid) host served c.loop.counter st) c.in-Import.is c.loop.invariant.stepping) in
    let did = c.in-Ok-serve.ensures.did in
    let one : ServesAsk gives callee before.fuel index asked (moment_of seen mid) (moment_of seen after) served left (Ok next) did.answers did.events =
    subst (λ p. ServesAsk (imports.gives p) callee before.fuel index asked (moment_of seen mid) (moment_of seen after) served left (Ok next) did.answers did.events) c.loop.invariant.plan
    (subst (λ q. ServesAsk (imports.gives (imports.plan j)) (export_callee q.component c.args.export.now) q.fuel index asked (moment_of seen mid) (moment_of seen after) served left (Ok next) did.answers did.events)
    c.loop.invariant.same did.so) in
    record {
      same = then_host before mid after c.loop.invariant.same c.in-Ok-serve.ensures.same;
      plan = c.in-Ok-serve.ensures.plan ∙ c.loop.invariant.plan;
      ready = c.in-Ok-serve.ensures.still_ready;
      stepping = stepping_more gives callee limits (LivesUntil {U = Unit {0}} g.G.Guest.seen g.G.Guest.moves (guest_of before) (guest_of after) (Ok tt)) words (moment_of seen before) host
          (moment_of seen mid) (moment_of seen after) served left
          before_lives (λ es. moves (guest_of mid) es (guest_of after))
          (lives_then seen moves (Unit {0}) (Unit {0}) tt (Ok tt) (guest_of before) (guest_of mid) (guest_of after) g.met.G.Guest.goes_on [])
          (lives_ask seen moves (Unit {0}) (Unit {0}) tt (Ok tt) (guest_of before) (guest_of mid) (guest_of after)) c.loop.counter index asked next did.answers did.events so_far did.goes did.moves one;
    }

pub returns-in-Return-clause-did : goal.returns-in-Return-clause-did
returns-in-Return-clause-did g c =
    let seen = g.G.Guest.seen in
    let imports = g.I.Imports in
    let i = c.args.imports.now in
    let j = c.loop.imports in
    let before = c.args.core.now in
    let now = c.loop.core in
    let gives = imports.gives (imports.plan i) in
    let callee = export_callee before.component c.args.export.now in
    let limits = allowed before.fuel c.args.turns in
    let host = host_side before (imports.log i) (imports.refusals i) in
    let served = host_side now (imports.log j) (imports.refusals j) in
    let lives : List Leg → List Event → Type 0 = LivesUntil {U = Unit {0}} g.G.Guest.seen g.G.Guest.moves (guest_of before) (guest_of now) (Ok tt) in
    has_returned gives callee limits lives c.args.words.now (moment_of seen before) host (moment_of seen now) served c.loop.counter c.in-Return.words
    (subst (λ st. Stepping gives callee limits lives c.args.words.now (moment_of seen before) (moment_of seen now) host served c.loop.counter st) c.in-Return.is c.loop.invariant.stepping) (omega (arith, c.loop-test.true))

pub returns-in-Return-step-clause-did : goal.returns-in-Return-step-clause-did
returns-in-Return-step-clause-did g c =
    let seen = g.G.Guest.seen in
    let imports = g.I.Imports in
    let i = c.args.imports.now in
    let j = c.loop.imports in
    let before = c.args.core.now in
    let now = c.loop.core in
    let gives = imports.gives (imports.plan i) in
    let callee = export_callee before.component c.args.export.now in
    let limits = allowed before.fuel c.args.turns in
    let host = host_side before (imports.log i) (imports.refusals i) in
    let served = host_side now (imports.log j) (imports.refusals j) in
    let lives : List Leg → List Event → Type 0 = LivesUntil {U = Unit {0}} g.G.Guest.seen g.G.Guest.moves (guest_of before) (guest_of now) (Ok tt) in
    has_returned gives callee limits lives c.args.words.now (moment_of seen before) host (moment_of seen now) served c.loop.counter c.in-Return-step.words
    (subst (λ st. Stepping gives callee limits lives c.args.words.now (moment_of seen before) (moment_of seen now) host served c.loop.counter st) c.in-Return-step.is c.loop.invariant.stepping) (omega (arith, c.loop.auto.counter-end))

pub returns-clause-did : goal.returns-clause-did
returns-clause-did g c =
    let seen = g.G.Guest.seen in
    let imports = g.I.Imports in
    let i = c.args.imports.now in
    let j = c.loop.imports in
    let before = c.args.core.now in
    let now = c.loop.core in
    let gives = imports.gives (imports.plan i) in
    let callee = export_callee before.component c.args.export.now in
    let limits = allowed before.fuel c.args.turns in
    let host = host_side before (imports.log i) (imports.refusals i) in
    let served = host_side now (imports.log j) (imports.refusals j) in
    let lives : List Leg → List Event → Type 0 = LivesUntil {U = Unit {0}} g.G.Guest.seen g.G.Guest.moves (guest_of before) (guest_of now) (Ok tt) in
    has_exhausted gives callee limits lives c.args.words.now (moment_of seen before) host (moment_of seen now) served c.loop.counter
    (λ legs xs p. lives_ask seen g.G.Guest.moves (Unit {0}) (Unit {0}) tt (Ok tt) (guest_of before) (guest_of now) (guest_of now) legs xs [] p (g.met.G.Guest.stays (guest_of now))) c.in-Import-step.index c.in-Import-step.words
    (subst (λ st. Stepping gives callee limits lives c.args.words.now (moment_of seen before) (moment_of seen now) host served c.loop.counter st) c.in-Import-step.is c.loop.invariant.stepping)
    (omega (arith, c.loop-test.false, c.loop.auto.counter-end))
