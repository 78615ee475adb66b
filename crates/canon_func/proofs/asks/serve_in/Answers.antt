use Rattle.std.proofs.Common.{Err, ◌++◌}
use Rattle.canon_memory.specs.declared.guest.Step.{Step}
use Rattle.canon_context.specs.Core.{guest_of, moment_of}
use Rattle.canon_host.specs.HostSide.{host_side}
use Rattle.canon_func.specs.Call.{OnAnswered}
use Rattle.canon_func.specs.Stores.{export_callee}
use Rattle.canon_func.proofs.Asking.{asked_stopped, row_counted, side_same, then_resumed}
use Rattle.canon_func.proofs.Composed.{answered, retyped}
use Rattle.canon_func.proofs.asks.serve_in.Goals as goal

pub returns-in-Err-clause-did : goal.returns-in-Err-clause-did
returns-in-Err-clause-did g c = λ export words pad front is.
    let seen = g.G.Guest.seen in
    let moves = g.G.Guest.moves in
    let imports = g.I.Imports in
    let i = c.args.imports.now in
    let j = c.ask_host.new.imports in
    let a = c.args.core.now in
    let b = c.ask_host.new.core in
    asked_stopped (imports.gives (imports.plan i)) (export_callee a.component export) a.fuel c.args.asked.now c.args.index words (moment_of seen a) (moment_of seen b)
    (host_side a (imports.log i) (imports.refusals i)) (host_side b (imports.log j) (imports.refusals j))
    c.ask_host.new.storage c.in-Err.error (λ es. OnAnswered {T = Unit {0}} (Err c.in-Err.error) (moves (guest_of a) es (guest_of b))) (λ es. OnAnswered {T = Step} (Err c.in-Err.error) (moves (guest_of a) es (guest_of b)))
    (λ es h. retyped (Unit {0}) Step c.in-Err.error (moves (guest_of a) es (guest_of b)) h) (c.in-Err.ensures.did export words pad front is)

pub returns-clause-did : goal.returns-clause-did
returns-clause-did g c = λ export words pad front is.
    let seen = g.G.Guest.seen in
    let moves = g.G.Guest.moves in
    let imports = g.I.Imports in
    let i = c.args.imports.now in
    let j = c.ask_host.new.imports in
    let a = c.args.core.now in
    let m = c.ask_host.new.core in
    let b = c.resume.new.core in
    let result = c.resume.result in
    then_resumed (imports.gives (imports.plan i)) (export_callee a.component export) a.fuel c.args.asked.now c.args.index words (moment_of seen a) (moment_of seen m) (moment_of seen b)
    (host_side a (imports.log i) (imports.refusals i)) (host_side m (imports.log j) (imports.refusals j))
    (host_side b (imports.log j) (imports.refusals j)) (side_same m b (imports.log j) (imports.refusals j) c.resume.ensures.same) c.ask_host.new.storage c.first_words-count.result result
    (λ es. moves (guest_of a) es (guest_of m)) (λ es. OnAnswered result (moves (guest_of m) es (guest_of b))) (λ es. OnAnswered result (moves (guest_of a) es (guest_of b)))
    (λ xs ys p q. answered result (moves (guest_of m) ys (guest_of b)) (moves (guest_of a) (xs ++ ys) (guest_of b)) (λ r. g.met.G.Guest.goes_on (guest_of a) (guest_of m) (guest_of b) xs ys p r) q)
    (row_counted a m c.args.asked.now export c.types.result.now c.component.result.now c.first_words-count.result c.ask_host.ensures.same c.component.ensures.component c.types.ensures c.first_words-count.ensures.row)
    (c.in-Ok.ensures.did export words pad front is) c.resume.ensures.did
