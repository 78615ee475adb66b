use Rattle.std.specs.Prelude.{slice_get}
use Rattle.canon_func.specs.Call.{dynamic, dynamic_results}
use Rattle.canon_func.specs.Stores.{callee_of}
use Rattle.canon_example.proofs.Ticking.{clock_ticked, example_no_refusal}
use Rattle.canon_example.proofs.Watched.{starts_right}
use Rattle.canon_example.proofs.call_watched.Goals as goal

pub returns-clause-started : goal.returns-clause-started
returns-clause-started g c unrefused lawful =
    let callee = callee_of c.args.store.now c.args.func.now in
    let called = c.call.ensures.call unrefused in
    starts_right (dynamic_results callee) _ _ _ callee _ c.args.params.now _ _ _ _ _ _ _ called.events called.added called.so lawful

pub returns-clause-ticked : goal.returns-clause-ticked
returns-clause-ticked g c ok clocks notes =
    let store = c.args.store.now in
    let callee = callee_of store c.args.func.now in
    let called = c.call.ensures.call (example_no_refusal _ ok) in
    clock_ticked _ clocks _ store.core.component (slice_get store.core.component.exports.items c.args.func.now.export) notes _ (dynamic callee c.args.params.now)
    (dynamic_results callee) _ _ _ _ _ _ _ _ _ _ called.events ok called.added called.so
