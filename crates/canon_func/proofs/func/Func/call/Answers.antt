use Rattle.std.proofs.Common.{List, Ok, subst, sym, ◌∙◌, ◌≡◌}
use Rattle.std.specs.Prelude.{IfSome}
use Rattle.canon_context.specs.Core.{guest_of, moment_of}
use Rattle.canon_val.specs.declared.val.Val.{Val}
use Rattle.canon_host.specs.HostSide.{host_side}
use Rattle.canon_func.specs.Asks.{allowed}
use Rattle.canon_func.specs.Call.{Adding, IsCallOf, LivesUntil, dynamic, dynamic_results}
use Rattle.canon_func.specs.Stores.{export_callee}
use Rattle.canon_func.proofs.func.Func.call.Goals as goal

pub returns-in-Err-clause-refused : goal.returns-in-Err-clause-refused
returns-in-Err-clause-refused g c = c.in-Err.ensures.late ∙ (sym c.in_default.is ∙ c.refusal.ensures)

pub returns-in-Err-clause-unchanged : goal.returns-in-Err-clause-unchanged
returns-in-Err-clause-unchanged g c = subst (λ o. IfSome o (λ e. c.trap.new.self ≡ c.args.store.now)) (sym c.in-Err.ensures.late) tt

pub returns-in-Ok-clause-call : goal.returns-in-Ok-clause-call
returns-in-Ok-clause-call g c = λ none.
    let seen = g.G.Guest.seen in
    let moves = g.G.Guest.moves in
    let imports = g.I.Imports in
    let store = c.args.store.now in
    let left = c.call_core-called.new.self in
    let callee = export_callee store.core.component c.export_in-export.result in
    let written : c.swap_with_slice.new.self ≡ c.in-Ok.values.items = c.swap_with_slice.ensures.after ∙ c.deref_mut.ensures.value in
    rw c.export_in-export.ensures.found
    (subst (λ (vs : List Val). Adding (moment_of seen store.core) (moment_of seen left.core) (λ es. moves (guest_of store.core) es (guest_of left.core))
    (λ es. IsCallOf (dynamic callee c.args.params.now) (dynamic_results callee) (LivesUntil {U = Unit {0}} seen moves (guest_of store.core) (guest_of left.core) (Ok tt)) g.G.Guest.leaves
    (imports.gives (imports.plan store.imports)) callee (allowed store.core.fuel store.turns) (moment_of seen store.core) (moment_of seen left.core)
    (host_side store.core (imports.log store.imports) (imports.refusals store.imports)) (host_side left.core (imports.log left.imports) (imports.refusals left.imports)) (Ok vs) es))
    (sym written) c.in-Ok.ensures.call)

pub returns-in-Err-clause-call : goal.returns-in-Err-clause-call
returns-in-Err-clause-call g c = λ none. rw (c.export_in-export.ensures.found, c.trap.ensures) c.in-Err.ensures.call
