use Rattle.std.proofs.Common.{Err, List, Ok, Result, ap, subst, ℕ, ◌∙◌}
use Rattle.canon_context.specs.Core.{guest_of, moment_of}
use Rattle.canon_context.specs.declared.component.Component.{Component}
use Rattle.canon_context.specs.declared.fault.Fault.{Fault}
use Rattle.canon_host.specs.HostSide.{host_side}
use Rattle.canon_func.specs.Asks.{allowed}
use Rattle.canon_func.specs.Call.{LivesUntil, OnAnswered}
use Rattle.canon_func.specs.Steps.{Lifted, Posted, Proceeds, map_ok}
use Rattle.canon_func.specs.Stores.{export_callee}
use Rattle.canon_func.proofs.Composed.{run_refused}
use Rattle.canon_func.proofs.Finishing.{completed, failed, may_leave, call_unlifted}
use Rattle.canon_func.proofs.Lived.{lives_retyped}
use Rattle.canon_func.proofs.call.call_lowered.Goals as goal

pub returns-in-Err-clause-did : goal.returns-in-Err-clause-did
returns-in-Err-clause-did g c =
    let seen = g.G.Guest.seen in
    let moves = g.G.Guest.moves in
    let imports = g.I.Imports in
    let i = c.args.imports.now in
    let j = c.run.new.imports in
    let before = c.args.core.now in
    let after = c.run.new.core in
    let callee = export_callee before.component c.args.export.now in
    let e = c.in-Err.error in
    run_refused (g.R.Results.returns callee c.args.export.now.options before.id) (imports.gives (imports.plan i)) callee
    (allowed before.fuel c.args.turns) (LivesUntil {U = g.row.R.Denot} seen moves (guest_of before) (guest_of after) (Err e)) g.G.Guest.leaves (g.met.R.Results.law callee c.args.export.now.options before.id) c.args.words.now
    (g.met.I.Imports.lawful (imports.plan i)) (LivesUntil {U = List ℕ} seen moves (guest_of before) (guest_of after) (Err e))
    (lives_retyped seen moves (List ℕ) g.row.R.Denot e (guest_of before) (guest_of after)) (moment_of seen before) (moment_of seen after)
    (host_side before (imports.log i) (imports.refusals i)) (host_side after (imports.log j) (imports.refusals j)) e c.in-Err.ensures.did

pub returns-in-Err-lift-clause-did : goal.returns-in-Err-lift-clause-did
returns-in-Err-lift-clause-did g c =
    let imports = g.I.Imports in
    let i = c.args.imports.now in
    let j = c.run.new.imports in
    let before = c.args.core.now in
    let ran = c.run.new.core in
    let lifted = c.lift.new.core in
    let callee = export_callee before.component c.args.export.now in
    let result : Result g.row.R.Denot Fault = Err c.in-Err-lift.fault in
    call_unlifted (g.R.Results.returns callee c.args.export.now.options before.id) (imports.gives (imports.plan i)) callee (allowed before.fuel c.args.turns) g.G.Guest.seen g.G.Guest.moves g.G.Guest.leaves c.args.words.now before ran
    (host_side before (imports.log i) (imports.refusals i))
    (imports.log j) (imports.refusals j) c.in-Ok.returned (g.met.R.Results.law callee c.args.export.now.options before.id) g.met.G.Guest.goes_on c.in-Ok.ensures.did lifted c.in-Err-lift.ensures.same g.row.R.Denot c.in-Err-lift.fault g.met.G.Guest.stays
    (subst (λ k. Lifted (g.R.Results.returns (export_callee k.component c.args.export.now) c.args.export.now.options k.id) k.fuel c.in-Ok.returned ran.memory ran.ledger lifted.ledger (map_ok g.R.Results.out result)) c.run.ensures.same
    (subst (λ ws. Lifted (g.R.Results.returns (export_callee ran.component c.args.export.now) c.args.export.now.options ran.id) ran.fuel ws ran.memory ran.ledger lifted.ledger (map_ok g.R.Results.out result)) c.as_slice.ensures c.in-Err-lift.ensures.lifted))

pub conclude-requires-clause-empty : goal.conclude-requires-clause-empty
conclude-requires-clause-empty g c =
    let imports = g.I.Imports in
    let i = c.args.imports.now in
    let j = c.run.new.imports in
    let before = c.args.core.now in
    let ran = c.run.new.core in
    let lifted = c.lift.new.core in
    let callee = export_callee before.component c.args.export.now in
    let result : Result g.row.R.Denot Fault = Ok c.in-Ok-lift.results in
    may_leave (g.R.Results.returns callee c.args.export.now.options before.id) (imports.gives (imports.plan i)) callee (allowed before.fuel c.args.turns) g.G.Guest.seen g.G.Guest.moves g.G.Guest.leaves c.args.words.now before ran
    (host_side before (imports.log i) (imports.refusals i))
    (imports.log j) (imports.refusals j) c.in-Ok.returned lifted (g.R.Results.out c.in-Ok-lift.results) c.in-Ok.ensures.did
    (subst (λ k. Lifted (g.R.Results.returns (export_callee k.component c.args.export.now) c.args.export.now.options k.id) k.fuel c.in-Ok.returned ran.memory ran.ledger lifted.ledger (map_ok g.R.Results.out result)) c.run.ensures.same
    (subst (λ ws. Lifted (g.R.Results.returns (export_callee ran.component c.args.export.now) c.args.export.now.options ran.id) ran.fuel ws ran.memory ran.ledger lifted.ledger (map_ok g.R.Results.out result)) c.as_slice.ensures c.in-Ok-lift.ensures.lifted))

pub returns-in-Ok-conclude-clause-did : goal.returns-in-Ok-conclude-clause-did
returns-in-Ok-conclude-clause-did g c =
    let seen = g.G.Guest.seen in
    let moves = g.G.Guest.moves in
    let imports = g.I.Imports in
    let i = c.args.imports.now in
    let j = c.run.new.imports in
    let before = c.args.core.now in
    let ran = c.run.new.core in
    let lifted = c.lift.new.core in
    let after = c.conclude.new.core in
    let callee = export_callee before.component c.args.export.now in
    let gives = imports.gives (imports.plan i) in
    let limits = allowed before.fuel c.args.turns in
    let host = host_side before (imports.log i) (imports.refusals i) in
    let result : Result g.row.R.Denot Fault = Ok c.in-Ok-lift.results in
    let Posts : Component → List ℕ → Type 0 = λ comp ws. Proceeds (moment_of seen lifted) (moment_of seen after) (λ es. OnAnswered {T = Unit {0}} (Ok tt) (moves (guest_of lifted) es (guest_of after)))
    (Posted g.G.Guest.leaves (export_callee comp c.args.export.now) ws (moment_of seen lifted) (moment_of seen after) (Ok tt)) in
    completed (g.R.Results.returns callee c.args.export.now.options before.id) gives callee limits g.G.Guest.seen g.G.Guest.moves g.G.Guest.leaves c.args.words.now before ran host (imports.log j) (imports.refusals j) c.in-Ok.returned
    (g.met.R.Results.law callee c.args.export.now.options before.id) g.met.G.Guest.goes_on c.in-Ok.ensures.did lifted c.in-Ok-lift.ensures.same after c.in-Ok-conclude.ensures.same (g.R.Results.out c.in-Ok-lift.results)
    (subst (λ k. Lifted (g.R.Results.returns (export_callee k.component c.args.export.now) c.args.export.now.options k.id) k.fuel c.in-Ok.returned ran.memory ran.ledger lifted.ledger (map_ok g.R.Results.out result)) c.run.ensures.same
    (subst (λ ws. Lifted (g.R.Results.returns (export_callee ran.component c.args.export.now) c.args.export.now.options ran.id) ran.fuel ws ran.memory ran.ledger lifted.ledger (map_ok g.R.Results.out result)) c.as_slice.ensures c.in-Ok-lift.ensures.lifted))
    c.in-Ok-lift.results c.in-Ok-conclude.ensures.scope
    (subst (λ comp. Posts comp c.in-Ok.returned) (ap (λ k. k.component) c.in-Ok-lift.ensures.same ∙ ap (λ k. k.component) c.run.ensures.same) (subst (λ ws. Posts lifted.component ws) c.as_slice-2.ensures c.in-Ok-conclude.ensures.did))

pub returns-clause-did : goal.returns-clause-did
returns-clause-did g c =
    let seen = g.G.Guest.seen in
    let moves = g.G.Guest.moves in
    let imports = g.I.Imports in
    let i = c.args.imports.now in
    let j = c.run.new.imports in
    let before = c.args.core.now in
    let ran = c.run.new.core in
    let lifted = c.lift.new.core in
    let after = c.conclude.new.core in
    let callee = export_callee before.component c.args.export.now in
    let gives = imports.gives (imports.plan i) in
    let limits = allowed before.fuel c.args.turns in
    let host = host_side before (imports.log i) (imports.refusals i) in
    let result : Result g.row.R.Denot Fault = Ok c.in-Ok-lift.results in
    let Posts : Component → List ℕ → Type 0 = λ comp ws. Proceeds (moment_of seen lifted) (moment_of seen after) (λ es. OnAnswered {T = Unit {0}} (Err c.in-Err-conclude.error) (moves (guest_of lifted) es (guest_of after)))
    (Posted g.G.Guest.leaves (export_callee comp c.args.export.now) ws (moment_of seen lifted) (moment_of seen after) (Err c.in-Err-conclude.error)) in
    failed (g.R.Results.returns callee c.args.export.now.options before.id) gives callee limits g.G.Guest.seen g.G.Guest.moves g.G.Guest.leaves c.args.words.now before ran host (imports.log j) (imports.refusals j) c.in-Ok.returned
    (g.met.R.Results.law callee c.args.export.now.options before.id) g.met.G.Guest.goes_on c.in-Ok.ensures.did lifted c.in-Ok-lift.ensures.same after c.in-Err-conclude.ensures.same (g.R.Results.out c.in-Ok-lift.results)
    (subst (λ k. Lifted (g.R.Results.returns (export_callee k.component c.args.export.now) c.args.export.now.options k.id) k.fuel c.in-Ok.returned ran.memory ran.ledger lifted.ledger (map_ok g.R.Results.out result)) c.run.ensures.same
    (subst (λ ws. Lifted (g.R.Results.returns (export_callee ran.component c.args.export.now) c.args.export.now.options ran.id) ran.fuel ws ran.memory ran.ledger lifted.ledger (map_ok g.R.Results.out result)) c.as_slice.ensures c.in-Ok-lift.ensures.lifted))
    g.row.R.Denot c.in-Err-conclude.error c.in-Err-conclude.ensures.scope
    (subst (λ comp. Posts comp c.in-Ok.returned) (ap (λ k. k.component) c.in-Ok-lift.ensures.same ∙ ap (λ k. k.component) c.run.ensures.same) (subst (λ ws. Posts lifted.component ws) c.as_slice-2.ensures c.in-Err-conclude.ensures.did))
