use Rattle.std.proofs.Common.{Err, List, Ok, refl, subst, sym, ℕ}
use Rattle.canon_context.specs.Core.{guest_of, moment_of}
use Rattle.canon_host.specs.HostSide.{host_side}
use Rattle.canon_func.specs.Asks.{allowed}
use Rattle.canon_func.specs.Call.{LivesUntil, OnAnswered}
use Rattle.canon_func.specs.Steps.{Ended, RunsToEnd, Serving}
use Rattle.canon_func.specs.Stores.{export_callee}
use Rattle.canon_func.proofs.Composed.{run_ended, run_unended}
use Rattle.canon_func.proofs.Lived.{lives_answered}
use Rattle.canon_func.proofs.steps.run.Goals as goal

pub returns-in-Ok-end_scope-clause-did : goal.returns-in-Ok-end_scope-clause-did
returns-in-Ok-end_scope-clause-did g c =
    let seen = g.G.Guest.seen in
    let moves = g.G.Guest.moves in
    let imports = g.I.Imports in
    let i = c.args.imports.now in
    let j = c.run_core.new.imports in
    let before = c.args.core.now in
    let mid = c.run_core.new.core in
    let after = c.end_scope.new.core in
    let callee = export_callee before.component c.args.export.now in
    let limits = allowed before.fuel c.args.turns in
    let returned = c.in-Ok.returned in
    let host = host_side before (imports.log i) (imports.refusals i) in
    let ran = host_side mid (imports.log j) (imports.refusals j) in
    subst (λ k. Serving (moment_of seen before) (moment_of seen k) (λ es. OnAnswered {T = List ℕ} (Ok returned) (moves (guest_of before) es (guest_of k)))
    (RunsToEnd (imports.gives (imports.plan i)) callee limits (LivesUntil {U = List ℕ} seen moves (guest_of before) (guest_of k) (Ok returned)) c.args.words.now (moment_of seen before) (moment_of seen k) host (host_side k (imports.log j) (imports.refusals j)) (Ok returned)))
    (sym c.end_scope.ensures.same)
    (run_ended (imports.gives (imports.plan i)) callee limits (LivesUntil {U = List ℕ} seen moves (guest_of before) (guest_of mid) (Ok returned)) c.args.words.now (moment_of seen before) (moment_of seen mid) host ran (record ran { ledger = after.ledger }) refl returned
    (subst (λ k. Ended (export_callee k.component c.args.export.now) returned mid.ledger after.ledger (Ok tt)) c.run_core.ensures.same
    (subst (λ ws. Ended (export_callee mid.component c.args.export.now) ws mid.ledger after.ledger (Ok tt)) c.as_slice.ensures c.in-Ok-end_scope.ensures.ended)) c.in-Ok.ensures.did)

pub returns-in-Err-end_scope-clause-did : goal.returns-in-Err-end_scope-clause-did
returns-in-Err-end_scope-clause-did g c =
    let seen = g.G.Guest.seen in
    let moves = g.G.Guest.moves in
    let imports = g.I.Imports in
    let i = c.args.imports.now in
    let j = c.run_core.new.imports in
    let before = c.args.core.now in
    let mid = c.run_core.new.core in
    let after = c.end_scope.new.core in
    let callee = export_callee before.component c.args.export.now in
    let limits = allowed before.fuel c.args.turns in
    let returned = c.in-Ok.returned in
    let e = c.in-Err-end_scope.error in
    let host = host_side before (imports.log i) (imports.refusals i) in
    let ran = host_side mid (imports.log j) (imports.refusals j) in
    subst (λ k. Serving (moment_of seen before) (moment_of seen k) (λ es. OnAnswered {T = List ℕ} (Err e) (moves (guest_of before) es (guest_of k)))
    (RunsToEnd (imports.gives (imports.plan i)) callee limits (LivesUntil {U = List ℕ} seen moves (guest_of before) (guest_of k) (Err e)) c.args.words.now (moment_of seen before) (moment_of seen k) host (host_side k (imports.log j) (imports.refusals j)) (Err e)))
    (sym c.end_scope.ensures.same)
    (run_unended (imports.gives (imports.plan i)) callee limits (LivesUntil {U = List ℕ} seen moves (guest_of before) (guest_of mid) (Ok returned))
    c.args.words.now (moment_of seen before) (moment_of seen mid) host ran (record ran { ledger = after.ledger }) refl returned (LivesUntil {U = List ℕ} seen moves (guest_of before) (guest_of mid) (Err e))
    (lives_answered seen moves (List ℕ) (List ℕ) returned (Err e) (guest_of before) (guest_of mid)) e
    (subst (λ k. Ended (export_callee k.component c.args.export.now) returned mid.ledger after.ledger (Err e)) c.run_core.ensures.same
    (subst (λ ws. Ended (export_callee mid.component c.args.export.now) ws mid.ledger after.ledger (Err e)) c.as_slice.ensures c.in-Err-end_scope.ensures.ended)) c.in-Ok.ensures.did)
