use Rattle.std.proofs.Common.{List, ap, subst, ℕ}
use Rattle.std.specs.Prelude.{IfOk}
use Rattle.canon_context.specs.Core.{guest_of, moment_of}
use Rattle.canon_context.specs.declared.component.Component.{Component}
use Rattle.canon_host.specs.HostSide.{host_side}
use Rattle.canon_func.specs.Asks.{allowed}
use Rattle.canon_func.specs.Call.{LivesUntil, OnAnswered}
use Rattle.canon_func.specs.Steps.{IsRest, Serving, map_ok}
use Rattle.canon_func.specs.Stores.{export_callee}
use Rattle.canon_func.proofs.Composed.{lowered_is_late, rest_is_late}
use Rattle.canon_func.proofs.Starting.{lowered, unlowered}
use Rattle.canon_func.proofs.Starting.{late_of}
use Rattle.canon_func.proofs.call.call_in_scope.Goals as goal

pub returns-in-Ok-clause-call : goal.returns-in-Ok-clause-call
returns-in-Ok-clause-call g c =
    let seen = g.G.Guest.seen in
    let moves = g.G.Guest.moves in
    let imports = g.I.Imports in
    let i = c.args.imports.now in
    let j = c.call_lowered.new.imports in
    let before = c.args.core.now in
    let mid = c.lower.new.core in
    let after = c.call_lowered.new.core in
    let callee = export_callee before.component c.args.export.now in
    let gives = imports.gives (imports.plan i) in
    let result = c.call_lowered.result in
    let words = c.in-Ok.words in
    let from = host_side mid (imports.log i) (imports.refusals i) in
    let left = host_side after (imports.log j) (imports.refusals j) in
    let RestOf : Component → ℕ → ℕ → List ℕ → Type 0 = λ comp fuel id ws. let d = export_callee comp c.args.export.now in
    Serving (moment_of seen mid) (moment_of seen after) (λ es. OnAnswered result (moves (guest_of mid) es (guest_of after)))
    (IsRest (g.R.Results.returns d c.args.export.now.options id) gives d (allowed fuel c.args.turns) (LivesUntil seen moves (guest_of mid) (guest_of after) result) g.G.Guest.leaves ws (moment_of seen mid) (moment_of seen after) from left (map_ok g.R.Results.out result)) in
    lowered (g.P.Params.args c.args.params.now callee) (g.R.Results.returns callee c.args.export.now.options before.id) gives callee (allowed before.fuel c.args.turns) seen moves g.G.Guest.leaves
    (imports.log i) (imports.refusals i) result (map_ok g.R.Results.out result) before mid after left words
    c.lower.ensures.same g.met.G.Guest.goes_on c.in-Ok.ensures.lowered
    (subst (λ k. RestOf k.component k.fuel k.id words.items) c.lower.ensures.same (subst (λ ws. RestOf mid.component mid.fuel mid.id ws) c.deref.ensures.value c.call_lowered.ensures.did))

pub returns-in-Ok-clause-late : goal.returns-in-Ok-clause-late
returns-in-Ok-clause-late g c =
    let seen = g.G.Guest.seen in
    let mid = c.lower.new.core in
    let callee = export_callee mid.component c.args.export.now in
    let did = c.call_lowered.ensures.did in
    let result = c.call_lowered.result in
    late_of g.R.Results.out result (rest_is_late (g.R.Results.returns callee c.args.export.now.options mid.id) callee (allowed mid.fuel c.args.turns) (moment_of seen mid) (moment_of seen c.call_lowered.new.core) did.events did.so.tail (map_ok g.R.Results.out result) did.so.cause)

pub returns-in-Ok-clause-counted : goal.returns-in-Ok-clause-counted
returns-in-Ok-clause-counted g c =
    let mid = c.lower.new.core in
    subst (λ comp. IfOk c.call_lowered.result (g.R.Results.counted (export_callee comp c.args.export.now))) (ap (λ k. k.component) c.lower.ensures.same) c.call_lowered.ensures.counted

pub returns-in-Err-clause-call : goal.returns-in-Err-clause-call
returns-in-Err-clause-call g c =
    let imports = g.I.Imports in
    let i = c.args.imports.now in
    let before = c.args.core.now in
    let after = c.lower.new.core in
    let params = c.args.params.now in
    let callee = export_callee before.component c.args.export.now in
    unlowered (g.P.Params.args params callee) (g.R.Results.returns callee c.args.export.now.options before.id) (imports.gives (imports.plan i)) callee
    (allowed before.fuel c.args.turns) g.G.Guest.seen g.G.Guest.moves g.G.Guest.leaves (imports.log i) (imports.refusals i)
    g.row.R.Denot c.in-Err.error before after (g.met.P.Params.blames params callee) c.lower.ensures.same c.in-Err.ensures.lowered

pub returns-in-Err-clause-late : goal.returns-in-Err-clause-late
returns-in-Err-clause-late g c =
    let seen = g.G.Guest.seen in
    let before = c.args.core.now in
    let after = c.lower.new.core in
    let callee = export_callee before.component c.args.export.now in
    lowered_is_late (g.P.Params.args c.args.params.now callee) callee (moment_of seen before) (moment_of seen after) before.ledger after.ledger c.in-Err.ensures.lowered.events c.in-Err.error c.in-Err.ensures.lowered.so
