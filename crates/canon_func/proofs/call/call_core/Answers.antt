use Rattle.std.proofs.Common.{ap, subst}
use Rattle.std.specs.Prelude.{IfOk}
use Rattle.canon_host.specs.HostSide.{host_side}
use Rattle.canon_func.specs.Asks.{allowed}
use Rattle.canon_func.specs.Steps.{map_ok}
use Rattle.canon_func.specs.Stores.{export_callee}
use Rattle.canon_func.proofs.Starting.{Within, call_entered, unentered}
use Rattle.canon_func.proofs.call.call_core.Goals as goal

pub returns-in-Ok-clause-call : goal.returns-in-Ok-clause-call
returns-in-Ok-clause-call g c =
    let seen = g.G.Guest.seen in
    let moves = g.G.Guest.moves in
    let imports = g.I.Imports in
    let i = c.args.imports.now in
    let j = c.call_in_scope.new.imports in
    let before = c.args.core.now in
    let mid = c.enter.new.self in
    let after = c.call_in_scope.new.core in
    let params = c.args.params.now in
    let result = c.call_in_scope.result in
    let gives = imports.gives (imports.plan i) in
    let left = host_side after (imports.log j) (imports.refusals j) in
    let callee = export_callee before.component c.args.export.now in
    let limits = allowed before.fuel c.args.turns in
    call_entered (g.P.Params.args params callee) (g.R.Results.returns callee c.args.export.now.options before.id) gives callee limits seen moves g.G.Guest.leaves (imports.log i)
    (imports.refusals i) result (map_ok g.R.Results.out result) before mid after left c.in-Ok.ensures.same c.in-Ok.ensures.ok.1
    (subst (λ k. let d = export_callee k.component c.args.export.now in
    Within (g.P.Params.args params d) (g.R.Results.returns d c.args.export.now.options k.id) gives d (allowed k.fuel c.args.turns) seen moves g.G.Guest.leaves (imports.log i)
    (imports.refusals i) result (map_ok g.R.Results.out result) mid after left)
    c.in-Ok.ensures.same c.call_in_scope.ensures.call)

pub returns-in-Ok-clause-counted : goal.returns-in-Ok-clause-counted
returns-in-Ok-clause-counted g c =
    subst (λ comp. IfOk c.call_in_scope.result (g.R.Results.counted (export_callee comp c.args.export.now))) (ap (λ k. k.component) c.in-Ok.ensures.same) c.call_in_scope.ensures.counted

pub returns-in-Err-clause-call : goal.returns-in-Err-clause-call
returns-in-Err-clause-call g c =
    let imports = g.I.Imports in
    let i = c.args.imports.now in
    let before = c.args.core.now in
    let callee = export_callee before.component c.args.export.now in
    unentered (g.P.Params.args c.args.params.now callee) (g.R.Results.returns callee c.args.export.now.options before.id) (imports.gives (imports.plan i)) callee
    (allowed before.fuel c.args.turns) g.G.Guest.seen g.G.Guest.moves g.G.Guest.leaves (imports.log i)
    (imports.refusals i) g.row.R.Denot
    before c.enter.new.self c.in-Err.ensures.same c.in-Err.ensures.err
