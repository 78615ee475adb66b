use Rattle.canon_ledger.specs.Reached.{ledger_in}
use Rattle.canon_context.proofs.HostScopes.{scopes_kept}
use Rattle.canon_context.proofs.Hosting.{static_ledger, static_state, static_steps}
use Rattle.canon_context.proofs.host.call_static.Goals as goal

pub returns-clause-same_state : goal.returns-clause-same_state
returns-clause-same_state g c = static_state g.F.Fn c.args.f.now c.requires.keeps _ _ _ _ c.requires.outside c.f.ensures

pub returns-clause-same_ledger : goal.returns-clause-same_ledger
returns-clause-same_ledger g c = static_ledger g.F.Fn c.args.f.now c.requires.keeps _ _ _ _ c.requires.outside c.f.ensures

pub returns-clause-steps : goal.returns-clause-steps
returns-clause-steps g c = static_steps g.F.Fn c.args.f.now c.requires.keeps _ _ _ _ c.requires.outside c.f.ensures

pub returns-clause-scopes : goal.returns-clause-scopes
returns-clause-scopes g c =
    scopes_kept (ledger_in c.args.view.now.tables) (ledger_in c.f.new.arg2.tables) (static_steps g.F.Fn c.args.f.now c.requires.keeps _ _ _ _ c.requires.outside c.f.ensures)
