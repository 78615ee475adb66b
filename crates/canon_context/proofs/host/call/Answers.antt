use Rattle.canon_ledger.specs.Reached.{ledger_in}
use Rattle.canon_context.proofs.HostScopes.{scopes_kept}
use Rattle.canon_context.proofs.Hosting.{same_ledger, same_state, took_steps}
use Rattle.canon_context.proofs.host.call.Goals as goal

pub returns-clause-same_state : goal.returns-clause-same_state
returns-clause-same_state g c = same_state g.F.Fn c.args.f.now c.requires.keeps _ _ _ _ _ _ _ c.requires.outside c.f.ensures

pub returns-clause-same_ledger : goal.returns-clause-same_ledger
returns-clause-same_ledger g c = same_ledger g.F.Fn c.args.f.now c.requires.keeps _ _ _ _ _ _ _ c.requires.outside c.f.ensures

pub returns-clause-steps : goal.returns-clause-steps
returns-clause-steps g c = took_steps g.F.Fn c.args.f.now c.requires.keeps _ _ _ _ _ _ _ c.requires.outside c.f.ensures

pub returns-clause-scopes : goal.returns-clause-scopes
returns-clause-scopes g c =
    scopes_kept (ledger_in c.args.view.now.tables) (ledger_in c.f.new.arg2.tables) (took_steps g.F.Fn c.args.f.now c.requires.keeps _ _ _ _ _ _ _ c.requires.outside c.f.ensures)
