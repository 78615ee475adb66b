use Rattle.std.proofs.Common.{ap, map, ◌∙◌}
use Rattle.canon_host.specs.Forms.{outcome}
use Rattle.canon_ledger.specs.Ledger.{HostDrop, run_steps}
use Rattle.canon_ledger.specs.Reached.{ledger_in}
use Rattle.canon_serve.proofs.Exchanged.{drops_always}
use Rattle.canon_serve.proofs.asking.serve_ask.Goals as goal

pub returns-clause-drops : goal.returns-clause-drops
returns-clause-drops g c =
    let l = ledger_in c.args.tables.now in
    drops_always (outcome c.ask-result.result c.ask-result.new.slots) c.args.params.now l (ledger_in c.drop_all.new.tables)
    (c.drop_all.ensures.ledger ∙ ap (λ xs. run_steps (map HostDrop xs) l) (c.deref.ensures.value ∙ c.in-Ok.ensures))
