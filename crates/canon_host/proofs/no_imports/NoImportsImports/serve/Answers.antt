use Rattle.std.proofs.Common.{Some, [], arith, refl}
use Rattle.canon_host.specs.Forms.{AnyValues}
use Rattle.canon_host.specs.Imports.{RefusesAll}
use Rattle.canon_host.proofs.Importing.{faults, refuses}
use Rattle.canon_host.proofs.no_imports.NoImportsImports.serve.Goals as goal

pub returns-in-Refused-clause-serves : goal.returns-in-Refused-clause-serves
returns-in-Refused-clause-serves g c =
    refuses RefusesAll AnyValues (Some []) (Some []) c.args.n g.G.Guest.seen g.G.Guest.moves c.args.cx.ty c.args.cx.options c.args.self.now.refusals c.saturating_add-self.result c.args.cx.core.now _ c.args.storage.now _ _
    (c.in-Refused.ensures.serves c.args.n) refl (omega (arith, c.saturating_add-self.ensures))

pub returns-in-Fault-clause-serves : goal.returns-in-Fault-clause-serves
returns-in-Fault-clause-serves g c =
    faults RefusesAll AnyValues (Some []) (Some []) c.args.n g.G.Guest.seen g.G.Guest.moves c.args.cx.ty c.args.cx.options c.args.self.now.refusals c.args.self.now.refusals c.args.cx.core.now _ c.args.storage.now _ _
    c.in-Fault.fault (c.in-Fault.ensures.serves c.args.n) refl refl
