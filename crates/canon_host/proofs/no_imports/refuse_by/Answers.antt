use Rattle.std.proofs.Common.{Err, Ok, Some, []}
use Rattle.canon_host.specs.Forms.{AnyValues}
use Rattle.canon_host.specs.Imports.{RefusesAll}
use Rattle.canon_host.proofs.Importing.{found_gave, found_import, ask_there}
use Rattle.canon_host.proofs.no_imports.refuse_by.Goals as goal

pub returns-in_default-clause-serves : goal.returns-in_default-clause-serves
returns-in_default-clause-serves g c = λ n.
    let done = found_import g.F.Fn c.args.func.now RefusesAll AnyValues (Some []) n g.G.Guest.seen g.G.Guest.moves c.requires.gives (λ type reached params answer state ledger h. tt)
    c.args.cx.ty c.args.cx.options c.args.cx.core.now c.entrypoint.new.cx.0 c.args.storage.now c.entrypoint.new.storage (Ok c.in_default.field-0) _ c.in_default.ensures.serves in
    found_gave RefusesAll AnyValues [] n g.G.Guest.seen g.G.Guest.moves _ (λ s t params results h. let none = h.0 in cc) c.args.cx.core.now c.entrypoint.new.cx.0 c.args.storage.now c.entrypoint.new.storage
    c.args.cx.ty c.args.cx.options c.in_default.field-0 _ (ask_there c.args.cx.core.now c.args.cx.ty c.requires.func) done

pub returns-clause-serves : goal.returns-clause-serves
returns-clause-serves g c = λ n.
    found_import g.F.Fn c.args.func.now RefusesAll AnyValues (Some []) n g.G.Guest.seen g.G.Guest.moves c.requires.gives (λ type reached params answer state ledger h. tt)
    c.args.cx.ty c.args.cx.options c.args.cx.core.now c.entrypoint.new.cx.0 c.args.storage.now c.entrypoint.new.storage (Err c.in-Err.error) _ c.in-Err.ensures.serves
