use Rattle.std.proofs.Common.{Err, None, Ok, arith, refl}
use Rattle.std.specs.Prelude.{slice_get}
use Rattle.canon_context.specs.Core.{component_types}
use Rattle.canon_host.proofs.Importing.{faults, found_import, refuses}
use Rattle.canon_host.specs.Forms.{MayGiveValues}
use Rattle.canon_host.specs.HostSide.{gives_unlogged}
use Rattle.canon_host.proofs.Unlogged.{unlogged}
use Rattle.canon_host.proofs.values_import.serve_values_import.Goals as goal

pub returns-in-Ok-clause-serves : goal.returns-in-Ok-clause-serves
returns-in-Ok-clause-serves g c =
    let func = c.args.func.now in
    let refusals = c.args.refusals.now in
    let core = c.args.cx.core.now in
    let o = slice_get (component_types core).funcs c.args.cx.ty in
    let done = found_import g.F.Fn func (gives_unlogged (MayGiveValues g.F.Fn func)) (MayGiveValues g.F.Fn func) None c.args.n g.G.Guest.seen g.G.Guest.moves tt
    (λ type reached params answer state ledger so. so) c.args.cx.ty c.args.cx.options core c.entrypoint.new.cx.0 c.args.storage.now c.entrypoint.new.storage
    (Ok c.in-Ok._values) o c.in-Ok.ensures.serves in
    unlogged (gives_unlogged (MayGiveValues g.F.Fn func)) (MayGiveValues g.F.Fn func) c.args.n g.G.Guest.seen g.G.Guest.moves c.args.cx.ty c.args.cx.options refusals core c.entrypoint.new.cx.0 c.args.storage.now c.entrypoint.new.storage o c.in-Ok._values done

pub returns-in-Err-Refused-clause-serves : goal.returns-in-Err-Refused-clause-serves
returns-in-Err-Refused-clause-serves g c =
    let func = c.args.func.now in
    let refusals = c.args.refusals.now in
    let core = c.args.cx.core.now in
    let o = slice_get (component_types core).funcs c.args.cx.ty in
    let done = found_import g.F.Fn func (gives_unlogged (MayGiveValues g.F.Fn func)) (MayGiveValues g.F.Fn func) None c.args.n g.G.Guest.seen g.G.Guest.moves tt
    (λ type reached params answer state ledger so. so) c.args.cx.ty c.args.cx.options core c.entrypoint.new.cx.0 c.args.storage.now c.entrypoint.new.storage
    (Err c.in-Err-Refused.field-0) o c.in-Err-Refused.ensures.serves in
    refuses (gives_unlogged (MayGiveValues g.F.Fn func)) (MayGiveValues g.F.Fn func) None None c.args.n g.G.Guest.seen g.G.Guest.moves c.args.cx.ty c.args.cx.options refusals c.saturating_add.result core c.entrypoint.new.cx.0 c.args.storage.now c.entrypoint.new.storage o
    (rw c.in-Err-Refused.field-0-is at done) refl (omega (arith, c.saturating_add.ensures))

pub returns-in-Err-Fault-clause-serves : goal.returns-in-Err-Fault-clause-serves
returns-in-Err-Fault-clause-serves g c =
    let func = c.args.func.now in
    let refusals = c.args.refusals.now in
    let core = c.args.cx.core.now in
    let o = slice_get (component_types core).funcs c.args.cx.ty in
    let done = found_import g.F.Fn func (gives_unlogged (MayGiveValues g.F.Fn func)) (MayGiveValues g.F.Fn func) None c.args.n g.G.Guest.seen g.G.Guest.moves tt
    (λ type reached params answer state ledger so. so) c.args.cx.ty c.args.cx.options core c.entrypoint.new.cx.0 c.args.storage.now c.entrypoint.new.storage
    (Err c.in-Err-Fault.field-0) o c.in-Err-Fault.ensures.serves in
    faults (gives_unlogged (MayGiveValues g.F.Fn func)) (MayGiveValues g.F.Fn func) None None c.args.n g.G.Guest.seen g.G.Guest.moves c.args.cx.ty c.args.cx.options refusals refusals core c.entrypoint.new.cx.0 c.args.storage.now c.entrypoint.new.storage o
    c.in-Err-Fault.fault (rw c.in-Err-Fault.field-0-is at done) refl refl

pub returns-in-Err-Refused-clause-served : goal.returns-in-Err-Refused-clause-served
returns-in-Err-Refused-clause-served g c = rw c.in-Err-Refused.field-0-is at c.in-Err-Refused.ensures.serves

pub returns-in-Err-Fault-clause-served : goal.returns-in-Err-Fault-clause-served
returns-in-Err-Fault-clause-served g c = rw c.in-Err-Fault.field-0-is at c.in-Err-Fault.ensures.serves
