use Rattle.std.proofs.Common.{refl}
use Rattle.std.specs.Prelude.{slice_get}
use Rattle.canon_context.specs.Core.{component_types}
use Rattle.canon_host.specs.Forms.{MayGiveValues}
use Rattle.canon_host.specs.HostSide.{gives_unlogged}
use Rattle.canon_host.proofs.Unlogged.{import_as}
use Rattle.canon_serve.specs.Asks.{MayServe, serves_imports}
use Rattle.canon_serve.proofs.imports.serve_by.Goals as goal

pub returns-clause-serves : goal.returns-clause-serves
returns-clause-serves g c =
    let func = c.args.func.now in
    let core = c.args.cx.core.now in
    let log = g.H.Channel.log in
    let o = slice_get (component_types core).funcs c.args.cx.ty in
    import_as (gives_unlogged (MayGiveValues g.F.Fn func)) (serves_imports log) (MayGiveValues g.F.Fn func) (MayServe log c.args.n) c.requires.answers c.args.n g.G.Guest.seen g.G.Guest.moves refl refl
    c.args.cx.ty c.args.cx.options c.args.refusals.now c.serve_values_import.new.refusals core c.serve_values_import.new.cx.0 c.args.storage.now c.serve_values_import.new.storage c.serve_values_import.result o
    c.serve_values_import.ensures.serves
