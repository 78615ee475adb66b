use Rattle.std.proofs.Common.{Err, ap, length, sym, ◌++◌, ◌∙◌}
use Rattle.std.specs.Prelude.{drop}
use Rattle.std.proofs.lemmas.List.{take-append-drop}
use Rattle.canon_memory.specs.declared.guest.Step.{Step}
use Rattle.canon_context.specs.Core.{guest_of}
use Rattle.canon_context.specs.declared.fault.Fault.TheVariants as fault
use Rattle.canon_host.specs.HostSide.{host_side}
use Rattle.canon_func.specs.Call.{OnAnswered}
use Rattle.canon_func.specs.Stores.{export_callee}
use Rattle.canon_func.specs.declared.error.Error.TheVariants as error
use Rattle.canon_func.proofs.Asking.{no_storage}
use Rattle.canon_func.proofs.asks.serve_host.Goals as goal

pub returns-in_default-clause-did : goal.returns-in_default-clause-did
returns-in_default-clause-did g c = λ export is.
    let imports = g.I.Imports in
    let i = c.args.imports.now in
    let core = c.args.core.now in
    no_storage (imports.gives (imports.plan i)) (export_callee core.component export) core.fuel c.args.asked.now c.args.index c.args.words.now (g.G.Guest.seen core.guest) core.memory (host_side core (imports.log i) (imports.refusals i))
    (λ es. OnAnswered {T = Step} (Err (error.Fault fault.OutOfMemory)) (g.G.Guest.moves (guest_of core) es (guest_of core))) tt is

pub returns-clause-did : goal.returns-clause-did
returns-clause-did g c = λ export is. c.serve_in.ensures.did export c.args.words.now (drop (length c.args.words.now) c.in-Ok.storage.items)
    (c.deref_mut.ensures.value ∙ (sym (take-append-drop (length c.args.words.now) c.in-Ok.storage.items) ∙ ap (λ xs. xs ++ drop (length c.args.words.now) c.in-Ok.storage.items) c.in-Ok.ensures.words)) is
