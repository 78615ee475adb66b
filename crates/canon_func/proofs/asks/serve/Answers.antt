use Rattle.std.proofs.Common.{Err, None, ap, refl, sym, ◌∙◌, ◌≡◌}
use Rattle.std.specs.Prelude.{slice_get}
use Rattle.canon_context.specs.Core.{guest_of, moment_of}
use Rattle.canon_context.specs.declared.component.Component.{Component}
use Rattle.canon_memory.specs.declared.guest.Step.{Step}
use Rattle.canon_host.specs.HostSide.{host_side}
use Rattle.canon_func.specs.Asks.{builtin_of, import_words}
use Rattle.canon_func.specs.Call.{OnAnswered}
use Rattle.canon_func.specs.Steps.{ServesAsk}
use Rattle.canon_func.specs.Stores.{export_callee}
use Rattle.canon_func.specs.declared.asks.Builtin.TheVariants as builtin
use Rattle.canon_func.specs.declared.error.Error.TheVariants as error
use Rattle.canon_func.proofs.Asking.{builtin_asked, host_asked, none_asked, nothing}
use Rattle.canon_func.proofs.asks.serve.Goals as goal

pub returns-in_default-clause-did : goal.returns-in_default-clause-did
returns-in_default-clause-did g c =
    let seen = g.G.Guest.seen in
    let imports = g.I.Imports in
    let i = c.args.imports.now in
    let core = c.args.core.now in
    let host = host_side core (imports.log i) (imports.refusals i) in
    let found : c.import_at.result ≡ slice_get core.component.imports.items c.args.index = c.import_at.ensures.found ∙ ap (λ (k : Component). slice_get k.imports.items c.args.index) c.component.ensures.component in
    let none : slice_get core.component.imports.items c.args.index ≡ None = sym found ∙ c.in_default.is in
    nothing (seen core.guest) core.memory (λ es. OnAnswered {T = Step} (Err (error.UnknownImport c.args.index)) (g.G.Guest.moves (guest_of core) es (guest_of core)))
    (λ answers es. ServesAsk (imports.gives (imports.plan i)) (export_callee core.component c.args.export.now) core.fuel c.args.index c.args.words.now (moment_of seen core) (moment_of seen core) host host (Err (error.UnknownImport c.args.index)) answers es)
    (g.met.G.Guest.stays (guest_of core)) (None, (refl, none, refl, none_asked core.memory), refl, tt, tt)

pub returns-then-words-words_of-clause-did : goal.returns-then-words-words_of-clause-did
returns-then-words-words_of-clause-did g c =
    let seen = g.G.Guest.seen in
    let imports = g.I.Imports in
    let i = c.args.imports.now in
    let core = c.args.core.now in
    let host = host_side core (imports.log i) (imports.refusals i) in
    let callee = export_callee core.component c.args.export.now in
    let called = c.in-Some.import in
    let found : c.import_at.result ≡ slice_get core.component.imports.items c.args.index = c.import_at.ensures.found ∙ ap (λ (k : Component). slice_get k.imports.items c.args.index) c.component.ensures.component in
    let wanted : c.words_of.result ≡ import_words callee called = c.words_of.ensures c.args.export.now ∙ ap (λ k. import_words (export_callee k c.args.export.now) called) c.component-2.ensures.component in
    nothing (seen core.guest) core.memory (λ es. OnAnswered {T = Step} (Err error.WrongWords) (g.G.Guest.moves (guest_of core) es (guest_of core)))
    (λ answers es. ServesAsk (imports.gives (imports.plan i)) callee core.fuel c.args.index c.args.words.now (moment_of seen core) (moment_of seen core) host host (Err error.WrongWords) answers es)
    (g.met.G.Guest.stays (guest_of core)) (None, (called, sym found ∙ c.in-Some.is, (λ same. c.if-words-words_of.true (same ∙ sym wanted)), refl, none_asked core.memory), refl, tt, tt)

pub serve_builtin-requires-clause-asked : goal.serve_builtin-requires-clause-asked
serve_builtin-requires-clause-asked g c =
    builtin_asked c.args.core.now.component c.args.export.now c.args.index c.args.words.now c.in-Some.import
    (builtin.New c.in-ResourceNew.ty) c.import_at.result c.component.result.now c.component-2.result.now c.words_of.result c.component.ensures.component c.component-2.ensures.component
    c.import_at.ensures.found c.in-Some.is (ap builtin_of c.in-ResourceNew.is) c.words_of.ensures c.if-words-words_of.false (ap (λ k. import_words (export_callee c.args.core.now.component c.args.export.now) k) c.in-ResourceNew.is)

pub serve_builtin-requires-in-ResourceRep-clause-asked : goal.serve_builtin-requires-in-ResourceRep-clause-asked
serve_builtin-requires-in-ResourceRep-clause-asked g c =
    builtin_asked c.args.core.now.component c.args.export.now c.args.index c.args.words.now c.in-Some.import
    (builtin.Rep c.in-ResourceRep.ty) c.import_at.result c.component.result.now c.component-2.result.now c.words_of.result c.component.ensures.component c.component-2.ensures.component
    c.import_at.ensures.found c.in-Some.is (ap builtin_of c.in-ResourceRep.is) c.words_of.ensures c.if-words-words_of.false (ap (λ k. import_words (export_callee c.args.core.now.component c.args.export.now) k) c.in-ResourceRep.is)

pub serve_builtin-requires-in-ResourceDrop-clause-asked : goal.serve_builtin-requires-in-ResourceDrop-clause-asked
serve_builtin-requires-in-ResourceDrop-clause-asked g c =
    builtin_asked c.args.core.now.component c.args.export.now c.args.index c.args.words.now c.in-Some.import
    (builtin.Drop c.in-ResourceDrop.ty) c.import_at.result c.component.result.now c.component-2.result.now c.words_of.result c.component.ensures.component c.component-2.ensures.component
    c.import_at.ensures.found c.in-Some.is (ap builtin_of c.in-ResourceDrop.is) c.words_of.ensures c.if-words-words_of.false (ap (λ k. import_words (export_callee c.args.core.now.component c.args.export.now) k) c.in-ResourceDrop.is)

pub returns-in-Host-clause-did : goal.returns-in-Host-clause-did
returns-in-Host-clause-did g c =
    c.serve_host.ensures.did c.args.export.now
    (host_asked c.args.core.now.component c.args.export.now c.args.index c.args.words.now c.in-Some.import c.asked_of-asked.result c.in-Host.ty
    c.in-Host.options c.import_at.result c.component.result.now c.component-2.result.now c.words_of.result c.component.ensures.component
    c.component-2.ensures.component
    c.import_at.ensures.found c.in-Some.is c.in-Host.is c.words_of.ensures c.if-words-words_of.false c.asked_of-asked.ensures.is c.asked_of-asked.ensures.ty c.asked_of-asked.ensures.options)
