use Rattle.std.proofs.Common.{arith, refl, subst}
use Rattle.std.specs.Prelude.{IfSome, false, slice_get, ◌≡◌}
use Rattle.canon_context.specs.declared.component.Component.{Component}
use Rattle.canon_host.proofs.Importing.{declined_typed, typed_declines}
use Rattle.canon_host.specs.Forms.{RustTypes, rust_types}
use Rattle.canon_host.specs.ServesTyped.{FitRustTypes, FitsFunc}
use Rattle.canon_host.proofs.typed_import.serve_typed_import.Goals as goal

pub serve_fitting-requires-clause-fits : goal.serve_fitting-requires-clause-fits
serve_fitting-requires-clause-fits g c = subst (λ (x : Component). FitsFunc g.P.ComponentType.fits g.R.ComponentType.fits x.types c.args.cx.ty) c.component.ensures.component c.in-Ok.ensures.fits

pub serve_fitting-requires-clause-sync : goal.serve_fitting-requires-clause-sync
serve_fitting-requires-clause-sync g c = subst (λ (x : Component). IfSome (slice_get x.types.types.funcs c.args.cx.ty) (λ t. t.async_ ≡ false)) c.component.ensures.component c.in-Ok.ensures.passed

pub returns-in-Err-clause-serves : goal.returns-in-Err-clause-serves
returns-in-Err-clause-serves g c =
    let types : RustTypes g.row.P.Denot g.row.R.Denot = rust_types g.P.ComponentType.fits g.R.ComponentType.fits g.P.Lift.reading g.P.ComponentType.is_told g.P.ComponentType.lifts g.P.ComponentType.cost
    g.R.ComponentType.means g.R.ComponentType.walks g.R.Lower.gives in
    let core = c.args.cx.core.now in
    let other = subst (λ (x : Component). IfSome (slice_get x.types.types.funcs c.args.cx.ty) (λ t. t.async_ ≡ false → FitRustTypes g.P.ComponentType.fits g.R.ComponentType.fits x.types t
    → ⊥)) c.component.ensures.component c.in-Err.ensures.refused in
    typed_declines g.F.Fn c.args.func.now types g.G.Guest.seen g.G.Guest.moves c.args.cx.ty c.args.cx.options core core c.args.storage.now c.args.storage.now c.args.refusals.now c.saturating_add.result _
    other refl refl (omega (arith, c.saturating_add.ensures))

pub returns-in-Err-clause-served : goal.returns-in-Err-clause-served
returns-in-Err-clause-served g c =
    let types : RustTypes g.row.P.Denot g.row.R.Denot = rust_types g.P.ComponentType.fits g.R.ComponentType.fits g.P.Lift.reading g.P.ComponentType.is_told g.P.ComponentType.lifts g.P.ComponentType.cost
    g.R.ComponentType.means g.R.ComponentType.walks g.R.Lower.gives in
    let core = c.args.cx.core.now in
    let other = subst (λ (x : Component). IfSome (slice_get x.types.types.funcs c.args.cx.ty) (λ t. t.async_ ≡ false → FitRustTypes g.P.ComponentType.fits g.R.ComponentType.fits x.types t
    → ⊥)) c.component.ensures.component c.in-Err.ensures.refused in
    declined_typed g.F.Fn c.args.func.now types g.G.Guest.seen g.G.Guest.moves c.args.cx.ty c.args.cx.options core core c.args.storage.now c.args.storage.now _ other refl refl
