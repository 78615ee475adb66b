use Rattle.std.proofs.Common.{rules}
use Rattle.canon_host.specs.ServesTyped.{ServesTyped}
use Rattle.canon_host.proofs.Serving.{found_at}
use Rattle.canon_host.proofs.ServingTyped.{found_typed}
use Rattle.canon_host.proofs.static_host.StaticHostFnHostFn.serve.Goals as goal

pub serve_typed-requires-clause-typed : goal.serve_typed-requires-clause-typed
serve_typed-requires-clause-typed g c = found_typed g.P.ComponentType.fits g.R.ComponentType.fits c.args.cx.core.now.component.types c.args.cx.ty c.asked_of-asked.result.func (search rules) c.requires.fits

pub returns-clause-serves : goal.returns-clause-serves
returns-clause-serves g c =
    found_at
    (λ f asked after words2. ServesTyped g.F.Fn f g.P.Lift.reading g.R.ComponentType.walks g.R.Lower.gives g.G.Guest.seen g.G.Guest.moves asked c.args.cx.core.now c.args.storage.now c.serve_typed.result after words2)
    c.self.inside.f c.args.self.now c.asked_of-asked.result c.args.cx.ty c.args.cx.options c.serve_typed.new.core _ c.serve_typed.new.storage _ _ c.self.view_is (search rules) (search rules)
    (search rules) c.serve_typed.ensures.serves (search rules) (search rules)
