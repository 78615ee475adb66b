use Rattle.std.proofs.Common.{refl}
use Rattle.canon_context.specs.Core.{component_types}
use Rattle.canon_types.specs.Table.{shape_of}
use Rattle.canon_lift.proofs.ScalarBytes.{scalar_lifts, lift_scalar_refused, lift_scalar_room}
use Rattle.canon_lift.proofs.scalars.AnyLift.linear_lift_from_memory.Goals as goal

pub load-requires : goal.load-requires
load-requires g c =
    let core = c.args.cx.now.core.now in
    record {
      inside = lift_scalar_room c.memory.result.now core.memory (shape_of (component_types core) c.args._ty) g.S.ScalarType.kind c.args.at
          (g.met.S.ScalarType.is_scalar.shape core.component.types c.args._ty c.requires.fits) c.requires.inside c.memory.ensures;
    }

pub returns-in-Some-clause-lifts : goal.returns-in-Some-clause-lifts
returns-in-Some-clause-lifts g c =
    let core = c.args.cx.now.core.now in
    let (t, stands, lifts) = c.in-Some.ensures.some in
    scalar_lifts g.S.ComponentType.lifts core c.args.cx.now.options c.args._ty g.S.ScalarType.kind c.args.at c.args.cx.now.fuel _ c.memory.result.now c.in-Some.value t
    (g.met.S.ScalarType.is_scalar.shape core.component.types c.args._ty c.requires.fits) c.requires.inside c.memory.ensures refl stands lifts

pub returns-in-None-clause-lifts : goal.returns-in-None-clause-lifts
returns-in-None-clause-lifts g c =
    let core = c.args.cx.now.core.now in
    lift_scalar_refused g.S.ComponentType.lifts core c.args.cx.now.options c.args._ty g.S.ScalarType.kind c.args.at c.args.cx.now.fuel c.memory.result.now
    (g.met.S.ScalarType.is_scalar.shape core.component.types c.args._ty c.requires.fits) c.memory.ensures (c.in-None.ensures.none refl)
