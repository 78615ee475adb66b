use Rattle.std.proofs.Common.{arith, subst, sym}
use Rattle.canon_context.specs.Core.{component_types}
use Rattle.canon_lower_parts.proofs.WordTypes.{lower_case_room, result_err, result_knows, result_ok, result_shape}
use Rattle.canon_lower_parts.specs.Gives.{result_gives}
use Rattle.canon_lower_parts.specs.Words.{TypedLowers}
use Rattle.canon_types.specs.Table.{all_shapes, payload_in, shape_of}
use Rattle.canon_typed.specs.Meaning.{ResultMeans}
use Rattle.canon_lower.proofs.compounds.lower_result.Goals as goal

pub lower_payload-requires-clause-room : goal.lower_payload-requires-clause-room
lower_payload-requires-clause-room g c =
    let t = component_types c.args.cx.now.core.now in
    let ok = payload_in (all_shapes t) c.result-result.result.now.ok in
    let err = payload_in (all_shapes t) c.result-result.result.now.err in
    let s = shape_of t c.args.ty in
    let shape = result_shape t c.types.result.now c.in-Result.i c.result-result.result.now.ok c.result-result.result.now.err c.args.ty c.types.ensures c.in-Result.is c.result-result.ensures.entry in
    omega (arith, c.requires.words, lower_case_room s 0 ok (result_ok s ok err shape))

pub lower_payload-requires-clause-known : goal.lower_payload-requires-clause-known
lower_payload-requires-clause-known g c =
    (result_knows (component_types c.args.cx.now.core.now) c.types.result.now c.in-Result.i c.result-result.result.now.ok c.result-result.result.now.err c.types.ensures c.result-result.ensures.entry).0

pub lower_payload-requires-in-Err-clause-known : goal.lower_payload-requires-in-Err-clause-known
lower_payload-requires-in-Err-clause-known g c =
    (result_knows (component_types c.args.cx.now.core.now) c.types.result.now c.in-Result.i c.result-result.result.now.ok c.result-result.result.now.err c.types.ensures c.result-result.ensures.entry).1

pub lower_payload-requires-in-Err-clause-room : goal.lower_payload-requires-in-Err-clause-room
lower_payload-requires-in-Err-clause-room g c =
    let t = component_types c.args.cx.now.core.now in
    let ok = payload_in (all_shapes t) c.result-result.result.now.ok in
    let err = payload_in (all_shapes t) c.result-result.result.now.err in
    let s = shape_of t c.args.ty in
    let shape = result_shape t c.types.result.now c.in-Result.i c.result-result.result.now.ok c.result-result.result.now.err c.args.ty c.types.ensures c.in-Result.is c.result-result.ensures.entry in
    omega (arith, c.requires.words, lower_case_room s 1 err (result_err s ok err shape))

pub returns-in-Ok-clause-lowers : goal.returns-in-Ok-clause-lowers
returns-in-Ok-clause-lowers g c =
    let a = c.args in
    let core = a.cx.now.core.now in
    let t = component_types core in
    let s = shape_of t a.ty in
    let ok = payload_in (all_shapes t) c.result-result.result.now.ok in
    let err = payload_in (all_shapes t) c.result-result.result.now.err in
    let shape = result_shape t c.types.result.now c.in-Result.i c.result-result.result.now.ok c.result-result.result.now.err a.ty c.types.ensures c.in-Result.is c.result-result.ensures.entry in
    let low = c.lower_payload in
    let T = g.T.ComponentType in
    let E = g.E.ComponentType in
    subst (λ v. TypedLowers g.G.Guest.seen g.G.Guest.moves a.cx.now.options core low.new.cx.core.now s low.new.dst 0 (ResultMeans T.is_unit g.A.ComponentType.walks E.is_unit g.B.ComponentType.walks v)
    (result_gives T.is_unit g.A.Lower.gives E.is_unit g.B.Lower.gives core.component.types s v) low.result) (sym c.in-Ok.is) (low.ensures.lowers s (result_ok s ok err shape) c.requires.words)

pub returns-in-Err-clause-lowers : goal.returns-in-Err-clause-lowers
returns-in-Err-clause-lowers g c =
    let a = c.args in
    let core = a.cx.now.core.now in
    let t = component_types core in
    let s = shape_of t a.ty in
    let ok = payload_in (all_shapes t) c.result-result.result.now.ok in
    let err = payload_in (all_shapes t) c.result-result.result.now.err in
    let shape = result_shape t c.types.result.now c.in-Result.i c.result-result.result.now.ok c.result-result.result.now.err a.ty c.types.ensures c.in-Result.is c.result-result.ensures.entry in
    let low = c.lower_payload-in-Err in
    let T = g.T.ComponentType in
    let E = g.E.ComponentType in
    subst (λ v. TypedLowers g.G.Guest.seen g.G.Guest.moves a.cx.now.options core low.new.cx.core.now s low.new.dst 0 (ResultMeans T.is_unit g.A.ComponentType.walks E.is_unit g.B.ComponentType.walks v)
    (result_gives T.is_unit g.A.Lower.gives E.is_unit g.B.Lower.gives core.component.types s v) low.result) (sym c.in-Err.is) (low.ensures.lowers s (result_err s ok err shape) c.requires.words)
