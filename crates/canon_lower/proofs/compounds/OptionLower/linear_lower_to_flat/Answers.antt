use Rattle.std.proofs.Common.{Ok, arith, subst, sym}
use Rattle.canon_context.proofs.Moves.{GuestLaws}
use Rattle.canon_context.specs.Core.{component_types}
use Rattle.canon_lower_parts.proofs.WordCases.{case_shape_is, has_bare, has_lowers}
use Rattle.canon_lower_parts.proofs.WordTypes.{bare_room, option_known, option_none, option_shape, option_some, some_room}
use Rattle.canon_lower_parts.specs.Gives.{option_gives}
use Rattle.canon_lower_parts.specs.Words.{CaseOf, TypedLowers}
use Rattle.canon_model.specs.Shape.{Shape}
use Rattle.canon_types.specs.Table.{shape_of}
use Rattle.canon_typed.specs.Meaning.{OptionMeans}
use Rattle.canon_lower.proofs.compounds.OptionLower.linear_lower_to_flat.Goals as goal

pub lower_bare-requires : goal.lower_bare-requires
lower_bare-requires g c =
    let t = component_types c.args.cx.now.core.now in
    let some = c.option.result.now.ty in
    let shape = option_shape t c.types.result.now c.in-Option.i some c.args.ty c.types.ensures c.in-Option.is c.option.ensures.entry in
    omega (arith, c.requires.words, bare_room (shape_of t c.args.ty) 0 (option_none (shape_of t c.args.ty) (shape_of t some) shape))

pub lower_case-requires-clause-known : goal.lower_case-requires-clause-known
lower_case-requires-clause-known g c = option_known (component_types c.args.cx.now.core.now) c.types.result.now c.in-Option.i c.option.result.now.ty c.types.ensures c.option.ensures.entry

pub lower_case-requires-clause-room : goal.lower_case-requires-clause-room
lower_case-requires-clause-room g c =
    let t = component_types c.args.cx.now.core.now in
    let some = c.option.result.now.ty in
    let shape = option_shape t c.types.result.now c.in-Option.i some c.args.ty c.types.ensures c.in-Option.is c.option.ensures.entry in
    omega (arith, c.requires.words, some_room (shape_of t c.args.ty) 1 (shape_of t some) (option_some (shape_of t c.args.ty) (shape_of t some) shape))

pub returns-in-None-clause-lowers : goal.returns-in-None-clause-lowers
returns-in-None-clause-lowers g c =
    let L : GuestLaws _ = record { seen = g.G.Guest.seen; moves = g.G.Guest.moves; stays = g.met.G.Guest.stays; goes_on = g.met.G.Guest.goes_on } in
    let a = c.args in
    let core = a.cx.now.core.now in
    let t = component_types core in
    let s = shape_of t a.ty in
    let some = c.option.result.now.ty in
    let shape = option_shape t c.types.result.now c.in-Option.i some a.ty c.types.ensures c.in-Option.is c.option.ensures.entry in
    subst (λ v. TypedLowers L.seen L.moves a.cx.now.options core core s c.lower_bare.new.dst 0 (OptionMeans g.T.ComponentType.walks v) (option_gives g.T.Lower.gives core.component.types s v) (Ok tt)) (sym c.in-None.is)
    (has_bare L a.cx.now.options core core s 0 c.lower_bare.new.dst (omega arith) c.memory-memory.ensures.small (omega (
      arith,
      c.lower_bare.ensures.count,
      c.requires.words,
    )) (option_none s (shape_of t some) shape) c.lower_bare.ensures.words)

pub returns-in-Some-clause-lowers : goal.returns-in-Some-clause-lowers
returns-in-Some-clause-lowers g c =
    let L : GuestLaws _ = record { seen = g.G.Guest.seen; moves = g.G.Guest.moves; stays = g.met.G.Guest.stays; goes_on = g.met.G.Guest.goes_on } in
    let a = c.args in
    let core = a.cx.now.core.now in
    let t = component_types core in
    let s = shape_of t a.ty in
    let some = c.option.result.now.ty in
    let shape = option_shape t c.types.result.now c.in-Option.i some a.ty c.types.ensures c.in-Option.is c.option.ensures.entry in
    let has = option_some s (shape_of t some) shape in
    let low = c.lower_case in
    subst (λ v. TypedLowers L.seen L.moves a.cx.now.options core low.new.cx.core.now s low.new.dst 0 (OptionMeans g.T.ComponentType.walks v) (option_gives g.T.Lower.gives core.component.types s v) low.result) (sym c.in-Some.is)
    (subst (λ (u : Shape). TypedLowers L.seen L.moves a.cx.now.options core low.new.cx.core.now s low.new.dst 0 (CaseOf 1 (g.T.ComponentType.walks c.in-Some.value)) (g.T.Lower.gives core.component.types u c.in-Some.value) low.result)
    (sym (case_shape_is s 1 (shape_of t some) has))
    (has_lowers L a.cx.now.options core low.new.cx.core.now s 1 (shape_of t some) (g.T.ComponentType.walks c.in-Some.value) (g.T.Lower.gives core.component.types (shape_of t some) c.in-Some.value) low.new.dst low.result
    (omega arith) (omega (arith, low.ensures.count, c.requires.words)) has low.ensures.lowers low.ensures.words))
