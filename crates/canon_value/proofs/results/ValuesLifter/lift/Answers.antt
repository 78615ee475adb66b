use Rattle.std.proofs.Common.{List, ap, arith, subst, sym, ◌<◌, ◌∙◌, ◌≡◌, ◌≤◌}
use Rattle.canon_context.specs.Lifter.{origin_of}
use Rattle.canon_abi.specs.Options.{encoding_of}
use Rattle.canon_lowering.specs.Storing.{narrow}
use Rattle.canon_model.specs.Layout.{flat, members_flat}
use Rattle.canon_model.specs.Leaves.{values_leaves}
use Rattle.canon_model.specs.Reach.{values_reach}
use Rattle.canon_model.specs.Shape.{of_places, product}
use Rattle.canon_types.specs.declared.types.InterfaceType.{InterfaceType}
use Rattle.canon_types.specs.declared.types.InterfaceType.TheVariants as ty
use Rattle.canon_types.specs.Table.{TypeTable, members_of, shape_of, tuple_members}
use Rattle.canon_value_parts.specs.Lifts.{HaveWords, LiftsValues}
use Rattle.canon_value_parts.specs.Resources.{all_resources}
use Rattle.canon_value_parts.proofs.LiftedSteps.{lifted_after}
use Rattle.canon_value_parts.proofs.NearFaults.{near_err, passes_most, tuple_flat}
use Rattle.canon_value.proofs.results.ValuesLifter.lift.Goals.{After-tuple}
use Rattle.canon_value.proofs.results.ValuesLifter.lift.Goals as goal

words : (c : After-tuple) → flat (shape_of c.args.source.now.types.now (ty.Tuple c.args.self.now.ty)) ≡ members_flat (tuple_members c.args.source.now.types.now c.args.self.now.ty)
words c =
    let shape : shape_of c.args.source.now.types.now (ty.Tuple c.args.self.now.ty) ≡ product of_places (tuple_members c.args.source.now.types.now c.args.self.now.ty) =
    c.tuple.ensures.entry.shape ∙ ap (λ (xs : List InterfaceType). product of_places (members_of c.args.source.now.types.now xs)) c.tuple.ensures.types in
    tuple_flat _ _ shape

-- there are as many words as the values take, by the table that they were looked up in
counted : (c : After-tuple) → HaveWords c.args.self.now.most (tuple_members c.args.source.now.types.now c.args.self.now.ty) c.args.self.now.src.now
counted c = subst (λ (t : TypeTable). HaveWords c.args.self.now.most (tuple_members t c.args.self.now.ty) c.args.self.now.src.now) (sym c.requires.one_origin) c.requires.ready.2

pub lift_values_near-requires-clause-words : goal.lift_values_near-requires-clause-words
lift_values_near-requires-clause-words c =
    let flat_is = words (goal.at.lift_values_near-requires-clause-words c).After-tuple in
    (counted (goal.at.lift_values_near-requires-clause-words c).After-tuple).0 (omega (arith, flat_is, c.from-most.ensures, (c.in-Some.ensures.words _ c.tuple.ensures.abi).0))

pub load_values-requires-clause-word : goal.load_values-requires-clause-word
load_values-requires-clause-word c =
    let flat_is = words (goal.at.load_values-requires-clause-word c).After-tuple in
    let far = passes_most _ _ (omega (arith, c.from-most.ensures, c.requires.ready.1)) (c.in-None.ensures.words _ c.tuple.ensures.abi) in
    (counted (goal.at.load_values-requires-clause-word c).After-tuple).1 (omega (arith, flat_is, c.from-most.ensures, far))

pub returns-in-Some-clause-gives : goal.returns-in-Some-clause-gives
returns-in-Some-clause-gives c =
    let s = c.args.source.now in
    let enc = encoding_of s.encoding in
    let m = narrow s.memory.now in
    let ws = c.args.self.now.src.now in
    let most = c.args.self.now.most in
    let ms = tuple_members s.types.now c.args.self.now.ty in
    let flat_is = words (goal.at.returns-in-Some-clause-gives c).After-tuple in
    let near : members_flat ms ≤ most = omega (arith, flat_is, c.from-most.ensures, (c.in-Some.ensures.words _ c.tuple.ensures.abi).0) in
    let lift = c.lift_values_near in
    subst (λ (t : TypeTable). LiftsValues most (origin_of s) ws (tuple_members t c.args.self.now.ty) c.args.ledger.now c.args.fuel.now lift.result lift.new.ledger lift.new.fuel) c.requires.one_origin (record {
      ok = lift.ensures.ok most near;
      err = near_err enc m ws most ms (c.args.fuel.now < values_reach enc m ws most ms) lift.result c.requires.ready.1 near (lift.ensures.cause most near);
      falls = lift.ensures.falls;
      handles = lift.ensures.handles most near;
    })

pub returns-in-None-clause-gives : goal.returns-in-None-clause-gives
returns-in-None-clause-gives c =
    let s = c.args.source.now in
    let ws = c.args.self.now.src.now in
    let most = c.args.self.now.most in
    let ms = tuple_members s.types.now c.args.self.now.ty in
    let flat_is = words (goal.at.returns-in-None-clause-gives c).After-tuple in
    let passed = passes_most _ _ (omega (arith, c.from-most.ensures, c.requires.ready.1)) (c.in-None.ensures.words _ c.tuple.ensures.abi) in
    let far : most < members_flat ms = omega (arith, flat_is, c.from-most.ensures, passed) in
    let lift = c.load_values in
    subst (λ (t : TypeTable). LiftsValues most (origin_of s) ws (tuple_members t c.args.self.now.ty) c.args.ledger.now c.args.fuel.now lift.result lift.new.ledger lift.new.fuel) c.requires.one_origin (record {
      ok = lift.ensures.ok most far;
      err = lift.ensures.err most far;
      falls = lift.ensures.falls;
      handles = lift.ensures.handles most far;
    })

pub returns-in-Some-clause-steps : goal.returns-in-Some-clause-steps
returns-in-Some-clause-steps c =
    let s = c.args.source.now in
    let lift = c.lift_values_near in
    let ms = tuple_members s.types.now c.args.self.now.ty in
    let leaves = values_leaves (narrow s.memory.now) c.args.self.now.src.now (members_flat ms) ms in
    lifted_after (λ vs. all_resources vs.items) s.instance.now c.args.ledger.now lift.new.ledger leaves lift.result (lift.ensures.handles (members_flat ms) (omega arith))

pub returns-in-None-clause-steps : goal.returns-in-None-clause-steps
returns-in-None-clause-steps c =
    let s = c.args.source.now in
    let most = c.args.self.now.most in
    let flat_is = words (goal.at.returns-in-None-clause-steps c).After-tuple in
    let passed = passes_most _ _ (omega (arith, c.from-most.ensures, c.requires.ready.1)) (c.in-None.ensures.words _ c.tuple.ensures.abi) in
    let far : most < members_flat (tuple_members s.types.now c.args.self.now.ty) = omega (arith, flat_is, c.from-most.ensures, passed) in
    let lift = c.load_values in
    let leaves = values_leaves (narrow s.memory.now) c.args.self.now.src.now most (tuple_members s.types.now c.args.self.now.ty) in
    lifted_after (λ vs. all_resources vs.items) s.instance.now c.args.ledger.now lift.new.ledger leaves lift.result (lift.ensures.handles most far)
