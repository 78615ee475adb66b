use Rattle.std.proofs.Common.{List, Vec, subst, sym}
use Rattle.std.specs.declared.alloc.Global.{Global}
use Rattle.canon_abi.specs.Options.{encoding_of}
use Rattle.canon_lowering.specs.Storing.{narrow}
use Rattle.canon_model.specs.Leaves.{Leaf}
use Rattle.canon_types.specs.Table.{tuple_members, types_of}
use Rattle.canon_value_parts.proofs.LeavesAt.{near_leaves}
use Rattle.canon_value_parts.proofs.LiftSteps.{results_err, results_ok}
use Rattle.canon_value_parts.proofs.LiftingParts.{unnamed_lifted}
use Rattle.canon_passing.specs.Passed.{LiftsHandles}
use Rattle.canon_value_parts.specs.Resources.{all_resources}
use Rattle.canon_val.specs.declared.val.Val.{Val}
use Rattle.canon_walks.proofs.lift.lift_values_near.Goals as goal

pub returns-clause-ok : goal.returns-clause-ok
returns-clause-ok c = λ most near.
    let s = c.args.source.now in
    let enc = encoding_of s.encoding in
    let m = narrow s.memory.now in
    let ws = c.args.src.now in
    let lift = c.lift_parts in
    let here = unnamed_lifted enc m ws s.types.now (types_of s.types.now c.args.ty) 0 lift.new.at c.args.fuel.now lift.new.fuel lift.result lift.ensures.lifts in
    results_ok enc m ws most (tuple_members s.types.now c.args.ty) lift.new.at c.args.fuel.now lift.new.fuel lift.result near c.requires.words here

pub returns-clause-cause : goal.returns-clause-cause
returns-clause-cause c = λ most near.
    let s = c.args.source.now in
    let enc = encoding_of s.encoding in
    let m = narrow s.memory.now in
    let ws = c.args.src.now in
    let lift = c.lift_parts in
    let here = unnamed_lifted enc m ws s.types.now (types_of s.types.now c.args.ty) 0 lift.new.at c.args.fuel.now lift.new.fuel lift.result lift.ensures.lifts in
    results_err enc m ws most (tuple_members s.types.now c.args.ty) lift.new.at c.args.fuel.now lift.new.fuel lift.result near here

pub returns-clause-handles : goal.returns-clause-handles
returns-clause-handles c = λ most near.
    let s = c.args.source.now in
    subst (λ (ls : List Leaf). LiftsHandles (λ (vs : Vec Val Global). all_resources vs.items) s.instance.now c.args.ledger.now c.lift_parts.new.ledger ls c.lift_parts.result)
    (sym (near_leaves (narrow s.memory.now) c.args.src.now most (tuple_members s.types.now c.args.ty) near)) c.lift_parts.ensures.handles
