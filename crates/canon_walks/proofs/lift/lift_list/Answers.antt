use Rattle.std.proofs.Common.{◌<◌, ◌+◌, List, Vec, subst}
use Rattle.canon_model.specs.Leaves.{Leaf}
use Rattle.canon_value_parts.proofs.LeavesAt.{list_flat_leaves}
use Rattle.canon_passing.specs.Passed.{LiftsHandles}
use Rattle.canon_value_parts.specs.Resources.{all_resources}
use Rattle.std.specs.declared.alloc.Global.{Global}
use Rattle.canon_lowering.specs.Storing.{narrow}
use Rattle.canon_model.specs.Reach.{FlatFault, flat_reach}
use Rattle.canon_abi.specs.Options.{encoding_of}
use Rattle.canon_plan.specs.Element.{ItemsFault, items_reach, list_shape}
use Rattle.canon_value_parts.specs.Lifts.{ArePartsLifted}
use Rattle.canon_context.specs.Told.{Exactly, LiftBlames, ToldAt, place_of}
use Rattle.canon_value_parts.specs.Plan.{IsListLoaded}
use Rattle.canon_val.specs.declared.val.Val.{Val}
use Rattle.canon_value_parts.proofs.ListLoading.{list_lifted, list_unlifted, row_weighs}
use Rattle.canon_context.proofs.Told.{core_on_err, core_on_ok}
use Rattle.canon_walks.proofs.lift.lift_list.Goals as goal

pub returns-clause-ok : goal.returns-clause-ok
returns-clause-ok c =
    let a = c.args in
    let enc = encoding_of a.source.now.encoding in
    let m = narrow a.source.now.memory.now in
    let s = list_shape a.source.now.types.now a.element.now in
    let w = row_weighs enc a.source.now.memory.now a.source.now.types.now a.element.now c.requires.known 0 0 in
    let found = c.pointer_and_length-pointer.ensures in
    let last = c.load_items.new.fuel in
    core_on_ok c.load_items.result (λ (vs : Vec Val Global). IsListLoaded enc m s _ _ a.fuel.now last vs.items) (λ (vs : Vec Val Global). ArePartsLifted enc m a.src.now a.at.now (a.at.now + 2) a.fuel.now last s vs.items)
    (λ vs h. list_lifted enc m s w.part w.kind w.is _ _ a.fuel.now a.src.now a.at.now found.pointer found.count last vs.items h) c.load_items.ensures.ok

pub returns-clause-err : goal.returns-clause-err
returns-clause-err c =
    let a = c.args in
    let enc = encoding_of a.source.now.encoding in
    let m = narrow a.source.now.memory.now in
    let s = list_shape a.source.now.types.now a.element.now in
    let w = row_weighs enc a.source.now.memory.now a.source.now.types.now a.element.now c.requires.known 0 0 in
    let found = c.pointer_and_length-pointer.ensures in
    let p = c.pointer_and_length-pointer.result.0 in
    let n = c.pointer_and_length-pointer.result.1 in
    core_on_err c.load_items.result (LiftBlames (Exactly (ItemsFault enc m s (place_of c.word_at.result) p n)) (a.fuel.now < items_reach enc m s p n))
    (LiftBlames (ToldAt (FlatFault enc m a.src.now s a.at.now)) (a.fuel.now < flat_reach enc m a.src.now s a.at.now))
    (λ e h. list_unlifted enc m s w.part w.kind w.is p n a.fuel.now a.src.now a.at.now found.pointer found.count c.word_at.result e c.word_at.ensures h) c.load_items.ensures.err

pub returns-clause-handles : goal.returns-clause-handles
returns-clause-handles c =
    let a = c.args in
    let m = narrow a.source.now.memory.now in
    let s = list_shape a.source.now.types.now a.element.now in
    let w = row_weighs (encoding_of a.source.now.encoding) a.source.now.memory.now a.source.now.types.now a.element.now c.requires.known 0 0 in
    let found = c.pointer_and_length-pointer.ensures in
    subst (λ (ls : List Leaf). LiftsHandles (λ (vs : Vec Val Global). all_resources vs.items) a.source.now.instance.now a.ledger.now c.load_items.new.ledger ls c.load_items.result)
    (list_flat_leaves m a.src.now s w.part w.kind w.is c.pointer_and_length-pointer.result.0 c.pointer_and_length-pointer.result.1 a.at.now found.pointer found.count) c.load_items.ensures.handles
