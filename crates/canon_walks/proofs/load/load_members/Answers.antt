use Rattle.std.proofs.Common.{◌<◌, Vec}
use Rattle.std.specs.declared.alloc.Global.{Global}
use Rattle.canon_lowering.specs.Storing.{narrow}
use Rattle.canon_model.specs.Reach.{MemberFault, members_reach}
use Rattle.canon_types.specs.Table.{tuple_members, types_of}
use Rattle.canon_abi.specs.Options.{encoding_of}
use Rattle.canon_context.specs.Told.{Exactly, LiftBlames}
use Rattle.canon_value_parts.specs.Loads.{AreCharged, AreLoaded, charged_reach}
use Rattle.canon_val.specs.declared.val.Val.{Val}
use Rattle.canon_context.proofs.Told.{core_on_err, core_on_ok}
use Rattle.canon_value_parts.proofs.Loading.{members_loaded, members_refused}
use Rattle.canon_walks.proofs.load.load_members.Goals as goal

pub returns-clause-ok : goal.returns-clause-ok
returns-clause-ok c =
    let enc = encoding_of c.args.source.now.encoding in
    let m = narrow c.args.source.now.memory.now in
    let t = c.args.source.now.types.now in
    let ms = tuple_members t c.args.i in
    core_on_ok c.load_parts.result (λ (vs : Vec Val Global). AreCharged enc m ms 0 c.args.at c.args.fuel.now c.load_parts.new.fuel vs.items)
    (λ (vs : Vec Val Global). AreLoaded enc m ms 0 c.args.at c.args.fuel.now c.load_parts.new.fuel vs.items)
    (λ vs h. members_loaded enc m t (types_of t c.args.i) c.args.at c.args.fuel.now c.load_parts.new.fuel vs.items h) c.load_parts.ensures.ok

pub returns-clause-err : goal.returns-clause-err
returns-clause-err c =
    let enc = encoding_of c.args.source.now.encoding in
    let m = narrow c.args.source.now.memory.now in
    let t = c.args.source.now.types.now in
    let ms = tuple_members t c.args.i in
    core_on_err c.load_parts.result (LiftBlames (Exactly (MemberFault enc m ms 0 c.args.at)) (c.args.fuel.now < charged_reach enc m ms 0 c.args.at))
    (LiftBlames (Exactly (MemberFault enc m ms 0 c.args.at)) (c.args.fuel.now < members_reach enc m ms 0 c.args.at))
    (members_refused enc m t (types_of t c.args.i) c.args.at c.args.fuel.now) c.load_parts.ensures.err
