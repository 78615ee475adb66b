use Rattle.canon_types.specs.Table.{shape_of}
use Rattle.canon_types.specs.declared.types.InterfaceType.TheVariants as ty
use Rattle.canon_serve.proofs.Exchanged.{gave_row}
use Rattle.canon_serve.proofs.asking.give.Goals as goal

pub returns-in-Ok : goal.returns-in-Ok
returns-in-Ok c =
    gave_row (shape_of c.args.types.now (ty.Tuple c.args.tuple)) c.args.list.now c.args.answered.now c.in-Ok.given c.deref.result.now c.place.new.slots c.place.result c.deref.ensures.value c.in-Ok.ensures
    c.place.ensures.placed c.place.ensures.unknown
