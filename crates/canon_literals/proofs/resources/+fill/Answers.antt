use Rattle.canon_literals.specs.Literals.{listed_resource}
use Rattle.canon_literals.proofs.Filled.{err_filled, fixed_filled, flags_filled, literal_list_filled, map_filled, ok_filled, record_filled, tuple_filled}
use Rattle.canon_literals.proofs.resources.+fill.Goals as goal

pub fill-returns-in_ok-fill_row-in-List : goal.fill-returns-in_ok-fill_row-in-List
fill-returns-in_ok-fill_row-in-List t c =
    literal_list_filled (listed_resource c.args.list.now) c.args.value.now c.in_ok-fill_row-in-List.field-0 c.in-List.members c.deref.result.now c.in-List.is c.deref.ensures.value c.in_ok-fill_row-in-List.ensures

pub fill-returns-in_ok-fill_pairs-in-Map : goal.fill-returns-in_ok-fill_pairs-in-Map
fill-returns-in_ok-fill_pairs-in-Map t c =
    map_filled (listed_resource c.args.list.now) c.args.value.now c.in_ok-fill_pairs-in-Map.field-0 c.in-Map.pairs c.deref-in-Map.result.now c.in-Map.is c.deref-in-Map.ensures.value c.in_ok-fill_pairs-in-Map.ensures

pub fill-returns-in_ok-fill_fields-in-Record : goal.fill-returns-in_ok-fill_fields-in-Record
fill-returns-in_ok-fill_fields-in-Record t c =
    record_filled (listed_resource c.args.list.now) c.args.value.now c.in_ok-fill_fields-in-Record.field-0 c.in-Record.fields c.deref-in-Record.result.now c.in-Record.is c.deref-in-Record.ensures.value c.in_ok-fill_fields-in-Record.ensures

pub fill-returns-in_ok-fill_row-in-Tuple : goal.fill-returns-in_ok-fill_row-in-Tuple
fill-returns-in_ok-fill_row-in-Tuple t c =
    tuple_filled (listed_resource c.args.list.now) c.args.value.now c.in_ok-fill_row-in-Tuple.field-0 c.in-Tuple.members c.deref-in-Tuple.result.now c.in-Tuple.is c.deref-in-Tuple.ensures.value c.in_ok-fill_row-in-Tuple.ensures

pub fill-returns-in_ok-fill_row-in-FixedLengthList : goal.fill-returns-in_ok-fill_row-in-FixedLengthList
fill-returns-in_ok-fill_row-in-FixedLengthList t c =
    fixed_filled (listed_resource c.args.list.now) c.args.value.now c.in_ok-fill_row-in-FixedLengthList.field-0 c.in-FixedLengthList.members c.deref-in-FixedLengthList.result.now c.in-FixedLengthList.is c.deref-in-FixedLengthList.ensures.value c.in_ok-fill_row-in-FixedLengthList.ensures

pub fill-returns-in_ok-copy_names-in-Flags : goal.fill-returns-in_ok-copy_names-in-Flags
fill-returns-in_ok-copy_names-in-Flags t c =
    flags_filled (listed_resource c.args.list.now) c.args.value.now c.in_ok-copy_names-in-Flags.field-0 c.in-Flags.names c.deref-in-Flags.result.now c.in-Flags.is c.deref-in-Flags.ensures.value c.in_ok-copy_names-in-Flags.ensures

pub fill-returns-in_ok-fill_payload-in-Ok : goal.fill-returns-in_ok-fill_payload-in-Ok
fill-returns-in_ok-fill_payload-in-Ok t c =
    ok_filled (listed_resource c.args.list.now) c.args.value.now c.in-Result.result c.in_ok-fill_payload-in-Ok.field-0 c.in-Ok.payload c.in-Result.is c.in-Ok.is c.in_ok-fill_payload-in-Ok.ensures

pub fill-returns-in_ok-fill_payload-in-Err : goal.fill-returns-in_ok-fill_payload-in-Err
fill-returns-in_ok-fill_payload-in-Err t c =
    err_filled (listed_resource c.args.list.now) c.args.value.now c.in-Result.result c.in_ok-fill_payload-in-Err.field-0 c.in-Err.payload c.in-Result.is c.in-Err.is c.in_ok-fill_payload-in-Err.ensures
