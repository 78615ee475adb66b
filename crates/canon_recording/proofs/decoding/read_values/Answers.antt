use Rattle.std.proofs.Common.{Err, Ok, arith, take, drop, subst, sym, true, []}
use Rattle.std.proofs.Common.{subst₂, suc}
use Rattle.canon_recording_parts.specs.Format.{for_each}
use Rattle.canon_recording_parts.specs.Read.{IsReadSoFar, ReadsFormat}
use Rattle.canon_recording_parts.proofs.Reading.{each_begin, each_go_on, each_stop, read_done}
use Rattle.canon_recording.proofs.Values.{known_at, typed, values_each}
use Rattle.canon_recording.proofs.Rows.{split_at, take_all, take_next}
use Rattle.canon_recording.proofs.decoding.read_values.Goals as goal

pub loop-ty-init : goal.loop-ty-init
loop-ty-init c = record { read = subst (λ xs. IsReadSoFar (for_each (typed true c.args.types.now) []) c.args.bytes.now c.args.at.now c.args.at.now xs) (sym c.new-vals.ensures.items) (each_begin (typed true c.args.types.now) c.args.bytes.now c.args.at.now c.requires.inside) }

pub read_value-requires : goal.read_value-requires
read_value-requires c =
    let here = known_at c.args.types.now c.args.tys.now c.loop-ty.ty-index c.ty-item.result c.loop-ty-test.true (sym c.ty-item.is) c.requires.known c.requires.no_handle in
    record { known = here.0; no_handle = here.1; inside = c.loop-ty.invariant.read.span.inside }

pub loop-ty-preserved : goal.loop-ty-preserved
loop-ty-preserved c =
    let read = each_go_on (typed true c.args.types.now) c.args.bytes.now c.args.at.now c.loop-ty.at c.read_value.new.at
    (take c.loop-ty.ty-index c.args.tys.now) c.ty-item.result c.loop-ty.vals.items c.in-Ok.val c.loop-ty.invariant.read c.in-Ok.ensures.reads in
    record {
      read = subst₂ (λ is xs. IsReadSoFar (for_each (typed true c.args.types.now) is) c.args.bytes.now c.args.at.now c.read_value.new.at xs)
          (take_next c.args.tys.now c.loop-ty.ty-index c.ty-item.result c.loop-ty-test.true (sym c.ty-item.is)) (sym c.in-Ok-keep.ensures.ok) read;
    }

pub returns : goal.returns
returns c =
    let all = take_all c.args.tys.now c.loop-ty.ty-index (omega (arith, c.loop-ty-test.false)) in
    record {
      reads = subst (λ F. ReadsFormat F c.args.bytes.now c.args.at.now c.loop-ty.at (Ok c.loop-ty.vals.items)) (values_each true c.args.types.now c.args.tys.now)
          (read_done (for_each (typed true c.args.types.now) c.args.tys.now) c.args.bytes.now c.args.at.now c.loop-ty.at c.loop-ty.vals.items (subst (λ is. IsReadSoFar (for_each (typed true c.args.types.now) is) c.args.bytes.now c.args.at.now c.loop-ty.at c.loop-ty.vals.items) all c.loop-ty.invariant.read));
    }

pub returns-in-Err : goal.returns-in-Err
returns-in-Err c =
    let split = split_at c.args.tys.now c.loop-ty.ty-index c.ty-item.result c.loop-ty-test.true (sym c.ty-item.is) in
    let stop = each_stop (typed true c.args.types.now) c.args.bytes.now c.args.at.now c.loop-ty.at c.read_value.new.at c.read_value.new.at (take c.loop-ty.ty-index c.args.tys.now) c.ty-item.result
    (drop (suc c.loop-ty.ty-index) c.args.tys.now) c.loop-ty.vals.items c.in-Err.error c.loop-ty.invariant.read c.in-Err.ensures.reads in
    record {
      reads = subst (λ F. ReadsFormat F c.args.bytes.now c.args.at.now c.read_value.new.at (Err c.in-Err.error)) (values_each true c.args.types.now c.args.tys.now)
          (subst (λ is. ReadsFormat (for_each (typed true c.args.types.now) is) c.args.bytes.now c.args.at.now c.read_value.new.at (Err c.in-Err.error)) split stop);
    }
