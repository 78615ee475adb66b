use Rattle.std.proofs.Common.{Err, Ok, arith, false, subst, sym}
use Rattle.canon_recording_parts.specs.Written.{WritesFormat}
use Rattle.canon_recording_parts.proofs.Writing.{none_added}
use Rattle.canon_recording.proofs.Values.{given_at, typed, typed_sound, values_each}
use Rattle.canon_recording.proofs.Rows.{some_added, some_all, some_long}
use Rattle.canon_recording.proofs.encoding.put_values.Goals as goal

pub loop-k-init : goal.loop-k-init
loop-k-init c = record { added = none_added c.args.bytes.now.items }

pub put_value-requires-clause-no_handle : goal.put_value-requires-clause-no_handle
put_value-requires-clause-no_handle c = (given_at c.args.types.now c.args.tys.now c.args.vals.now c.loop-k.k c.index-tys-k.result c.index-vals-k.result c.loop-k-test.true (sym c.index-tys-k.is) (sym c.index-vals-k.is) c.requires.known c.requires.given).no_handle

pub put_value-requires-clause-of : goal.put_value-requires-clause-of
put_value-requires-clause-of c = (given_at c.args.types.now c.args.tys.now c.args.vals.now c.loop-k.k c.index-tys-k.result c.index-vals-k.result c.loop-k-test.true (sym c.index-tys-k.is) (sym c.index-vals-k.is) c.requires.known c.requires.given).of

pub loop-k-preserved : goal.loop-k-preserved
loop-k-preserved c =
    let a = c.args in
    record { added = some_added (typed false c.args.types.now) (typed_sound a.types.now) a.tys.now a.vals.now c.args.bytes.now.items c.loop-k.bytes.items c.put_value.new.bytes.items c.loop-k.k c.index-tys-k.result c.index-vals-k.result c.loop-k-test.true c.requires.count (sym c.index-tys-k.is) (sym c.index-vals-k.is) c.loop-k.invariant.added c.in-Ok.ensures.writes }

pub returns-in-Err : goal.returns-in-Err
returns-in-Err c =
    let a = c.args in
    record {
      writes = subst (λ F. WritesFormat F a.vals.now c.args.bytes.now.items c.put_value.new.bytes.items (Err c.in-Err.error)) (values_each false a.types.now a.tys.now)
          (some_long (typed false c.args.types.now) (typed_sound a.types.now) a.tys.now a.vals.now c.args.bytes.now.items c.loop-k.bytes.items c.put_value.new.bytes.items c.put_value.new.bytes.items c.loop-k.k c.index-tys-k.result c.index-vals-k.result c.in-Err.error c.loop-k-test.true c.requires.count (sym c.index-tys-k.is) (sym c.index-vals-k.is) c.loop-k.invariant.added c.in-Err.ensures.writes);
    }

pub returns : goal.returns
returns c =
    let a = c.args in
    record {
      writes = subst (λ F. WritesFormat F a.vals.now c.args.bytes.now.items c.loop-k.bytes.items (Ok tt)) (values_each false a.types.now a.tys.now)
          (some_all (typed false c.args.types.now) (typed_sound a.types.now) a.tys.now a.vals.now c.args.bytes.now.items c.loop-k.bytes.items c.loop-k.k (omega (
            arith,
            c.loop-k-test.false,
            c.loop-k.auto.k-end,
          )) c.requires.count c.loop-k.invariant.added);
    }
