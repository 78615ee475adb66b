use Rattle.std.proofs.Common.{arith, false, refl}
use Rattle.canon_value_parts.proofs.StoreSteps.{scalar_type_bytes}
use Rattle.canon_image_parts.proofs.Writing.{scalar_written}
use Rattle.canon_image_parts.specs.Written.{sink}
use Rattle.canon_image_parts.proofs.write.write_scalar.Goals as goal

pub put_number-requires : goal.put_number-requires
put_number-requires c =
    let (k, t, e, has, is, least) = c.requires.word in
    record { few = omega (arith, (c.canonical_abi.ensures.size false), scalar_type_bytes c.args.types.now c.args.ty.now (k, e)) }

pub returns-in-Ok : goal.returns-in-Ok
returns-in-Ok c =
    let a = c.args in
    record {
      writes = λ xs. scalar_written a.types.now (sink a.bytes.now.items xs)
          (sink c.put_number.new.bytes.items xs) a.ty.now a.value.now a.word c.canonical_abi.result.now.size32 a.place c.saturating_add.result (c.canonical_abi.ensures.size false) c.requires.word
          (c.in-Ok.ensures.ok, refl)
          c.saturating_add.ensures;
    }
