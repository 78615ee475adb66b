use Rattle.std.proofs.Common.{◌≡◌, ℤ, refl}
use Rattle.std.specs.Int.{cast_signed, w16}
use Rattle.canon_model.specs.Shape.{s16}
use Rattle.canon_types.specs.declared.types.InterfaceType.TheVariants as ty
use Rattle.canon_lift_parts.proofs.IntegerRows.{held_there}
use Rattle.canon_lift.proofs.IntegerRows.{integers_inside}
use Rattle.canon_lift.proofs.integers.WasmList+i16.to_le_vec.Goals as goal

pub returns-clause-items : goal.returns-clause-items
returns-clause-items c = held_there (λ (x : ℤ) n. x ≡ cast_signed w16 n) 2 c.memory.result.now c.args.view.now.bytes.now c.args.self.now.pointer c.numbers.result c.memory.ensures c.numbers.ensures.held

pub numbers-requires : goal.numbers-requires
numbers-requires c = record { inside = integers_inside ty.S16 s16 (λ t. refl) c.args.view.now c.args.self.now c.memory.result.now c.memory.ensures c.requires }
