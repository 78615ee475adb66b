use Rattle.std.proofs.Common.{◌≡◌, ℕ, refl}
use Rattle.canon_model.specs.Shape.{u64}
use Rattle.canon_types.specs.declared.types.InterfaceType.TheVariants as ty
use Rattle.canon_lift_parts.proofs.IntegerRows.{held_there}
use Rattle.canon_lift.proofs.IntegerRows.{integers_inside}
use Rattle.canon_lift.proofs.integers.WasmList+u64.to_le_vec.Goals as goal

pub returns-clause-items : goal.returns-clause-items
returns-clause-items c = held_there (λ (x : ℕ) n. x ≡ n) 8 c.memory.result.now c.args.view.now.bytes.now c.args.self.now.pointer c.numbers.result c.memory.ensures c.numbers.ensures.held

pub numbers-requires : goal.numbers-requires
numbers-requires c = record { inside = integers_inside ty.U64 u64 (λ t. refl) c.args.view.now c.args.self.now c.memory.result.now c.memory.ensures c.requires }
