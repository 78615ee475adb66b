-- How resources fail where handles are wanted.
use Rattle.std.proofs.Common.{◌≡◌, ℕ}
use Rattle.canon_model.specs.Shape.{borrow, own}
use Rattle.canon_resources.specs.Held.{Any}
use Rattle.canon_value_parts.specs.Fails.{Failure, Fails}
use Rattle.canon_value_parts.specs.Fails.{field_name, mismatch, overflow, payload_expected, payload_not_expected, too_long, unknown_case, unknown_flag, wrong_length}
use Rattle.canon_val.specs.declared.val.Val.{Val}
use Rattle.canon_val.specs.declared.val.Val.TheVariants as val

pub own_fails : (how : Failure) (r : ℕ) (v : Val) (x : Any) → Fails how (own r) v → v ≡ val.Resource x → ⊥
own_fails mismatch r v x f e = f x e
own_fails wrong_length r v x f e = f
own_fails field_name r v x f e = f
own_fails unknown_case r v x f e = f
own_fails unknown_flag r v x f e = f
own_fails payload_expected r v x f e = f
own_fails payload_not_expected r v x f e = f
own_fails (too_long enc n) r v x f e = f
own_fails (overflow n) r v x f e = f

pub borrow_fails : (how : Failure) (r : ℕ) (v : Val) (x : Any) → Fails how (borrow r) v → v ≡ val.Resource x → ⊥
borrow_fails mismatch r v x f e = f x e
borrow_fails wrong_length r v x f e = f
borrow_fails field_name r v x f e = f
borrow_fails unknown_case r v x f e = f
borrow_fails unknown_flag r v x f e = f
borrow_fails payload_expected r v x f e = f
borrow_fails payload_not_expected r v x f e = f
borrow_fails (too_long enc n) r v x f e = f
borrow_fails (overflow n) r v x f e = f
