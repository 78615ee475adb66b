-- The words of values with parts.
use Rattle.std.proofs.Common.{◌≡◌, ◌≤◌, ◌<◌, ◌+◌, ◌*◌, None, Option, Some, arith, subst, ℕ}
use Rattle.canon_model.specs.Layout.{flat, members_flat, payload_shape}
use Rattle.canon_model.specs.Shape.{ListKind, Members, Name, Shape, case_for, fixed, list, member, no_cases, option_of, result_of, string}
use Rattle.canon_types.specs.Instance.{Instance}
use Rattle.canon_types.specs.Table.{shape_of}
use Rattle.canon_types.specs.declared.types.InterfaceType.{InterfaceType}
use Rattle.canon_types.specs.declared.types.InterfaceType.TheVariants as ty
use Rattle.canon_typed.specs.Types.{IsHandleType}

pub lift_text_words : (s : Shape) (at n : ℕ) → s ≡ string → at + flat s ≤ n → at + 2 ≤ n
unfolding flat
lift_text_words s at n is h = subst (λ (z : Shape). at + flat z ≤ n) is h

pub lift_list_words : (s u : Shape) (k : ListKind) (at n : ℕ) → s ≡ list k u → at + flat s ≤ n → at + 2 ≤ n
unfolding flat
lift_list_words s u k at n is h = subst (λ (z : Shape). at + flat z ≤ n) is h

pub lift_handle_words : (t : Instance) (type : InterfaceType) (at n : ℕ) → IsHandleType t type → at + flat (shape_of t.types type) ≤ n → at < n
unfolding flat
lift_handle_words t (ty.Own r) at n f h = omega (arith, h)
lift_handle_words t (ty.Borrow r) at n f h = omega (arith, h)
lift_handle_words t _ at n f h = absurd f

pub option_words : (s u : Shape) (at n : ℕ) → s ≡ option_of u → at + flat s ≤ n → at + 1 + flat u ≤ n
unfolding flat
option_words s u at n is h =
    let there : at + flat (option_of u) ≤ n = subst (λ (z : Shape). at + flat z ≤ n) is h in
    omega (arith, there)

module _ (at n : ℕ) where
  ok_fits : (good bad : Option Shape) → at + flat (result_of good bad) ≤ n → at + 1 + flat (payload_shape (case_for good no_cases) 0) ≤ n
  unfolding flat
  ok_fits None None h = omega (arith, h)
  ok_fits None (Some u) h = omega (arith, h)
  ok_fits (Some s) None h = omega (arith, h)
  ok_fits (Some s) (Some u) h = omega (arith, h)

  error_fits : (good bad : Option Shape) → at + flat (result_of good bad) ≤ n → at + 1 + flat (payload_shape (case_for bad no_cases) 0) ≤ n
  unfolding flat
  error_fits None None h = omega (arith, h)
  error_fits None (Some u) h = omega (arith, h)
  error_fits (Some s) None h = omega (arith, h)
  error_fits (Some s) (Some u) h = omega (arith, h)

  module _ (s : Shape) (good bad : Option Shape) (is : s ≡ result_of good bad) (h : at + flat s ≤ n) where
    whole : at + flat (result_of good bad) ≤ n
    whole = subst (λ (z : Shape). at + flat z ≤ n) is h

    pub ok_words : at + 1 + flat (payload_shape (case_for good no_cases) 0) ≤ n
    ok_words = ok_fits good bad whole

    pub error_words : at + 1 + flat (payload_shape (case_for bad no_cases) 0) ≤ n
    error_words = error_fits good bad whole

pub lift_fixed_words : (s u : Shape) (k at n : ℕ) → s ≡ fixed k u → at + flat s ≤ n → at + k * flat u ≤ n
unfolding flat
lift_fixed_words s u k at n is h = subst (λ (z : Shape). at + flat z ≤ n) is h

pub member_words : (ms : Members) (name : Name) (s : Shape) (more : Members) (at n : ℕ) → ms ≡ member name s more → at + members_flat ms ≤ n → at + flat s + members_flat more ≤ n
unfolding flat
member_words ms name s more at n is h =
    let there : at + members_flat (member name s more) ≤ n = subst (λ z. at + members_flat z ≤ n) is h in
    omega (arith, there)
