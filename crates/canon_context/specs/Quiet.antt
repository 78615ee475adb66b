-- Which types ask the guest for nothing: those that reach no text and no list. And which have no handles.
use Rattle.std.specs.Prelude.{◌≡◌, ◌||◌, Bool, IfErr, Result, false, true}
use Rattle.canon_lowering.specs.Lowering.{refused}
use Rattle.canon_model.specs.Shape.{Cases, Members, Shape, bare, borrow, fixed, flags, list, member, no_cases, no_members, own, payload, product, scalar, string, variant}
use Rattle.canon_context.specs.Lowers.{fault_ending}
use Rattle.canon_context.specs.declared.fault.Fault.{Fault}

abbrev mutual
  -- whether values of a type have blocks of their own: a text or a list is reached
  pub has_block : Shape → Bool
  has_block (scalar k) = false
  has_block string = true
  has_block (own r) = false
  has_block (borrow r) = false
  has_block (list k s) = true
  has_block (fixed n s) = has_block s
  has_block (product k ms) = have_block ms
  has_block (variant k cs) = cases_have_block cs
  has_block (flags names) = false

  pub have_block : Members → Bool
  have_block no_members = false
  have_block (member name s ms) = has_block s || have_block ms

  pub cases_have_block : Cases → Bool
  cases_have_block no_cases = false
  cases_have_block (bare name cs) = cases_have_block cs
  cases_have_block (payload name s cs) = has_block s || cases_have_block cs

abbrev mutual
  -- whether values of a type have handles: an own or a borrow is reached
  pub has_handle : Shape → Bool
  has_handle (scalar k) = false
  has_handle string = false
  has_handle (own r) = true
  has_handle (borrow r) = true
  has_handle (list k s) = has_handle s
  has_handle (fixed n s) = has_handle s
  has_handle (product k ms) = have_handle ms
  has_handle (variant k cs) = cases_have_handle cs
  has_handle (flags names) = false

  pub have_handle : Members → Bool
  have_handle no_members = false
  have_handle (member name s ms) = has_handle s || have_handle ms

  pub cases_have_handle : Cases → Bool
  cases_have_handle no_cases = false
  cases_have_handle (bare name cs) = cases_have_handle cs
  cases_have_handle (payload name s cs) = has_handle s || cases_have_handle cs

-- where there are none, nothing was asked: the same is there as before, and a refusal is for the value alone
abbrev pub Quiet : {T : Type 0} → Bool → Type 0 → Result T Fault → Type 0
Quiet blocks same result = blocks ≡ false → same × IfErr result (λ e. fault_ending e ≡ refused)
