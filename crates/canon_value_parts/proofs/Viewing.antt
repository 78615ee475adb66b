-- What a view says to a walk: room, depth, and members that reach no handle.
use Rattle.std.proofs.Common.{◌≡◌, ◌≤◌, ◌<◌, ◌+◌, ◌*◌, ◌∙◌, List, ap, arith, false, length, refl, subst, sym, ℕ}
use Rattle.std.proofs.Math.Nat.{zero-mod}
use Rattle.std.proofs.lemmas.Nat.Gcd.{dvd_of_mod-eq-zero}
use Rattle.canon_lowering.proofs.Copying.{copies_end, copies_flat}
use Rattle.canon_lowering.specs.Copies.{copies}
use Rattle.canon_model.proofs.Layouts.{members_end-le-size}
use Rattle.canon_model.specs.Layout.{align, flat, members_end, members_flat, size}
use Rattle.canon_model.specs.Shape.{Members, Shape, borrow, fixed, flags, list, member_count, own, product, scalar, string, variant}
use Rattle.canon_types.specs.Depth.{deepest, depth}
use Rattle.canon_plan.specs.NoHandle.{HaveNoHandle, HasNoHandle}
use Rattle.canon_types.specs.Table.{TypeTable, shape_of}
use Rattle.canon_types.specs.declared.types.InterfaceType.TheVariants as ty
use Rattle.canon_value_parts.specs.Elements.{by_turns}
use Rattle.canon_value_parts.specs.View.{HaveKnownTypes, viewed_names, viewed_shapes, viewed_values}
use Rattle.canon_plan.specs.Plan.{LiesAs}
use Rattle.canon_value_parts.specs.declared.members.Members.{Members as View}
use Rattle.canon_value_parts.specs.declared.members.Members.TheVariants as members
use Rattle.canon_value_parts.proofs.Lookups.{count_values, value_count_names, count_no_names}
use Rattle.canon_value_parts.proofs.PairRows.{count_turns}
use Rattle.canon_plan.proofs.Pairs.{pair_slots}
use Rattle.canon_plan.proofs.Lookups.{copies_count}
use Rattle.canon_value_parts.proofs.Walks.{copies_no_handle, copies_deepest}

-- as many names as values
pub names_count : (ms : View) → length (viewed_names ms) ≡ length (viewed_values ms)
names_count (members.Fields i values) = value_count_names values.now ∙ sym (count_values values.now)
names_count (members.Places i values) = count_no_names values.now
names_count (members.Items type values) = count_no_names values.now
names_count members.Empty = refl
names_count (members.Single type value) = refl
names_count (members.Pairs i values) = count_no_names (by_turns values.now)

-- as many members as values
pub values_count : (t : TypeTable) (ms : View) → HaveKnownTypes t ms → length (viewed_values ms) ≡ member_count (viewed_shapes t ms)
values_count t (members.Fields i values) (known, count) = count_values values.now ∙ count
values_count t (members.Places i values) (known, count) = count
values_count t (members.Items type values) known = sym (copies_count (length values.now) (shape_of t type))
values_count t members.Empty known = refl
values_count t (members.Single type value) known = refl
values_count t (members.Pairs i values) (known, is, few) = omega (arith, count_turns values.now, pair_slots (shape_of t (ty.Map i)) (length values.now) is)

copies_room : (n : ℕ) (s : Shape) → members_end false 0 (copies n s) ≡ n * size false s
copies_room n s = copies_end false n 0 s (dvd_of_mod-eq-zero (align false s) (zero-mod _)) ∙ omega arith

pub block_size : (n k p : ℕ) (s s2 : Shape) (bytes : List ℕ) → s2 ≡ s → n ≡ k → p + k * size false s ≤ length bytes → p + members_end false 0 (copies n s2) ≤ length bytes
block_size n k p s s2 bytes e count h = omega (arith, h, copies_room n s2, ap (λ (x : Shape). n * size false x) e, ap (λ (j : ℕ). j * size false s) count)

pub lies_room : (s : Shape) (ms : Members) → LiesAs s ms → members_end false 0 ms ≤ size false s
unfolding size
lies_room (product k ns) ms e = omega (arith, members_end-le-size false k ns, ap (members_end false 0) e)
lies_room (fixed n s) ms e = omega (arith, copies_room n s, ap (members_end false 0) e)
lies_room (scalar k) ms e = absurd e
lies_room string ms e = absurd e
lies_room (own r) ms e = absurd e
lies_room (borrow r) ms e = absurd e
lies_room (list k s) ms e = absurd e
lies_room (variant k cs) ms e = absurd e
lies_room (flags names) ms e = absurd e

pub lies_depth : (s : Shape) (ms : Members) → LiesAs s ms → 4 * deepest ms + 1 < 4 * depth s
lies_depth (product k ns) ms e = omega (arith, ap deepest e)
lies_depth (fixed n s) ms e = omega (arith, copies_deepest n s, ap deepest e)
lies_depth (scalar k) ms e = absurd e
lies_depth string ms e = absurd e
lies_depth (own r) ms e = absurd e
lies_depth (borrow r) ms e = absurd e
lies_depth (list k s) ms e = absurd e
lies_depth (variant k cs) ms e = absurd e
lies_depth (flags names) ms e = absurd e

pub lies_no_handle : (s : Shape) (ms : Members) → LiesAs s ms → HasNoHandle s → HaveNoHandle ms
lies_no_handle (product k ns) ms e h = subst HaveNoHandle (sym e) h
lies_no_handle (fixed n s) ms e h = subst HaveNoHandle (sym e) (copies_no_handle n s h)
lies_no_handle (scalar k) ms e h = absurd e
lies_no_handle string ms e h = absurd e
lies_no_handle (own r) ms e h = absurd e
lies_no_handle (borrow r) ms e h = absurd e
lies_no_handle (list k s) ms e h = absurd e
lies_no_handle (variant k cs) ms e h = absurd e
lies_no_handle (flags names) ms e h = absurd e

pub lies_words : (s : Shape) (ms : Members) → LiesAs s ms → members_flat ms ≡ flat s
unfolding flat
lies_words (product k ns) ms e = ap members_flat e
lies_words (fixed n s) ms e = ap members_flat e ∙ copies_flat n s
lies_words (scalar k) ms e = absurd e
lies_words string ms e = absurd e
lies_words (own r) ms e = absurd e
lies_words (borrow r) ms e = absurd e
lies_words (list k s) ms e = absurd e
lies_words (variant k cs) ms e = absurd e
lies_words (flags names) ms e = absurd e
