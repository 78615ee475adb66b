-- Members in memory, as a value of each shape has them.
use Rattle.std.proofs.Common.{◌≡◌, ◌≤◌, ◌<◌, ◌+◌, ◌*◌, ◌%◌, ◌∙◌, List, ap, ap₂, arith, false, inl, inr, length, refl, subst, suc, suc-mul, sym, true, zero, ℕ}
use Rattle.std.proofs.Math.Nat.{zero-mod}
use Rattle.std.proofs.lemmas.Nat.Gcd.{dvd_of_mod-eq-zero}
use Rattle.std.specs.Int.{◌∣◌}
use Rattle.canon_lowering.proofs.Copying.{begins-same, copies_stored, ends-same, next_multiple}
use Rattle.canon_lowering.specs.Copies.{copies}
use Rattle.canon_lowering.specs.Storing.{narrow}
use Rattle.canon_model.proofs.Layouts.{alignment, members_alignment}
use Rattle.canon_model.specs.Cost.{cost, members_cost, names_length, val_cost}
use Rattle.canon_model.specs.Layout.{align, begins, ends, members_align, size}
use Rattle.canon_model.specs.Leaves.{members_reach_leaves, reach_leaves}
use Rattle.canon_model.specs.Memory.{Inside}
use Rattle.canon_model.specs.Reach.{At, Kind, MemberFault, StoredFault, members_reach, reach_cost}
use Rattle.canon_model.specs.Shape.{Members, Shape, borrow, fixed, flags, list, member_count, of_fields, of_places, own, product, scalar, string, variant}
use Rattle.canon_model.specs.Text.{Encoding}
use Rattle.canon_model.specs.Tree.{Trees, no_trees, sum_of, tree, tree_count}
use Rattle.canon_context.specs.Told.{Exactly, LiftBlames, place_of}
use Rattle.canon_value_parts.specs.Loads.{AreCharged, IsLoaded, charged_reach}
use Rattle.canon_value_parts.specs.Plan.{ArePartsLoaded, IsRebuilt, parts_of, whole_tree}
use Rattle.canon_plan.specs.Plan.{Unnamed, LiesAs}
use Rattle.canon_context.specs.declared.fault.Fault.{Fault}
use Rattle.canon_val.specs.declared.val.Val.{Val}
use Rattle.canon_context.proofs.Told.{blamed_by}
use Rattle.canon_value_parts.proofs.Loading.{aligned_part, RowFault, row_reach}
use Rattle.canon_plan.proofs.Lookups.{copies_count}
use Rattle.canon_value_parts.proofs.LeavesAt.{fixed_leaves}
use Rattle.canon_value_parts.proofs.Values.{have_count}

-- ---- a row, as members of one shape

pub copies_nameless : (n : ℕ) (s : Shape) → names_length (copies n s) ≡ 0
copies_nameless zero s = refl
copies_nameless (suc n) s = omega (arith, copies_nameless n s)

pub copies_cost : (n : ℕ) (s : Shape) (ts : Trees) → tree_count ts ≡ n → members_cost (copies n s) ts ≡ sum_of (λ t. cost s t) ts
unfolding cost
copies_cost zero s no_trees e = refl
copies_cost zero s (tree t ts) e = absurd (omega arith)
copies_cost (suc n) s no_trees e = absurd (omega arith)
copies_cost (suc n) s (tree t ts) e = ap (λ k. cost s t + k) (copies_cost n s ts (omega (arith, e)))

copies_align : (n : ℕ) (s : Shape) → 1 ≤ align false s → members_align false (copies n s) ≤ align false s
unfolding align
copies_align zero s h = h
copies_align (suc n) s h = omega (arith, copies_align n s h)

no_offset : (a : ℕ) → a ∣ 0
no_offset a = dvd_of_mod-eq-zero a (zero-mod _)

module _ (enc : Encoding) (bytes : List ℕ) where
  copies_reach : (n o a b : ℕ) (s : Shape) → align false s ∣ o → a + o ≡ b → members_reach enc (narrow bytes) (copies n s) o a ≡ row_reach enc bytes s b n
  unfolding reach_cost
  copies_reach zero o a b s h is = refl
  copies_reach (suc n) o a b s h is =
      let here : a + begins false o s ≡ b = ap (λ k. a + k) (begins-same false o s h) ∙ is in
      ap₂ (λ (x y : ℕ). x + y) (ap (λ k. reach_cost enc (narrow bytes) s k) here) (copies_reach n (ends false o s) a (b + size false s) s (next_multiple false o s h) (omega (arith, ends-same false o s h, is)))

  copies_blame : (n o a b : ℕ) (s : Shape) (k : Kind) (x : At) → align false s ∣ o → a + o ≡ b → MemberFault enc (narrow bytes) (copies n s) o a k x → RowFault enc bytes s b n k x
  copies_blame zero o a b s k x h is f = absurd f
  copies_blame (suc n) o a b s k x h is (inl f) =
      let here : a + begins false o s ≡ b + 0 * size false s = omega (arith, begins-same false o s h, is) in
      (0, omega arith, subst (λ p. StoredFault enc (narrow bytes) s p k x) here f)
  copies_blame (suc n) o a b s k x h is (inr f) =
      let (i, lt, g) = copies_blame n (ends false o s) a (b + size false s) s k x (next_multiple false o s h) (omega (arith, ends-same false o s h, is)) f in
      let there : b + size false s + i * size false s ≡ b + suc i * size false s = omega (arith, suc-mul i (size false s)) in
      (suc i, omega (arith, lt), subst (λ p. StoredFault enc (narrow bytes) s p k x) there g)

  module _ (n p : ℕ) (s : Shape) where
    pub row_low : charged_reach enc (narrow bytes) (copies n s) 0 p ≡ row_reach enc bytes s p n
    row_low = omega (arith, copies_nameless n s, copies_reach n 0 p p s (no_offset (align false s)) (omega arith))

    pub row_blame : (k : Kind) (x : At) → MemberFault enc (narrow bytes) (copies n s) 0 p k x → RowFault enc bytes s p n k x
    row_blame k x f = copies_blame n 0 p p s k x (no_offset (align false s)) (omega arith) f

    pub row_aligned : p % align false s ≡ 0 → p % members_align false (copies n s) ≡ 0
    row_aligned e = aligned_part p (members_align false (copies n s)) (align false s) (members_alignment false (copies n s)) (alignment false s) (copies_align n s (omega (arith, (alignment false s)))) e

-- ---- what members make up

-- Of a value of the shape at a, these members: their faults are its own, their charges and those for their number are its own.
pub record Weighs (enc : Encoding) (bytes : List ℕ) (s : Shape) (these : Members) (a : ℕ) : Type 0 where
  pub low : (now : ℕ) → now < member_count these * val_cost + charged_reach enc (narrow bytes) these 0 a → now < reach_cost enc (narrow bytes) s a
  pub blames : (k : Kind) (x : At) → MemberFault enc (narrow bytes) these 0 a k x → StoredFault enc (narrow bytes) s a k x
  pub loaded : a + size false s ≤ length bytes → (before mid after : ℕ) (vs : List Val) → before ≡ mid + member_count these * val_cost → AreCharged enc (narrow bytes) these 0 a mid after vs
      → ArePartsLoaded enc (narrow bytes) s a before after vs
  pub aligned : a % align false s ≡ 0 → a % members_align false these ≡ 0
  pub leaves : reach_leaves (narrow bytes) s a ≡ members_reach_leaves (narrow bytes) these 0 a

pub weighs : (enc : Encoding) (bytes : List ℕ) (s : Shape) (these : Members) (a : ℕ) → LiesAs s these → Unnamed s → Weighs enc bytes s these a
unfolding reach_cost cost size align reach_leaves
weighs enc bytes (product of_fields ms) these a e none = subst (λ (x : Members). Weighs enc bytes (product of_fields ms) x a) (sym e) (record {
  low = λ now h. omega (arith, h);
  blames = λ k x f. f;
  loaded = λ inside before mid after vs charged (ts, stored, have, spent). (ts, (inside, (ts, refl, stored)), have, omega (arith, charged, spent));
  aligned = λ h. h;
  leaves = refl;
})
weighs enc bytes (product of_places ms) these a e none = subst (λ (x : Members). Weighs enc bytes (product of_places ms) x a) (sym e) (record {
  low = λ now h. omega (arith, h, none);
  blames = λ k x f. f;
  loaded = λ inside before mid after vs charged (ts, stored, have, spent). (ts, (inside, (ts, refl, stored)), have, omega (arith, charged, spent, none));
  aligned = λ h. h;
  leaves = refl;
})
weighs enc bytes (fixed n s) these a e none = subst (λ (x : Members). Weighs enc bytes (fixed n s) x a) (sym e) (record {
  low = λ now h. omega (arith, h, row_low enc bytes n a s, copies_count n s);
  blames = λ k x f. row_blame enc bytes n a s k x f;
  loaded = λ inside before mid after vs charged (ts, stored, have, spent).
      let (each, count) = copies_stored (Inside (narrow bytes)) false enc (narrow bytes) n 0 s a a ts (no_offset (align false s)) (omega arith) stored in
      (ts, (inside, record { trees = ts; is = refl; count = count; each = each }), have, omega (arith, charged, spent, copies_nameless n s, copies_cost n s ts count, copies_count n s));
  aligned = row_aligned enc bytes n a s;
  leaves = fixed_leaves bytes n a s;
})
weighs enc bytes (scalar k) these a e none = absurd e
weighs enc bytes string these a e none = absurd e
weighs enc bytes (own r) these a e none = absurd e
weighs enc bytes (borrow r) these a e none = absurd e
weighs enc bytes (list k s) these a e none = absurd e
weighs enc bytes (variant k cs) these a e none = absurd e
weighs enc bytes (flags names) these a e none = absurd e

-- ---- and its value

pub whole_loaded : (enc : Encoding) (bytes : List ℕ) (s : Shape) (a before after : ℕ) (vs : List Val) (v : Val) → ArePartsLoaded enc (narrow bytes) s a before after vs → IsRebuilt s vs v → IsLoaded enc (narrow bytes) s a before after v
whole_loaded enc bytes s a before after vs v (ts, rep, have, spent) made = (whole_tree s ts, rep, made ts have, spent)

pub parts_refused : (enc : Encoding) (bytes : List ℕ) (s : Shape) (these : Members) (a before mid : ℕ) → Weighs enc bytes s these a → before ≡ mid + member_count these * val_cost → (e : Fault)
    → LiftBlames (Exactly (MemberFault enc (narrow bytes) these 0 a)) (mid < charged_reach enc (narrow bytes) these 0 a) e → LiftBlames (Exactly (StoredFault enc (narrow bytes) s a)) (before < reach_cost enc (narrow bytes) s a) e
parts_refused enc bytes s these a before mid w charged e h =
    blamed_by (Exactly (MemberFault enc (narrow bytes) these 0 a)) (Exactly (StoredFault enc (narrow bytes) s a)) (mid < charged_reach enc (narrow bytes) these 0 a) (before < reach_cost enc (narrow bytes) s a)
    (λ k x f. w.blames k (place_of x) f) (λ (low : mid < charged_reach enc (narrow bytes) these 0 a). w.low before (omega (arith, low, charged))) e h

pub parts_count : (enc : Encoding) (bytes : List ℕ) (s : Shape) (a before after : ℕ) (vs : List Val) → ArePartsLoaded enc (narrow bytes) s a before after vs → length vs ≡ member_count (parts_of s (length vs))
parts_count enc bytes s a before after vs (ts, rep, have, spent) = have_count true (parts_of s (length vs)) vs ts have

-- where a text stands, 8 bytes are inside
pub text_room : (bytes : List ℕ) (s : Shape) (a : ℕ) → s ≡ string → a + size false s ≤ length bytes → a + 8 ≤ length bytes
unfolding size
text_room bytes s a e h = subst (λ x. a + size false x ≤ length bytes) e h
