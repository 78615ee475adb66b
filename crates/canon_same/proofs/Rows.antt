-- Rows of members and of payloads, from a place on.
use Rattle.std.proofs.Common.{◌≡◌, ◌≤◌, ◌<◌, ◌+◌, ◌↔◌, ◌∙◌, Bool, IsTrue, List, None, Option, Some, [], ap, arith, drop, get_or, length, refl, string_bytes, subst, sym, ℕ}
use Rattle.canon_model.specs.Same.{Same, SameCases, SameMembers}
use Rattle.canon_model.specs.Shape.{Shape, no_cases, no_members}
use Rattle.canon_types.proofs.Measures.{count_members}
use Rattle.canon_types.specs.Depth.{deepest_case}
use Rattle.canon_types.specs.Keeps.{field_members}
use Rattle.canon_types.specs.Laid.{unnamed_cases}
use Rattle.canon_types.specs.Table.{TypeTable, members_of, payload_in, shape_in, shape_of}
use Rattle.canon_types.specs.declared.types.InterfaceType.{InterfaceType}
use Rattle.canon_types.specs.declared.types.RecordField.{RecordField}
use Rattle.canon_plan.proofs.Flats.{payload_depth as part_depth}
use Rattle.canon_plan.proofs.Lookups.{count_fields, drop_all, drop_at, field_at, member_at}
use Rattle.canon_same.specs.Same.{SamePayload}
use Rattle.canon_same.proofs.Steps.{along, at_other, case_step, cases_count, member_step, members_count, depth_of_payload, through, unnamed_long}

module _ (same : ℕ → ℕ → Type 0) (t u : TypeTable) where
  -- ---- fields

  pub fields_at : (xs ys : List RecordField) (k : ℕ) (x y : RecordField) → x ≡ get_or xs k x → y ≡ get_or ys k y → k < length xs → k < length ys
      → SameMembers same (field_members t (drop k xs)) (field_members u (drop k ys))
      ↔ (((string_bytes x.name ≡ string_bytes y.name) × Same same (shape_of t x.ty) (shape_of u y.ty)) × SameMembers same (field_members t (drop (k + 1) xs)) (field_members u (drop (k + 1) ys)))
  fields_at xs ys k x y e f h g = along (SameMembers same) _ _ _ _ _ (field_at t xs k x x e h) (field_at u ys k y y f g) (member_step same _ _ _ _ _ _)

  pub fields_end : (xs ys : List RecordField) (k : ℕ) → k ≡ length xs → k ≡ length ys → SameMembers same (field_members t (drop k xs)) (field_members u (drop k ys))
  fields_end xs ys k e f = (along (SameMembers same) _ _ _ no_members no_members (ap (field_members t) (drop_all xs k e)) (ap (field_members u) (drop_all ys k f)) (λ h. h, λ h. h)).1 refl

  pub fields_long : (xs ys : List RecordField) → SameMembers same (field_members t xs) (field_members u ys) → length xs ≡ length ys
  fields_long xs ys h = sym (count_fields t xs) ∙ sym (members_count same (field_members t xs) (field_members u ys) h) ∙ count_fields u ys

  -- ---- members of tuples

  pub members_at : (xs ys : List InterfaceType) (k : ℕ) (x y : InterfaceType) → x ≡ get_or xs k x → y ≡ get_or ys k y → k < length xs → k < length ys
      → SameMembers same (members_of t (drop k xs)) (members_of u (drop k ys))
      ↔ (Same same (shape_of t x) (shape_of u y) × SameMembers same (members_of t (drop (k + 1) xs)) (members_of u (drop (k + 1) ys)))
  members_at xs ys k x y e f h g =
      through (along (SameMembers same) _ _ _ _ _ (member_at t xs k x x e h) (member_at u ys k y y f g) (member_step same _ _ _ _ _ _))
      (λ s. (s.0.1, s.1), λ s. ((refl, s.0), s.1))

  pub members_end : (xs ys : List InterfaceType) (k : ℕ) → k ≡ length xs → k ≡ length ys → SameMembers same (members_of t (drop k xs)) (members_of u (drop k ys))
  members_end xs ys k e f = (along (SameMembers same) _ _ _ no_members no_members (ap (members_of t) (drop_all xs k e)) (ap (members_of u) (drop_all ys k f)) (λ h. h, λ h. h)).1 refl

  pub members_long : (xs ys : List InterfaceType) → SameMembers same (members_of t xs) (members_of u ys) → length xs ≡ length ys
  members_long xs ys h = sym (count_members t xs) ∙ sym (members_count same (members_of t xs) (members_of u ys) h) ∙ count_members u ys

-- ---- payloads

module _ (same : ℕ → ℕ → Type 0) (known other : List Shape) where
  pub payloads_at : (xs ys : List (Option InterfaceType)) (k : ℕ) (x y : Option InterfaceType) → x ≡ get_or xs k x → y ≡ get_or ys k y → k < length xs → k < length ys
      → SameCases same (unnamed_cases known (drop k xs)) (unnamed_cases other (drop k ys))
      ↔ (SamePayload same (payload_in known x) (payload_in other y) × SameCases same (unnamed_cases known (drop (k + 1) xs)) (unnamed_cases other (drop (k + 1) ys)))
  payloads_at xs ys k x y e f h g =
      through (along (SameCases same) _ _ _ _ _ (ap (unnamed_cases known) (drop_at xs k x x e h)) (ap (unnamed_cases other) (drop_at ys k y y f g)) (case_step same [] [] (payload_in known x) (payload_in other y) _ _))
      (λ s. (s.0.1, s.1), λ s. ((refl, s.0), s.1))

  pub payloads_end : (xs ys : List (Option InterfaceType)) (k : ℕ) → k ≡ length xs → k ≡ length ys → SameCases same (unnamed_cases known (drop k xs)) (unnamed_cases other (drop k ys))
  payloads_end xs ys k e f = (along (SameCases same) _ _ _ no_cases no_cases (ap (unnamed_cases known) (drop_all xs k e)) (ap (unnamed_cases other) (drop_all ys k f)) (λ h. h, λ h. h)).1 refl

  pub payloads_long : (xs ys : List (Option InterfaceType)) → SameCases same (unnamed_cases known xs) (unnamed_cases other ys) → length xs ≡ length ys
  payloads_long xs ys h = sym (unnamed_long known xs) ∙ sym (cases_count same (unnamed_cases known xs) (unnamed_cases other ys) h) ∙ unnamed_long other ys

  pub some_payloads : (p q : Option InterfaceType) (x y : InterfaceType) (r : Bool) → p ≡ Some x → q ≡ Some y → IsTrue r ↔ Same same (shape_in known x) (shape_in other y)
      → IsTrue r ↔ SamePayload same (payload_in known p) (payload_in other q)
  some_payloads p q x y r e f h = at_other (λ o. SamePayload same (payload_in known o) (payload_in other q)) _ _ _ e (at_other (λ o. SamePayload same (payload_in known (Some x)) (payload_in other o)) _ _ _ f h)

  pub no_payloads : (p q : Option InterfaceType) → p ≡ None → q ≡ None → SamePayload same (payload_in known p) (payload_in other q)
  no_payloads p q e f = subst (λ o. SamePayload same (payload_in known o) (payload_in other q)) (sym e) (subst (λ o. SamePayload same (payload_in known None) (payload_in other o)) (sym f) tt)

  pub first_alone : (p q : Option InterfaceType) (x : InterfaceType) → p ≡ Some x → q ≡ None → SamePayload same (payload_in known p) (payload_in other q) → ⊥
  first_alone p q x e f h = subst (λ o. SamePayload same (payload_in known (Some x)) (payload_in other o)) f (subst (λ o. SamePayload same (payload_in known o) (payload_in other q)) e h)

  pub second_alone : (p q : Option InterfaceType) (y : InterfaceType) → p ≡ None → q ≡ Some y → SamePayload same (payload_in known p) (payload_in other q) → ⊥
  second_alone p q y e f h = subst (λ o. SamePayload same (payload_in known None) (payload_in other o)) f (subst (λ o. SamePayload same (payload_in known o) (payload_in other q)) e h)

-- a payload is no deeper than the deepest
pub payload_falls : (known : List Shape) (ps : List (Option InterfaceType)) (k : ℕ) (p : Option InterfaceType) → p ≡ get_or ps k p → k < length ps → depth_of_payload known p ≤ deepest_case (unnamed_cases known ps)
payload_falls known ps k None e lt = omega arith
payload_falls known ps k (Some type) e lt = part_depth known ps k (Some type) type lt (sym e)
