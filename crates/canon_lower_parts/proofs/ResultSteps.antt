-- A result, stored.
use Rattle.std.proofs.Common.{◌≡◌, ◌≤◌, ◌<◌, ◌+◌, ◌^◌, ◌∙◌, Bool, List, None, Ok, Option, Result, Some, ap, arith, false, length, refl, subst, suc, sym, true, zero, ℕ}
use Rattle.canon_context.proofs.Moves.{GuestLaws}
use Rattle.canon_context.specs.Core.{Parts, component_types}
use Rattle.canon_context.specs.declared.fault.Fault.{Fault}
use Rattle.canon_resources.specs.Parts.{Part}
use Rattle.canon_lowering.specs.Copies.{case_members}
use Rattle.canon_model.proofs.Layouts.{payloads_fit}
use Rattle.canon_model.specs.Layout.{payload_shape, size}
use Rattle.canon_model.specs.Shape.{Cases, Shape, case_count, case_for, no_cases, of_result, variant}
use Rattle.canon_model.specs.Tree.{Tree}
use Rattle.canon_types.specs.Depth.{variant_cases}
use Rattle.canon_types.specs.Instance.{Instance}
use Rattle.canon_types.specs.Table.{IsDefined, KnowsPayload, ResultType, TypeTable, all_shapes, payload_in, shape_of}
use Rattle.canon_types.specs.declared.types.InterfaceType.{InterfaceType}
use Rattle.canon_types.specs.declared.types.InterfaceType.TheVariants as ty
use Rattle.canon_typed.proofs.Layouts.{error_known, ok_known}
use Rattle.canon_typed.specs.Meaning.{CaseMeans}
use Rattle.canon_typed.specs.Types.{IsPayloadOf, IsResultOf}
use Rattle.canon_lower_parts.proofs.CaseSteps.{case_stores}
use Rattle.canon_lower_parts.proofs.MemberSteps.{members_nothing, members_one}
use Rattle.canon_lower_parts.specs.CasePuts.{IsCasePut, IsResultPut, PayloadTrees, part_gives, payload_type, pick, unless_unit}
use Rattle.canon_lower_parts.specs.Cases.{payload_members}
use Rattle.canon_lower_parts.specs.Gives.{case_shape, payload_gives}
use Rattle.canon_lower_parts.specs.Stores.{IsPut, TypedMembersStore, TypedStores}

-- ---- what a look-up gives

same_first : (a b c d : Option InterfaceType) → Some (ResultType a b) ≡ Some (ResultType c d) → a ≡ c
same_first a b c d e = cc

same_second : (a b c d : Option InterfaceType) → Some (ResultType a b) ≡ Some (ResultType c d) → b ≡ d
same_second a b c d e = cc

pick_known : (t : TypeTable) (d : ℕ) (a b : Option InterfaceType) → KnowsPayload t a → KnowsPayload t b → KnowsPayload t (pick d a b)
pick_known t zero a b h k = h
pick_known t (suc d) a b h k = k

pub result_put : {D G : Type 0} (unit : Bool) (F : Instance → InterfaceType → Type 0) (unit2 : Bool) (F2 : Instance → InterfaceType → Type 0) (a b : Parts D G) (t2 : TypeTable) (type : InterfaceType)
    (j : ℕ) (first second part : Option InterfaceType) (at d place : ℕ)
    → t2 ≡ component_types a → type ≡ ty.Result j → IsResultOf unit F unit2 F2 a.component.types type → IsDefined t2 (ty.Result j) (ResultType first second) → part ≡ pick d first second
    → IsCasePut a b (variant_cases (shape_of (component_types a) (ty.Result j))) at d place → IsResultPut unit F unit2 F2 a b type at d part place
result_put unit F unit2 F2 a b t2 type j first second part at d place e is fits defined picked put =
    let here : IsDefined (component_types a) (ty.Result j) (ResultType first second) = subst (λ (x : TypeTable). IsDefined x (ty.Result j) (ResultType first second)) e defined in
    let (ok, error, def, f, f2) = subst (IsResultOf unit F unit2 F2 a.component.types) is fits in
    subst (λ (x : InterfaceType). IsResultPut unit F unit2 F2 a b x at d part place) (sym is) (record {
      first = first;
      second = second;
      shape = here.shape;
      part = picked;
      known = subst (λ (o : Option InterfaceType). KnowsPayload (component_types a) o) (sym picked) (pick_known (component_types a) d first second (ok_known _ _ first second here) (error_known _ _ first second here));
      fits = subst (IsPayloadOf unit F a.component.types) (same_first ok error first second (sym def.definition ∙ here.definition)) f;
      fits2 = subst (IsPayloadOf unit2 F2 a.component.types) (same_second ok error first second (sym def.definition ∙ here.definition)) f2;
      put = put;
    })

-- ---- payloads

-- the payload of a case by its type
payload_as : (t : TypeTable) (unit : Bool) (F : Instance → InterfaceType → Type 0) (i : Instance) (p : Option InterfaceType) (cs : Cases) →
    IsPayloadOf unit F i p → (case_members (case_for (payload_in (all_shapes t) p) cs) 0 ≡ payload_members (unless_unit unit (payload_type t p))) ×
    (payload_shape (case_for (payload_in (all_shapes t) p) cs) 0 ≡ payload_type t p)
payload_as t true F i None cs h = (refl, refl)
payload_as t false F i (Some type) cs h = (refl, refl)
payload_as t true F i (Some type) cs h = absurd h
payload_as t false F i None cs h = absurd h

later_as : (t : TypeTable) (q : Option InterfaceType) (cs : Cases) (d : ℕ) → (case_members (case_for (payload_in (all_shapes t) q) cs) (suc d) ≡ case_members cs d)
    × (payload_shape (case_for (payload_in (all_shapes t) q) cs) (suc d) ≡ payload_shape cs d)
later_as t None cs d = (refl, refl)
later_as t (Some type) cs d = (refl, refl)

gives_as : {A : Type 0} (unit : Bool) (gives : Instance → Shape → A → List (List Part)) (d : ℕ) (i : Instance) (s : Shape) (x : A) → payload_gives unit gives d i s x ≡ part_gives unit (gives i (case_shape d s) x)
gives_as true gives d i s x = refl
gives_as false gives d i s x = refl

count_two : (t : TypeTable) (p q : Option InterfaceType) → case_count (case_for (payload_in (all_shapes t) p) (case_for (payload_in (all_shapes t) q) no_cases)) ≡ 2
count_two t None None = refl
count_two t None (Some y) = refl
count_two t (Some x) None = refl
count_two t (Some x) (Some y) = refl

pub payload_fits : (unit : Bool) (F : Instance → InterfaceType → Type 0) (i : Instance) (p : Option InterfaceType) (type : InterfaceType) → p ≡ Some type → IsPayloadOf unit F i p → F i type
payload_fits unit F i p type is h = of_some unit (subst (IsPayloadOf unit F i) is h)
  where
    of_some : (u : Bool) → IsPayloadOf u F i (Some type) → F i type
    of_some false k = k
    of_some true k = absurd k

-- a payload alone, where its type is the unit or not
module _ {D G : Type 0} (L : GuestLaws G) (options : ℕ) {A : Type 0} (Walks : A → Tree → Type 0) (gives : Instance → Shape → A → List (List Part))
    (F : Instance → InterfaceType → Type 0) (x : A) (unit : Bool) (a : Parts D G) (p : Option InterfaceType) (at : ℕ)
    (fits : IsPayloadOf unit F a.component.types p) where
  abbrev pub ResultPayload : Parts D G → Option InterfaceType → Result (Unit {0}) Fault → Type 0
  ResultPayload b q r = TypedMembersStore L.seen L.moves options a b (payload_members (unless_unit unit (payload_type (component_types a) q))) 0 at (PayloadTrees unit (Walks x))
      (part_gives unit (gives a.component.types (payload_type (component_types a) q) x)) r

  pub no_payload : p ≡ None → length a.memory ≤ 2 ^ 32 → ResultPayload a p (Ok tt)
  no_payload is small = subst (λ (q : Option InterfaceType). ResultPayload a q (Ok tt)) (sym is) (of_none unit (subst (IsPayloadOf unit F a.component.types) is fits))
    where
      of_none : (u : Bool) → IsPayloadOf u F a.component.types None
          → TypedMembersStore L.seen L.moves options a a (payload_members (unless_unit u (payload_type (component_types a) None))) 0 at (PayloadTrees u (Walks x))
          (part_gives u (gives a.component.types (payload_type (component_types a) None) x)) (Ok tt)
      of_none true h = members_nothing L options a 0 at small
      of_none false h = absurd h

  pub some_payload : (b : Parts D G) (type : InterfaceType) (r : Result (Unit {0}) Fault) → p ≡ Some type
      → TypedStores L.seen L.moves options a b (shape_of (component_types a) type) at (Walks x) (gives a.component.types (shape_of (component_types a) type) x) r → ResultPayload b p r
  some_payload b type r is h = subst (λ (q : Option InterfaceType). ResultPayload b q r) (sym is) (of_some unit (subst (IsPayloadOf unit F a.component.types) is fits))
    where
      of_some : (u : Bool) → IsPayloadOf u F a.component.types (Some type)
          → TypedMembersStore L.seen L.moves options a b (payload_members (unless_unit u (payload_type (component_types a) (Some type)))) 0 at (PayloadTrees u (Walks x))
          (part_gives u (gives a.component.types (payload_type (component_types a) (Some type)) x)) r
      of_some false k = members_one L options a b (shape_of (component_types a) type) at (Walks x) (gives a.component.types (shape_of (component_types a) type) x) r h
      of_some true k = absurd k

-- ---- the cases of a result

put_types : {D G : Type 0} (a b : Parts D G) (at n bytes : ℕ) → IsPut a b at n bytes → b.component.types ≡ a.component.types
put_types a b at n bytes h = ap (λ x. x.component.types) h.same

module _ {D G : Type 0} (unit : Bool) (F : Instance → InterfaceType → Type 0) (unit2 : Bool) (F2 : Instance → InterfaceType → Type 0) (a b : Parts D G) (type : InterfaceType) (at d : ℕ)
    (part : Option InterfaceType) (place : ℕ) (h : IsResultPut unit F unit2 F2 a b type at d part place) where
  cases : Cases
  cases = case_for (payload_in (all_shapes (component_types a)) h.first) (case_for (payload_in (all_shapes (component_types a)) h.second) no_cases)

  cases_put : IsCasePut a b cases at d place
  unfolding cases
  cases_put = subst (λ (s : Shape). IsCasePut a b (variant_cases s) at d place) h.shape h.put

  instance_put : b.component.types ≡ a.component.types
  instance_put = put_types a b at _ _ h.put.put

  pub lower_result_known : KnowsPayload (component_types b) part
  lower_result_known = subst (λ (i : Instance). KnowsPayload i.types part) (sym instance_put) h.known

  pub ok_fits : d ≡ 0 → IsPayloadOf unit F b.component.types part
  ok_fits e = subst (λ (i : Instance). IsPayloadOf unit F i part) (sym instance_put) (subst (IsPayloadOf unit F a.component.types) (sym (h.part ∙ ap (λ (k : ℕ). pick k h.first h.second) e)) h.fits)

  pub error_fits : d ≡ 1 → IsPayloadOf unit2 F2 b.component.types part
  error_fits e = subst (λ (i : Instance). IsPayloadOf unit2 F2 i part) (sym instance_put) (subst (IsPayloadOf unit2 F2 a.component.types) (sym (h.part ∙ ap (λ (k : ℕ). pick k h.first h.second) e)) h.fits2)

  abbrev s : Shape
  s = shape_of (component_types a) type

  first_shape : (t : TypeTable) (p : Option InterfaceType) (cs : Cases) → payload_shape (case_for (payload_in (all_shapes t) p) cs) 0 ≡ payload_type t p
  first_shape t None cs = refl
  first_shape t (Some x) cs = refl

  -- the payload's shape, and the case's members
  ok_shape : d ≡ 0 → payload_shape cases d ≡ payload_type (component_types a) part
  unfolding cases
  ok_shape e = ap (payload_shape cases) e ∙ (first_shape (component_types a) h.first (case_for (payload_in (all_shapes (component_types a)) h.second) no_cases)
      ∙ ap (payload_type (component_types a)) (sym (h.part ∙ ap (λ (k : ℕ). pick k h.first h.second) e)))

  error_shape : d ≡ 1 → payload_shape cases d ≡ payload_type (component_types a) part
  unfolding cases
  error_shape e = ap (payload_shape cases) e ∙ ((later_as (component_types a) h.first (case_for (payload_in (all_shapes (component_types a)) h.second) no_cases) 0).1
      ∙ (first_shape (component_types a) h.second no_cases ∙ ap (payload_type (component_types a)) (sym (h.part ∙ ap (λ (k : ℕ). pick k h.first h.second) e))))

  few : d < 2 → d < case_count cases
  unfolding cases
  few lt = omega (arith, lt, count_two (component_types a) h.first h.second)

  whole : s ≡ variant of_result cases
  unfolding cases
  whole = h.shape

  result_room : d < 2 → payload_shape cases d ≡ payload_type (component_types a) part → at + size false s ≤ length a.memory → place + size false (payload_type (component_types b) part) ≤ length b.memory
  result_room lt u room =
      let same : size false (payload_type (component_types b) part) ≡ size false (payload_type (component_types a) part) = ap (λ (i : Instance). size false (payload_type i.types part)) instance_put in
      omega (arith, room, ap (size false) whole, same, ap (size false) u, cases_put.inner, cases_put.put.writes.same_length, (payloads_fit false of_result cases).inside d (few lt))

  module _ (L : GuestLaws G) (options : ℕ) (room : at + size false s ≤ length a.memory) {A : Type 0} (Walks : A → Tree → Type 0) (gives : Instance → Shape → A → List (List Part)) (alone : Bool)
      (x : A) (c : Parts D G) (options2 : ℕ) (r : Result (Unit {0}) Fault) (eo : options2 ≡ options)
      (stored : TypedMembersStore L.seen L.moves options2 b c (payload_members (unless_unit alone (payload_type (component_types b) part))) 0 place (PayloadTrees alone (Walks x)) (part_gives alone (gives b.component.types (payload_type (component_types b) part) x)) r) where
    payload_stores : d < 2 → payload_shape cases d ≡ payload_type (component_types a) part → case_members cases d ≡ payload_members (unless_unit alone (payload_type (component_types a) part))
        → TypedStores L.seen L.moves options a c s at (CaseMeans alone Walks d x) (payload_gives alone gives d a.component.types s x) r
    payload_stores lt u members =
        let i = a.component.types in
        let part_is : payload_type (component_types a) part ≡ case_shape d s = sym (ap (case_shape d) whole ∙ u) in
        let here : TypedMembersStore L.seen L.moves options b c (payload_members (unless_unit alone (payload_type (component_types a) part))) 0 place (PayloadTrees alone (Walks x))
        (part_gives alone (gives i (payload_type (component_types a) part) x)) r =
        subst (λ (j : Instance). TypedMembersStore L.seen L.moves options b c (payload_members (unless_unit alone (payload_type j.types part))) 0 place (PayloadTrees alone (Walks x)) (part_gives alone (gives j (payload_type j.types part) x)) r) instance_put
        (subst (λ (o : ℕ). TypedMembersStore L.seen L.moves o b c (payload_members (unless_unit alone (payload_type (component_types b) part))) 0 place (PayloadTrees alone (Walks x)) (part_gives alone (gives b.component.types (payload_type (component_types b) part) x)) r) eo stored) in
        let given : part_gives alone (gives i (payload_type (component_types a) part) x) ≡ payload_gives alone gives d i s x = ap (λ (v : Shape). part_gives alone (gives i v x)) part_is ∙ sym (gives_as alone gives d i s x) in
        case_stores L options Walks x alone a b c s (payload_type (component_types a) part) of_result cases at d place (payload_gives alone gives d i s x) r whole room (few lt) (omega (arith, lt)) members cases_put
        (subst (λ (gs : List (List Part)). TypedMembersStore L.seen L.moves options b c (payload_members (unless_unit alone (payload_type (component_types a) part))) 0 place (PayloadTrees alone (Walks x)) gs r) given here)

    pub ok_stores : d ≡ 0 → alone ≡ unit → TypedStores L.seen L.moves options a c s at (CaseMeans alone Walks 0 x) (payload_gives alone gives 0 a.component.types s x) r
    unfolding cases
    ok_stores e same =
        let part_is : part ≡ h.first = h.part ∙ ap (λ (k : ℕ). pick k h.first h.second) e in
        let members : case_members cases d ≡ payload_members (unless_unit alone (payload_type (component_types a) part)) =
        ap (case_members cases) e ∙ ((payload_as (component_types a) unit F a.component.types h.first (case_for (payload_in (all_shapes (component_types a)) h.second) no_cases) h.fits).0
        ∙ (ap (λ (u : Bool). payload_members (unless_unit u (payload_type (component_types a) h.first))) (sym same)
        ∙ ap (λ (o : Option InterfaceType). payload_members (unless_unit alone (payload_type (component_types a) o))) (sym part_is))) in
        subst (λ (k : ℕ). TypedStores L.seen L.moves options a c s at (CaseMeans alone Walks k x) (payload_gives alone gives k a.component.types s x) r) e (payload_stores (omega (arith, e)) (ok_shape e) members)

    pub error_stores : d ≡ 1 → alone ≡ unit2 → TypedStores L.seen L.moves options a c s at (CaseMeans alone Walks 1 x) (payload_gives alone gives 1 a.component.types s x) r
    unfolding cases
    error_stores e same =
        let part_is : part ≡ h.second = h.part ∙ ap (λ (k : ℕ). pick k h.first h.second) e in
        let members : case_members cases d ≡ payload_members (unless_unit alone (payload_type (component_types a) part)) =
        ap (case_members cases) e ∙ ((later_as (component_types a) h.first (case_for (payload_in (all_shapes (component_types a)) h.second) no_cases) 0).0
        ∙ ((payload_as (component_types a) unit2 F2 a.component.types h.second no_cases h.fits2).0
        ∙ (ap (λ (u : Bool). payload_members (unless_unit u (payload_type (component_types a) h.second))) (sym same)
        ∙ ap (λ (o : Option InterfaceType). payload_members (unless_unit alone (payload_type (component_types a) o))) (sym part_is)))) in
        subst (λ (k : ℕ). TypedStores L.seen L.moves options a c s at (CaseMeans alone Walks k x) (payload_gives alone gives k a.component.types s x) r) e (payload_stores (omega (arith, e)) (error_shape e) members)

  pub ok_room : d ≡ 0 → at + size false s ≤ length a.memory → place + size false (payload_type (component_types b) part) ≤ length b.memory
  ok_room e room = result_room (omega (arith, e)) (ok_shape e) room

  pub error_room : d ≡ 1 → at + size false s ≤ length a.memory → place + size false (payload_type (component_types b) part) ≤ length b.memory
  error_room e room = result_room (omega (arith, e)) (error_shape e) room
