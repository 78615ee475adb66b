-- What a look-up gave of a type, where the table is that of the start.
use Rattle.std.proofs.Common.{◌≡◌, ◌≤◌, ◌<◌, ◌+◌, ◌*◌, ◌++◌, ◌%◌, ◌∙◌, All, List, None, Option, Some, [], ◌∷◌, ap, arith, false, length, option_to_list, refl, subst, sym, ℕ}
use Rattle.canon_abi.specs.Abi.{HasInfo, HasLayout}
use Rattle.canon_abi.specs.declared.abi.VariantInfo.{VariantInfo}
use Rattle.canon_model.specs.Layout.{align, begins, ends, payload_shape, size}
use Rattle.canon_model.specs.Shape.{Cases, Shape, case_count, case_for, fixed, list_of, map_of, no_cases, tuple, of_option, of_result, option_of, result_of, variant}
use Rattle.canon_types.specs.Depth.{element_shape, variant_cases}
use Rattle.canon_types.specs.Instance.{Instance}
use Rattle.canon_types.specs.Table.{FixedListType, IsDefined, Knows, KnowsPayload, ListType, MapType, OptionType, ResultType, TypeTable, all_shapes, payload_in, shape_of}
use Rattle.canon_types.specs.Keeps.{HasPair}
use Rattle.canon_types.specs.declared.types.TypeMap.{TypeMap}
use Rattle.canon_types.specs.declared.types.InterfaceType.{InterfaceType}
use Rattle.canon_types.specs.declared.types.InterfaceType.TheVariants as ty
use Rattle.canon_typed.specs.Types.{IsFixedOf, IsListOf, IsMapOf}
use Rattle.canon_reading.specs.OfTrees.{second_shape, two_cases}
use Rattle.canon_reading.specs.Readings.{fixed_element}
use Rattle.canon_lift_parts.proofs.CaseLifting.{IsOfCases}

-- ---- lists

module _ (t t2 : TypeTable) (j : ℕ) (type element : InterfaceType) (same : t2 ≡ t) (is : type ≡ ty.List j) (d : IsDefined t2 (ty.List j) (ListType element)) where
  pub lift_list_shape : shape_of t type ≡ list_of (shape_of t element)
  lift_list_shape = ap (shape_of t) is ∙ subst (λ (x : TypeTable). shape_of x (ty.List j) ≡ list_of (shape_of x element)) same d.shape

  pub list_element : shape_of t element ≡ element_shape (shape_of t type)
  list_element = sym (ap element_shape lift_list_shape)

  pub lift_list_known : Knows t element
  lift_list_known = subst (λ (x : TypeTable). Knows x element) same (d.known 0 element (omega arith))

-- the element that a look-up gave fits
pub list_fits : (Fit : Instance → InterfaceType → Type 0) (i : Instance) (t2 : TypeTable) (j : ℕ) (type element : InterfaceType) → t2 ≡ i.types → type ≡ ty.List j
    → IsDefined t2 (ty.List j) (ListType element) → IsListOf Fit i type → Fit i element
list_fits Fit i t2 j type element same is d f =
    let (other, d2, fits) = subst (λ x. IsListOf Fit i x) is f in
    let here = subst (λ (x : TypeTable). IsDefined x (ty.List j) (ListType element)) same d in
    let both : Some (ListType other) ≡ Some (ListType element) = sym d2.definition ∙ here.definition in
    let one : other ≡ element = cc in
    subst (λ x. Fit i x) one fits

-- ---- options and results

first_shape : (o : Option Shape) (cs : Cases) → payload_shape (case_for o no_cases) 0 ≡ payload_shape (case_for o cs) 0
first_shape None cs = refl
first_shape (Some s) cs = refl

known_first : (t : TypeTable) (ok error : Option InterfaceType) → All (Knows t) (option_to_list ok ++ option_to_list error) → KnowsPayload t ok
known_first t None error h = tt
known_first t (Some x) error h = h 0 x (omega arith)

known_second : (t : TypeTable) (ok error : Option InterfaceType) → All (Knows t) (option_to_list ok ++ option_to_list error) → KnowsPayload t error
known_second t ok None h = tt
known_second t None (Some y) h = h 0 y (omega arith)
known_second t (Some x) (Some y) h = h 1 y (omega arith)

module _ (t t2 : TypeTable) (j : ℕ) (type some : InterfaceType) (info : VariantInfo) (memory : List ℕ) (at : ℕ) (same : t2 ≡ t) (is : type ≡ ty.Option j) (d : IsDefined t2 (ty.Option j) (OptionType some)) where
  pub lift_option_shape : shape_of t type ≡ option_of (shape_of t some)
  lift_option_shape = ap (shape_of t) is ∙ subst (λ (x : TypeTable). shape_of x (ty.Option j) ≡ option_of (shape_of x some)) same d.shape

  pub option_cases : HasInfo info (variant_cases (shape_of t2 (ty.Option j))) → at % align false (shape_of t type) ≡ 0 → at + size false (shape_of t type) ≤ length memory → IsOfCases (shape_of t type) info memory at
  option_cases numbers aligned inside = record {
    kind = of_option;
    is = lift_option_shape ∙ ap (λ cs. variant of_option cs) (sym (ap variant_cases lift_option_shape));
    numbers = subst (λ x. HasInfo info (variant_cases (shape_of t x))) (sym is) (subst (λ (x : TypeTable). HasInfo info (variant_cases (shape_of x (ty.Option j)))) same numbers);
    aligned = aligned;
    inside = inside;
  }

  pub lift_option_payload : shape_of t some ≡ payload_shape (variant_cases (shape_of t type)) 1
  lift_option_payload = sym (ap (λ (z : Shape). payload_shape (variant_cases z) 1) lift_option_shape)

  pub option_few : 1 < case_count (variant_cases (shape_of t type))
  option_few = subst (λ (z : Shape). 1 < case_count (variant_cases z)) (sym lift_option_shape) (omega arith)

  pub lift_option_known : Knows t some
  lift_option_known = subst (λ (x : TypeTable). Knows x some) same (d.known 0 some (omega arith))

-- ---- lists of fixed length

-- the element that a look-up gave fits, and makes up the shape
pub record IsFixedElement (Fit : Instance → InterfaceType → Type 0) (i : Instance) (n : ℕ) (type element : InterfaceType) : Type 0 where
  pub shape : shape_of i.types type ≡ fixed n (shape_of i.types element)
  pub known : Knows i.types element
  pub fits : Fit i element

pub fixed_there : (Fit : Instance → InterfaceType → Type 0) (i : Instance) (t2 : TypeTable) (j n count : ℕ) (type element : InterfaceType) → t2 ≡ i.types → type ≡ ty.FixedLengthList j
    → IsDefined t2 (ty.FixedLengthList j) (FixedListType element count) → IsFixedOf n Fit i type → IsFixedElement Fit i n type element
fixed_there Fit i t2 j n count type element same is d f =
    let (some, (other, d2, fits)) = subst (λ x. IsFixedOf n Fit i x) is f in
    let here = subst (λ (x : TypeTable). IsDefined x (ty.FixedLengthList j) (FixedListType element count)) same d in
    let both : Some (FixedListType other n) ≡ Some (FixedListType element count) = sym d2.definition ∙ here.definition in
    let one : other ≡ element = cc in
    record {
      shape = subst (λ x. shape_of i.types type ≡ fixed n (shape_of i.types x)) one (ap (shape_of i.types) is ∙ d2.shape);
      known = here.known 0 element (omega arith);
      fits = subst (λ x. Fit i x) one fits;
    }

module _ (s u : Shape) (n at : ℕ) (is : s ≡ fixed n u) where
  pub fixed_part : u ≡ fixed_element s
  fixed_part = sym (ap fixed_element is)

  pub fixed_aligned : at % align false s ≡ 0 → at % align false u ≡ 0
  unfolding align
  fixed_aligned h = subst (λ (z : Shape). at % align false z ≡ 0) is h

  pub fixed_inside : (memory : List ℕ) → at + size false s ≤ length memory → at + n * size false u ≤ length memory
  unfolding size
  fixed_inside memory h = subst (λ (z : Shape). at + size false z ≤ length memory) is h

-- ---- results

module _ (t t2 : TypeTable) (j : ℕ) (type : InterfaceType) (ok error : Option InterfaceType) (same : t2 ≡ t) (is : type ≡ ty.Result j) (d : IsDefined t2 (ty.Result j) (ResultType ok error)) where
  abbrev good : Option Shape
  good = payload_in (all_shapes t) ok

  abbrev bad : Option Shape
  bad = payload_in (all_shapes t) error

  pub lift_result_shape : shape_of t type ≡ result_of good bad
  lift_result_shape = ap (shape_of t) is ∙ subst (λ (x : TypeTable). shape_of x (ty.Result j) ≡ result_of (payload_in (all_shapes x) ok) (payload_in (all_shapes x) error)) same d.shape

  pub lift_result_cases : (info : VariantInfo) (memory : List ℕ) (at : ℕ) → HasInfo info (variant_cases (shape_of t2 (ty.Result j))) → at % align false (shape_of t type) ≡ 0 → at + size false (shape_of t type) ≤ length memory
      → IsOfCases (shape_of t type) info memory at
  lift_result_cases info memory at numbers aligned inside = record {
    kind = of_result;
    is = lift_result_shape ∙ ap (λ cs. variant of_result cs) (sym (ap variant_cases lift_result_shape));
    numbers = subst (λ x. HasInfo info (variant_cases (shape_of t x))) (sym is) (subst (λ (x : TypeTable). HasInfo info (variant_cases (shape_of x (ty.Result j)))) same numbers);
    aligned = aligned;
    inside = inside;
  }

  pub result_few : (k : ℕ) → k < 2 → k < case_count (variant_cases (shape_of t type))
  result_few k few = subst (λ (z : Shape). k < case_count (variant_cases z)) (sym lift_result_shape) (subst (λ n. k < n) (sym (two_cases good bad)) few)

  pub ok_payload : payload_shape (case_for good no_cases) 0 ≡ payload_shape (variant_cases (shape_of t type)) 0
  ok_payload = first_shape good (case_for bad no_cases) ∙ sym (ap (λ (z : Shape). payload_shape (variant_cases z) 0) lift_result_shape)

  pub error_payload : payload_shape (case_for bad no_cases) 0 ≡ payload_shape (variant_cases (shape_of t type)) 1
  error_payload = sym (second_shape good (case_for bad no_cases)) ∙ sym (ap (λ (z : Shape). payload_shape (variant_cases z) 1) lift_result_shape)

  pub ok_known : KnowsPayload t ok
  ok_known = known_first t ok error (subst (λ (x : TypeTable). All (Knows x) (option_to_list ok ++ option_to_list error)) same d.known)

  pub error_known : KnowsPayload t error
  error_known = known_second t ok error (subst (λ (x : TypeTable). All (Knows x) (option_to_list ok ++ option_to_list error)) same d.known)

-- ---- maps

-- what a look-up gave of a map's keys and values
pub record IsPairThere (Key Value : Instance → InterfaceType → Type 0) (i : Instance) (type key value : InterfaceType) : Type 0 where
  pub shape : shape_of i.types type ≡ map_of (shape_of i.types key) (shape_of i.types value)
  pub key_known : Knows i.types key
  pub value_known : Knows i.types value
  pub key_fits : Key i key
  pub value_fits : Value i value

pub map_there : (Key Value : Instance → InterfaceType → Type 0) (i : Instance) (t2 : TypeTable) (j : ℕ) (type key value : InterfaceType) → t2 ≡ i.types → type ≡ ty.Map j → IsDefined t2 (ty.Map j) (MapType key value)
    → IsMapOf Key Value i type
    → IsPairThere Key Value i type key value
map_there Key Value i t2 j type key value same is d f =
    let (k, v, d2, fits, fits2) = subst (λ x. IsMapOf Key Value i x) is f in
    let here = subst (λ (x : TypeTable). IsDefined x (ty.Map j) (MapType key value)) same d in
    let both : Some (MapType k v) ≡ Some (MapType key value) = sym d2.definition ∙ here.definition in
    let one : k ≡ key = cc in
    let two : v ≡ value = cc in
    record {
      shape = ap (shape_of i.types) is ∙ here.shape;
      key_known = here.known 0 key (omega arith);
      value_known = here.known 1 value (omega arith);
      key_fits = subst (λ x. Key i x) one fits;
      value_fits = subst (λ x. Value i x) two fits2;
    }

-- its numbers
module _ (t t2 : TypeTable) (j : ℕ) (type key value : InterfaceType) (m : TypeMap) (same : t2 ≡ t) (is : type ≡ ty.Map j) (shape : shape_of t type ≡ map_of (shape_of t key) (shape_of t value)) (h : HasPair m (shape_of t2 (ty.Map j))) where
  numbers : HasPair m (map_of (shape_of t key) (shape_of t value))
  numbers = subst (λ (z : Shape). HasPair m z) shape (subst (λ x. HasPair m (shape_of t x)) (sym is) (subst (λ (x : TypeTable). HasPair m (shape_of x (ty.Map j))) same h))

  pub map_layout : HasLayout m.entry_abi (tuple (shape_of t key ∷ shape_of t value ∷ []))
  map_layout = numbers.abi

  pub map_offset : m.value_offset32 ≡ begins false (ends false 0 (shape_of t key)) (shape_of t value)
  map_offset = (numbers.value false)

  pub map_element : tuple (shape_of t key ∷ shape_of t value ∷ []) ≡ element_shape (shape_of t type)
  map_element = sym (ap element_shape shape)
