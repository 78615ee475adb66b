-- Two resources are equal only where they are the same.
use Rattle.std.proofs.Common.{Bool, true, false, nat_eq, ◌&&◌, ◌==◌, refl, ap, ap₂, rules, [], ◌∙◌, ◌∷◌, ◌≡◌, pos, sym, ℕ}
use Rattle.std.specs.Prelude.{◌↔◌}
use Rattle.std.specs.Cmp.Lexicographic.{pointwise}
use Rattle.canon_resources.specs.Parts.{same_type}
use Rattle.canon_ledger.specs.Index.{GivenIndex}
use Rattle.canon_resources.specs.Held.{Any}
use Rattle.canon_resources.specs.declared.any.ResourceAnyHandle.{ResourceAnyHandle}
use Rattle.canon_resources.specs.declared.any.ResourceAnyHandle.TheVariants as handle
use Rattle.canon_types.specs.declared.resource.ResourceType.{ResourceType}
use Rattle.canon_types.specs.declared.resource.ResourceType.TheVariants.{Guest, Host, HostDynamic}
use Rattle.canon_val.specs.Equal as equal
use Rattle.canon_val.specs.Equal.{IsEqual, compared, handle_key, is_equal, no_data, same, same_handle, same_resource, type_key, value}
use Rattle.canon_val.specs.declared.val.Val.{Val, the_lemmas}
use Rattle.canon_val.specs.declared.val.Val.TheVariants as val

-- ---- the keys decide all

same_index : (x y : GivenIndex) → x.index ≡ y.index → x.generation ≡ y.generation → x ≡ y
same_index x y e f = ap₂ (λ (i g : ℕ). record { index = i; generation = g }) e f

handle_told : (a b : ResourceAnyHandle) → handle_key a ≡ handle_key b → a ≡ b
handle_told (handle.Own x) (handle.Own y) e = let i : x.index ≡ y.index = cc in let g : x.generation ≡ y.generation = cc in ap handle.Own (same_index x y i g)
handle_told (handle.Borrow x) (handle.Borrow y) e = let i : x.index ≡ y.index = cc in let g : x.generation ≡ y.generation = cc in ap handle.Borrow (same_index x y i g)
handle_told (handle.Synthetic n) (handle.Synthetic m) e = let same : n ≡ m = cc in ap handle.Synthetic same
handle_told (handle.Own x) (handle.Borrow y) e = cc
handle_told (handle.Own x) (handle.Synthetic m) e = cc
handle_told (handle.Borrow x) (handle.Own y) e = cc
handle_told (handle.Borrow x) (handle.Synthetic m) e = cc
handle_told (handle.Synthetic n) (handle.Own y) e = cc
handle_told (handle.Synthetic n) (handle.Borrow y) e = cc

type_told : (a b : ResourceType) → type_key a ≡ type_key b → a ≡ b
type_told (Host n) (Host m) e = let same : n ≡ m = cc in ap Host same
type_told (HostDynamic n) (HostDynamic m) e = let same : n ≡ m = cc in ap HostDynamic same
type_told (Guest s i n) (Guest t j m) e =
    let store : s ≡ t = cc in
    let instance : i ≡ j = cc in
    let id : n ≡ m = cc in
    ap (λ x. Guest x i n) store ∙ (ap (λ x. Guest t x n) instance ∙ ap (λ x. Guest t j x) id)
type_told (Host n) (HostDynamic m) e = cc
type_told (Host n) (Guest t j m) e = cc
type_told (HostDynamic n) (Host m) e = cc
type_told (HostDynamic n) (Guest t j m) e = cc
type_told (Guest s i n) (Host m) e = cc
type_told (Guest s i n) (HostDynamic m) e = cc

compared_resource : (x : Any) → compared (val.Resource x) ≡ value equal.resource (pos 0) (handle_key x.handle ∷ type_key x.ty ∷ []) no_data
compared_resource x = search (rules, the_lemmas)

pub resources_told : (x y : Any) → IsEqual (val.Resource x) (val.Resource y) ↔ (x ≡ y)
resources_told x y = (
  λ e.
      let keys : value equal.resource (pos 0) (handle_key x.handle ∷ type_key x.ty ∷ []) no_data
      ≡ value equal.resource (pos 0) (handle_key y.handle ∷ type_key y.ty ∷ []) no_data = sym (compared_resource x) ∙ (e ∙ compared_resource y) in
      let its_handle : handle_key x.handle ≡ handle_key y.handle = cc in
      let its_type : type_key x.ty ≡ type_key y.ty = cc in
      ap₂ (λ (h : ResourceAnyHandle) (t : ResourceType). record { handle = h; ty = t }) (handle_told x.handle y.handle its_handle) (type_told x.ty y.ty its_type),
  λ e. ap (λ (z : Any). compared (val.Resource z)) e,
)

-- ---- the test of two resources

and_true : (b : Bool) → (b && true) ≡ b
and_true true = refl
and_true false = refl

and_chain : (a b c : Bool) → (a && (b && c)) ≡ ((a && b) && c)
and_chain true b c = refl
and_chain false b c = refl

handle_tested : (a b : ResourceAnyHandle) → pointwise nat_eq (handle_key a) (handle_key b) ≡ same_handle a b
handle_tested (handle.Own x) (handle.Own y) = ap (λ c. (x.index == y.index) && c) (and_true (x.generation == y.generation))
handle_tested (handle.Borrow x) (handle.Borrow y) = ap (λ c. (x.index == y.index) && c) (and_true (x.generation == y.generation))
handle_tested (handle.Synthetic n) (handle.Synthetic m) = and_true (n == m)
handle_tested (handle.Own x) (handle.Borrow y) = refl
handle_tested (handle.Own x) (handle.Synthetic m) = refl
handle_tested (handle.Borrow x) (handle.Own y) = refl
handle_tested (handle.Borrow x) (handle.Synthetic m) = refl
handle_tested (handle.Synthetic n) (handle.Own y) = refl
handle_tested (handle.Synthetic n) (handle.Borrow y) = refl

type_tested : (a b : ResourceType) → pointwise nat_eq (type_key a) (type_key b) ≡ same_type a b
type_tested (Host n) (Host m) = and_true (n == m)
type_tested (HostDynamic n) (HostDynamic m) = and_true (n == m)
type_tested (Guest s i n) (Guest t j m) = ap (λ c. (s == t) && ((i == j) && c)) (and_true (n == m)) ∙ and_chain (s == t) (i == j) (n == m)
type_tested (Host n) (HostDynamic m) = refl
type_tested (Host n) (Guest t j m) = refl
type_tested (HostDynamic n) (Host m) = refl
type_tested (HostDynamic n) (Guest t j m) = refl
type_tested (Guest s i n) (Host m) = refl
type_tested (Guest s i n) (HostDynamic m) = refl

resource_tested : (x y : Any) → is_equal (val.Resource x) (val.Resource y) ≡ same_resource x y
resource_tested x y =
    ap₂ same (compared_resource x) (compared_resource y)
    ∙ (and_true (pointwise nat_eq (handle_key x.handle) (handle_key y.handle) && (pointwise nat_eq (type_key x.ty) (type_key y.ty) && true))
    ∙ ap₂ (λ b c. b && c) (handle_tested x.handle y.handle) (and_true (pointwise nat_eq (type_key x.ty) (type_key y.ty)) ∙ type_tested x.ty y.ty))

pub resources_equal : (a b : Val) (x y : Any) (r : Bool) → a ≡ val.Resource x → b ≡ val.Resource y → r ≡ same_resource x y → r ≡ is_equal a b
resources_equal a b x y r ea eb is = is ∙ (sym (resource_tested x y) ∙ sym (ap₂ is_equal ea eb))
