-- When the types of two resources are equal.
use Rattle.std.proofs.Common.{◌≡◌, ◌↔◌, ◌∙◌, Bool, IsTrue, Option, Some, ap, false, refl, subst, sym, true}
use Rattle.std.specs.Prelude.{◌==◌, ◌&&◌}
use Rattle.std.specs.Option.{option_map_or}
use Rattle.std.proofs.lemmas.Bool.{eq-eqb, eqb-true, false≢true}
use Rattle.canon_types.specs.declared.resource.ResourceType.{ResourceType}
use Rattle.canon_types.specs.declared.resource.ResourceType.TheVariants as type
use Rattle.canon_plan.proofs.Lookups.{both as both_true}

-- what comparing them answers
abbrev pub equal_types : ResourceType → ResourceType → Bool
equal_types (type.Host a) (type.Host b) = a == b
equal_types (type.HostDynamic a) (type.HostDynamic b) = a == b
equal_types (type.Guest s i n) (type.Guest t j m) = (s == t) && ((i == j) && (n == m))
equal_types _ _ = false

types_equal : (a b : ResourceType) → IsTrue (equal_types a b) → a ≡ b
types_equal (type.Host a) (type.Host b) h = ap type.Host (eqb-true a b h)
types_equal (type.HostDynamic a) (type.HostDynamic b) h = ap type.HostDynamic (eqb-true a b h)
types_equal (type.Guest s i n) (type.Guest t j m) h =
    let outer = both_true (s == t) ((i == j) && (n == m)) h in
    let inner = both_true (i == j) (n == m) outer.1 in
    let same_store = eqb-true s t outer.0 in
    let same_instance = eqb-true i j inner.0 in
    let same_number = eqb-true n m inner.1 in
    cc
types_equal _ _ h = absurd (false≢true h)

and_true : (a b : Bool) → a ≡ true → b ≡ true → IsTrue (a && b)
and_true a b h k = subst (λ x. IsTrue (x && b)) (sym h) k

type_itself : (a : ResourceType) → IsTrue (equal_types a a)
type_itself (type.Host a) = eq-eqb a a refl
type_itself (type.HostDynamic a) = eq-eqb a a refl
type_itself (type.Guest s i n) = and_true (s == s) ((i == i) && (n == n)) (eq-eqb s s refl) (and_true (i == i) (n == n) (eq-eqb i i refl) (eq-eqb n n refl))

some_inside : {A : Type 0} (o : Option A) (d : A) → A
some_inside o d = option_map_or (λ x. x) o d

pub resources_same : (x y : Option ResourceType) (a b : ResourceType) (r : Bool) → x ≡ Some a → y ≡ Some b → r ≡ equal_types a b → IsTrue r ↔ (x ≡ y)
unfolding some_inside
resources_same x y a b r e f is = (
  λ h. e ∙ ap Some (types_equal a b (sym is ∙ h)) ∙ sym f,
  λ h. is ∙ subst (λ z. IsTrue (equal_types a z)) (ap (λ o. some_inside o a) (sym e ∙ h ∙ f)) (type_itself a),
)
