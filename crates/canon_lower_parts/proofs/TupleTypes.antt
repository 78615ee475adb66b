-- What is known of the types of a tuple's members.
use Rattle.std.proofs.Common.{◌≡◌, ◌+◌, ◌∙◌, List, [], ◌∷◌, ap, arith, drop, get_or, refl, subst, suc, sym, zero, ℕ}
use Rattle.std.specs.Option.{option_map_or}
use Rattle.canon_lower_parts.specs.Tuples.{member_type, members_after, types_from, types_of_tuple}
use Rattle.canon_model.specs.Shape.{member, no_members, of_places, product}
use Rattle.canon_types.specs.Instance.{Instance}
use Rattle.canon_types.specs.Table.{members_of, shape_of, tuple_types}
use Rattle.canon_types.specs.declared.types.InterfaceType.{InterfaceType}
use Rattle.canon_types.specs.declared.types.InterfaceType.TheVariants as ty
use Rattle.canon_typed.specs.Types.{AreOf, IsTupleOf}

-- the members are all of them
pub record IsTuple (all : List (Instance → InterfaceType → Type 0)) (i : Instance) (type : InterfaceType) : Type 0 where
  pub shape : shape_of i.types type ≡ product of_places (members_after i.types type 0)
  pub are : AreOf all i (types_from i.types type 0)

pub tuple_seen : (all : List (Instance → InterfaceType → Type 0)) (i : Instance) (type : InterfaceType) → IsTupleOf all i type → IsTuple all i type
tuple_seen all i (ty.Tuple x) (types, d, are) =
    let same : types_of_tuple i.types (ty.Tuple x) ≡ types = ap (λ o. option_map_or tuple_types o []) d.definition in
    record {
      shape = d.shape ∙ ap (λ (xs : List InterfaceType). product of_places (members_of i.types xs)) (sym same);
      are = subst (λ (xs : List InterfaceType). AreOf all i xs) (sym same) are;
    }
tuple_seen all i _ h = absurd h

-- ---- the members from number k on

-- the first of them is of this Rust type
pub record IsNextType (Fit : Instance → InterfaceType → Type 0) (i : Instance) (type : InterfaceType) (k : ℕ) : Type 0 where
  pub fit : Fit i (member_type i.types type k)
  pub members : members_after i.types type k ≡ member [] (shape_of i.types (member_type i.types type k)) (members_after i.types type (k + 1))

record IsFirst (Fit : Instance → InterfaceType → Type 0) (i : Instance) (types : List InterfaceType) (k : ℕ) : Type 0 where
  fit : Fit i (get_or types k ty.Bool)
  is : drop k types ≡ get_or types k ty.Bool ∷ drop (suc k) types

first_of : (Fit : Instance → InterfaceType → Type 0) (all : List (Instance → InterfaceType → Type 0)) (i : Instance) (types : List InterfaceType) (k : ℕ) → AreOf (Fit ∷ all) i (drop k types) → IsFirst Fit i types k
first_of Fit all i [] zero h = absurd h
first_of Fit all i [] (suc k) h = absurd h
first_of Fit all i (type ∷ types) zero h = record { fit = h.0; is = refl }
first_of Fit all i (type ∷ types) (suc k) h = let f = first_of Fit all i types k h in record { fit = f.fit; is = f.is }

pub next_of : (Fit : Instance → InterfaceType → Type 0) (all : List (Instance → InterfaceType → Type 0)) (i : Instance) (type : InterfaceType) (k : ℕ) → AreOf (Fit ∷ all) i (types_from i.types type k) → IsNextType Fit i type k
next_of Fit all i type k h =
    let f = first_of Fit all i (types_of_tuple i.types type) k h in
    let e : suc k ≡ k + 1 = omega arith in
    record { fit = f.fit; members = ap (members_of i.types) f.is ∙ ap (λ (n : ℕ). member [] (shape_of i.types (member_type i.types type k)) (members_after i.types type n)) e }

-- there are none
none_in : (i : Instance) (types : List InterfaceType) → AreOf [] i types → members_of i.types types ≡ no_members
none_in i [] h = refl
none_in i (type ∷ types) h = absurd h

pub none_after : (i : Instance) (type : InterfaceType) (k : ℕ) → AreOf [] i (types_from i.types type k) → members_after i.types type k ≡ no_members
none_after i type k h = none_in i (types_from i.types type k) h
