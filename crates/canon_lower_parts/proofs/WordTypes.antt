-- What a look-up gives of a type that is a Rust type's.
use Rattle.std.proofs.Common.{◌≡◌, ◌≤◌, ◌+◌, ◌∙◌, All, None, Option, Some, [], ap, arith, false, refl, subst, true, Bool, ℕ}
use Rattle.canon_lower_parts.proofs.WordCases.{only, variant_flat}
use Rattle.canon_passing.proofs.Shapes.{payload_words}
use Rattle.canon_lower_parts.specs.Cases.{HasCase, payload_members}
use Rattle.canon_model.specs.Layout.{flat, members_flat}
use Rattle.canon_model.specs.Shape.{Shape, bare, case_for, no_cases, of_option, of_result, option_of, payload, result_of}
use Rattle.canon_types.specs.Instance.{Instance}
use Rattle.canon_types.specs.Table.{IsDefined, Knows, KnowsPayload, OptionType, ResultType, TypeTable, all_shapes, parts, payload_in, shape_of}
use Rattle.canon_types.specs.declared.types.InterfaceType.{InterfaceType}
use Rattle.canon_types.specs.declared.types.InterfaceType.TheVariants as ty
use Rattle.canon_typed.specs.Types.{IsPayloadOf}

-- ---- cases

pub lower_case_room : (s : Shape) (d : ℕ) (p : Option Shape) → HasCase s d p → 1 + members_flat (payload_members p) ≤ flat s
lower_case_room s d p h = omega (arith, ap flat h.shape, variant_flat h.kind h.cases, payload_words h.cases d, ap members_flat h.members)

pub bare_room : (s : Shape) (d : ℕ) → HasCase s d None → 1 ≤ flat s
bare_room s d h = omega (arith, lower_case_room s d None h)

pub some_room : (s : Shape) (d : ℕ) (u : Shape) → HasCase s d (Some u) → 1 + flat u ≤ flat s
unfolding flat
some_room s d u h = omega (arith, lower_case_room s d (Some u) h)

pub option_none : (s u : Shape) → s ≡ option_of u → HasCase s 0 None
option_none s u e = record { kind = of_option; cases = bare [] (payload [] u no_cases); shape = e; inside = omega arith; members = refl }

pub option_some : (s u : Shape) → s ≡ option_of u → HasCase s 1 (Some u)
option_some s u e = record { kind = of_option; cases = bare [] (payload [] u no_cases); shape = e; inside = omega arith; members = refl }

pub result_ok : (s : Shape) (p q : Option Shape) → s ≡ result_of p q → HasCase s 0 p
result_ok s None q e = record { kind = of_result; cases = case_for None (case_for q no_cases); shape = e; inside = omega arith; members = refl }
result_ok s (Some u) q e = record { kind = of_result; cases = case_for (Some u) (case_for q no_cases); shape = e; inside = omega arith; members = refl }

pub result_err : (s : Shape) (p q : Option Shape) → s ≡ result_of p q → HasCase s 1 q
result_err s None None e = record { kind = of_result; cases = case_for None (case_for None no_cases); shape = e; inside = omega arith; members = refl }
result_err s None (Some v) e = record { kind = of_result; cases = case_for None (case_for (Some v) no_cases); shape = e; inside = omega arith; members = refl }
result_err s (Some u) None e = record { kind = of_result; cases = case_for (Some u) (case_for None no_cases); shape = e; inside = omega arith; members = refl }
result_err s (Some u) (Some v) e = record { kind = of_result; cases = case_for (Some u) (case_for (Some v) no_cases); shape = e; inside = omega arith; members = refl }

-- ---- look-ups, in the types of the start

pub option_shape : (t t2 : TypeTable) (j : ℕ) (some type : InterfaceType) → t2 ≡ t → type ≡ ty.Option j → IsDefined t2 (ty.Option j) (OptionType some) → shape_of t type ≡ option_of (shape_of t some)
option_shape t t2 j some type e is h = ap (shape_of t) is ∙ subst (λ (x : TypeTable). shape_of x (ty.Option j) ≡ option_of (shape_of x some)) e h.shape

pub option_known : (t t2 : TypeTable) (j : ℕ) (some : InterfaceType) → t2 ≡ t → IsDefined t2 (ty.Option j) (OptionType some) → Knows t some
option_known t t2 j some e h = subst (λ (x : TypeTable). Knows x some) e (h.known 0 some (omega arith))

pub result_shape : (t t2 : TypeTable) (j : ℕ) (ok error : Option InterfaceType) (type : InterfaceType) → t2 ≡ t → type ≡ ty.Result j → IsDefined t2 (ty.Result j) (ResultType ok error)
    → shape_of t type ≡ result_of (payload_in (all_shapes t) ok) (payload_in (all_shapes t) error)
result_shape t t2 j ok error type e is h = ap (shape_of t) is ∙ subst (λ (x : TypeTable). shape_of x (ty.Result j) ≡ result_of (payload_in (all_shapes x) ok) (payload_in (all_shapes x) error)) e h.shape

pub no_payload : (unit : Bool) (Fit : Instance → InterfaceType → Type 0) (i : Instance) → IsPayloadOf unit Fit i None → unit ≡ true
no_payload true Fit i h = refl
no_payload false Fit i h = absurd h

pub some_payload : (unit : Bool) (Fit : Instance → InterfaceType → Type 0) (i : Instance) (type : InterfaceType) → IsPayloadOf unit Fit i (Some type) → (unit ≡ false) × Fit i type
some_payload true Fit i type h = absurd h
some_payload false Fit i type h = (refl, h)

pub result_knows : (t t2 : TypeTable) (j : ℕ) (ok error : Option InterfaceType) → t2 ≡ t → IsDefined t2 (ty.Result j) (ResultType ok error) → KnowsPayload t ok × KnowsPayload t error
result_knows t t2 j ok error e h = subst (λ (x : TypeTable). KnowsPayload x ok × KnowsPayload x error) e (both t2 ok error h.known)
  where
    both : (t : TypeTable) (ok error : Option InterfaceType) → All (Knows t) (parts (ResultType ok error)) → KnowsPayload t ok × KnowsPayload t error
    both t None None all = (tt, tt)
    both t None (Some y) all = (tt, all 0 y (omega arith))
    both t (Some x) None all = (all 0 x (omega arith), tt)
    both t (Some x) (Some y) all = (all 0 x (omega arith), all 1 y (omega arith))

pub only_flat : (u : Shape) → members_flat (only u) ≡ flat u
unfolding flat
only_flat u = omega arith
