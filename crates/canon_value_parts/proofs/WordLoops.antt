-- The loop that lowers members to words: what is left completes what is done.
use Rattle.canon_value_parts.specs.declared.spot.Spot.{Spot}
use Rattle.canon_value_parts.specs.Words.{LowersTo, PartsLowerTo}
use Rattle.std.proofs.Common.{◌≡◌, ◌≤◌, ◌<◌, ◌+◌, ◌^◌, Err, IsTrue, List, Ok, Result, [], ◌∷◌, ap, arith, drop, length, subst, sym, ℕ}
use Rattle.canon_memory.specs.Guest.{GuestIn, Seen}
use Rattle.canon_memory.specs.declared.event.Event.{Event}
use Rattle.canon_model.specs.Layout.{flat, members_flat}
use Rattle.canon_model.specs.Shape.{Members, Name, Shape, member, member_count, no_members}
use Rattle.canon_types.specs.Table.{Knows, TypeTable, shape_of}
use Rattle.canon_types.specs.declared.types.InterfaceType.{InterfaceType}
use Rattle.canon_context.specs.Core.{Parts, component_types}
use Rattle.canon_context.specs.Asks.{SameButHandles}
use Rattle.canon_value_parts.specs.View.{IsMember}
use Rattle.canon_plan.specs.Plan.{members_from}
use Rattle.canon_context.specs.declared.fault.Fault.{Fault}
use Rattle.canon_context.specs.declared.fault.Fault.TheVariants as fault
use Rattle.canon_value_parts.specs.declared.members.Member.{Member}
use Rattle.canon_val.specs.declared.val.Val.{Val}
use Rattle.canon_plan.proofs.Lookups.{drop_all, members_from-all}
use Rattle.canon_passing.proofs.Passing.{handles_then, handles_types}
use Rattle.canon_value_parts.proofs.WordSteps.{parts_cons, parts_named, parts_none, parts_stop}
use Rattle.canon_context.proofs.Moves.{GuestLaws}

module _ {T G : Type 0} (seen : G → Seen) (moves : GuestIn G → List Event → GuestIn G → Type 0) (options place : ℕ) (ms : Members) (names : List Name) (vs : List Val) (start : Parts T G) (first : List ℕ) (from : Spot) where
  -- `start` and `first` before the first member, `now` and `dst` before the one of number i, which stands at `next`
  pub record PartsAreLowered (now : Parts T G) (dst : List ℕ) (next : Spot) (i : ℕ) : Type 0 where
    pub small : length now.memory ≤ 2 ^ 32
    pub room : next.word + members_flat (members_from i ms) ≤ length dst
    pub counted : next.place < 2 ^ 64
    pub same : SameButHandles start now
    pub rest : (z : Parts T G) (zs : List ℕ) (r : Result Spot Fault) → PartsLowerTo seen moves options now z dst zs next r place (members_from i ms) (drop i names) (drop i vs)
        → PartsLowerTo seen moves options start z first zs from r place ms names vs

-- the member of number i has room, and its lowering may be called
pub record HasWordRoom {T G : Type 0} (now : Parts T G) (dst : List ℕ) (next : Spot) (type : InterfaceType) : Type 0 where
  pub known : Knows (component_types now) type
  pub room : next.word + flat (shape_of (component_types now) type) ≤ length dst
  pub small : length now.memory ≤ 2 ^ 32

module _ {T G : Type 0} (L : GuestLaws G) (options place : ℕ) (ms : Members) (names : List Name) (vs : List Val) (start : Parts T G) (first : List ℕ) (from : Spot)
    (now : Parts T G) (dst : List ℕ) (next : Spot) (i : ℕ) (h : PartsAreLowered L.seen L.moves options place ms names vs start first from now dst next i) where
  module _ (m : Member) (is : IsMember (component_types start) ms names vs i m) where
    abbrev s : Shape
    s = shape_of (component_types start) m.ty

    words : members_flat (members_from i ms) ≡ flat s + members_flat (members_from (i + 1) ms)
    unfolding flat
    words = ap members_flat is.shapes

    pub has_room : HasWordRoom now dst next m.ty
    has_room =
        let same : component_types now ≡ component_types start = handles_types start now h.same in
        let count : flat (shape_of (component_types now) m.ty) ≡ flat s = ap (λ (x : TypeTable). flat (shape_of x m.ty)) same in
        record {
          known = subst (λ (x : TypeTable). Knows x m.ty) (sym same) is.known;
          room = omega (arith, words, h.room, count);
          small = h.small;
        }

    -- the rest with its first member
    told : (z : Parts T G) (zs : List ℕ) (r : Result Spot Fault) → PartsLowerTo L.seen L.moves options now z dst zs next r place (member is.name s (members_from (i + 1) ms)) (is.named ∷ drop (i + 1) names) (m.value.now ∷ drop (i + 1) vs)
        → PartsLowerTo L.seen L.moves options now z dst zs next r place (members_from i ms) (drop i names) (drop i vs)
    told z zs r g =
        subst (λ (xs : Members). PartsLowerTo L.seen L.moves options now z dst zs next r place xs (drop i names) (drop i vs)) (sym is.shapes)
        (subst (λ (xs : List Name). PartsLowerTo L.seen L.moves options now z dst zs next r place (member is.name s (members_from (i + 1) ms)) xs (drop i vs)) (sym is.names)
        (subst (λ (xs : List Val). PartsLowerTo L.seen L.moves options now z dst zs next r place (member is.name s (members_from (i + 1) ms)) (is.named ∷ drop (i + 1) names) xs) (sym is.values) g))

    -- what its lowering left, said of the table of the start
    stood : (now2 : Parts T G) (dst2 : List ℕ) (r : Result Spot Fault) → LowersTo L.seen L.moves options now now2 dst dst2 next r (shape_of (component_types now) m.ty) m.value.now
        → LowersTo L.seen L.moves options now now2 dst dst2 next r s m.value.now
    stood now2 dst2 r g =
        subst (λ (x : TypeTable). LowersTo L.seen L.moves options now now2 dst dst2 next r (shape_of x m.ty) m.value.now) (handles_types start now h.same) g

    pub go_on : (now2 : Parts T G) (dst2 : List ℕ) (next2 : Spot) → IsTrue m.is_named → LowersTo L.seen L.moves options now now2 dst dst2 next (Ok next2) (shape_of (component_types now) m.ty) m.value.now
        → PartsAreLowered L.seen L.moves options place ms names vs start first from now2 dst2 next2 (i + 1)
    go_on now2 dst2 next2 named g =
        let one = stood now2 dst2 (Ok next2) g in
        record {
          small = one.lowered.lowering.small;
          room = omega (arith, words, h.room, one.passed, one.stays.same_length);
          counted = omega (arith, one.counted.0);
          same = handles_then start now now2 h.same one.same;
          rest = λ z zs r more. h.rest z zs r (told z zs r
              (parts_cons L options now now2 z dst dst2 zs place is.name is.named s (members_from (i + 1) ms) (drop (i + 1) names) m.value.now (drop (i + 1) vs) next next2 r (is.same.0 named) one more));
        }

    pub stop : (now2 : Parts T G) (dst2 : List ℕ) (e : Fault) → IsTrue m.is_named → LowersTo L.seen L.moves options now now2 dst dst2 next (Err e) (shape_of (component_types now) m.ty) m.value.now
        → PartsLowerTo L.seen L.moves options start now2 first dst2 from (Err e) place ms names vs
    stop now2 dst2 e named g = h.rest now2 dst2 (Err e) (told now2 dst2 (Err e)
        (parts_stop L options now now2 dst dst2 place is.name is.named s (members_from (i + 1) ms) (drop (i + 1) names) m.value.now (drop (i + 1) vs) next e (is.same.0 named) (stood now2 dst2 (Err e) g)))

    pub misnamed : ¬ (IsTrue m.is_named) → PartsLowerTo L.seen L.moves options start now first dst from (Err (fault.FieldName place)) place ms names vs
    misnamed other = h.rest now dst (Err (fault.FieldName place)) (told now dst (Err (fault.FieldName place))
        (parts_named L options now dst place is.name is.named s (members_from (i + 1) ms) (drop (i + 1) names) m.value.now (drop (i + 1) vs) next h.small (λ e. other (is.same.1 e))))

  pub end : i ≡ member_count ms → i ≡ length names → i ≡ length vs → PartsLowerTo L.seen L.moves options start now first dst from (Ok next) place ms names vs
  end em en ev = h.rest now dst (Ok next)
      (subst (λ (xs : Members). PartsLowerTo L.seen L.moves options now now dst dst next (Ok next) place xs (drop i names) (drop i vs)) (sym (members_from-all ms i em))
      (subst (λ (xs : List Name). PartsLowerTo L.seen L.moves options now now dst dst next (Ok next) place no_members xs (drop i vs)) (sym (drop_all names i en))
      (subst (λ (xs : List Val). PartsLowerTo L.seen L.moves options now now dst dst next (Ok next) place no_members [] xs) (sym (drop_all vs i ev))
      (parts_none L options now dst next place h.small h.counted))))
