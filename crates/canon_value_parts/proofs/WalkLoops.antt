-- The loop that stores members: what is left completes what is done.
use Rattle.std.proofs.Common.{◌≡◌, ◌≤◌, ◌<◌, ◌+◌, ◌^◌, Err, IsTrue, List, Ok, Result, [], ◌∷◌, ap, arith, drop, false, length, subst, suc, sym, zero, ℕ}
use Rattle.canon_memory.specs.Guest.{GuestIn, Seen}
use Rattle.canon_memory.specs.declared.event.Event.{Event}
use Rattle.canon_model.specs.Layout.{begins, ends, members_end, size}
use Rattle.canon_model.specs.Shape.{Members, Name, Shape, member, member_count, no_members}
use Rattle.canon_types.specs.Depth.{deepest, depth}
use Rattle.canon_types.specs.Table.{Knows, TypeTable, shape_of}
use Rattle.canon_types.specs.declared.types.InterfaceType.{InterfaceType}
use Rattle.canon_context.specs.Core.{Parts, component_types}
use Rattle.canon_context.specs.Asks.{SameButHandles}
use Rattle.canon_value_parts.specs.Stores.{PartsStoreTo, StoresTo}
use Rattle.canon_value_parts.specs.View.{IsMember}
use Rattle.canon_plan.specs.Plan.{members_from}
use Rattle.canon_context.specs.declared.fault.Fault.{Fault}
use Rattle.canon_context.specs.declared.fault.Fault.TheVariants as fault
use Rattle.canon_value_parts.specs.declared.members.Member.{Member}
use Rattle.canon_val.specs.declared.val.Val.{Val}
use Rattle.canon_plan.proofs.Lookups.{drop_all, member_room, members_from-all}
use Rattle.canon_passing.proofs.Passing.{handles_then, handles_types}
use Rattle.canon_context.proofs.Moves.{GuestLaws}
use Rattle.canon_value_parts.proofs.Walks.{parts_cons, parts_named, parts_none, parts_stop}

-- a member is no deeper than the deepest
pub member_shallow : (ms : Members) (i : ℕ) (name : Name) (s : Shape) (rest : Members) → members_from i ms ≡ member name s rest → depth s ≤ deepest ms
member_shallow no_members zero name s rest e = cc
member_shallow no_members (suc i) name s rest e = cc
member_shallow (member n u ms) zero name s rest e = let same : u ≡ s = cc in omega (arith, ap depth same)
member_shallow (member n u ms) (suc i) name s rest e = omega (arith, member_shallow ms i name s rest e)

module _ {T G : Type 0} (seen : G → Seen) (moves : GuestIn G → List Event → GuestIn G → Type 0) (options place : ℕ) (ms : Members) (names : List Name) (vs : List Val) (start : Parts T G) (at from : ℕ) where
  -- `start` before the first member, `now` before the one of number i, which is at place `next`; the one before it ends at offset o
  pub record PartsAreStored (now : Parts T G) (next o i : ℕ) : Type 0 where
    pub small : length now.memory ≤ 2 ^ 32
    pub longer : length start.memory ≤ length now.memory
    pub room : at + members_end false o (members_from i ms) ≤ length start.memory
    pub counted : next < 2 ^ 64
    pub same : SameButHandles start now
    pub rest : (z : Parts T G) (r : Result ℕ Fault) → PartsStoreTo seen moves options now z place (members_from i ms) o at (drop i names) (drop i vs) next r → PartsStoreTo seen moves options start z place ms 0 at names vs from r

-- the member of number i stands inside memory, and its storing may be called
pub record WalkStands {T G : Type 0} (start now : Parts T G) (at o : ℕ) (type : InterfaceType) : Type 0 where
  pub known : Knows (component_types now) type
  pub room : at + begins false o (shape_of (component_types start) type) + size false (shape_of (component_types now) type) ≤ length now.memory
  pub fits : ends false o (shape_of (component_types start) type) < 2 ^ 64
  pub small : length now.memory ≤ 2 ^ 32

module _ {T G : Type 0} (L : GuestLaws G) (options place : ℕ) (ms : Members) (names : List Name) (vs : List Val) (start : Parts T G) (at from : ℕ)
    (now : Parts T G) (next o i : ℕ) (h : PartsAreStored L.seen L.moves options place ms names vs start at from now next o i) where
  module _ (m : Member) (is : IsMember (component_types start) ms names vs i m) where
    abbrev s : Shape
    s = shape_of (component_types start) m.ty

    pub stands : WalkStands start now at o m.ty
    stands =
        let same : component_types now ≡ component_types start = handles_types start now h.same in
        let end : members_end false o (members_from i ms) ≡ members_end false o (member is.name s (members_from (i + 1) ms)) = ap (members_end false o) is.shapes in
        let first = member_room is.name s (members_from (i + 1) ms) o in
        let bytes : size false (shape_of (component_types now) m.ty) ≡ size false s = ap (λ (x : TypeTable). size false (shape_of x m.ty)) same in
        record {
          known = subst (λ (x : TypeTable). Knows x m.ty) (sym same) is.known;
          room = omega (arith, end, first, h.room, h.longer, bytes);
          fits = omega (arith, end, first, h.room, h.longer, h.small);
          small = h.small;
        }

    -- the rest with its first member
    told : (z : Parts T G) (r : Result ℕ Fault) → PartsStoreTo L.seen L.moves options now z place (member is.name s (members_from (i + 1) ms)) o at (is.named ∷ drop (i + 1) names) (m.value.now ∷ drop (i + 1) vs) next r
        → PartsStoreTo L.seen L.moves options now z place (members_from i ms) o at (drop i names) (drop i vs) next r
    told z r g =
        subst (λ (xs : Members). PartsStoreTo L.seen L.moves options now z place xs o at (drop i names) (drop i vs) next r) (sym is.shapes)
        (subst (λ (xs : List Name). PartsStoreTo L.seen L.moves options now z place (member is.name s (members_from (i + 1) ms)) o at xs (drop i vs) next r) (sym is.names)
        (subst (λ (xs : List Val). PartsStoreTo L.seen L.moves options now z place (member is.name s (members_from (i + 1) ms)) o at (is.named ∷ drop (i + 1) names) xs next r) (sym is.values) g))

    -- what its storing left, said of the table of the start
    stood : (now2 : Parts T G) (p : ℕ) (r : Result ℕ Fault) → p ≡ begins false o s → StoresTo L.seen L.moves options now now2 (shape_of (component_types now) m.ty) (at + p) m.value.now next r
        → StoresTo L.seen L.moves options now now2 s (at + begins false o s) m.value.now next r
    stood now2 p r ep g =
        subst (λ (b : ℕ). StoresTo L.seen L.moves options now now2 s (at + b) m.value.now next r) ep
        (subst (λ (x : TypeTable). StoresTo L.seen L.moves options now now2 (shape_of x m.ty) (at + p) m.value.now next r) (handles_types start now h.same) g)

    pub go_on : (now2 : Parts T G) (p next2 o2 : ℕ) → IsTrue m.is_named → p ≡ begins false o s → o2 ≡ ends false o s → next2 < 2 ^ 64
        → StoresTo L.seen L.moves options now now2 (shape_of (component_types now) m.ty) (at + p) m.value.now next (Ok next2) → PartsAreStored L.seen L.moves options place ms names vs start at from now2 next2 o2 (i + 1)
    unfolding size
    go_on now2 p next2 o2 named ep e2 few g =
        let one = stood now2 p (Ok next2) ep g in
        let end : members_end false o (members_from i ms) ≡ members_end false (ends false o s) (members_from (i + 1) ms) = ap (members_end false o) is.shapes in
        subst (λ (q : ℕ). PartsAreStored L.seen L.moves options place ms names vs start at from now2 next2 q (i + 1)) (sym e2) (record {
          small = one.storing.lowering.small;
          longer = omega (arith, h.longer, one.storing.lowering.goes.no_shorter);
          room = omega (arith, end, h.room);
          counted = few;
          same = handles_then start now now2 h.same one.same;
          rest = λ z r more. h.rest z r (told z r (parts_cons L options now now2 z place is.name is.named s (members_from (i + 1) ms) o at (drop (i + 1) names) m.value.now (drop (i + 1) vs) next next2 r (is.same.0 named) one more));
        })

    pub stop : (now2 : Parts T G) (p : ℕ) (e : Fault) → IsTrue m.is_named → p ≡ begins false o s
        → StoresTo L.seen L.moves options now now2 (shape_of (component_types now) m.ty) (at + p) m.value.now next (Err e)
        → PartsStoreTo L.seen L.moves options start now2 place ms 0 at names vs from (Err e)
    stop now2 p e named ep g = h.rest now2 (Err e) (told now2 (Err e)
        (parts_stop L options now now2 place is.name is.named s (members_from (i + 1) ms) o at (drop (i + 1) names) m.value.now (drop (i + 1) vs) next e (is.same.0 named) (stood now2 p (Err e) ep g)))

    pub misnamed : ¬ (IsTrue m.is_named) → PartsStoreTo L.seen L.moves options start now place ms 0 at names vs from (Err (fault.FieldName place))
    misnamed other = h.rest now (Err (fault.FieldName place)) (told now (Err (fault.FieldName place))
        (parts_named L options now place is.name is.named s (members_from (i + 1) ms) o at (drop (i + 1) names) m.value.now (drop (i + 1) vs) next h.small (λ e. other (is.same.1 e))))

  pub end : i ≡ member_count ms → i ≡ length names → i ≡ length vs → PartsStoreTo L.seen L.moves options start now place ms 0 at names vs from (Ok next)
  end em en ev = h.rest now (Ok next)
      (subst (λ (xs : Members). PartsStoreTo L.seen L.moves options now now place xs o at (drop i names) (drop i vs) next (Ok next)) (sym (members_from-all ms i em))
      (subst (λ (xs : List Name). PartsStoreTo L.seen L.moves options now now place no_members o at xs (drop i vs) next (Ok next)) (sym (drop_all names i en))
      (subst (λ (xs : List Val). PartsStoreTo L.seen L.moves options now now place no_members o at [] xs next (Ok next)) (sym (drop_all vs i ev))
      (parts_none L options now place at o next h.small h.counted))))

-- what the storing of a list's members left, said of other words for the same
pub parts_stood : {T G : Type 0} → (L : GuestLaws G) (b c : Parts T G) (options place at : ℕ) (ms ms2 : Members) (names names2 : List Name) (vs vs2 : List Val) (from from2 : ℕ) (r : Result ℕ Fault)
    → ms2 ≡ ms → names2 ≡ names → vs2 ≡ vs → from2 ≡ from → PartsStoreTo L.seen L.moves options b c place ms2 0 at names2 vs2 from2 r → PartsStoreTo L.seen L.moves options b c place ms 0 at names vs from r
parts_stood L b c options place at ms ms2 names names2 vs vs2 from from2 r em en ev ef h =
    subst (λ (xs : Members). PartsStoreTo L.seen L.moves options b c place xs 0 at names vs from r) em
    (subst (λ (xs : List Name). PartsStoreTo L.seen L.moves options b c place ms2 0 at xs vs from r) en
    (subst (λ (xs : List Val). PartsStoreTo L.seen L.moves options b c place ms2 0 at names2 xs from r) ev
    (subst (λ (n : ℕ). PartsStoreTo L.seen L.moves options b c place ms2 0 at names2 vs2 n r) ef h)))
