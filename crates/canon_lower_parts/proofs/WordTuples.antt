-- Words of members one after another: what is left completes what is done. And the members of a tuple.
use Rattle.std.proofs.Common.{◌≡◌, ◌≤◌, ◌+◌, ◌++◌, ◌^◌, ◌∙◌, Err, List, Ok, Result, [], ◌∷◌, ap, arith, length, refl, subst, sym, ℕ}
use Rattle.canon_context.proofs.Moves.{GuestLaws}
use Rattle.canon_context.specs.Asks.{SameButHandles}
use Rattle.canon_context.specs.Core.{Parts, component_types}
use Rattle.canon_context.specs.declared.fault.Fault.{Fault}
use Rattle.canon_resources.specs.Parts.{Part}
use Rattle.canon_passing.proofs.Passing.{handles_instance, handles_then, handles_types}
use Rattle.canon_lower_parts.proofs.TupleSteps.{no_tuple_gives}
use Rattle.canon_lower_parts.proofs.TupleTypes.{IsNextType, next_of, none_after, tuple_seen}
use Rattle.canon_lower_parts.proofs.WordSteps.{members_more, members_none, lower_members_stop, product_lowers}
use Rattle.canon_passing.proofs.Words.{first_stay, stays_then}
use Rattle.canon_lower_parts.specs.Gives.{product_gives, row_gives}
use Rattle.canon_lower_parts.specs.Tuples.{member_type, members_after, types_from}
use Rattle.canon_lower_parts.specs.Words.{TypedLowers, TypedMembersLower}
use Rattle.canon_passing.specs.Words.{WordsStay}
use Rattle.canon_memory.specs.Guest.{GuestIn, Seen}
use Rattle.canon_memory.specs.declared.event.Event.{Event}
use Rattle.canon_model.specs.Fits.{Fits}
use Rattle.canon_model.specs.Layout.{flat, members_flat}
use Rattle.canon_model.specs.Shape.{Members, Shape, member, no_members, of_places}
use Rattle.canon_model.specs.Tree.{Tree, Trees}
use Rattle.canon_types.specs.Instance.{Instance}
use Rattle.canon_types.specs.Table.{TypeTable, shape_of}
use Rattle.canon_types.specs.declared.types.InterfaceType.{InterfaceType}
use Rattle.canon_typed.specs.Meaning.{FirstAnd, NoTrees, ProductMeans}
use Rattle.canon_typed.specs.Types.{AreOf, IsTupleOf}

-- ---- members

pub lower_members_words : (s : Shape) (ms : Members) → members_flat (member [] s ms) ≡ flat s + members_flat ms
unfolding flat
lower_members_words s ms = refl

module _ {D G : Type 0} (seen : G → Seen) (moves : GuestIn G → List Event → GuestIn G → Type 0) (options : ℕ) (start : Parts D G) (whole : Members) (Have : Trees → Type 0) (gives : List (List Part)) where
  -- before the members `rest`, whose words begin at `at` and were `ws` until now
  pub record MembersDone (now : Parts D G) (opts : ℕ) (ws : List ℕ) (at : ℕ) (rest : Members) (HaveRest : Trees → Type 0) (left : List (List Part)) : Type 0 where
    pub same : SameButHandles start now
    pub same_options : opts ≡ options
    pub room : at + members_flat rest ≤ length ws
    pub completes : (c : Parts D G) (vs : List ℕ) (r : Result (Unit {0}) Fault) → WordsStay at ws vs → TypedMembersLower seen moves options now c rest vs at HaveRest left r
        → TypedMembersLower seen moves options start c whole vs 0 Have gives r

module _ {D G : Type 0} (L : GuestLaws G) (options : ℕ) (start : Parts D G) (whole : Members) (Have : Trees → Type 0) (gives : List (List Part)) where
  abbrev TupleDone : Parts D G → ℕ → List ℕ → ℕ → Members → (Trees → Type 0) → List (List Part) → Type 0
  TupleDone now opts ws at rest HaveRest left = MembersDone L.seen L.moves options start whole Have gives now opts ws at rest HaveRest left

  pub done_none : (ws : List ℕ) → members_flat whole ≤ length ws → TupleDone start options ws 0 whole Have gives
  done_none ws room = record { same = refl; same_options = refl; room = omega (arith, room); completes = λ c vs r stays h. h }

  module _ (now : Parts D G) (opts : ℕ) (ws : List ℕ) (at : ℕ) (type : InterfaceType) (ms : Members) (Has : Tree → Type 0) (HaveRest : Trees → Type 0) (f : Instance → Shape → List (List Part)) (left : List (List Part))
      (h : TupleDone now opts ws at (member [] (shape_of (component_types start) type) ms) (FirstAnd Has HaveRest) (f start.component.types (shape_of (component_types start) type) ++ left)) where
    abbrev s : Shape
    s = shape_of (component_types start) type

    same_shape : shape_of (component_types now) type ≡ s
    same_shape = ap (λ (x : TypeTable). shape_of x type) (handles_types start now h.same)

    pub done_room : at + flat (shape_of (component_types now) type) ≤ length ws
    done_room = omega (arith, h.room, lower_members_words s ms, ap flat same_shape)

    -- lowering the next one, said of the core now
    abbrev pub Next : Parts D G → List ℕ → Result (Unit {0}) Fault → Type 0
    Next c vs r = TypedLowers L.seen L.moves opts now c (shape_of (component_types now) type) vs at Has (f now.component.types (shape_of (component_types now) type)) r

    of_start : (c : Parts D G) (vs : List ℕ) (r : Result (Unit {0}) Fault) → Next c vs r → TypedLowers L.seen L.moves options now c s vs at Has (f start.component.types s) r
    of_start c vs r low = subst (λ (n : ℕ). TypedLowers L.seen L.moves n now c s vs at Has (f start.component.types s) r) h.same_options
        (subst (λ (i : Instance). TypedLowers L.seen L.moves opts now c (shape_of i.types type) vs at Has (f i (shape_of i.types type)) r) (handles_instance start now h.same) low)

    pub done_more : (c : Parts D G) (opts2 : ℕ) (vs : List ℕ) (at2 : ℕ) → ((t : Tree) → Has t → Fits s t) → WordsStay at ws vs → at2 ≡ at + flat (shape_of (component_types now) type) → opts2 ≡ opts → Next c vs (Ok tt)
        → TupleDone c opts2 vs at2 ms HaveRest left
    done_more c opts2 vs at2 fits stays end eo low =
        let here : TypedLowers L.seen L.moves options now c s vs at Has (f start.component.types s) (Ok tt) = of_start c vs (Ok tt) low in
        let to : at2 ≡ at + flat s = end ∙ ap (λ (n : ℕ). at + n) (ap flat same_shape) in
        record {
          same = handles_then start now c h.same here.same;
          same_options = eo ∙ h.same_options;
          room = omega (arith, h.room, lower_members_words s ms, to, stays.same_length);
          completes = λ d us r more k. h.completes d us r (stays_then at at2 ws vs us (omega (arith, to)) stays more)
              (members_more L options now c d s ms vs us at Has HaveRest (f start.component.types s) left r fits (first_stay at at2 (flat s) vs us to more) here
              (subst (λ (n : ℕ). TypedMembersLower L.seen L.moves options c d ms us n HaveRest left r) to k));
        }

    pub done_stop : (c : Parts D G) (vs : List ℕ) (e : Fault) → WordsStay at ws vs → Next c vs (Err e) → TypedMembersLower L.seen L.moves options start c whole vs 0 Have gives (Err e)
    done_stop c vs e stays low = h.completes c vs (Err e) stays (lower_members_stop L options now c s ms vs at Has HaveRest (f start.component.types s) left e (of_start c vs (Err e) low))

  pub done_end : (now : Parts D G) (opts : ℕ) (ws : List ℕ) (at : ℕ) → length now.memory ≤ 2 ^ 32 → TupleDone now opts ws at no_members NoTrees [] → TypedMembersLower L.seen L.moves options start now whole ws 0 Have gives (Ok tt)
  done_end now opts ws at small h = h.completes now ws (Ok tt) (record { same_length = refl; before = λ p l. refl }) (members_none L options now ws at small)

-- ---- the first member of a tuple, and the others

module _ {D G : Type 0} (L : GuestLaws G) (options : ℕ) (a : Parts D G) (type : InterfaceType) (k : ℕ) (Fit : Instance → InterfaceType → Type 0) (all : List (Instance → InterfaceType → Type 0))
    (are : AreOf (Fit ∷ all) a.component.types (types_from (component_types a) type k)) where
  abbrev part : Shape
  part = shape_of (component_types a) (member_type (component_types a) type k)

  next : IsNextType Fit a.component.types type k
  next = next_of Fit all a.component.types type k are

  pub first_room : (at m : ℕ) → at + members_flat (members_after (component_types a) type k) ≤ m → at + flat part ≤ m
  first_room at m room = omega (arith, room, ap members_flat next.members, lower_members_words part (members_after (component_types a) type (k + 1)))

  module _ (b : Parts D G) (same : SameButHandles a b) (k2 : ℕ) (e : k2 ≡ k + 1) (at at2 : ℕ) (end : at2 ≡ at + flat part) where
    pub later_room : (m m2 : ℕ) → m2 ≡ m → at + members_flat (members_after (component_types a) type k) ≤ m → at2 + members_flat (members_after (component_types b) type k2) ≤ m2
    later_room m m2 count room = omega (
      arith,
      count,
      room,
      end,
      ap members_flat next.members,
      lower_members_words part (members_after (component_types a) type (k + 1)),
      ap (λ (t : TypeTable). members_flat (members_after t type k2)) (handles_types a b same),
      ap (λ (n : ℕ). members_flat (members_after (component_types a) type n)) e,
    )

    module _ (Has : Tree → Type 0) (Have : Trees → Type 0) (f : Instance → Shape → List (List Part)) (fs : Instance → List (Shape → List (List Part))) where
      pub lowered_more : (c : Parts D G) (options2 : ℕ) (ws vs : List ℕ) (r : Result (Unit {0}) Fault) → ((t : Tree) → Has t → Fits part t) → options2 ≡ options → WordsStay at2 ws vs
          → TypedLowers L.seen L.moves options a b part ws at Has (f a.component.types part) (Ok tt)
          → TypedMembersLower L.seen L.moves options2 b c (members_after (component_types b) type k2) vs at2 Have (row_gives (members_after (component_types b) type k2) (fs b.component.types)) r
          → TypedMembersLower L.seen L.moves options a c (members_after (component_types a) type k) vs at (FirstAnd Has Have) (row_gives (members_after (component_types a) type k) (f a.component.types ∷ fs a.component.types)) r
      lowered_more c options2 ws vs r fits eo stays one more =
          let rest : TypedMembersLower L.seen L.moves options b c (members_after (component_types a) type (k + 1)) vs (at + flat part) Have (row_gives (members_after (component_types a) type (k + 1)) (fs a.component.types)) r =
          subst (λ (i : Instance). TypedMembersLower L.seen L.moves options b c (members_after i.types type (k + 1)) vs (at + flat part) Have (row_gives (members_after i.types type (k + 1)) (fs i)) r) (handles_instance a b same)
          (subst (λ (n : ℕ). TypedMembersLower L.seen L.moves options b c (members_after (component_types b) type n) vs (at + flat part) Have (row_gives (members_after (component_types b) type n) (fs b.component.types)) r) e
          (subst (λ (n : ℕ). TypedMembersLower L.seen L.moves options b c (members_after (component_types b) type k2) vs n Have (row_gives (members_after (component_types b) type k2) (fs b.component.types)) r) end
          (subst (λ (n : ℕ). TypedMembersLower L.seen L.moves n b c (members_after (component_types b) type k2) vs at2 Have (row_gives (members_after (component_types b) type k2) (fs b.component.types)) r) eo more))) in
          subst (λ (ms : Members). TypedMembersLower L.seen L.moves options a c ms vs at (FirstAnd Has Have) (row_gives ms (f a.component.types ∷ fs a.component.types)) r) (sym next.members)
          (members_more L options a b c part (members_after (component_types a) type (k + 1)) ws vs at Has Have (f a.component.types part) (row_gives (members_after (component_types a) type (k + 1)) (fs a.component.types)) r fits
          (first_stay at at2 (flat part) ws vs end stays) one rest)

  pub lowered_stop : (b : Parts D G) (ws : List ℕ) (at : ℕ) (Has : Tree → Type 0) (Have : Trees → Type 0) (f : Instance → Shape → List (List Part)) (fs : Instance → List (Shape → List (List Part))) (e : Fault)
      → TypedLowers L.seen L.moves options a b part ws at Has (f a.component.types part) (Err e)
      → TypedMembersLower L.seen L.moves options a b (members_after (component_types a) type k) ws at (FirstAnd Has Have) (row_gives (members_after (component_types a) type k) (f a.component.types ∷ fs a.component.types)) (Err e)
  lowered_stop b ws at Has Have f fs e one =
      subst (λ (ms : Members). TypedMembersLower L.seen L.moves options a b ms ws at (FirstAnd Has Have) (row_gives ms (f a.component.types ∷ fs a.component.types)) (Err e)) (sym next.members)
      (lower_members_stop L options a b part (members_after (component_types a) type (k + 1)) ws at Has Have (f a.component.types part) (row_gives (members_after (component_types a) type (k + 1)) (fs a.component.types)) e one)

pub lowered_none : {D G : Type 0} (L : GuestLaws G) (options : ℕ) (a : Parts D G) (type : InterfaceType) (k : ℕ) (ws : List ℕ) (at : ℕ) → length a.memory ≤ 2 ^ 32 → AreOf [] a.component.types (types_from (component_types a) type k)
    → TypedMembersLower L.seen L.moves options a a (members_after (component_types a) type k) ws at NoTrees (row_gives (members_after (component_types a) type k) []) (Ok tt)
lowered_none L options a type k ws at small are = subst (λ (ms : Members). TypedMembersLower L.seen L.moves options a a ms ws at NoTrees (row_gives ms []) (Ok tt)) (sym (none_after a.component.types type k are))
    (members_none L options a ws at small)

-- ---- the whole tuple

module _ {D G : Type 0} (L : GuestLaws G) (options : ℕ) (a : Parts D G) (type : InterfaceType) (all : List (Instance → InterfaceType → Type 0)) (of : IsTupleOf all a.component.types type) where
  pub tuple_room : (dst : List ℕ) → length dst ≡ flat (shape_of (component_types a) type) → 0 + members_flat (members_after (component_types a) type 0) ≤ length dst
  unfolding flat
  tuple_room dst room = omega (arith, room, ap flat (tuple_seen all a.component.types type of).shape)

  pub tuple_lowered : (c : Parts D G) (ws : List ℕ) (Have : Trees → Type 0) (fs : List (Shape → List (List Part))) (r : Result (Unit {0}) Fault)
      → TypedMembersLower L.seen L.moves options a c (members_after (component_types a) type 0) ws 0 Have (row_gives (members_after (component_types a) type 0) fs) r
      → TypedLowers L.seen L.moves options a c (shape_of (component_types a) type) ws 0 (ProductMeans Have) (product_gives fs (shape_of (component_types a) type)) r
  tuple_lowered c ws Have fs r h =
      let shape = (tuple_seen all a.component.types type of).shape in
      subst (λ (gs : List (List Part)). TypedLowers L.seen L.moves options a c (shape_of (component_types a) type) ws 0 (ProductMeans Have) gs r) (sym (ap (product_gives fs) shape))
      (product_lowers L options a c (shape_of (component_types a) type) of_places (members_after (component_types a) type 0) ws Have (row_gives (members_after (component_types a) type 0) fs) r shape h)

-- a tuple of none
pub unit_lowers : {D G : Type 0} (L : GuestLaws G) (options : ℕ) (a : Parts D G) (type : InterfaceType) (ws : List ℕ) → length a.memory ≤ 2 ^ 32 → IsTupleOf [] a.component.types type
    → TypedLowers L.seen L.moves options a a (shape_of (component_types a) type) ws 0 (ProductMeans NoTrees) [] (Ok tt)
unit_lowers L options a type ws small of =
    subst (λ (gs : List (List Part)). TypedLowers L.seen L.moves options a a (shape_of (component_types a) type) ws 0 (ProductMeans NoTrees) gs (Ok tt)) (no_tuple_gives a.component.types type of)
    (tuple_lowered L options a type [] of a ws NoTrees [] (Ok tt) (lowered_none L options a type 0 ws 0 small (tuple_seen [] a.component.types type of).are))
