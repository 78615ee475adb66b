-- The loop that lifts members: what is left completes what is done.
use Rattle.std.proofs.Common.{◌≡◌, ◌≤◌, ◌<◌, ◌+◌, ◌++◌, ◌∙◌, Err, List, Ok, [], ◌∷◌, ap, append_assoc, arith, length, subst, sym, ℕ}
use Rattle.std.proofs.lemmas.List.{append-nil}
use Rattle.canon_model.specs.Layout.{flat, members_flat}
use Rattle.canon_model.specs.Leaves.{flat_leaves, members_flat_leaves}
use Rattle.canon_model.specs.Memory.{Memory}
use Rattle.canon_model.specs.Shape.{Members, Name, Shape, member, no_members}
use Rattle.canon_model.specs.Text.{Encoding}
use Rattle.canon_value_parts.specs.Lifts.{AreValuesTaken, LiftsTo, PartsLiftTo}
use Rattle.canon_context.specs.declared.fault.Fault.{Fault}
use Rattle.canon_context.specs.declared.fault.Fault.TheVariants as fault
use Rattle.canon_val.specs.declared.val.Val.{Val}
use Rattle.canon_value_parts.proofs.LiftSteps.{name_unpaid, part_before, part_first, part_later, parts_none}

pub record LiftsParts (enc : Encoding) (m : Memory) (ws : List ℕ) (ms rest : Members) (from before at fuel : ℕ) (values : List Val) : Type 0 where
  pub room : at + members_flat rest ≤ length ws
  pub completes : (more : List Val) (to after : ℕ) → AreValuesTaken enc m ws at to fuel after rest more → AreValuesTaken enc m ws from to before after ms (values ++ more)
  pub fault : (e : Fault) → PartsLiftTo enc m ws at at fuel fuel rest (Err e) → PartsLiftTo enc m ws from from before before ms (Err e)

module _ (enc : Encoding) (m : Memory) (ws : List ℕ) (ms : Members) (from before : ℕ) where
  module _ (rest : Members) (at fuel : ℕ) (values : List Val) (h : LiftsParts enc m ws ms rest from before at fuel values) where
    pub lift_parts_end : rest ≡ no_members → AreValuesTaken enc m ws from at before fuel ms values
    lift_parts_end over =
        let none : AreValuesTaken enc m ws at at fuel fuel rest [] = subst (λ (r : Members). AreValuesTaken enc m ws at at fuel fuel r []) (sym over) (parts_none enc m ws at fuel) in
        subst (λ (xs : List Val). AreValuesTaken enc m ws from at before fuel ms xs) (append-nil values) (h.completes [] at fuel none)

    module _ (name : Name) (s : Shape) (more : Members) (split : rest ≡ member name s more) where
      words : members_flat rest ≡ flat s + members_flat more
      unfolding flat
      words = ap members_flat split

      pub lift_part_fits : at + flat s ≤ length ws
      lift_part_fits = omega (arith, words, h.room)

      -- the handles that are left
      pub lift_part_leaves : (to : ℕ) → to ≡ at + flat s → members_flat_leaves m ws rest at ≡ flat_leaves m ws s at ++ members_flat_leaves m ws more to
      unfolding flat_leaves
      lift_part_leaves to moved = ap (λ (r : Members). members_flat_leaves m ws r at) split ∙ ap (λ (k : ℕ). flat_leaves m ws s at ++ members_flat_leaves m ws more k) (sym moved)

      pub lift_part_refused : (e : Fault) → LiftsTo enc m ws at at fuel fuel s (Err e) → PartsLiftTo enc m ws from from before before ms (Err e)
      lift_part_refused e one = h.fault e (subst (λ (r : Members). PartsLiftTo enc m ws at at fuel fuel r (Err e)) (sym split) (part_first enc m ws _ _ _ at fuel e one))

      module _ (to left : ℕ) (v : Val) (one : LiftsTo enc m ws at to fuel left s (Ok v)) where
        pub lift_name_unpaid : left < length name → PartsLiftTo enc m ws from from before before ms (Err fault.HostcallFuelExhausted)
        lift_name_unpaid low = h.fault fault.HostcallFuelExhausted (subst (λ (r : Members). PartsLiftTo enc m ws at at fuel fuel r (Err fault.HostcallFuelExhausted)) (sym split) (name_unpaid enc m ws _ at to fuel left v one _ _ low))

        pub lift_parts_go_on : (less : ℕ) → left ≡ less + length name → LiftsParts enc m ws ms more from before to less (values ++ v ∷ [])
        lift_parts_go_on less charged = record {
          room = omega (arith, words, h.room, one.1);
          completes = λ others end after row.
              let all : AreValuesTaken enc m ws at end fuel after rest (v ∷ others) =
              subst (λ (r : Members). AreValuesTaken enc m ws at end fuel after r (v ∷ others)) (sym split) (part_before enc m ws s at to fuel left v one name more end less after others charged row) in
              subst (λ (xs : List Val). AreValuesTaken enc m ws from end before after ms xs) (sym (append_assoc values (v ∷ []) others)) (h.completes (v ∷ others) end after all);
          fault = λ e f. h.fault e (subst (λ (r : Members). PartsLiftTo enc m ws at at fuel fuel r (Err e)) (sym split) (part_later enc m ws s at to fuel left v one name more less e charged f));
        }
