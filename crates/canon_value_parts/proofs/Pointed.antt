-- Parameters or results that the only word points to, as a tuple.
use Rattle.std.proofs.Common.{◌≡◌, ◌≤◌, ◌<◌, ◌+◌, ◌%◌, ◌∙◌, Err, IfErr, IfOk, List, Ok, Result, Vec, ap, arith, eq-eqb, false, inl, inr, le-leb, length, nat_le, refl, subst, sym, ℕ}
use Rattle.std.proofs.lemmas.Bool.{and_from, cond-false, cond-true, lt-leb}
use Rattle.std.specs.Prelude.{slice_index}
use Rattle.std.specs.declared.alloc.Global.{Global}
use Rattle.canon_model.specs.Flat.{RepValues}
use Rattle.canon_model.specs.Layout.{members_align, members_flat, size}
use Rattle.canon_model.specs.Memory.{Inside, low}
use Rattle.canon_model.specs.Rep.{MembersStored}
use Rattle.canon_model.specs.Reach.{MemberFault, ValuesFault, members_reach, values_reach}
use Rattle.canon_model.specs.Shape.{Members, of_places, product}
use Rattle.canon_model.specs.Text.{Encoding}
use Rattle.canon_model.proofs.Unique.{one_tree}
use Rattle.canon_lowering.specs.Storing.{narrow}
use Rattle.canon_value_parts.specs.Lifts.{AreValues}
use Rattle.canon_context.specs.Told.{Exactly, LiftBlames, place_of}
use Rattle.canon_value_parts.specs.Loads.{AreLoaded}
use Rattle.canon_context.specs.declared.fault.At.TheVariants as at
use Rattle.canon_context.specs.declared.fault.Fault.{Fault}
use Rattle.canon_context.specs.declared.fault.Fault.TheVariants as fault
use Rattle.canon_val.specs.declared.val.Val.{Val}
use Rattle.canon_context.proofs.Told.{blamed_by}

module _ (enc : Encoding) (bytes ws : List ℕ) (most : ℕ) (ms : Members) (p before : ℕ) (is : p ≡ low (slice_index ws 0)) (far : most < members_flat ms) where
  abbrev IsBlamed : Fault → Type 0
  IsBlamed e = LiftBlames (Exactly (ValuesFault enc (narrow bytes) ws most ms)) (before < values_reach enc (narrow bytes) ws most ms) e

  pub misaligned_blamed : (p % members_align false ms ≡ 0 → ⊥) → LiftBlames (Exactly (ValuesFault enc (narrow bytes) ws most ms)) (before < values_reach enc (narrow bytes) ws most ms) (fault.PointerMisaligned (at.Word 0))
  misaligned_blamed wrong = inr (far, inl (inl (record { kind_is = refl; at_is = refl }, subst (λ n. n % members_align false ms ≡ 0 → ⊥) is wrong)))

  module _ (aligned : p % members_align false ms ≡ 0) (inside : p + size false (product of_places ms) ≤ length bytes) where
    aligned_there : low (slice_index ws 0) % members_align false ms ≡ 0
    aligned_there = subst (λ n. n % members_align false ms ≡ 0) is aligned

    inside_there : low (slice_index ws 0) + size false (product of_places ms) ≤ length bytes
    inside_there = subst (λ n. n + size false (product of_places ms) ≤ length bytes) is inside

    far_reach : values_reach enc (narrow bytes) ws most ms ≡ members_reach enc (narrow bytes) ms 0 p
    far_reach =
        cond-false (nat_le (members_flat ms) most) _ _ (lt-leb (members_flat ms) most far) ∙ cond-true _ _ _ (and_from _ _ (le-leb _ _ inside_there) (eq-eqb _ _ aligned_there))
        ∙ ap (members_reach enc (narrow bytes) ms 0) (sym is)

    members_blamed : (e : Fault) → LiftBlames (Exactly (MemberFault enc (narrow bytes) ms 0 p)) (before < members_reach enc (narrow bytes) ms 0 p) e → IsBlamed e
    members_blamed e h =
        blamed_by (Exactly (MemberFault enc (narrow bytes) ms 0 p)) (Exactly (ValuesFault enc (narrow bytes) ws most ms)) _ _
        (λ k x f. inr (far, inr ((aligned_there, inside_there), subst (λ n. MemberFault enc (narrow bytes) ms 0 n k (place_of x)) is f)))
        (λ less. omega (arith, less, far_reach)) e h

    far_results : (after : ℕ) (vs : List Val) → length ws ≡ 1 → AreLoaded enc (narrow bytes) ms 0 p before after vs → AreValues most enc (narrow bytes) ms ws before after vs
    far_results after vs one (ts, stored, have, spent) =
        let rep : RepValues most false enc (narrow bytes) ws ms ts = record {
          near = λ near. absurd (omega (arith, near, far));
          far = λ _. (
            one,
            record {
              aligned = aligned_there;
              stored = (inside_there, (ts, refl, subst (λ n. MembersStored (Inside (narrow bytes)) false enc (narrow bytes) ms 0 n ts) is stored));
              narrow = λ strict. cc;
            },
          );
        } in
        record { its_trees = ts; represented = rep; no_other = λ others h. one_tree.values most false enc (narrow bytes) ws ms others ts h rep; have = have; spent = spent }

    pub far_ok : (after : ℕ) (r : Result (Vec Val Global) Fault) → length ws ≡ 1 → IfOk r (λ vs. AreLoaded enc (narrow bytes) ms 0 p before after vs.items) → IfOk r (λ vs. AreValues most enc (narrow bytes) ms ws before after vs.items)
    far_ok after (Ok vs) one h = far_results after vs.items one h
    far_ok after (Err e) one h = tt

    pub far_err : (r : Result (Vec Val Global) Fault) → IfErr r (LiftBlames (Exactly (MemberFault enc (narrow bytes) ms 0 p)) (before < members_reach enc (narrow bytes) ms 0 p))
        → IfErr r (LiftBlames (Exactly (ValuesFault enc (narrow bytes) ws most ms)) (before < values_reach enc (narrow bytes) ws most ms))
    far_err (Ok vs) h = tt
    far_err (Err e) h = members_blamed e h
