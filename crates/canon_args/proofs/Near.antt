-- Parameters in a row of words.
use Rattle.std.proofs.Common.{List, Result, [], ap, arith, le-leb, length, nat_le, refl, subst, sym, ℕ, ◌≡◌, ◌≤◌}
use Rattle.std.specs.Prelude.{false, true}
use Rattle.std.proofs.lemmas.Bool.{cond-true}
use Rattle.canon_context.proofs.Moves.{GuestLaws}
use Rattle.canon_context.specs.Core.{Parts, encoding_by, stage_of}
use Rattle.canon_context.specs.declared.fault.Fault.{Fault}
use Rattle.canon_resources.specs.Parts.{Part}
use Rattle.canon_lower_parts.specs.Words.{TypedLowers}
use Rattle.canon_lowering.proofs.Attempts.{Turns, attempt_as}
use Rattle.canon_lowering.specs.Attempt.{args_in, value_words}
use Rattle.canon_model.specs.Homes.{host_texts}
use Rattle.canon_model.specs.Flat.{MembersFlat, max_params}
use Rattle.canon_model.specs.Layout.{members_flat}
use Rattle.canon_model.specs.Leaves.{leaves}
use Rattle.canon_model.specs.Memory.{InsideBlocks, memory_of}
use Rattle.canon_model.specs.Requests.{requests}
use Rattle.canon_model.specs.Shape.{Members, Shape, of_places, product}
use Rattle.canon_model.specs.Text.{Encoding}
use Rattle.canon_model.specs.Tree.{Tree, Trees, parts, trees_of}
use Rattle.canon_typed.specs.Trees.{IsTreeOf}
use Rattle.canon_typed.specs.Typed.{IsTyped}
use Rattle.canon_typed.specs.Walked.{IsWalked}
use Rattle.canon_types.specs.Instance.{Instance}
use Rattle.canon_types.specs.Table.{shape_of}
use Rattle.canon_types.specs.declared.types.InterfaceType.{InterfaceType}
use Rattle.canon_args.specs.Params.{InParts, TypedParams}
use Rattle.canon_lowering.specs.Stages.{Stage}

-- each is the tree of a tuple
abbrev pub AreProducts : (Tree → Type 0) → Type 0
AreProducts Has = (t : Tree) → Has t → (ts : Trees) × (t ≡ parts ts)

pub its_parts : (Has : Tree → Type 0) → AreProducts Has → (t : Tree) → Has t → InParts Has (trees_of t)
its_parts Has shaped t has = let (ts, e) = shaped t has in subst (λ u. Has (parts (trees_of u))) (sym e) (subst Has e has)

pub products_of : {P : Type 0} (Fit : Instance → InterfaceType → Type 0) (Means Walks : P → Tree → Type 0) → IsTyped Fit Means → IsWalked Walks Means → (i : Instance) (type : InterfaceType) (ms : Members) (v : P) → Fit i type
    → shape_of i.types type ≡ product of_places ms → AreProducts (Walks v)
products_of Fit Means Walks typed walked i type ms v fits is t has = let (ts, e, all) = subst (λ (s : Shape). IsTreeOf s t) is (typed v i type t fits (walked v t has)) in (ts, e)

-- ---- in a row

near_turns : {K : Type 0} (enc : Encoding) (ms : Members) (Has : Tree → Type 0) (ws : List ℕ) (after : Stage K) → AreProducts Has → members_flat ms ≤ max_params → length ws ≡ members_flat ms
    → Turns false [] [] (value_words false (host_texts enc) (product of_places ms) ws 0 Has) (args_in false (host_texts enc) ms ws (InParts Has)) after
unfolding requests leaves
near_turns enc ms Has ws after shaped near count = record {
  turn = trees_of;
  back = parts;
  is = its_parts Has shaped;
  is_back = λ ts has. has;
  asks = λ ts has. cond-true (nat_le (members_flat ms) max_params) _ _ (le-leb _ _ near);
  rep = λ fresh t is h. record {
    near = λ l. (count, let (ts, e, there) = h in subst (λ us. MembersFlat (InsideBlocks fresh (memory_of after.bytes false)) true enc (memory_of after.bytes false) ws ms 0 us) (sym (ap trees_of e)) there);
    far = λ l. absurd (omega (arith, near, l));
  };
  home = λ pointer t xs ys is h. record { near = λ l. h; far = λ l. absurd (omega (arith, near, l)) };
  handles = λ t is. refl;
}

module _ {D G : Type 0} (L : GuestLaws G) (options : ℕ) (a c : Parts D G) (ms : Members) (Has : Tree → Type 0) (gives : List (List Part)) (shaped : AreProducts Has) where
  pub stack_lowered : (ws : List ℕ) (r : Result (Unit {0}) Fault) → members_flat ms ≤ max_params → length ws ≡ members_flat ms → TypedLowers L.seen L.moves options a c (product of_places ms) ws 0 Has gives r
      → TypedParams L.seen L.moves options a c ms ws Has gives r
  stack_lowered ws r near count h = record {
    handles = h.handles;
    ending = h.ending;
    ends = h.ends;
    lowered = record {
      lowered = attempt_as false (stage_of L.seen L.moves a) (stage_of L.seen L.moves c) [] [] (value_words false (host_texts (encoding_by a options)) (product of_places ms) ws 0 Has)
          (args_in false (host_texts (encoding_by a options)) ms ws (InParts Has)) h.ending (λ i q. q)
          (near_turns (encoding_by a options) ms Has ws (stage_of L.seen L.moves c) shaped near count) h.attempt;
      asks = λ far. absurd (omega (arith, near, far));
    };
    passed = h.passed;
    same = h.same;
    quiet = λ _ none. h.quiet none;
    cause = h.cause;
    small = h.small;
  }
