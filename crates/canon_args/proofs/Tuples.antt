-- Results in a row of words, or as a tuple at an address.
use Rattle.std.proofs.Common.{List, Result, [], ap, arith, length, refl, subst, sym, true, ℕ, ◌++◌, ◌<◌, ◌∙◌, ◌∷◌, ◌≡◌, ◌≤◌}
use Rattle.std.proofs.Math.Seq.{take-append_seam}
use Rattle.std.specs.Prelude.{false, take}
use Rattle.canon_args.proofs.Near.{AreProducts, its_parts}
use Rattle.canon_args.specs.Params.{InParts}
use Rattle.canon_args.specs.Results.{LowersTuple, TypedResults}
use Rattle.canon_context.specs.Core.{Parts, encoding_by, stage_of}
use Rattle.canon_context.specs.declared.fault.Fault.{Fault}
use Rattle.canon_resources.specs.Parts.{Part}
use Rattle.canon_lower_parts.specs.Stores.{TypedStores}
use Rattle.canon_lower_parts.specs.Words.{TypedLowers}
use Rattle.canon_lowering.proofs.AimedAt.{members_framed}
use Rattle.canon_lowering.proofs.Attempts.{Turns, attempt_as, keeps_same, with_blocks, within_block}
use Rattle.canon_lowering.specs.Attempt.{LowersMembers, members_at, members_span, members_words, value_at, value_place, value_words}
use Rattle.canon_lowering.specs.Lowering.{Ending}
use Rattle.canon_memory.specs.Guest.{GuestIn, Seen}
use Rattle.canon_memory.specs.declared.event.Event.{Event}
use Rattle.canon_model.proofs.Layouts.{members_end-le-size}
use Rattle.canon_model.specs.Homes.{host_texts}
use Rattle.canon_model.specs.Flat.{MembersFlat, max_results}
use Rattle.canon_model.specs.Layout.{members_flat}
use Rattle.canon_model.specs.Leaves.{leaves}
use Rattle.canon_model.specs.Memory.{Block, InsideBlocks, Within, memory_of}
use Rattle.canon_model.specs.Rep.{MembersStored}
use Rattle.canon_model.specs.Requests.{requests}
use Rattle.canon_model.specs.Shape.{Members, of_places, product}
use Rattle.canon_model.specs.Text.{Encoding}
use Rattle.canon_model.specs.Tree.{Tree, Trees, parts, trees_of}
use Rattle.canon_passing.specs.Args.{LowersResults}
use Rattle.canon_lowering.specs.Stages.{Stage}

-- the words of a tuple are those of its members
row_turns : {K : Type 0} (enc : Encoding) (ms : Members) (Has : Tree → Type 0) (ws : List ℕ) (after : Stage K) → AreProducts Has
    → Turns false [] [] (value_words false (host_texts enc) (product of_places ms) ws 0 Has) (members_words false (host_texts enc) ms ws 0 (InParts Has)) after
unfolding requests leaves
row_turns enc ms Has ws after shaped = record {
  turn = trees_of;
  back = parts;
  is = its_parts Has shaped;
  is_back = λ ts has. has;
  asks = λ ts has. refl;
  rep = λ fresh t is h. let (ts, e, there) = h in subst (λ us. MembersFlat (InsideBlocks fresh (memory_of after.bytes false)) true enc (memory_of after.bytes false) ws ms 0 us) (sym (ap trees_of e)) there;
  home = λ pointer t xs ys is h. h;
  handles = λ t is. refl;
}

-- a tuple in memory is its members there
tuple_turns : {K : Type 0} (enc : Encoding) (ms : Members) (at : ℕ) (Has : Tree → Type 0) (after : Stage K) → AreProducts Has
    → Turns false (value_place false (product of_places ms) at ∷ []) (value_place false (product of_places ms) at ∷ []) (value_at false (host_texts enc) (product of_places ms) at Has)
    (members_at false (host_texts enc) ms 0 at (InParts Has)) after
unfolding requests leaves
tuple_turns enc ms at Has after shaped = record {
  turn = trees_of;
  back = parts;
  is = its_parts Has shaped;
  is_back = λ ts has. has;
  asks = λ ts has. refl;
  rep = λ fresh t is h. let (room, (ts, e, there)) = h in
      let place : Block = value_place false (product of_places ms) at in
      subst (λ us. MembersStored (InsideBlocks (place ∷ fresh) (memory_of after.bytes false)) true enc (memory_of after.bytes false) ms 0 at us) (sym (ap trees_of e)) there;
  home = λ pointer t xs ys is h. h;
  handles = λ t is. refl;
}

module _ {D G : Type 0} (seen : G → Seen) (moves : GuestIn G → List Event → GuestIn G → Type 0) (options : ℕ) (a c : Parts D G) (ms : Members) (at : ℕ) (Has : Tree → Type 0) (gives : List (List Part)) where
  pub results_near : AreProducts Has → (ws : List ℕ) (r : Result (Unit {0}) Fault) → members_flat ms ≤ max_results → TypedLowers seen moves options a c (product of_places ms) ws 0 Has gives r
      → TypedResults seen moves options a c ms at ws Has gives r
  results_near shaped ws r near h = record {
    handles = h.handles;
    ending = h.ending;
    ends = h.ends;
    lowered = record {
      near = λ _. attempt_as false (stage_of seen moves a) (stage_of seen moves c) [] [] (value_words false (host_texts (encoding_by a options)) (product of_places ms) ws 0 Has)
          (members_words false (host_texts (encoding_by a options)) ms ws 0 (InParts Has)) h.ending (λ i q. q)
          (row_turns (encoding_by a options) ms Has ws (stage_of seen moves c) shaped) h.attempt;
      far = λ far. absurd (omega (arith, near, far));
    };
    passed = h.passed;
    same = h.same;
    quiet = λ none. let (same, why) = h.quiet none in (ap (λ (x : Parts D G). x.guest) same, why);
    quiet_near = λ _ none. h.quiet none;
    cause = h.cause;
    small = h.small;
  }

  pub results_far : AreProducts Has → (ws : List ℕ) (r : Result (Unit {0}) Fault) → max_results < members_flat ms → TypedStores seen moves options a c (product of_places ms) at Has gives r
      → TypedResults seen moves options a c ms at ws Has gives r
  results_far shaped ws r far h = record {
    handles = h.handles;
    ending = h.ending;
    ends = h.ends;
    lowered = record {
      near = λ near. absurd (omega (arith, near, far));
      far = λ _. attempt_as false (stage_of seen moves a) (stage_of seen moves c) _ _ (value_at false (host_texts (encoding_by a options)) (product of_places ms) at Has)
          (members_at false (host_texts (encoding_by a options)) ms 0 at (InParts Has)) h.ending (λ i q. q)
          (tuple_turns (encoding_by a options) ms at Has (stage_of seen moves c) shaped) h.attempt;
    };
    passed = h.passed;
    same = h.same;
    quiet = λ none. h.quiet none;
    quiet_near = λ near. absurd (omega (arith, near, far));
    cause = h.cause;
    small = h.small;
  }

  -- the words stand first among others: of results in a row there are so many, and of others the words say nothing
  pub results_first : (ws rest : List ℕ) (r : Result (Unit {0}) Fault) → (members_flat ms ≤ max_results → length ws ≡ members_flat ms) → TypedResults seen moves options a c ms at ws Has gives r
      → TypedResults seen moves options a c ms at (take (members_flat ms) (ws ++ rest)) Has gives r
  results_first ws rest r count h = record {
    handles = h.handles;
    ending = h.ending;
    ends = h.ends;
    lowered = record {
      near = λ few. subst (λ xs. LowersMembers false (stage_of seen moves a) (stage_of seen moves c) (host_texts (encoding_by a options)) ms xs 0 (InParts Has) h.handles h.ending)
          (sym (ap (λ n. take n (ws ++ rest)) (sym (count few)) ∙ take-append_seam ws rest)) (h.lowered.near few);
      far = h.lowered.far;
    };
    passed = h.passed;
    same = h.same;
    quiet = h.quiet;
    quiet_near = h.quiet_near;
    cause = h.cause;
    small = h.small;
  }

-- what lowers members one by one lowers their tuple
pub as_tuple : {K : Type 0} (before after : Stage K) (enc : Encoding) (ms : Members) (Have : Trees → Type 0) (at : ℕ) (ws hs : List ℕ) (ending : Ending)
    → LowersResults before after enc ms Have at ws hs ending → LowersTuple before after enc ms Have at ws hs ending
as_tuple before after enc ms Have at ws hs ending h =
    let span : List Block = members_span false ms 0 at ∷ [] in
    let place : List Block = value_place false (product of_places ms) at ∷ [] in
    let within : Within span place = within_block _ _ _ _ (omega arith) (omega (arith, members_end-le-size false of_places ms)) in
    record {
      near = h.near;
      far = λ far. attempt_as false before after span place (members_at false (host_texts enc) ms 0 at Have) (members_at false (host_texts enc) ms 0 at Have) ending within (record {
        turn = λ ts. ts;
        back = λ ts. ts;
        is = λ ts have. have;
        is_back = λ ts have. have;
        asks = λ ts have. refl;
        rep = λ fresh ts is g. (members_framed false (host_texts enc) ms 0 at Have).rep (members_span false ms 0 at ∷ fresh)
            (value_place false (product of_places ms) at ∷ fresh) after.bytes after.bytes (keeps_same _ _ _ (with_blocks _ _ fresh within)) ts g;
        home = λ pointer ts xs ys is g. g;
        handles = λ ts is. refl;
      }) (h.far far);
    }
