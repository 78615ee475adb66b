-- Parameters in a block that a word points to.
use Rattle.std.proofs.Common.{Err, List, None, Ok, Result, [], ap, arith, false, inl, nat_le, refl, subst, sym, true, ℕ, ◌%◌, ◌<◌, ◌^◌, ◌∷◌, ◌∙◌, ◌≡◌}
use Rattle.std.specs.Prelude.{IfErr, OnOk}
use Rattle.std.proofs.lemmas.Bool.{cond-false, lt-leb}
use Rattle.canon_context.proofs.Cores.{not_done, same_encoding}
use Rattle.canon_context.proofs.Moves.{GuestLaws}
use Rattle.canon_context.specs.Asks.{AsksFor, SameBut}
use Rattle.canon_context.specs.Core.{Parts, encoding_by, moment_of, stage_of}
use Rattle.canon_context.specs.Lowers.{fault_ending}
use Rattle.canon_context.specs.Quiet.{have_block}
use Rattle.canon_context.specs.declared.fault.Fault.{Fault}
use Rattle.canon_resources.specs.Parts.{Part}
use Rattle.canon_ledger.specs.Ledger.{LedgerState}
use Rattle.canon_lower_parts.proofs.Attempts.{cross_stopped, ends_done, ends_early}
use Rattle.canon_lower_parts.proofs.BlockSteps.{elsewhere_asked}
use Rattle.canon_lower_parts.specs.Lowers.{EndsBy, HandlesCross}
use Rattle.canon_lower_parts.specs.Stores.{TypedStores}
use Rattle.canon_lowering.proofs.AimedAt.{value_framed}
use Rattle.canon_lowering.proofs.Attempts.{Points, attempt_block, block_first, block_only}
use Rattle.canon_lowering.proofs.Lowerings.{none_answered}
use Rattle.canon_lowering.proofs.Parameters.{args_ungiven, far_ungiven}
use Rattle.canon_lowering.proofs.WordsKept.{ptr_same}
use Rattle.canon_lowering.specs.Attempt.{LowersArgs, StoresValue, args_call, args_in, value_at, value_place}
use Rattle.canon_lowering.specs.Lowering.{AtMostOne, BeginsWith, CauseOf, refused}
use Rattle.canon_memory.specs.Realloc.{block}
use Rattle.canon_model.specs.Homes.{host_texts}
use Rattle.canon_model.specs.Flat.{max_params}
use Rattle.canon_model.specs.Layout.{members_align, members_flat, size}
use Rattle.canon_model.specs.Leaves.{leaves}
use Rattle.canon_model.specs.Memory.{InsideBlocks, memory_of, ptr}
use Rattle.canon_model.specs.Rep.{Stored}
use Rattle.canon_model.specs.Requests.{host_asks, requests, tuple_request}
use Rattle.canon_model.specs.Shape.{Members, Shape, of_places, product}
use Rattle.canon_types.specs.Instance.{Instance}
use Rattle.canon_model.specs.Text.{Encoding}
use Rattle.canon_model.specs.Tree.{Tree, parts, trees_of}
use Rattle.canon_passing.proofs.Far.{far_other}
use Rattle.canon_passing.proofs.Passing.{handles_instance, handles_then, same_handles, value_same_ledger, ungiven_elsewhere}
use Rattle.canon_args.proofs.Near.{AreProducts, its_parts}
use Rattle.canon_args.specs.Params.{AreSmallIn, BlamesIn, InParts, TypedParams}
use Rattle.canon_lowering.specs.Stages.{Stage}

-- what is stored at p, said of the word that points there
far_points : {K : Type 0} (enc : Encoding) (ms : Members) (Has : Tree → Type 0) (after : Stage K) (p : ℕ) → AreProducts Has → max_params < members_flat ms → p % members_align false ms ≡ 0 → p < 2 ^ 32
    → Points (block p (size false (product of_places ms))) (args_call false ms) p (value_at false (host_texts enc) (product of_places ms) p Has) (args_in false (host_texts enc) ms (p ∷ []) (InParts Has)) after
unfolding requests leaves
far_points enc ms Has after p shaped far aligned narrow =
    let m = memory_of after.bytes false in
    let same : ptr m p ≡ p = ptr_same false after.bytes p (λ nar. narrow) in
    record {
      turn = trees_of;
      back = parts;
      is = its_parts Has shaped;
      is_back = λ ts has. has;
      asks = λ ts has. (tuple_request false (host_asks enc) ms, cond-false (nat_le (members_flat ms) max_params) _ _ (lt-leb (members_flat ms) max_params far), λ last. refl);
      rep = λ blocks t is w h. record {
        near = λ l. absurd (omega (arith, far, l));
        far = λ l. (
          refl,
          record {
            aligned = subst (λ q. q % members_align false ms ≡ 0) (sym same) aligned;
            stored = let (ts, e) = shaped t is in
                subst (λ q. Stored (InsideBlocks blocks m) true enc m (product of_places ms) q (parts (trees_of t))) (sym same)
                (subst (λ u. Stored (InsideBlocks blocks m) true enc m (product of_places ms) p u) (e ∙ ap parts (sym (ap trees_of e))) h);
            narrow = λ st nar. narrow;
          },
        );
      };
      home = λ pointer t xs ys is h. record { near = λ l. absurd (omega (arith, far, l)); far = λ l. (xs, refl, h) };
      handles = λ t is. refl;
    }

module _ {D G : Type 0} (L : GuestLaws G) (options : ℕ) (a : Parts D G) (ms : Members) (Has : Tree → Type 0) (gives : List (List Part)) (far : max_params < members_flat ms) where
  abbrev enc : Encoding
  enc = encoding_by a options

  -- the block isn't given
  pub heap_ungiven : (b : Parts D G) (ws : List ℕ) (e : Fault) → AsksFor L.seen L.moves a b (args_call false ms) (Err e) → TypedParams L.seen L.moves options a b ms ws Has gives (Err e)
  heap_ungiven b ws e h =
      let asked = far_ungiven false (host_texts enc) ms (InParts Has) (InParts Has) [] (stage_of L.seen L.moves a) (stage_of L.seen L.moves b) ws (fault_ending e) 0 far (not_done e) h.small h.does in
      record {
        handles = [];
        ending = fault_ending e;
        ends = inl refl;
        lowered = record { lowered = args_ungiven false (host_texts enc) ms (InParts Has) (InParts Has) (stage_of L.seen L.moves a) (stage_of L.seen L.moves b) ws (fault_ending e) 0 far (not_done e) h.small h.does; asks = λ many. (asked.0, λ quiet. asked.1) };
        passed = cross_stopped a.ledger b.ledger gives e (value_same_ledger a b h.same) (ungiven_elsewhere (stage_of L.seen L.moves a) (stage_of L.seen L.moves b) (args_call false ms) e 0 h.does);
        same = same_handles a b h.same;
        quiet = λ near. absurd (omega (arith, near, far));
        cause = λ t has. inl (elsewhere_asked (stage_of L.seen L.moves a) (stage_of L.seen L.moves b) (args_call false ms) e 0 h.does);
        small = tt;
      }

  -- it is, and they are stored in it
  module _ (b c : Parts D G) (p : ℕ) (shaped : AreProducts Has) (g : AsksFor L.seen L.moves a b (args_call false ms) (Ok p)) (r : Result (Unit {0}) Fault)
      (h : TypedStores L.seen L.moves options b c (product of_places ms) p Has gives r) where
    stored : StoresValue false (stage_of L.seen L.moves b) (stage_of L.seen L.moves c) (host_texts enc) (product of_places ms) p Has h.handles h.ending
    stored = subst (λ (x : Encoding). StoresValue false (stage_of L.seen L.moves b) (stage_of L.seen L.moves c) (host_texts x) (product of_places ms) p Has h.handles h.ending) (same_encoding a b options g.same) h.attempt

    points : Points (block p (size false (product of_places ms))) (args_call false ms) p (value_at false (host_texts enc) (product of_places ms) p Has) (args_in false (host_texts enc) ms (p ∷ []) (InParts Has)) (stage_of L.seen L.moves c)
    points = far_points enc ms Has (stage_of L.seen L.moves c) p shaped far g.does.aligned g.does.narrow

    low : LowersArgs false (stage_of L.seen L.moves a) (stage_of L.seen L.moves c) (host_texts enc) ms (InParts Has) (p ∷ []) h.handles h.ending
    low = attempt_block false (stage_of L.seen L.moves a) (stage_of L.seen L.moves b) (stage_of L.seen L.moves c) (args_call false ms) p (value_place false (product of_places ms) p ∷ [])
        (value_at false (host_texts enc) (product of_places ms) p Has)
        (args_in false (host_texts enc) ms (p ∷ []) (InParts Has)) h.ending refl g.small g.does (value_framed false (host_texts enc) (product of_places ms) p Has) (λ i q. q) points stored

    first : BeginsWith (args_call false ms) h.ending low.answers low.trap
    unfolding low
    first = block_first _ _ _ _ _ _ _ _ _ _ _ _ _ _ _ _ stored

    -- where storing asks for nothing
    none_asked : have_block ms ≡ false → stored.answers ≡ []
    none_asked none = none_answered (L.seen b.guest).marks stored.answers (ap (λ (x : G). (L.seen x).marks) (sym (h.quiet none).0) ∙ stored.lowering.goes.marks)

    untrapped : (q : Result (Unit {0}) Fault) → EndsBy gives q h.ending → IfErr q (λ e. h.ending ≡ refused) → stored.trap ≡ None
    untrapped (Ok u) ends quiet = subst (λ end. CauseOf (moment_of L.seen b) (moment_of L.seen c) stored.answers stored.trap end) (ends_done gives u h.ending ends) stored.lowering.cause
    untrapped (Err e) ends quiet = subst (λ end. CauseOf (moment_of L.seen b) (moment_of L.seen c) stored.answers stored.trap end) quiet stored.lowering.cause

    alone : have_block ms ≡ false → AtMostOne low.answers low.trap
    unfolding low
    alone none = block_only _ _ _ _ _ _ _ _ _ _ _ _ _ _ _ _ stored (none_asked none) (untrapped r h.ends (h.quiet none).1)

    pub heap_stored : TypedParams L.seen L.moves options a c ms (p ∷ []) Has gives r
    heap_stored = record {
      handles = h.handles;
      ending = h.ending;
      ends = h.ends;
      lowered = record { lowered = low; asks = λ many. (first, alone) };
      passed = subst (λ (l : LedgerState). HandlesCross l c.ledger gives h.handles r) (value_same_ledger a b g.same) h.passed;
      same = handles_then a b c (same_handles a b g.same) h.same;
      quiet = λ near. absurd (omega (arith, near, far));
      cause = subst (λ (x : Encoding). IfErr r (BlamesIn x ms Has)) (same_encoding a b options g.same) h.cause;
      small = subst (λ (x : Encoding). OnOk r (AreSmallIn x ms Has)) (same_encoding a b options g.same) h.small;
    }

-- what was stored, said of the core before the block was asked for
pub stored_there : {D G : Type 0} (L : GuestLaws G) (options : ℕ) (a b c : Parts D G) (ms : Members) (p : ℕ) (Has : Tree → Type 0) (gives : Instance → Shape → List (List Part)) (z : Shape)
    → SameBut a b → z ≡ product of_places ms
    → (r : Result (Unit {0}) Fault) → TypedStores L.seen L.moves options b c z p Has (gives b.component.types z) r → TypedStores L.seen L.moves options b c (product of_places ms) p Has (gives a.component.types (product of_places ms)) r
stored_there L options a b c ms p Has gives z same is r h =
    subst (λ (i : Instance). TypedStores L.seen L.moves options b c (product of_places ms) p Has (gives i (product of_places ms)) r) (handles_instance a b (same_handles a b same))
    (subst (λ (s : Shape). TypedStores L.seen L.moves options b c s p Has (gives b.component.types s) r) is h)

-- where it wasn't done, the words say nothing
pub other_words : {D G : Type 0} (L : GuestLaws G) (options : ℕ) (a c : Parts D G) (ms : Members) (Has : Tree → Type 0) (gives : List (List Part)) (ws vs : List ℕ) (e : Fault) → TypedParams L.seen L.moves options a c ms ws Has gives (Err e)
    → TypedParams L.seen L.moves options a c ms vs Has gives (Err e)
other_words L options a c ms Has gives ws vs e h = record {
  handles = h.handles;
  ending = h.ending;
  ends = h.ends;
  lowered = far_other (encoding_by a options) ms (InParts Has) (stage_of L.seen L.moves a) (stage_of L.seen L.moves c) ws vs h.ending (ends_early gives e h.ending h.ends) h.lowered;
  passed = h.passed;
  same = h.same;
  quiet = h.quiet;
  cause = h.cause;
  small = h.small;
}
