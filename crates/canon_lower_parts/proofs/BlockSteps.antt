-- Blocks that are asked for, and what stands in them.
use Rattle.std.proofs.Common.{◌≡◌, ◌≤◌, ◌<◌, ◌+◌, ◌*◌, ◌^◌, ◌∙◌, ◌∷◌, Err, List, Ok, Result, [], ap, ap₂, arith, false, inl, inr, length, refl, subst, sym, true, ⊎_elim, ℕ}
use Rattle.canon_context.proofs.Cores.{not_done, same_encoding}
use Rattle.canon_context.proofs.Moves.{GuestLaws}
use Rattle.canon_context.specs.Asks.{AsksFor}
use Rattle.canon_context.specs.Core.{Parts, encoding_by, stage_of}
use Rattle.canon_context.specs.Lowers.{fault_ending}
use Rattle.canon_context.specs.Quiet.{has_block}
use Rattle.canon_context.specs.declared.fault.Fault.{Fault}
use Rattle.canon_context.specs.declared.fault.Fault.TheVariants as fault
use Rattle.canon_resources.specs.Parts.{Part}
use Rattle.canon_ledger.specs.Ledger.{LedgerState}
use Rattle.canon_lowering.proofs.AimedPairs as pairs
use Rattle.canon_lowering.proofs.AimedPairs.{MakesRow}
use Rattle.canon_lowering.proofs.Attempts.{attempt_other, attempt_refused}
use Rattle.canon_lowering.proofs.Lowerings.{NotDone, lowering_within, when_not}
use Rattle.canon_lowering.specs.Attempt.{Attempt, LowersValue, StoresMembers, StoresValue, items_call, value_words}
use Rattle.canon_lowering.specs.Lowering.{Ending, Reallocated, done, refused}
use Rattle.canon_memory.specs.Guest.{GuestIn, Seen}
use Rattle.canon_memory.specs.Realloc.{call}
use Rattle.canon_memory.specs.declared.event.Event.{Event}
use Rattle.canon_model.specs.Homes.{host_texts}
use Rattle.canon_model.specs.Layout.{align, size}
use Rattle.canon_model.specs.Requests.{Call}
use Rattle.canon_model.specs.Shape.{ListKind, Members, Shape, list, string}
use Rattle.canon_model.specs.Text.{Encoding}
use Rattle.canon_model.specs.Tree.{Tree, Trees, items, tree_count, trees_of}
use Rattle.canon_lower_parts.proofs.Attempts.{Cause, cause_of, cross_stopped, ends_done, ends_early, lower_not_false}
use Rattle.canon_lower_parts.proofs.TooLarge.{block_small}
use Rattle.canon_passing.proofs.Passing.{handles_then, same_handles, value_same_ledger, ungiven_elsewhere}
use Rattle.canon_lower_parts.specs.Blames.{HasLarge, HaveLarge, IsElsewhere, SomeTree}
use Rattle.canon_lower_parts.specs.Lowers.{HandlesCross}
use Rattle.canon_lower_parts.specs.Places.{BlockAsked, IsGivenBlock, IsNoBlock, IsPairPut, TypedPlaces}
use Rattle.canon_lower_parts.specs.Stores.{TypedMembersStore, TypedStores}
use Rattle.canon_lower_parts.specs.declared.blocks.Placed.{Placed}
use Rattle.canon_lowering.specs.Stages.{Stage, holding}

-- ---- what is asked for

asked_as : {D G : Type 0} (seen : G → Seen) (moves : GuestIn G → List Event → GuestIn G → Type 0) (before after : Parts D G) (s : Shape) (n bytes : ℕ) (c : Call) (r : Result ℕ Fault)
    → c ≡ items_call false s n → n < 2 ^ 32 → n * size false s < 2 ^ 32
    → AsksFor seen moves before after c r → BlockAsked seen moves before after s n r
asked_as seen moves before after s n bytes c (Ok p) is narrow fit h = record { asked = subst (λ (x : Call). AsksFor seen moves before after x (Ok p)) is h; few = narrow; fit = fit }
asked_as seen moves before after s n bytes c (Err e) is narrow fit h = inr (subst (λ (x : Call). AsksFor seen moves before after x (Err e)) is h)

pub asked_items : {D G : Type 0} (seen : G → Seen) (moves : GuestIn G → List Event → GuestIn G → Type 0) (before after : Parts D G) (s : Shape) (n bytes unit alignment : ℕ) (r : Result ℕ Fault)
    → unit ≡ size false s → alignment ≡ align false s
    → (bytes ≡ n * unit) × (n < 2 ^ 32) × (bytes < 2 ^ 32) → AsksFor seen moves before after (call 0 0 alignment bytes) r → BlockAsked seen moves before after s n r
asked_items seen moves before after s n bytes unit alignment r eu ea (whole, few, fit) h =
    let same : bytes ≡ n * size false s = whole ∙ ap (λ (x : ℕ). n * x) eu in
    asked_as seen moves before after s n bytes (call 0 0 alignment bytes) r (ap₂ (λ (x y : ℕ). call 0 0 x y) ea same) few (omega (arith, same, fit)) h

-- ---- faults of a request: no value is to blame

pub elsewhere_asked : {K : Type 0} (a b : Stage K) (c : Call) (e : Fault) (p : ℕ) → Reallocated a b c (fault_ending e) p → IsElsewhere e
elsewhere_asked a b c (fault.TypeMismatch k) p h = absurd h
elsewhere_asked a b c (fault.LengthMismatch k) p h = absurd h
elsewhere_asked a b c (fault.FieldName k) p h = absurd h
elsewhere_asked a b c (fault.UnknownCase k) p h = absurd h
elsewhere_asked a b c (fault.UnknownFlag k) p h = absurd h
elsewhere_asked a b c (fault.PayloadExpected k) p h = absurd h
elsewhere_asked a b c (fault.PayloadNotExpected k) p h = absurd h
elsewhere_asked a b c (fault.ReallocMisaligned k) p h = tt
elsewhere_asked a b c (fault.ReallocOutOfBounds k) p h = tt
elsewhere_asked a b c fault.GuestTrap p h = tt
elsewhere_asked a b c (fault.PointerMisaligned k) p h = absurd h
elsewhere_asked a b c (fault.PointerOutOfBounds k) p h = absurd h
elsewhere_asked a b c (fault.StringTooLong k) p h = absurd h
elsewhere_asked a b c (fault.SizeOverflow k) p h = absurd h
elsewhere_asked a b c (fault.InvalidUtf8 k) p h = absurd h
elsewhere_asked a b c (fault.InvalidUtf16 k) p h = absurd h
elsewhere_asked a b c (fault.InvalidChar k) p h = absurd h
elsewhere_asked a b c (fault.BadDiscriminant k n) p h = absurd h
elsewhere_asked a b c fault.HostcallFuelExhausted p h = absurd h
elsewhere_asked a b c fault.OutOfMemory p h = tt
elsewhere_asked a b c (fault.Resource r) p h = absurd h

-- ---- a value that was lowered to words, and not to its end

stop_at : {K : Type 0} {hs : List ℕ} (a b : Stage K) (enc : Encoding) (s : Shape) (at : ℕ) (Has : Tree → Type 0) (ws : List ℕ) (e : Ending) → NotDone e
    → LowersValue false a b (host_texts enc) s ws 0 Has hs e → StoresValue false a b (host_texts enc) s at Has hs e
stop_at a b enc s at Has ws e not h = record {
  answers = h.answers;
  trap = h.trap;
  fresh = h.fresh;
  lowering = lowering_within a b [] _ e _ _ _ (λ i q. absurd q) h.lowering;
  requested = h.requested;
  shown = when_not e _ not;
}

-- one of the trees that are stored has a part that is too large exactly where an item has one
abbrev pub AsItems : Encoding → Shape → Members → (Tree → Type 0) → (Tree → Trees) → Type 0
AsItems enc s ms Has back = (t : Tree) → Has t → (e : Fault) → (HaveLarge enc ms e (back t) → SomeTree (λ u. HasLarge enc s e u) (trees_of t)) × (SomeTree (λ u. HasLarge enc s e u) (trees_of t) → HaveLarge enc ms e (back t))

module _ {D G : Type 0} (L : GuestLaws G) (options : ℕ) where
  -- ---- a list in a block of its own

  module _ (z s : Shape) (k : ListKind) (n : ℕ) (Has : Tree → Type 0) (gs : List (List Part)) (shape : z ≡ list k s) (counts : (t : Tree) → Has t → tree_count (trees_of t) ≡ n) where
    -- its block isn't given
    pub lower_list_refused : (a b : Parts D G) (e : Fault) → IsNoBlock L.seen L.moves a b s n e → TypedPlaces L.seen L.moves options a b z Has gs (Err e)
    lower_list_refused a b e (inl (is, same, small, many)) = subst (λ (y : Shape). TypedPlaces L.seen L.moves options a b y Has gs (Err e)) (sym shape)
        (subst (λ (x : Parts D G). TypedPlaces L.seen L.moves options a x (list k s) Has gs (Err e)) (sym same)
        (subst (λ (x : Fault). TypedPlaces L.seen L.moves options a a (list k s) Has gs (Err x)) (sym is) (record {
          placed = record {
            handles = [];
            ending = refused;
            ends = inl refl;
            attempt = attempt_refused false (stage_of L.seen L.moves a) [] _ small;
            passed = cross_stopped a.ledger a.ledger gs (fault.SizeOverflow n) refl refl;
            same = refl;
            quiet = λ none. absurd (lower_not_false none);
            cause = λ t has. inr (inl (sym (counts t has), many));
            small = tt;
          };
          narrow = tt;
        })))
    lower_list_refused a b e (inr h) = subst (λ (y : Shape). TypedPlaces L.seen L.moves options a b y Has gs (Err e)) (sym shape) (record {
      placed = record {
        handles = [];
        ending = fault_ending e;
        ends = inl refl;
        attempt = pairs.list_ungiven false (stage_of L.seen L.moves a) (stage_of L.seen L.moves b) (host_texts (encoding_by a options)) k s n 0 [] 0 Has (fault_ending e) (not_done e) h.small counts h.does;
        passed = cross_stopped a.ledger b.ledger gs e (value_same_ledger a b h.same) (ungiven_elsewhere (stage_of L.seen L.moves a) (stage_of L.seen L.moves b) (items_call false s n) e 0 h.does);
        same = same_handles a b h.same;
        quiet = λ none. absurd (lower_not_false none);
        cause = λ t has. inl (elsewhere_asked (stage_of L.seen L.moves a) (stage_of L.seen L.moves b) (items_call false s n) e 0 h.does);
        small = tt;
      };
      narrow = tt;
    })

    -- its block is given, and its items are stored there as these members
    module _ (all : ℕ) (ms : Members) (group : Trees → Trees) (back : Tree → Trees) (row : (enc : Encoding) → MakesRow false (host_texts enc) s n ms all group) (Have : Trees → Type 0)
        (to : (ts : Trees) → Have ts → Has (items (group ts)) × (tree_count ts ≡ all)) (from : (t : Tree) → Has t → Have (back t) × (trees_of t ≡ group (back t)))
        (items_large : (enc : Encoding) → AsItems enc s ms Has back) (a b c : Parts D G) (p : ℕ) (g : IsGivenBlock L.seen L.moves a b s n p) where
      words : (r : Result (Unit {0}) Fault) (h : TypedMembersStore L.seen L.moves options b c ms 0 p Have gs r)
          → LowersValue false (stage_of L.seen L.moves a) (stage_of L.seen L.moves c) (host_texts (encoding_by a options)) (list k s) (p ∷ n ∷ []) 0 Has h.handles h.ending
      words r h = pairs.rows_words false (stage_of L.seen L.moves a) (stage_of L.seen L.moves b) (stage_of L.seen L.moves c) (host_texts (encoding_by a options)) k s n p all ms group back
          (row (encoding_by a options)) Have Has h.ending g.asked.small g.asked.does (λ _. g.few) to from
          (subst (λ (x : Encoding). StoresMembers false (stage_of L.seen L.moves b) (stage_of L.seen L.moves c) (host_texts x) ms 0 p Have h.handles h.ending) (same_encoding a b options g.asked.same) h.attempt)

      passed : (r : Result (Unit {0}) Fault) (h : TypedMembersStore L.seen L.moves options b c ms 0 p Have gs r) → HandlesCross a.ledger c.ledger gs h.handles r
      passed r h = subst (λ (l : LedgerState). HandlesCross l c.ledger gs h.handles r) (value_same_ledger a b g.asked.same) h.passed

      all_small : (h : TypedMembersStore L.seen L.moves options b c ms 0 p Have gs (Ok tt)) (t : Tree) → Has t → (e : Fault) → ¬ HaveLarge (encoding_by a options) ms e (back t)
      all_small h t has e some = h.small (back t) (from t has).0 e (subst (λ (x : Encoding). HaveLarge x ms e (back t)) (sym (same_encoding a b options g.asked.same)) some)

      pub lower_list_placed : TypedMembersStore L.seen L.moves options b c ms 0 p Have gs (Ok tt) → TypedPlaces L.seen L.moves options a c z Has gs (Ok (record { pointer = p; length = n }))
      lower_list_placed h = subst (λ (y : Shape). TypedPlaces L.seen L.moves options a c y Has gs (Ok (record { pointer = p; length = n }))) (sym shape) (record {
        placed = record {
          handles = h.handles;
          ending = h.ending;
          ends = h.ends;
          attempt = words (Ok tt) h;
          passed = passed (Ok tt) h;
          same = handles_then a b c (same_handles a b g.asked.same) h.same;
          quiet = λ none. absurd (lower_not_false none);
          cause = tt;
          small = λ t has e some. ⊎_elim (block_small (encoding_by a options) k s t n (counts t has) g.few g.fit e) (λ items. all_small h t has e ((items_large (encoding_by a options) t has e).1 items)) some;
        };
        narrow = (g.asked.does.narrow, g.few);
      })

      pub lower_list_broken : (e : Fault) → TypedMembersStore L.seen L.moves options b c ms 0 p Have gs (Err e) → TypedPlaces L.seen L.moves options a c z Has gs (Err e)
      lower_list_broken e h = subst (λ (y : Shape). TypedPlaces L.seen L.moves options a c y Has gs (Err e)) (sym shape) (record {
        placed = record {
          handles = h.handles;
          ending = h.ending;
          ends = h.ends;
          attempt = attempt_other false (stage_of L.seen L.moves a) (stage_of L.seen L.moves c) [] _ (value_words false (host_texts (encoding_by a options)) (list k s) [] 0 Has) h.ending
              (ends_early gs e h.ending h.ends) (λ t has. (has, refl)) (words (Err e) h);
          passed = passed (Err e) h;
          same = handles_then a b c (same_handles a b g.asked.same) h.same;
          quiet = λ none. absurd (lower_not_false none);
          cause = cause_of Have Has (HaveLarge (encoding_by a options) ms) (HasLarge (encoding_by a options) (list k s)) e (λ t has. (back t, (from t has).0, λ some. inr ((items_large (encoding_by a options) t has e).0 some)))
              (subst (λ (x : Encoding). Cause Have (HaveLarge x ms) e) (same_encoding a b options g.asked.same) h.cause);
          small = tt;
        };
        narrow = tt;
      })

  -- ---- its pointer and its length, in memory

  pub placed_stops : (a b : Parts D G) (s : Shape) (at : ℕ) (Has : Tree → Type 0) (gs : List (List Part)) (e : Fault) → has_block s ≡ true → TypedPlaces L.seen L.moves options a b s Has gs (Err e)
      → TypedStores L.seen L.moves options a b s at Has gs (Err e)
  placed_stops a b s at Has gs e block h = record {
    handles = h.placed.handles;
    ending = h.placed.ending;
    ends = h.placed.ends;
    attempt = stop_at (stage_of L.seen L.moves a) (stage_of L.seen L.moves b) (encoding_by a options) s at Has [] h.placed.ending (ends_early gs e h.placed.ending h.placed.ends) h.placed.attempt;
    passed = h.placed.passed;
    same = h.placed.same;
    quiet = λ none. absurd (lower_not_false (sym block ∙ none));
    cause = h.placed.cause;
    small = tt;
  }

  module _ (a b c : Parts D G) (at : ℕ) (Has : Tree → Type 0) (gs : List (List Part)) (x : Placed) (room : at + 8 ≤ length b.memory) (w : IsPairPut b c at x.pointer x.length) where
    abbrev Stored : Shape → Type 0
    Stored s = TypedStores L.seen L.moves options a c s at Has gs (Ok tt)

    block_put : (s : Shape) → has_block s ≡ true → (h : TypedPlaces L.seen L.moves options a b s Has gs (Ok x))
        → (LowersValue false (stage_of L.seen L.moves a) (holding (stage_of L.seen L.moves b) b.memory) (host_texts (encoding_by a options)) s (x.pointer ∷ x.length ∷ []) 0 Has h.placed.handles done
        → Attempt false (holding (stage_of L.seen L.moves b) b.memory) (holding (stage_of L.seen L.moves b) c.memory) (pairs.pair_place false at ∷ []) (pairs.pair_aim false at x.pointer x.length) [] done
        → StoresValue false (stage_of L.seen L.moves a) (holding (stage_of L.seen L.moves b) c.memory) (host_texts (encoding_by a options)) s at Has h.placed.handles done)
        → Stored s
    block_put s block h store =
        let is_done = ends_done gs tt h.placed.ending h.placed.ends in
        let lowered : LowersValue false (stage_of L.seen L.moves a) (stage_of L.seen L.moves b) (host_texts (encoding_by a options)) s (x.pointer ∷ x.length ∷ []) 0 Has h.placed.handles done =
        subst (λ (e : Ending). LowersValue false (stage_of L.seen L.moves a) (stage_of L.seen L.moves b) (host_texts (encoding_by a options)) s (x.pointer ∷ x.length ∷ []) 0 Has h.placed.handles e) is_done h.placed.attempt in
        let written : Attempt false (holding (stage_of L.seen L.moves b) b.memory) (holding (stage_of L.seen L.moves b) c.memory) (pairs.pair_place false at ∷ []) (pairs.pair_aim false at x.pointer x.length) [] done =
        pairs.pair_written false (stage_of L.seen L.moves b) b.memory c.memory at x.pointer x.length lowered.lowering.small room w.pair.writes w.pair.pointer w.pair.count in
        subst (λ (y : Parts D G). TypedStores L.seen L.moves options a y s at Has gs (Ok tt)) (sym w.same) (record {
          handles = h.placed.handles;
          ending = done;
          ends = inl refl;
          attempt = store lowered written;
          passed = h.placed.passed;
          same = ap (λ (y : Parts D G). record y { memory = c.memory }) h.placed.same;
          quiet = λ none. absurd (lower_not_false (sym block ∙ none));
          cause = tt;
          small = h.placed.small;
        })

    pub list_put : (z s : Shape) (k : ListKind) → z ≡ list k s → TypedPlaces L.seen L.moves options a b z Has gs (Ok x) → Stored z
    list_put z s k shape h = subst Stored (sym shape) (
        let here : TypedPlaces L.seen L.moves options a b (list k s) Has gs (Ok x) = subst (λ (y : Shape). TypedPlaces L.seen L.moves options a b y Has gs (Ok x)) shape h in
        block_put (list k s) refl here (λ lowered written. pairs.list_stored false (host_texts (encoding_by a options)) at x.pointer x.length Has (λ _. here.narrow.0) (λ _. here.narrow.1) (stage_of L.seen L.moves a) (stage_of L.seen L.moves b) b.memory c.memory written k s lowered)
        )

    pub text_put : TypedPlaces L.seen L.moves options a b string Has gs (Ok x) → Stored string
    text_put h = block_put string refl h (λ lowered written. pairs.string_stored false (host_texts (encoding_by a options)) at x.pointer x.length Has (λ _. h.narrow.0) (λ _. h.narrow.1) (stage_of L.seen L.moves a) (stage_of L.seen L.moves b) b.memory c.memory written lowered)
