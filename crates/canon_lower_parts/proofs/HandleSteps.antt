-- A handle in words and in memory, or refused by the ledger.
use Rattle.std.proofs.Common.{◌≡◌, ◌≤◌, ◌<◌, ◌+◌, ◌^◌, ◌∙◌, ◌∷◌, [], Err, IfOk, List, None, Ok, Result, ap, arith, inl, inr, length, refl, set, subst, sym, ℕ, false, true, Bool}
use Rattle.std.proofs.Math.Nat.{mod-eq_of_lt}
use Rattle.std.proofs.lemmas.List.{get_or-set_same}
use Rattle.std.specs.Prelude.{slice_index}
use Rattle.canon_context.proofs.Moves.{GuestLaws}
use Rattle.canon_context.specs.Core.{Parts, encoding_by, stage_of}
use Rattle.canon_context.specs.Faults.{faulted, resource_fault}
use Rattle.canon_context.specs.declared.fault.Fault.{Fault}
use Rattle.canon_resources.proofs.Leaves.{leaves_one, leaves_stop_one}
use Rattle.canon_resources.specs.Parts.{LeafMoves, Part, refusal_of}
use Rattle.canon_ledger.specs.declared.fault.ResourceFault.{ResourceFault}
use Rattle.canon_ledger.specs.declared.fault.ResourceFault.TheVariants as resource
use Rattle.canon_lower_parts.proofs.TooLarge.{handle_small}
use Rattle.canon_lower_parts.specs.Handles.{GivesNumber}
use Rattle.canon_lower_parts.specs.Lowers.{HandlesCross}
use Rattle.canon_lower_parts.specs.Stores.{IsPut, TypedStores}
use Rattle.canon_lower_parts.specs.Words.{TypedLowers}
use Rattle.canon_lowering.proofs.AimedAt.{borrow_stored, own_stored}
use Rattle.canon_lowering.proofs.AimedWords.{borrow_words, own_words}
use Rattle.canon_lowering.proofs.Attempts.{attempt_refused}
use Rattle.canon_lowering.specs.Attempt.{LowersValue, StoresValue}
use Rattle.canon_lowering.specs.Lowering.{done, refused}
use Rattle.canon_lowering.specs.Steps.{Writes}
use Rattle.canon_lowering.specs.Storing.{narrow}
use Rattle.canon_memory.specs.Realloc.{block}
use Rattle.canon_model.specs.Homes.{host_texts}
use Rattle.canon_model.specs.Layout.{flat, size}
use Rattle.canon_model.specs.Memory.{low, num}
use Rattle.canon_model.specs.Shape.{Shape}
use Rattle.canon_plan.specs.Plan.{shaped_handle}
use Rattle.canon_types.specs.Instance.{Instance}
use Rattle.canon_types.specs.Table.{shape_of}
use Rattle.canon_types.specs.declared.types.InterfaceType.{InterfaceType}
use Rattle.canon_types.specs.declared.types.InterfaceType.TheVariants as ty
use Rattle.canon_typed.specs.Meaning.{IsHandle}
use Rattle.canon_typed.specs.Types.{IsHandleType}
use Rattle.canon_passing.proofs.Shapes.{handle_flat, handle_size}
use Rattle.canon_lowering.specs.Stages.{holding}

-- ---- given

-- a handle that the ledger refused
refused_one : {D G : Type 0} (a b : Parts D G) (parts : List Part) (e : ResourceFault) → b ≡ record a { ledger = b.ledger } → LeafMoves a.ledger b.ledger parts (Err e) → GivesNumber a b (parts ∷ []) (Err (resource_fault e))
refused_one a b parts resource.OutOfMemory only moves = record {
  passed = (leaves_stop_one None a.ledger b.ledger parts moves, inr (λ nil. cc));
  only_ledger = only;
  narrow = tt;
  refusal = (inr (refl, (λ nil. cc), refl), tt);
}
refused_one a b parts e only moves = record {
  passed = (leaves_stop_one (refusal_of e) a.ledger b.ledger parts moves, inr (λ nil. cc));
  only_ledger = only;
  narrow = tt;
  refusal = (inl refl, tt);
}

given_by : {D G : Type 0} (a b : Parts D G) (parts : List Part) (r : Result ℕ ResourceFault) → b ≡ record a { ledger = b.ledger } → IfOk (faulted r) (λ h. h < 2 ^ 32)
    → LeafMoves a.ledger b.ledger parts r → GivesNumber a b (parts ∷ []) (faulted r)
given_by a b parts (Ok h) only few moves = record { passed = leaves_one a.ledger b.ledger parts h moves; only_ledger = only; narrow = few; refusal = tt }
given_by a b parts (Err e) only few moves = refused_one a b parts e only moves

-- what the ledger answered is the guest's number, or a fault
pub given_number : {D G : Type 0} (a b : Parts D G) (parts : List Part) (gives : List (List Part)) (r : Result ℕ ResourceFault) (q : Result ℕ Fault) → b ≡ record a { ledger = b.ledger }
    → gives ≡ parts ∷ [] → q ≡ faulted r → IfOk q (λ h. h < 2 ^ 32)
    → LeafMoves a.ledger b.ledger parts r → GivesNumber a b gives q
given_number a b parts gives r q only eg eq few moves = subst (λ (gs : List (List Part)). GivesNumber a b gs q) (sym eg) (subst (λ (x : Result ℕ Fault). GivesNumber a b (parts ∷ []) x) (sym eq)
    (given_by a b parts r only (subst (λ (x : Result ℕ Fault). IfOk x (λ h. h < 2 ^ 32)) eq few) moves))

-- the types of handles
pub lower_handle_shape : (i : Instance) (type : InterfaceType) → IsHandleType i type → (owned : Bool) × (r : ℕ) × (shape_of i.types type ≡ shaped_handle owned r)
lower_handle_shape i (ty.Own r) h = (true, r, refl)
lower_handle_shape i (ty.Borrow r) h = (false, r, refl)
lower_handle_shape i _ h = absurd h

pub lower_handle_words : (i : Instance) (type : InterfaceType) → IsHandleType i type → flat (shape_of i.types type) ≡ 1
lower_handle_words i type h = let (owned, r, e) = lower_handle_shape i type h in ap flat e ∙ handle_flat owned r

module _ {D G : Type 0} (L : GuestLaws G) (options : ℕ) (a b : Parts D G) (owned : Bool) (r : ℕ) (s : Shape) (shape : s ≡ shaped_handle owned r) (small : length a.memory ≤ 2 ^ 32) where
  abbrev Low : List ℕ → (gives : List (List Part)) → Result (Unit {0}) Fault → Type 0
  Low ws gives q = TypedLowers L.seen L.moves options a b s ws 0 IsHandle gives q

  -- the number that was given stands in its word
  pub handle_lowers : (dst : List ℕ) (gives : List (List Part)) (h w : ℕ) → length dst ≡ flat s → w ≡ h → GivesNumber a b gives (Ok h) → Low (set dst 0 w) gives (Ok tt)
  handle_lowers dst gives h w room same given =
      let few : h < 2 ^ 32 = given.narrow in
      let here : slice_index (set dst 0 w) 0 ≡ h = get_or-set_same dst 0 w 0 (omega (arith, room, ap flat shape, handle_flat owned r)) ∙ same in
      let is : low (slice_index (set dst 0 w) 0) ≡ h = ap low here ∙ mod-eq_of_lt few in
      subst (λ (z : Shape). TypedLowers L.seen L.moves options a b z (set dst 0 w) 0 IsHandle gives (Ok tt)) (sym shape)
      (subst (λ (x : Parts D G). TypedLowers L.seen L.moves options a x (shaped_handle owned r) (set dst 0 w) 0 IsHandle gives (Ok tt)) (sym given.only_ledger) (record {
        handles = low (slice_index (set dst 0 w) 0) ∷ [];
        ending = done;
        ends = inl refl;
        attempt = words owned (set dst 0 w) (omega (arith, here, few));
        passed = subst (λ (n : ℕ). HandlesCross {T = Unit {0}} a.ledger b.ledger gives (n ∷ []) (Ok tt)) (sym is) given.passed;
        same = refl;
        quiet = λ none. (refl, tt);
        cause = tt;
        small = handle_small (encoding_by a options) owned r IsHandle;
      }))
    where
      words : (owns : Bool) (ws : List ℕ) → slice_index ws 0 < 2 ^ 32
          → LowersValue false (stage_of L.seen L.moves a) (stage_of L.seen L.moves a) (host_texts (encoding_by a options)) (shaped_handle owns r) ws 0 IsHandle (low (slice_index ws 0) ∷ []) done
      words true ws lt = own_words false (stage_of L.seen L.moves a) (host_texts (encoding_by a options)) ws 0 IsHandle small r lt (low (slice_index ws 0), refl)
      words false ws lt = borrow_words false (stage_of L.seen L.moves a) (host_texts (encoding_by a options)) ws 0 IsHandle small r lt (low (slice_index ws 0), refl)

  -- none was
  pub lower_handle_refused : (ws : List ℕ) (gives : List (List Part)) (e : Fault) → GivesNumber a b gives (Err e) → Low ws gives (Err e)
  lower_handle_refused ws gives e given =
      subst (λ (x : Parts D G). TypedLowers L.seen L.moves options a x s ws 0 IsHandle gives (Err e)) (sym given.only_ledger) (record {
        handles = [];
        ending = refused;
        ends = given.refusal.0;
        attempt = attempt_refused false (stage_of L.seen L.moves a) [] _ small;
        passed = given.passed;
        same = refl;
        quiet = λ none. (refl, refl);
        cause = λ t has. inl given.refusal.1;
        small = tt;
      })

  -- ---- in memory

  abbrev Stored : Parts D G → ℕ → List (List Part) → Result (Unit {0}) Fault → Type 0
  Stored c at gives q = TypedStores L.seen L.moves options a c s at IsHandle gives q

  pub handle_room : (at : ℕ) → at + size false s ≤ length a.memory → at + 4 ≤ length a.memory
  handle_room at room = omega (arith, room, ap (size false) shape, handle_size owned r)

  pub number_room : (at : ℕ) (gives : List (List Part)) (q : Result ℕ Fault) → at + size false s ≤ length a.memory → GivesNumber a b gives q → at + 4 ≤ length b.memory
  number_room at gives q room given = omega (arith, handle_room at room, ap (λ (x : Parts D G). length x.memory) given.only_ledger)

  -- the number that was given stands at its address
  pub handle_stores : (c : Parts D G) (at : ℕ) (gives : List (List Part)) (h : ℕ) → at + size false s ≤ length a.memory → GivesNumber a b gives (Ok h) → IsPut b c at h 4 → Stored c at gives (Ok tt)
  handle_stores c at gives h room given put =
      let before : b.memory ≡ a.memory = ap (λ (x : Parts D G). x.memory) given.only_ledger in
      let written : Writes (block at 4) a.memory c.memory = subst (λ (bytes : List ℕ). Writes (block at 4) bytes c.memory) before put.writes in
      let there : num (narrow c.memory) at 4 ≡ h = put.stored ∙ mod-eq_of_lt given.narrow in
      let now : c ≡ record a { memory = c.memory; ledger = b.ledger } = put.same ∙ ap (λ (x : Parts D G). record x { memory = c.memory }) given.only_ledger in
      subst (λ (z : Shape). TypedStores L.seen L.moves options a c z at IsHandle gives (Ok tt)) (sym shape)
      (subst (λ (x : Parts D G). TypedStores L.seen L.moves options a x (shaped_handle owned r) at IsHandle gives (Ok tt)) (sym now) (record {
        handles = num (narrow c.memory) at 4 ∷ [];
        ending = done;
        ends = inl refl;
        attempt = bytes owned written;
        passed = subst (λ (n : ℕ). HandlesCross {T = Unit {0}} a.ledger b.ledger gives (n ∷ []) (Ok tt)) (sym there) given.passed;
        same = refl;
        quiet = λ none. (refl, tt);
        cause = tt;
        small = handle_small (encoding_by a options) owned r IsHandle;
      }))
    where
      bytes : (owns : Bool) → Writes (block at 4) a.memory c.memory
          → StoresValue false (stage_of L.seen L.moves a) (holding (stage_of L.seen L.moves a) c.memory) (host_texts (encoding_by a options)) (shaped_handle owns r) at IsHandle (num (narrow c.memory) at 4 ∷ []) done
      bytes true w = own_stored false (stage_of L.seen L.moves a) a.memory c.memory (host_texts (encoding_by a options)) at IsHandle small r (handle_room at room) w (num (narrow c.memory) at 4, refl)
      bytes false w = borrow_stored false (stage_of L.seen L.moves a) a.memory c.memory (host_texts (encoding_by a options)) at IsHandle small r (handle_room at room) w (num (narrow c.memory) at 4, refl)

  -- none was
  pub handle_unstored : (at : ℕ) (gives : List (List Part)) (e : Fault) → GivesNumber a b gives (Err e) → Stored b at gives (Err e)
  handle_unstored at gives e given =
      subst (λ (x : Parts D G). TypedStores L.seen L.moves options a x s at IsHandle gives (Err e)) (sym given.only_ledger) (record {
        handles = [];
        ending = refused;
        ends = given.refusal.0;
        attempt = attempt_refused false (stage_of L.seen L.moves a) _ _ small;
        passed = given.passed;
        same = refl;
        quiet = λ none. (refl, refl);
        cause = λ t has. inl given.refusal.1;
        small = tt;
      })
