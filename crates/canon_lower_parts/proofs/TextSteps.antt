-- Texts in blocks of their own.
use Rattle.std.proofs.Common.{◌≡◌, ◌≤◌, ◌+◌, Result, arith, length, ◌⊎◌, ◌∷◌, Err, List, Ok, String, [], ap, false, inl, inr, refl, string_bytes, subst, sym, ℕ}
use Rattle.std.specs.declared.alloc.Global.{Global}
use Rattle.canon_context.proofs.Moves.{GuestLaws}
use Rattle.canon_context.specs.Core.{Parts, component_types, encoding_by, stage_of}
use Rattle.canon_context.specs.Lowers.{fault_ending}
use Rattle.canon_context.specs.declared.fault.Fault.{Fault}
use Rattle.canon_context.specs.declared.fault.Fault.TheVariants as fault
use Rattle.canon_lowering.proofs.Attempts.{attempt_as}
use Rattle.canon_lowering.specs.Attempt.{LowersValue, value_words}
use Rattle.canon_lowering.specs.Lowering.{Ending, done, refused}
use Rattle.canon_resources.specs.Parts.{Part}
use Rattle.canon_model.specs.Homes.{host_texts}
use Rattle.canon_model.specs.Layout.{size}
use Rattle.canon_model.specs.Shape.{Shape, string}
use Rattle.canon_model.specs.Text.{Encoding}
use Rattle.canon_model.specs.Tree.{Tree}
use Rattle.canon_string.specs.Limits.{IsTooLong}
use Rattle.canon_string.specs.Texts.{IsTextOf, PutsText}
use Rattle.canon_types.specs.Table.{shape_of}
use Rattle.canon_types.specs.declared.types.InterfaceType.{InterfaceType}
use Rattle.canon_types.specs.declared.types.InterfaceType.TheVariants as ty
use Rattle.canon_typed.specs.Meaning.{TextMeans}
use Rattle.canon_lower_parts.proofs.Attempts.{cross_stopped, lower_not_false}
use Rattle.canon_lower_parts.proofs.BlockSteps.{placed_stops, text_put}
use Rattle.canon_passing.proofs.Passing.{ledger_unless, same_handles, value_same_ledger}
use Rattle.canon_lower_parts.proofs.TooLarge.{lower_text_small}
use Rattle.canon_lower_parts.specs.Blames.{HasLarge, IsElsewhere}
use Rattle.canon_lower_parts.specs.Places.{IsPairPut, IsPlacedPut, TypedPlaces, without_value}
use Rattle.canon_lower_parts.specs.Stores.{TypedStores}
use Rattle.canon_lower_parts.specs.declared.blocks.Placed.{Placed}

-- a fault of the value, or of something else
pub own_or_elsewhere : (e : Fault) → (fault_ending e ≡ refused) ⊎ IsElsewhere e
own_or_elsewhere (fault.ReallocMisaligned k) = inr tt
own_or_elsewhere (fault.ReallocOutOfBounds k) = inr tt
own_or_elsewhere fault.GuestTrap = inr tt
own_or_elsewhere fault.OutOfMemory = inr tt
own_or_elsewhere (fault.Resource r) = inl refl
own_or_elsewhere (fault.TypeMismatch k) = inl refl
own_or_elsewhere (fault.LengthMismatch k) = inl refl
own_or_elsewhere (fault.FieldName k) = inl refl
own_or_elsewhere (fault.UnknownCase k) = inl refl
own_or_elsewhere (fault.UnknownFlag k) = inl refl
own_or_elsewhere (fault.PayloadExpected k) = inl refl
own_or_elsewhere (fault.PayloadNotExpected k) = inl refl
own_or_elsewhere (fault.PointerMisaligned k) = inl refl
own_or_elsewhere (fault.PointerOutOfBounds k) = inl refl
own_or_elsewhere (fault.StringTooLong k) = inl refl
own_or_elsewhere (fault.SizeOverflow k) = inl refl
own_or_elsewhere (fault.InvalidUtf8 k) = inl refl
own_or_elsewhere (fault.InvalidUtf16 k) = inl refl
own_or_elsewhere (fault.InvalidChar k) = inl refl
own_or_elsewhere (fault.BadDiscriminant k n) = inl refl
own_or_elsewhere fault.HostcallFuelExhausted = inl refl

text_large : (enc : Encoding) (s : String Global) (e : Fault) (n : ℕ) → e ≡ fault.StringTooLong n → IsTooLong enc (string_bytes s) n → (t : Tree) → TextMeans s t → HasLarge enc string e t
text_large enc s e n is long t (cs, k, same, spelled) = subst (λ (x : Fault). HasLarge enc string x t) (sym is) (subst (λ (u : Tree). HasLarge enc string (fault.StringTooLong n) u) (sym same) (string_bytes s, spelled, long))

module _ {D G : Type 0} (L : GuestLaws G) (options : ℕ) (a b : Parts D G) (s : String Global) where
  -- a text's trees are the string's
  as_string : (ws : List ℕ) (e : Ending) → LowersValue false (stage_of L.seen L.moves a) (stage_of L.seen L.moves b) (host_texts (encoding_by a options)) string ws 0 (IsTextOf (string_bytes s)) [] e
      → LowersValue false (stage_of L.seen L.moves a) (stage_of L.seen L.moves b) (host_texts (encoding_by a options)) string ws 0 (TextMeans s) [] e
  as_string ws e h = attempt_as false (stage_of L.seen L.moves a) (stage_of L.seen L.moves b) [] [] (value_words false (host_texts (encoding_by a options)) string ws 0 (IsTextOf (string_bytes s)))
      (value_words false (host_texts (encoding_by a options)) string ws 0 (TextMeans s)) e (λ i q. q) (record {
        turn = λ t. t;
        back = λ t. t;
        is = λ t (cs, n, g, is). (cs, n, is, g);
        is_back = λ t (cs, n, is, g). (cs, n, g, is);
        asks = λ t q. refl;
        rep = λ fresh t is q. q;
        home = λ pointer t xs ys is q. q;
        handles = λ t is. refl;
      }) h

  pub lower_text_placed : (p n : ℕ) → PutsText L.seen L.moves options a b (string_bytes s) (Ok (record { pointer = p; length = n })) → TypedPlaces L.seen L.moves options a b string (TextMeans s) [] (Ok (record { pointer = p; length = n }))
  lower_text_placed p n h = record {
    placed = record {
      handles = [];
      ending = done;
      ends = inl refl;
      attempt = as_string (p ∷ n ∷ []) done h.lowered;
      passed = (refl, value_same_ledger a b h.same);
      same = same_handles a b h.same;
      quiet = λ none. absurd (lower_not_false none);
      cause = tt;
      small = lower_text_small (encoding_by a options) s h.fits;
    };
    narrow = h.narrow;
  }

  pub lower_text_unplaced : (e : Fault) → PutsText L.seen L.moves options a b (string_bytes s) (Err e) → TypedPlaces L.seen L.moves options a b string (TextMeans s) [] (Err e)
  lower_text_unplaced e h = record {
    placed = record {
      handles = [];
      ending = fault_ending e;
      ends = inl refl;
      attempt = as_string [] (fault_ending e) h.lowered;
      passed = cross_stopped a.ledger b.ledger [] e (value_same_ledger a b h.same) (ledger_unless e (λ r is. let (still, n, long, many) = h.blames (ap fault_ending is) in let other : e ≡ fault.Resource r = is in cc));
      same = same_handles a b h.same;
      quiet = λ none. absurd (lower_not_false none);
      cause = λ t has. blamed t has (own_or_elsewhere e);
      small = tt;
    };
    narrow = tt;
  }
    where
      blamed : (t : Tree) → TextMeans s t → (fault_ending e ≡ refused) ⊎ IsElsewhere e → IsElsewhere e ⊎ HasLarge (encoding_by a options) string e t
      blamed t has (inr elsewhere) = inl elsewhere
      blamed t has (inl own) = let (still, n, is, long) = h.blames own in inr (text_large (encoding_by a options) s e n is long t has)

-- ---- in memory: a pointer and a length

module _ {D G : Type 0} (L : GuestLaws G) (options : ℕ) (a b : Parts D G) (type : InterfaceType) (is : type ≡ ty.String) (at : ℕ)
    (room : at + size false (shape_of (component_types a) type) ≤ length a.memory) (Has : Tree → Type 0) (gs : List (List Part)) where
  shape : shape_of (component_types a) type ≡ string
  shape = ap (shape_of (component_types a)) is

  pub lower_text_room : (r : Result Placed Fault) → TypedPlaces L.seen L.moves options a b string Has gs r → at + 8 ≤ length b.memory
  unfolding size
  lower_text_room r h = omega (arith, room, ap (size false) shape, h.placed.attempt.lowering.goes.no_shorter)

  text_stores : (c : Parts D G) (x : Placed) → TypedPlaces L.seen L.moves options a b string Has gs (Ok x) → IsPairPut b c at x.pointer x.length → TypedStores L.seen L.moves options a c (shape_of (component_types a) type) at Has gs (Ok tt)
  text_stores c x h w = subst (λ (s : Shape). TypedStores L.seen L.moves options a c s at Has gs (Ok tt)) (sym shape) (text_put L options a b c at Has gs x (lower_text_room (Ok x) h) w h)

  text_stops : (e : Fault) → TypedPlaces L.seen L.moves options a b string Has gs (Err e) → TypedStores L.seen L.moves options a b (shape_of (component_types a) type) at Has gs (Err e)
  text_stops e h = subst (λ (s : Shape). TypedStores L.seen L.moves options a b s at Has gs (Err e)) (sym shape) (placed_stops L options a b string at Has gs e refl h)

  pub text_done : (c : Parts D G) (r : Result Placed Fault) (q : Result (Unit {0}) Fault) → q ≡ without_value r → IsPlacedPut b c at r → TypedPlaces L.seen L.moves options a b string Has gs r
      → TypedStores L.seen L.moves options a c (shape_of (component_types a) type) at Has gs q
  text_done c (Ok x) q e w h = subst (λ (y : Result (Unit {0}) Fault). TypedStores L.seen L.moves options a c (shape_of (component_types a) type) at Has gs y) (sym e) (text_stores c x h w)
  text_done c (Err f) q e w h = subst (λ (y : Result (Unit {0}) Fault). TypedStores L.seen L.moves options a c (shape_of (component_types a) type) at Has gs y) (sym e)
      (subst (λ (x : Parts D G). TypedStores L.seen L.moves options a x (shape_of (component_types a) type) at Has gs (Err f)) (sym w) (text_stops f h))
