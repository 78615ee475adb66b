-- The pointers and lengths of texts and lists, and what they point to.
use Rattle.std.proofs.Common.{◌≡◌, ◌≤◌, ◌<◌, ◌+◌, ◌*◌, ◌%◌, ◌==◌, ◌∙◌, Bool, Err, IfErr, IfOk, List, None, Ok, Result, String, [], ◌∷◌, ap, ap₂, arith, false, if◌then◌else◌, inl, inr, le-leb, length, refl, subst, sym, true, ℕ}
use Rattle.std.proofs.lemmas.Bool.{cond-true}
use Rattle.std.specs.declared.alloc.Global.{Global}
use Rattle.canon_context.proofs.Told.{blamed_by}
use Rattle.canon_context.specs.Told.{Exactly, IsNoRefusal, LiftBlames, place_of}
use Rattle.canon_context.specs.declared.fault.At.{At as Place}
use Rattle.canon_context.specs.declared.fault.Fault.{Fault}
use Rattle.canon_context.specs.declared.fault.Fault.TheVariants as fault
use Rattle.canon_ledger.specs.Ledger.{LedgerState}
use Rattle.canon_model.specs.Layout.{align, flat, size}
use Rattle.canon_model.specs.Memory.{Inside, Memory}
use Rattle.canon_model.specs.Reach as reach
use Rattle.canon_model.specs.Reach.{Kind, TextFault, is_inside, misaligned, out_of_bounds, text_reach}
use Rattle.canon_model.specs.Rep.{IsText}
use Rattle.canon_model.specs.Shape.{Shape, list_of, map_of, of_pairs, string, tuple}
use Rattle.canon_model.specs.Text.{Encoding}
use Rattle.canon_model.specs.Tree as tree
use Rattle.canon_model.specs.Tree.{Tree}
use Rattle.canon_string.specs.Loading.{IsTextLoaded}
use Rattle.canon_typed.specs.Meaning.{TextMeans}
use Rattle.canon_types.specs.Depth.{element_shape}
use Rattle.canon_types.specs.Instance.{Instance}
use Rattle.canon_types.specs.Table.{Knows, shape_of}
use Rattle.canon_types.specs.declared.types.InterfaceType.{InterfaceType}
use Rattle.canon_reading.specs.MapsOfTrees.{map_reading, pair_reading}
use Rattle.canon_reading.specs.OfTrees.{text_price}
use Rattle.canon_lift.specs.Ranges.{IsNamedSo, ListRefused, ListTested, list_range_reach, wasm_list_reading}
use Rattle.canon_reading.specs.Reading.{Lifts, NamedBy, Reading, Refused, Setting}
use Rattle.canon_context.specs.Faults.{stop_of}
use Rattle.canon_reading.specs.Readings.{IsGoodList, ListPointerFault, each_reach, list_reading, read_as, text_charge, text_reading}
use Rattle.canon_reading.specs.Spots.{Faulty, HasRoom, Represents, Spot, at_of, flat_in, length_in, pointer_in, stored}
use Rattle.canon_lift.specs.declared.wasm_list.WasmList.{WasmList}
use Rattle.canon_lift_parts.proofs.WordRooms.{lift_list_words}
use Rattle.canon_typed.specs.Types.{IsMapOf}
use Rattle.canon_types.specs.declared.types.InterfaceType.TheVariants as ty
use Rattle.canon_lift_parts.proofs.Refusals.{lift_named_by, lift_refused_before, refused_by, stops_nowhere}

-- ---- their bytes

pub list_room : (bytes memory : List ℕ) (s u : Shape) (at : ℕ) → s ≡ list_of u → at + size false s ≤ length memory → bytes ≡ memory → at + 8 ≤ length bytes
unfolding size
list_room bytes memory s u at is inside same =
    let room : at + 8 ≤ length memory = subst (λ (z : Shape). at + size false z ≤ length memory) is inside in
    omega (arith, room, ap length same)

map_is : (Key Value : Instance → InterfaceType → Type 0) (i : Instance) (type : InterfaceType) → IsMapOf Key Value i type → (u v : Shape) × (shape_of i.types type ≡ map_of u v)
map_is Key Value i (ty.Map x) (key, value, d, fits, fits2) = (shape_of i.types key, shape_of i.types value, d.shape)
map_is Key Value i _ h = absurd h

module _ (Key Value : Instance → InterfaceType → Type 0) (i : Instance) (type : InterfaceType) where
  pub map_room : (bytes memory : List ℕ) (at : ℕ) → IsMapOf Key Value i type → at + size false (shape_of i.types type) ≤ length memory → bytes ≡ memory → at + 8 ≤ length bytes
  unfolding size
  map_room bytes memory at f inside same =
      let (u, v, is) = map_is Key Value i type f in
      let room : at + size false (map_of u v) ≤ length memory = subst (λ (z : Shape). at + size false z ≤ length memory) is inside in
      omega (arith, room, ap length same)

  pub map_words : (at n : ℕ) → IsMapOf Key Value i type → at + flat (shape_of i.types type) ≤ n → at + 2 ≤ n
  map_words at n f words =
      let (u, v, is) = map_is Key Value i type f in
      lift_list_words (shape_of i.types type) (tuple (u ∷ v ∷ [])) of_pairs at n is words

pub lift_text_room : (bytes memory : List ℕ) (s : Shape) (at : ℕ) → s ≡ string → at + size false s ≤ length memory → bytes ≡ memory → at + 8 ≤ length bytes
unfolding size
lift_text_room bytes memory s at is inside same =
    let room : at + 8 ≤ length memory = subst (λ (z : Shape). at + size false z ≤ length memory) is inside in
    omega (arith, room, ap length same)

-- ---- the faults of a place that names the spot

pub named_so : (at : Spot) (x : Place) → IsNamedSo at x → (F : Kind → reach.At → Type 0) (k : Kind) → F k (at_of at) → NamedBy at F k x
named_so (stored a) x is F k f = subst (λ y. F k y) (sym is) f
named_so (flat_in ws i) x is F k f = (reach.word i, is, f)

-- ---- a list

module _ (bytes : ℕ) (w : Setting) (e : Shape) (at : Spot) (s : Shape) (p n : ℕ) (shape : e ≡ element_shape s) (pointer : p ≡ pointer_in w.memory at) (count : n ≡ length_in w.memory at) where
  -- its items lie there
  there : IsGoodList w.memory e p n → IsGoodList w.memory (element_shape s) (pointer_in w.memory at) (length_in w.memory at)
  there h = subst (λ (z : Shape). IsGoodList w.memory z (pointer_in w.memory at) (length_in w.memory at)) shape
      (subst (λ k. IsGoodList w.memory e k (length_in w.memory at)) pointer (subst (λ k. IsGoodList w.memory e p k) count h))

  range_inside : Inside w.memory p (n * size w.memory.wide e) → list_range_reach bytes w at s ≡ n * bytes
  range_inside h =
      let here : Inside w.memory (pointer_in w.memory at) (length_in w.memory at * size w.memory.wide (element_shape s)) =
      subst (λ (z : Shape). Inside w.memory (pointer_in w.memory at) (length_in w.memory at * size w.memory.wide z)) shape
      (subst (λ k. Inside w.memory k (length_in w.memory at * size w.memory.wide e)) pointer (subst (λ k. Inside w.memory p (k * size w.memory.wide e)) count h)) in
      cond-true _ _ _ (le-leb _ _ here) ∙ ap (λ k. k * bytes) (sym count)

  not_inside : ¬ Inside w.memory p (n * size w.memory.wide e) → ¬ Inside w.memory (pointer_in w.memory at) (length_in w.memory at * size w.memory.wide (element_shape s))
  not_inside wrong h = wrong (subst (λ k. Inside w.memory p (k * size w.memory.wide e)) (sym count) (subst (λ k. Inside w.memory k (length_in w.memory at * size w.memory.wide e)) (sym pointer)
      (subst (λ (z : Shape). Inside w.memory (pointer_in w.memory at) (length_in w.memory at * size w.memory.wide z)) (sym shape) h)))

  not_aligned : ¬ (p % align w.memory.wide e ≡ 0) → ¬ (pointer_in w.memory at % align w.memory.wide (element_shape s) ≡ 0)
  not_aligned wrong h = wrong (subst (λ k. k % align w.memory.wide e ≡ 0) (sym pointer) (subst (λ (z : Shape). pointer_in w.memory at % align w.memory.wide z ≡ 0) (sym shape) h))

  module _ {A : Type 0} (Fit : Instance → InterfaceType → Type 0) (place : Place) (fuel : ℕ) (named : (F : Kind → reach.At → Type 0) (k : Kind) → F k (at_of at) → NamedBy at F k place)
      (before after : LedgerState) (kept : after ≡ before) where
    abbrev whole : Reading (WasmList A)
    whole = wasm_list_reading Fit bytes

    pub refused_list : (f : Fault) (left : ℕ) → ListRefused w e bytes p n place fuel f left → Refused whole w at s before fuel f after left
    refused_list (fault.PointerOutOfBounds x) left (is, wrong, same) =
        lift_refused_before whole w at s before after fuel left (fault.PointerOutOfBounds x)
        (subst (λ y. NamedBy at (whole.faults w at s) out_of_bounds y) (sym is) (named (whole.faults w at s) out_of_bounds (inr (record { kind_is = refl; at_is = refl }, not_inside wrong))))
        (λ oom. cc) refl kept (omega (arith, same))
    refused_list fault.HostcallFuelExhausted left (inside, few, same) =
        lift_refused_before whole w at s before after fuel left fault.HostcallFuelExhausted (omega (arith, few, range_inside inside)) (λ oom. cc) refl kept (omega (arith, same))
    refused_list (fault.PointerMisaligned x) left (is, wrong, same) =
        lift_refused_before whole w at s before after fuel left (fault.PointerMisaligned x)
        (subst (λ y. NamedBy at (whole.faults w at s) misaligned y) (sym is) (named (whole.faults w at s) misaligned (inl (record { kind_is = refl; at_is = refl }, not_aligned wrong))))
        (λ oom. cc) refl kept (omega (arith, same))
    refused_list _ left h = absurd h

    pub list_lifts : (element : InterfaceType) → shape_of w.types.types element ≡ e → Knows w.types.types element → Fit w.types element → (r : Result (WasmList A) Fault) (left : ℕ) → ListTested w e bytes p n place fuel element r left
        → Lifts (wasm_list_reading {A = A} Fit bytes) w at s before fuel r after left
    list_lifts element its known fits (Ok v) left (is, good, spent) =
        let same : v.element ≡ element = is.element_is in
        let there : IsGoodList w.memory (shape_of w.types.types element) v.pointer v.count =
        subst (λ (z : Shape). IsGoodList w.memory z v.pointer v.count) (sym its) (subst (λ k. IsGoodList w.memory e k v.count) (sym is.pointer) (subst (λ k. IsGoodList w.memory e p k) (sym is.count) good)) in (
          (
            record {
              pointer = is.pointer ∙ pointer;
              count = is.count ∙ count;
              options = is.options;
              store = is.store;
              shape = ap (λ t. shape_of w.types.types t) same ∙ its ∙ shape;
              items = record {
                known = subst (λ t. Knows w.types.types t) (sym same) known;
                fits = subst (λ t. Fit w.types t) (sym same) fits;
                good = subst (λ t. IsGoodList w.memory (shape_of w.types.types t) v.pointer v.count) (sym same) there;
              };
            },
            kept,
          ),
          omega (arith, spent, range_inside good.1),
        )
    list_lifts element its known fits (Err f) left h = refused_list f left h

-- a vector of it isn't lifted where its range isn't good
cond_le : (b : Bool) (x y : ℕ) → x ≤ y → (if b then x else 0) ≤ (if b then y else 0)
cond_le true x y h = h
cond_le false x y h = omega arith

pub range_refused : {A B : Type 0} (Fit : Instance → InterfaceType → Type 0) (bytes : ℕ) (R : Reading A) (f : B → List A) (w : Setting) (at : Spot) (s : Shape) (before after : LedgerState) (fuel left : ℕ) (e : Fault)
    → Refused (wasm_list_reading {A = A} Fit bytes) w at s before fuel e after left → Refused (read_as f (list_reading bytes R)) w at s before fuel e after left
range_refused {A} Fit bytes R f w at s before after fuel left e r =
    let whole = read_as f (list_reading bytes R) in
    refused_by (wasm_list_reading {A = A} Fit bytes) whole w at at s s before before after fuel fuel left e
    (lift_named_by at (ListPointerFault w.memory (element_shape s) at) (whole.faults w at s) (λ k x h. inl h))
    (λ low. omega (
      arith,
      low,
      cond_le (is_inside w.memory (pointer_in w.memory at) (length_in w.memory at * size w.memory.wide (element_shape s))) (length_in w.memory at * bytes)
          (length_in w.memory at * bytes + (if pointer_in w.memory at % align w.memory.wide (element_shape s) == 0 then each_reach R w (element_shape s) (stored (pointer_in w.memory at)) (length_in w.memory at) else 0)) (omega arith),
    )) (λ all. refl) (stops_nowhere before after (whole.steps w at s) (stop_of e)) (omega arith) r

-- the same of a map
pub map_range_refused : {K V Z : Type 0} (eq : K → K → Bool) (bytes : ℕ) (R : Reading K) (S : Reading V) (w : Setting) (at : Spot) (s : Shape) (before after : LedgerState) (fuel left : ℕ) (e : Fault)
    → Refused (wasm_list_reading {A = K × V} (λ i t. ⊥) bytes) w at s before fuel e after left → Refused (map_reading {Z = Z} eq bytes R S) w at s before fuel e after left
map_range_refused {K} {V} eq bytes R S w at s before after fuel left e r =
    let h = range_refused {A = K × V} {B = List (K × V)} (λ i t. ⊥) bytes (pair_reading R S) (λ xs. xs) w at s before after fuel left e r in
    record { cause = h.cause; memory = h.memory; stops = h.stops; falls = h.falls }

-- ---- a text that is owned

-- a fault that is no refusal stops the ledger without one
pub lift_no_refusal : (e : Fault) → IsNoRefusal e → stop_of e ≡ None
lift_no_refusal (fault.Resource r) h = absurd h
lift_no_refusal (fault.PointerMisaligned x) h = refl
lift_no_refusal (fault.PointerOutOfBounds x) h = refl
lift_no_refusal (fault.InvalidUtf8 x) h = refl
lift_no_refusal (fault.InvalidUtf16 x) h = refl
lift_no_refusal (fault.InvalidChar x) h = refl
lift_no_refusal (fault.BadDiscriminant x n) h = refl
lift_no_refusal fault.HostcallFuelExhausted h = refl
lift_no_refusal fault.OutOfMemory h = refl
lift_no_refusal (fault.TypeMismatch k) h = refl
lift_no_refusal (fault.FieldName k) h = refl
lift_no_refusal (fault.LengthMismatch k) h = refl
lift_no_refusal (fault.UnknownCase k) h = refl
lift_no_refusal (fault.UnknownFlag k) h = refl
lift_no_refusal (fault.PayloadExpected k) h = refl
lift_no_refusal (fault.PayloadNotExpected k) h = refl
lift_no_refusal (fault.StringTooLong n) h = refl
lift_no_refusal (fault.SizeOverflow n) h = refl
lift_no_refusal (fault.ReallocMisaligned a) h = refl
lift_no_refusal (fault.ReallocOutOfBounds a) h = refl
lift_no_refusal fault.GuestTrap h = refl

text_represents : (enc : Encoding) (m : Memory) (at : Spot) (t : Tree) → HasRoom m at string → IsText (Inside m) false enc m (pointer_in m at) (length_in m at) t → Represents m enc at string t
unfolding size
text_represents enc m (stored a) t room h = (room, h)
text_represents enc m (flat_in ws i) t room h = (h, λ g. cc)

text_faulty : (enc : Encoding) (m : Memory) (at : Spot) (k : Kind) (x : reach.At) → TextFault enc m (at_of at) (pointer_in m at) (length_in m at) k x → Faulty m enc at string k x
text_faulty enc m (stored a) k x h = h
text_faulty enc m (flat_in ws i) k x h = h

module _ (w : Setting) (at : Spot) (s : Shape) (p n : ℕ) (shape : s ≡ string) (pointer : p ≡ pointer_in w.memory at) (count : n ≡ length_in w.memory at) (place : Place) (fuel : ℕ) (before after : LedgerState) (kept : after ≡ before) where
  abbrev text : Reading (String Global)
  text = text_reading TextMeans

  text_lifted : (v : String Global) (left : ℕ) → HasRoom w.memory at s → IsTextLoaded w.encoding w.memory p n fuel left v → text.reads w at s before v after × (fuel ≡ left + text.reach w at s)
  text_lifted v left room h =
      let (cs, k, stands, spelled, spent) = subst (λ q. IsTextLoaded w.encoding w.memory q (length_in w.memory at) fuel left v) pointer (subst (λ j. IsTextLoaded w.encoding w.memory p j fuel left v) count h) in
      let rep : Represents w.memory w.encoding at s (tree.text cs k) =
      subst (λ (z : Shape). Represents w.memory w.encoding at z (tree.text cs k)) (sym shape)
      (text_represents w.encoding w.memory at (tree.text cs k) (subst (λ (z : Shape). HasRoom w.memory at z) shape room) stands) in
      let price : text_charge w at ≡ k = text_price w at (tree.text cs k) (subst (λ (z : Shape). Represents w.memory w.encoding at z (tree.text cs k)) shape rep) in
      ((tree.text cs k, rep, (cs, k, refl, spelled), kept), omega (arith, spent, price))

  -- the fault of the text, by its pointer's spot
  fault_there : (k : Kind) (x : reach.At) → TextFault w.encoding w.memory (at_of at) p n k x → Faulty w.memory w.encoding at s k x
  fault_there k x f = subst (λ (z : Shape). Faulty w.memory w.encoding at z k x) (sym shape) (text_faulty w.encoding w.memory at k x
      (subst (λ q. TextFault w.encoding w.memory (at_of at) q (length_in w.memory at) k x) pointer (subst (λ j. TextFault w.encoding w.memory (at_of at) p j k x) count f)))

  pub text_lifts : (r : Result (String Global) Fault) (left : ℕ) → ((k : Kind) (x : Place) → Exactly (TextFault w.encoding w.memory (place_of place) p n) k x → NamedBy at (TextFault w.encoding w.memory (at_of at) p n) k x)
      → HasRoom w.memory at s → IfOk r (IsTextLoaded w.encoding w.memory p n fuel left) → IfErr r (LiftBlames (Exactly (TextFault w.encoding w.memory (place_of place) p n)) (fuel < text_reach w.encoding w.memory p n))
      → IfErr r IsNoRefusal → left ≤ fuel → Lifts (text_reading TextMeans) w at s before fuel r after left
  text_lifts (Ok v) left named room loaded err unrefused falls = text_lifted v left room loaded
  text_lifts (Err e) left named room loaded err unrefused falls =
      let same : text_reach w.encoding w.memory p n ≡ text_charge w at = ap₂ (λ a b. text_reach w.encoding w.memory a b) pointer count in
      lift_refused_before text w at s before after fuel left e
      (blamed_by (Exactly (TextFault w.encoding w.memory (place_of place) p n)) (NamedBy at (text.faults w at s)) (fuel < text_reach w.encoding w.memory p n) (fuel < text.reach w at s)
      (λ k x f. lift_named_by at (TextFault w.encoding w.memory (at_of at) p n) (text.faults w at s) fault_there k x (named k x f)) (λ low. omega (arith, low, same)) e err)
      (λ oom. refl) (lift_no_refusal e unrefused) kept falls
