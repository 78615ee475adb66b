-- Texts and lists that stay in memory: where their ranges are good, and what they are read as.
use Rattle.std.specs.Prelude.{◌≡◌, ◌*◌, ◌+◌, ◌%◌, ◌<◌, Err, Ok, Result, false, if◌then◌else◌, [], ℕ}
use Rattle.canon_context.specs.Component.{HasOptions}
use Rattle.canon_context.specs.Core.{Parts}
use Rattle.canon_context.specs.Told.{IsPlace, place_of}
use Rattle.canon_context.specs.declared.fault.At.{At as Place}
use Rattle.canon_context.specs.declared.fault.Fault.{Fault}
use Rattle.canon_context.specs.declared.fault.Fault.TheVariants as fault
use Rattle.canon_model.specs.Layout.{align, size}
use Rattle.canon_model.specs.Memory.{Inside, Memory}
use Rattle.canon_model.specs.Reach as reach
use Rattle.canon_model.specs.Reach.{IsGood, PointerFault, is_inside}
use Rattle.canon_model.specs.Shape.{Shape}
use Rattle.canon_model.specs.Text.{text_align, text_bytes}
use Rattle.canon_types.specs.Depth.{element_shape}
use Rattle.canon_types.specs.Instance.{Instance}
use Rattle.canon_types.specs.Table.{Knows, shape_of}
use Rattle.canon_types.specs.declared.types.InterfaceType.{InterfaceType}
use Rattle.canon_reading.specs.Reading.{Reading, Setting, setting_in}
use Rattle.canon_reading.specs.Readings.{IsGoodList, ListPointerFault, text_charge}
use Rattle.canon_reading.specs.Spots.{Spot, at_of, flat_in, length_in, pointer_in, stored}
use Rattle.canon_lift.specs.declared.wasm_list.WasmList.{WasmList}
use Rattle.canon_lift.specs.declared.wasm_str.WasmStr.{WasmStr}

-- ---- where a pointer and a length stand

-- how a place names a spot
abbrev pub IsNamedSo : Spot → Place → Type 0
IsNamedSo (stored a) x = place_of x ≡ reach.address a
IsNamedSo (flat_in ws i) x = IsPlace x (reach.word i)

pub record StandAt (m : Memory) (at : Spot) (p n : ℕ) (place : Place) : Type 0 where
  pub pointer : p ≡ pointer_in m at
  pub count : n ≡ length_in m at
  pub place_is : IsNamedSo at place

-- ---- lists

-- The list of n items of a type at p.
pub record IsListFrom {A : Type 0} (w : Setting) (element : InterfaceType) (p n : ℕ) (v : WasmList A) : Type 0 where
  pub pointer : v.pointer ≡ p
  pub count : v.count ≡ n
  pub options : v.options ≡ w.options
  pub store : v.store ≡ w.store
  pub element_is : v.element ≡ element

-- The range of n items of the shape at p was tested, and each charged: it ends inside memory, then the fuel is enough, then p is aligned.
module _ (w : Setting) (s : Shape) (bytes p n : ℕ) (at : Place) (fuel : ℕ) where
  abbrev pub ListRefused : Fault → ℕ → Type 0
  ListRefused (fault.PointerOutOfBounds x) left = (x ≡ at) × ¬ Inside w.memory p (n * size w.memory.wide s) × (left ≡ fuel)
  ListRefused fault.HostcallFuelExhausted left = Inside w.memory p (n * size w.memory.wide s) × (fuel < n * bytes) × (left ≡ fuel)
  ListRefused (fault.PointerMisaligned x) left = (x ≡ at) × ¬ (p % align w.memory.wide s ≡ 0) × (fuel ≡ left + n * bytes)
  ListRefused _ left = ⊥

  abbrev pub ListTested : {A : Type 0} → InterfaceType → Result (WasmList A) Fault → ℕ → Type 0
  ListTested element (Ok v) left = IsListFrom w element p n v × IsGoodList w.memory s p n × (fuel ≡ left + n * bytes)
  ListTested element (Err e) left = ListRefused e left

  abbrev pub RangeTested : Result (Unit {0}) Fault → ℕ → Type 0
  RangeTested (Ok v) left = IsGoodList w.memory s p n × (fuel ≡ left + n * bytes)
  RangeTested (Err e) left = ListRefused e left

-- the items of the list can be lifted: their type is known and fits, and they are aligned and inside memory
pub record HasItems {A : Type 0} (Fit : Instance → InterfaceType → Type 0) (w : Setting) (v : WasmList A) : Type 0 where
  pub known : Knows w.types.types v.element
  pub fits : Fit w.types v.element
  pub good : IsGoodList w.memory (shape_of w.types.types v.element) v.pointer v.count

-- The list is of the core's store, and its items can be lifted there.
pub record IsListOfCore {A D G : Type 0} (Fit : Instance → InterfaceType → Type 0) (core : Parts D G) (v : WasmList A) : Type 0 where
  pub id : v.store ≡ core.id
  pub options : HasOptions core.component v.options
  pub items : HasItems Fit (setting_in core v.options) v

-- what stands there is a list of such items
pub record IsListThere {A : Type 0} (Fit : Instance → InterfaceType → Type 0) (w : Setting) (at : Spot) (s : Shape) (v : WasmList A) : Type 0 where
  pub pointer : v.pointer ≡ pointer_in w.memory at
  pub count : v.count ≡ length_in w.memory at
  pub options : v.options ≡ w.options
  pub store : v.store ≡ w.store
  pub shape : shape_of w.types.types v.element ≡ element_shape s
  pub items : HasItems Fit w v

abbrev pub list_range_reach : ℕ → Setting → Spot → Shape → ℕ
list_range_reach bytes w at s = let n = length_in w.memory at in if is_inside w.memory (pointer_in w.memory at) (n * size w.memory.wide (element_shape s)) then n * bytes else 0

abbrev pub wasm_list_reading : {A : Type 0} → (Instance → InterfaceType → Type 0) → ℕ → Reading (WasmList A)
wasm_list_reading Fit bytes = record {
  reads = λ w at s before v after. IsListThere Fit w at s v × (after ≡ before);
  faults = λ w at s. ListPointerFault w.memory (element_shape s) at;
  reach = list_range_reach bytes;
  steps = λ w at s. [];
  allocates = false;
}

-- ---- texts

-- The text of length n at p.
pub record IsTextFrom (w : Setting) (p n : ℕ) (v : WasmStr) : Type 0 where
  pub pointer : v.pointer ≡ p
  pub count : v.count ≡ n
  pub options : v.options ≡ w.options
  pub store : v.store ≡ w.store

abbrev pub IsGoodText : Setting → ℕ → ℕ → Type 0
IsGoodText w p n = IsGood w.memory p (text_bytes w.encoding n) (text_align w.encoding)

-- Its range was tested and its spelled bytes charged: p is aligned, then the text ends inside memory, then the fuel is enough.
module _ (w : Setting) (p n : ℕ) (at : Place) (fuel : ℕ) where
  abbrev pub TextRefused : Fault → ℕ → Type 0
  TextRefused (fault.PointerMisaligned x) left = (x ≡ at) × ¬ (p % text_align w.encoding ≡ 0) × (left ≡ fuel)
  TextRefused (fault.PointerOutOfBounds x) left = (x ≡ at) × ¬ Inside w.memory p (text_bytes w.encoding n) × (left ≡ fuel)
  TextRefused fault.HostcallFuelExhausted left = IsGoodText w p n × (fuel < text_bytes w.encoding n) × (left ≡ fuel)
  TextRefused _ left = ⊥

  abbrev pub TextTested : Result WasmStr Fault → ℕ → Type 0
  TextTested (Ok v) left = IsTextFrom w p n v × (v.at ≡ at) × IsGoodText w p n × (fuel ≡ left + text_bytes w.encoding n)
  TextTested (Err e) left = TextRefused e left

-- what stands there is a text whose range is good; its spelling is tested as it is read
abbrev pub wasm_str_reading : Reading WasmStr
wasm_str_reading = record {
  reads = λ w at s before v after. IsTextFrom w (pointer_in w.memory at) (length_in w.memory at) v × IsPlace v.at (at_of at) × IsGoodText w (pointer_in w.memory at) (length_in w.memory at) × (after ≡ before);
  faults = λ w at s. PointerFault w.memory (at_of at) (pointer_in w.memory at) (text_bytes w.encoding (length_in w.memory at)) (text_align w.encoding);
  reach = λ w at s. text_charge w at;
  steps = λ w at s. [];
  allocates = false;
}
