-- What an iterator over a list that stays in memory gives.
use Rattle.std.specs.Prelude.{◌≡◌, ◌+◌, ◌-◌, ◌<◌, ◌≤◌, None, Option, Result, Some, ℕ}
use Rattle.canon_context.specs.Core.{SameButLedger, component_types}
use Rattle.canon_context.specs.declared.fault.Fault.{Fault}
use Rattle.canon_lowering.specs.Storing.{narrow}
use Rattle.canon_types.specs.Table.{shape_of}
use Rattle.canon_reading.specs.Reading.{Lifts, Reading, setting_in}
use Rattle.canon_reading.specs.Readings.{item_spot}
use Rattle.canon_reading.specs.Spots.{stored}
use Rattle.canon_lift.specs.declared.wasm_list_iter.WasmListIter.{WasmListIter}

-- how many items are still to come
abbrev pub items_left : {A D G : Type 0} → WasmListIter A D G → ℕ
items_left s = s.list.now.count - s.index

module _ {A D G : Type 0} (R : Reading A) where
  -- The item of the index was lifted, with the core's whole fuel, and the index is raised. Of the core only the ledger changes.
  pub record GivesItem (s : WasmListIter A D G) (r : Result A Fault) (t : WasmListIter A D G) : Type 0 where
    pub some : s.index < s.list.now.count
    pub item : (left : ℕ) × Lifts R (setting_in s.core.now s.list.now.options)
        (item_spot (narrow s.core.now.memory) (shape_of (component_types s.core.now) s.list.now.element) (stored s.list.now.pointer) s.index)
        (shape_of (component_types s.core.now) s.list.now.element) s.core.now.ledger s.core.now.fuel r t.core.now.ledger left
    pub index : t.index ≡ s.index + 1
    pub list : t.list ≡ s.list
    pub core : SameButLedger s.core.now t.core.now
    pub reference : t.core.ghost_name ≡ s.core.ghost_name

  -- a call of `next` gave this item, or none, where each was given, and changed nothing
  abbrev pub NextGives : WasmListIter A D G → Option (Result A Fault) → WasmListIter A D G → Type 0
  NextGives s (Some r) t = GivesItem s r t
  NextGives s None t = (s.list.now.count ≤ s.index) × (t ≡ s)
