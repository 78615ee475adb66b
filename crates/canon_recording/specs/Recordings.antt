-- Recordings of calls, and the bytes that they are written as.
use Rattle.std.specs.Prelude.{Bool, List, None, Option, Some, Vec, codes, false, length, map, slice_get, true, ℕ, ⊤, ◌<◌}
use Rattle.std.specs.declared.alloc.Global.{Global}
use Rattle.canon_model.specs.Image.{Image}
use Rattle.canon_model.specs.Shape.{Members, Shape, member, no_members}
use Rattle.canon_model.specs.Tree.{Tree}
use Rattle.canon_memory.specs.declared.event.Event.{Event}
use Rattle.canon_types.specs.declared.types.TypeFunc.{TypeFunc}
use Rattle.canon_context.specs.declared.component.Component.{Component}
use Rattle.canon_context.specs.declared.component.Import.{Import}
use Rattle.canon_context.specs.declared.component.Import.TheVariants as import
use Rattle.canon_val.specs.Value.{HasTreeAs}
use Rattle.canon_val.specs.declared.val.Val.{Val}
use Rattle.canon_func.specs.Stores.{callee_in, params_in, results_in}
use Rattle.canon_recording_parts.specs.Format.{Format, also, as_, before, counted_row, empty_list, exactly, sized_field, then_}
use Rattle.canon_recording_parts.specs.Events.{an_event}
use Rattle.canon_recording.specs.declared.recording.Recorded.{Recorded}
use Rattle.canon_recording.specs.declared.recording.Recording.{Recording}
use Rattle.canon_recording.specs.declared.recording.Served.{Served}

-- ---- what contracts see of a recording

-- an ask that was served: which import, its parameters and its results
pub record ServedAsk : Type 0 where
  pub import : ℕ
  pub params : List Val
  pub results : List Val

-- a call that answered Ok
pub record RecordedCall : Type 0 where
  pub export : ℕ
  pub params : List Val
  pub results : List Val
  pub events : List Event
  pub served : List ServedAsk

abbrev pub served_ask : Served → ServedAsk
served_ask s = record { import = s.import; params = s.params.items; results = s.results.items }

abbrev pub served_asks : List Served → List ServedAsk
served_asks = map served_ask

abbrev pub recorded_call : Recorded → RecordedCall
recorded_call r = record { export = r.export; params = r.params.items; results = r.results.items; events = r.events; served = served_asks r.served.items }

abbrev pub recorded_calls : List Recorded → List RecordedCall
recorded_calls = map recorded_call

abbrev pub calls_in : Recording → List RecordedCall
calls_in r = recorded_calls r.calls.items

-- ---- the functions of a component

-- how many functions there are, and their parameters and results by their numbers
pub record Functions : Type 0 where
  pub count : ℕ
  pub params : ℕ → Members
  pub results : ℕ → Members

abbrev pub exports_of : Component → Functions
exports_of c = record {
  count = length c.exports.items;
  params = λ n. (callee_in c (slice_get c.exports.items n)).params;
  results = λ n. (callee_in c (slice_get c.exports.items n)).results;
}

-- the type of an import that is a function of the host
abbrev pub import_type : Component → Option Import → Option TypeFunc
import_type c (Some (import.Host type options)) = slice_get c.types.types.funcs type
import_type c _ = None

abbrev pub imports_of : Component → Functions
imports_of c = record {
  count = length c.imports.items;
  params = λ n. params_in c.types.types (import_type c (slice_get c.imports.items n));
  results = λ n. results_in c.types.types (import_type c (slice_get c.imports.items n));
}

-- ---- values

-- The bytes are the image of the value. Where it was lifted its flags are named in their type's order, each once, else in any order.
abbrev pub SpellsValue : Bool → Shape → Val → List ℕ → Type 0
SpellsValue lifted s v bs = (t : Tree) × HasTreeAs lifted s v t × Image s t bs

abbrev pub letters : List ℕ
letters = codes "CNR1"

module _ (lifted : Bool) where
  -- an image behind its length, as one field
  abbrev pub value : Shape → Format Val
  value s = then_ 8 (λ n. ⊤) (λ n. sized_field (SpellsValue lifted s) n)

  abbrev pub values : Members → Format (List Val)
  values no_members = empty_list
  values (member name s ms) = before (value s) (values ms)

  -- ---- calls

  abbrev pub served_ask_of : ℕ → List Val × List Val → ServedAsk
  served_ask_of n x = record { import = n; params = x.0; results = x.1 }

  abbrev pub recorded_call_of : ℕ → (List Val × List Val) × (List Event × List ServedAsk) → RecordedCall
  recorded_call_of n x = record { export = n; params = x.0.0; results = x.0.1; events = x.1.0; served = x.1.1 }

  -- the parameters and the results of a function
  abbrev pub passed_values : Functions → ℕ → Format (List Val × List Val)
  passed_values functions n = also (values (functions.params n)) (values (functions.results n))

  module _ (exports imports : Functions) where
    -- an ask of an import that there is
    abbrev pub an_ask : Format ServedAsk
    an_ask = then_ 4 (λ n. n < imports.count) (λ n. as_ (served_ask_of n) (passed_values imports n))

    -- a guest's events, and which asks were served
    abbrev pub what_was_done : Format (List Event × List ServedAsk)
    what_was_done = also (counted_row 4 (an_event imports.count)) (counted_row 4 an_ask)

    -- a call of an export that there is
    abbrev pub a_call : Format RecordedCall
    a_call = then_ 4 (λ n. n < exports.count) (λ n. as_ (recorded_call_of n) (also (passed_values exports n) what_was_done))

    -- the letters CNR1, how many calls there are, and they
    abbrev pub recording_format : Format (List RecordedCall)
    recording_format = as_ (λ x. x.1) (also (exactly letters) (counted_row 4 a_call))

-- what two vectors of values hold; and what events and asks
abbrev pub passed_in : Vec Val Global × Vec Val Global → List Val × List Val
passed_in x = (x.0.items, x.1.items)

abbrev pub done_in : List Event × Vec Served Global → List Event × List ServedAsk
done_in x = (x.0, served_asks x.1.items)

-- the bytes of recordings of a component: as they are written, and as they are read
abbrev pub recording : Component → Format (List RecordedCall)
recording c = recording_format false (exports_of c) (imports_of c)

abbrev pub read_recording : Component → Format (List RecordedCall)
read_recording c = recording_format true (exports_of c) (imports_of c)
