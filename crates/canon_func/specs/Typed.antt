-- What is said of the parameters and the results of a typed call, and which functions a pair of Rust types fits.
use Rattle.std.specs.Prelude.{Err, List, None, Ok, Option, Result, Some, length, slice_get, ℕ, ◌+◌, ◌^◌, ◌-◌, ◌≡◌, ◌≤◌, ◌⊎◌}
use Rattle.canon_args.specs.Params.{AreSmallIn, BlamesIn, InParts}
use Rattle.canon_args.specs.Returned.{passed_reading}
use Rattle.canon_model.specs.Flat.{max_results}
use Rattle.canon_model.specs.Reach as reach
use Rattle.canon_model.specs.Reach.{Kind}
use Rattle.canon_model.specs.Shape.{Members, Shape, of_places, product}
use Rattle.canon_model.specs.Text.{Encoding}
use Rattle.canon_model.specs.Tree.{Tree}
use Rattle.canon_lowering.specs.Storing.{narrow}
use Rattle.canon_types.specs.Instance.{Instance}
use Rattle.canon_types.specs.declared.types.InterfaceType.{InterfaceType}
use Rattle.canon_types.specs.declared.types.InterfaceType.TheVariants as ty
use Rattle.canon_types.specs.declared.types.TypeFunc.{TypeFunc}
use Rattle.canon_ledger.specs.Ledger.{LedgerState}
use Rattle.canon_resources.specs.Parts.{LeavesTake, Part}
use Rattle.canon_context.specs.declared.component.Export.{Export}
use Rattle.canon_context.specs.declared.fault.Fault.{Fault}
use Rattle.canon_reading.specs.Reading.{Lifts, Reading, Setting}
use Rattle.canon_reading.specs.Spots.{flat_in}
use Rattle.canon_func.specs.Call.{result_words}
use Rattle.canon_func.specs.Passing.{Arguments, ReturnedValues}
use Rattle.canon_func.specs.Stores.{Callee, Named, StoreView}
use Rattle.canon_func.specs.declared.error.Error.{Error}

-- ---- the types

-- the types of the parameters, and of the results, are the Rust type's
abbrev pub FitsParams : (Instance → InterfaceType → Type 0) → Instance → Option TypeFunc → Type 0
FitsParams Fit i None = ⊥
FitsParams Fit i (Some f) = Fit i (ty.Tuple f.params)

abbrev pub FitsResults : (Instance → InterfaceType → Type 0) → Instance → Option TypeFunc → Type 0
FitsResults Fit i None = ⊥
FitsResults Fit i (Some f) = Fit i (ty.Tuple f.results)

-- ---- parameters

-- a Rust tuple of these members that has these trees, and whose handles do this
abbrev pub tuple_args : Encoding → Members → (Tree → Type 0) → List (List Part) → Arguments
tuple_args enc ms Has gives = record {
  are = InParts Has;
  small = AreSmallIn enc ms Has;
  blames = BlamesIn enc ms Has;
  parts = gives;
}

abbrev pub typed_args : (Tree → Type 0) → List (List Part) → Callee → Arguments
typed_args Has gives callee = tuple_args callee.encoding callee.params Has gives

-- the shape of the tuple of parameters, and of results
abbrev pub params_shape : Callee → Shape
params_shape callee = product of_places callee.params

abbrev pub results_shape : Callee → Shape
results_shape callee = product of_places callee.results

-- ---- results

-- how a place is named in a fault: exactly, but for the index of a word, which stays at the last number of a `u32`
abbrev pub IsNamed : reach.At → reach.At → Type 0
IsNamed (reach.word k) (reach.word i) = (k ≡ i) ⊎ ((k ≡ 2 ^ 32 - 1) × (2 ^ 32 ≤ i))
IsNamed (reach.word k) (reach.address b) = ⊥
IsNamed (reach.address a) (reach.word i) = ⊥
IsNamed (reach.address a) (reach.address b) = a ≡ b

-- lifted in the store of a number by the options of a number, from the memory that was left
abbrev pub returned_setting : Callee → ℕ → ℕ → List ℕ → Setting
returned_setting callee options store memory = record { types = callee.types; memory = narrow memory; encoding = callee.encoding; options = options; store = store }

-- what is read of the returned words as a Rust tuple
module _ {R : Type 0} (reading : Reading R) (options store : ℕ) (callee : Callee) where
  abbrev pub whole : Reading R
  whole = passed_reading max_results (results_shape callee) reading

  abbrev pub ReturnFault : List ℕ → List ℕ → Kind → reach.At → Type 0
  ReturnFault words memory k x = (y : reach.At) × IsNamed x y × whole.faults (returned_setting callee options store memory) (flat_in words 0) (results_shape callee) k y

  abbrev pub ReturnReads : List ℕ → List ℕ → LedgerState → R → LedgerState → Type 0
  ReturnReads words memory = whole.reads (returned_setting callee options store memory) (flat_in words 0) (results_shape callee)

  abbrev pub return_reach : List ℕ → List ℕ → ℕ
  return_reach words memory = whole.reach (returned_setting callee options store memory) (flat_in words 0) (results_shape callee)

  abbrev pub return_steps : List ℕ → List ℕ → List (List Part)
  return_steps words memory = whole.steps (returned_setting callee options store memory) (flat_in words 0) (results_shape callee)

  -- results are represented by as many words as they take where no reached place has a fault
  abbrev pub typed_results : ReturnedValues R
  typed_results = record {
    are = λ words memory fuel left r. (length words ≡ result_words callee.results) × ((before after : LedgerState) × ReturnReads words memory before r after) × (fuel ≡ left + return_reach words memory);
    faults = ReturnFault;
    reach = return_reach;
    parts = return_steps;
    lifts = ReturnReads;
    accepts = λ words memory before after. (hs : List ℕ) × LeavesTake before (return_steps words memory) hs after;
    represent = λ words memory fuel. (length words ≡ result_words callee.results) × ((k : Kind) (x : reach.At) → ¬ ReturnFault words memory k x) × (return_reach words memory ≤ fuel);
  }

-- the results were lifted with this fuel, some of which is left
abbrev pub LiftsTuple : {R : Type 0} → Reading R → Setting → List ℕ → Shape → LedgerState → ℕ → Result R Fault → LedgerState → Type 0
LiftsTuple R w words s before fuel result after = (left : ℕ) × Lifts R w (flat_in words 0) s before fuel result after left

-- ---- an answer

-- whether it is Ok, whatever it gave
abbrev pub done_by : {R : Type 0} → Result R Error → Result (Unit {0}) Error
done_by (Ok results) = Ok tt
done_by (Err e) = Err e

-- the number of the options of a function
abbrev pub export_options : Option Export → ℕ
export_options None = 0
export_options (Some e) = e.options

abbrev pub options_in : {T G I : Type 0} → StoreView T G I → Named → ℕ
options_in store f = export_options (slice_get store.core.component.exports.items f.export)
