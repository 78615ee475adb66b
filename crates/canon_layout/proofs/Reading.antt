-- Types by their names and numbers.
use Rattle.std.proofs.Common.{◌≡◌, ℕ, List, true, false, None, Some, is_some, slice_get, option_map, option_and_then, refl, ap}
use Rattle.serde_json.specs.Data.{Data, null, boolean, number, string, array, object}
use Rattle.serde_json.specs.Find.{as_null, as_number, as_str, as_u64}
use Rattle.canon_types.specs.declared.types.InterfaceType.{InterfaceType}
use Rattle.canon_json.specs.Json.{u32_of}
use Rattle.canon_layout.specs.Entries.{optional_dtor, optional_type_of, plain_named, reference_of}

pub reference_of_string : (before : List InterfaceType) (d : Data) (name : List ℕ) → as_str d ≡ Some name → reference_of before d ≡ plain_named name
reference_of_string before null name e = cc
reference_of_string before (boolean b) name e = cc
reference_of_string before (number n) name e = cc
reference_of_string before (string s) name e = let same : Some s ≡ Some name = e in ap (option_and_then plain_named) same
reference_of_string before (array ds) name e = cc
reference_of_string before (object ms) name e = cc

pub reference_of_number : (before : List InterfaceType) (d : Data) → as_str d ≡ None → reference_of before d ≡ option_and_then (slice_get before) (option_and_then as_u64 (as_number d))
reference_of_number before null e = refl
reference_of_number before (boolean b) e = refl
reference_of_number before (number n) e = refl
reference_of_number before (string s) e = cc
reference_of_number before (array ds) e = refl
reference_of_number before (object ms) e = refl

pub optional_type_of_null : (before : List InterfaceType) (d : Data) → is_some (as_null d) ≡ true → optional_type_of before d ≡ Some None
optional_type_of_null before null e = refl
optional_type_of_null before (boolean b) e = cc
optional_type_of_null before (number n) e = cc
optional_type_of_null before (string s) e = cc
optional_type_of_null before (array ds) e = cc
optional_type_of_null before (object ms) e = cc

pub optional_type_of_type : (before : List InterfaceType) (d : Data) → is_some (as_null d) ≡ false → optional_type_of before d ≡ option_map (λ t. Some t) (reference_of before d)
optional_type_of_type before null e = cc
optional_type_of_type before (boolean b) e = refl
optional_type_of_type before (number n) e = refl
optional_type_of_type before (string s) e = refl
optional_type_of_type before (array ds) e = refl
optional_type_of_type before (object ms) e = refl

pub dtor_of_null : (d : Data) → is_some (as_null d) ≡ true → optional_dtor d ≡ Some None
dtor_of_null null e = refl
dtor_of_null (boolean b) e = cc
dtor_of_null (number n) e = cc
dtor_of_null (string s) e = cc
dtor_of_null (array ds) e = cc
dtor_of_null (object ms) e = cc

pub dtor_of_number : (d : Data) → is_some (as_null d) ≡ false → optional_dtor d ≡ option_map (λ f. Some f) (u32_of d)
dtor_of_number null e = cc
dtor_of_number (boolean b) e = refl
dtor_of_number (number n) e = refl
dtor_of_number (string s) e = refl
dtor_of_number (array ds) e = refl
dtor_of_number (object ms) e = refl
