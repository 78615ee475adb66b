-- A type that a JSON value names is one that the table knows.
use Rattle.std.proofs.Common.{◌≡◌, List, Some, nat_eq, slice_get, refl, subst}
use Rattle.std.proofs.lemmas.List.Elements.{All-get_or}
use Rattle.std.proofs.lemmas.Option.{get_or_from_slice_get, option_and_then_some, slice_get_within}
use Rattle.std.specs.List.{All, AllByRecursion}
use lib.Pointwise.{pointwise}
use Rattle.serde_json.specs.Data.{Data, array, boolean, null, number, object, string}
use Rattle.serde_json.specs.Find.{as_u64}
use Rattle.canon_json.proofs.Found.{found_so}
use Rattle.canon_types.specs.Table.{Knows, TypeTable}
use Rattle.canon_types.specs.declared.types.InterfaceType.{InterfaceType}
use Rattle.canon_layout.specs.Entries.{reference_of}
use Rattle.canon_layout.specs.Words.{plain_types, type_word}

plain_known : (t : TypeTable) → AllByRecursion (Knows t) plain_types
plain_known t = (refl, (refl, (refl, (refl, (refl, (refl, (refl, (refl, (refl, (refl, (refl, (refl, (refl, tt)))))))))))))

pub reference_known : (t : TypeTable) (before : List InterfaceType) (d : Data) (type : InterfaceType) → All (Knows t) before → reference_of before d ≡ Some type → Knows t type
reference_known t before null type known e = absurd (cc)
reference_known t before (boolean b) type known e = absurd (cc)
reference_known t before (number n) type known e = option_and_then_some (slice_get before) (as_u64 n) type e (λ i s at.
    subst (Knows t) (get_or_from_slice_get before i type type at) (All-get_or (Knows t) before i type (slice_get_within before i type at) known))
reference_known t before (string s) type known e = found_so (Knows t) (λ x. pointwise nat_eq s (type_word x)) plain_types type (plain_known t) e
reference_known t before (array ds) type known e = absurd (cc)
reference_known t before (object ms) type known e = absurd (cc)
