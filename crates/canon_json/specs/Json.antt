-- How JSON values are read: objects of so many members, arrays item by item, numbers.
use Rattle.std.specs.Prelude.{◌≡◌, ℕ, suc, ◌^◌, ◌==◌, List, [], ◌∷◌, Bool, false, nat_lt, if◌then◌else◌, Option, None, Some, Result, Ok, Err, option_map, option_and_then}
use Rattle.std.specs.Option.{option_map_or}
use Rattle.serde_json.specs.Data.{Data, Items, no_items, item, Members, no_members, member}
use Rattle.serde_json.specs.Find.{as_number, as_array, as_u64}
use Rattle.canon_json.specs.declared.error.ScriptError.{ScriptError}
use Rattle.canon_json.specs.declared.error.ScriptError.TheVariants as refused

-- what a reader gives, seen by view, is what the definition gives, unless memory ran out
abbrev pub ReadsAs : {X Y : Type 0} → (X → Y) → Result X ScriptError → Option Y → Type 0
ReadsAs view (Ok x) given = given ≡ Some (view x)
ReadsAs view (Err refused.BadScript) given = given ≡ None
ReadsAs view (Err refused.OutOfMemory) given = Unit {0}

-- ---- objects

abbrev pub members_len : Members → ℕ
members_len no_members = 0
members_len (member k d ms) = suc (members_len ms)

-- an object of that many members
abbrev pub has_len : ℕ → Option Members → Bool
has_len n None = false
has_len n (Some ms) = members_len ms == n

-- how many members of a name there are
abbrev pub there : Option Data → ℕ
there None = 0
there (Some d) = 1

-- the name and the value of the only member
abbrev pub only_member : Members → Option (List ℕ × Data)
only_member no_members = None
only_member (member k d no_members) = Some (k, d)
only_member (member k d (member l e ms)) = None

-- ---- arrays

-- the only item of an array
abbrev pub only_item : Items → Option Data
only_item no_items = None
only_item (item d no_items) = Some d
only_item (item d (item e ds)) = None

abbrev pub only : Data → Option Data
only d = option_and_then only_item (as_array d)

-- the items of an array of two
abbrev pub two_items : Items → Option (Data × Data)
two_items no_items = None
two_items (item d no_items) = None
two_items (item d (item e no_items)) = Some (d, e)
two_items (item d (item e (item f ds))) = None

abbrev pub two : Data → Option (Data × Data)
two d = option_and_then two_items (as_array d)

-- each item of an array, read
abbrev pub each : {A : Type 0} → (Data → Option A) → Items → Option (List A)
each read no_items = Some []
each read (item d ds) = option_and_then (λ x. option_map (λ xs. x ∷ xs) (each read ds)) (read d)

abbrev pub each_of : {A : Type 0} → (Data → Option A) → Data → Option (List A)
each_of read d = option_and_then (each read) (as_array d)

-- an array, or nothing where the member is missing
abbrev pub items_of : Option Data → Option Items
items_of d = option_map_or as_array d (Some no_items)

-- each item of an array in order, which takes what is there so far further
abbrev pub onward : {A : Type 0} → (A → Data → Option A) → A → Items → Option A
onward step a no_items = Some a
onward step a (item d ds) = option_and_then (λ b. onward step b ds) (step a d)

-- ---- numbers

abbrev pub word_of : Data → Option ℕ
word_of d = option_and_then as_u64 (as_number d)

abbrev pub u32_of : Data → Option ℕ
u32_of d = option_and_then (λ n. if nat_lt n (2 ^ 32) then Some n else None) (word_of d)
