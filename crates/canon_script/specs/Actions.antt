-- What a JSON value says that a guest does, and how its `realloc` is answered.
use Rattle.std.specs.Prelude.{ℕ, List, sum_by, Bool, true, false, if◌then◌else◌, codes, nat_eq, Option, None, Some, option_map, option_and_then}
use lib.Pointwise.{pointwise}
use Rattle.serde_json.specs.Data.{Data, null, boolean, number, string, array, object}
use Rattle.serde_json.specs.Find.{as_bool, as_object, get}
use Rattle.canon_json.specs.Hex.{bytes_of}
use Rattle.canon_json.specs.Json.{each_of, has_len, only_member, u32_of, word_of}
use Rattle.canon_layout.specs.Entries.{array_of_two}
use Rattle.canon_scripted.specs.declared.actions.Action.{Action}
use Rattle.canon_scripted.specs.declared.actions.Action.TheVariants as action
use Rattle.canon_scripted.specs.declared.orders.Ordered.{Ordered}
use Rattle.canon_scripted.specs.declared.orders.Ordered.TheVariants as order

-- ---- actions

abbrev pub words_in : Data → Option (List ℕ)
words_in d = each_of word_of d

abbrev pub trap_of : Option Bool → Option Action
trap_of (Some true) = Some action.Trap
trap_of (Some false) = None
trap_of None = None

-- an action of one member, by its name
abbrev pub action_by : List ℕ → Data → Option Action
action_by name d =
    if pointwise nat_eq name (codes "write") then option_map (λ p. action.Write p.0 p.1) (array_of_two word_of bytes_of d)
    else (if pointwise nat_eq name (codes "grow") then option_map action.Grow (word_of d)
    else (if pointwise nat_eq name (codes "return") then option_map action.Return (words_in d)
    else (if pointwise nat_eq name (codes "trap") then trap_of (as_bool d)
    else None)))

abbrev pub ask_of : Data → Option Action
ask_of d = option_and_then (λ n. option_map (action.Ask n) (option_and_then words_in (get (codes "words") d))) (option_and_then u32_of (get (codes "ask") d))

-- an object: of two members where it asks, else of one
abbrev pub action_of : Data → Option Action
action_of d =
    if has_len 2 (as_object d) then ask_of d
    else option_and_then (λ m. action_by m.0 m.1) (option_and_then only_member (as_object d))

-- how many bytes an action grows memory by
abbrev pub growth_by : Action → ℕ
growth_by (action.Grow n) = n
growth_by _ = 0

abbrev pub growth : List Action → ℕ
growth actions = sum_by growth_by actions

abbrev pub asks_by : Action → ℕ
asks_by (action.Ask n words) = 1
asks_by _ = 0

-- how many actions ask
abbrev pub ask_count : List Action → ℕ
ask_count actions = sum_by asks_by actions

-- ---- answers of `realloc`

-- a number is answered, "trap" traps, and null leaves it to the allocator
abbrev pub ordered_of : Data → Option Ordered
ordered_of null = Some order.Free
ordered_of (boolean b) = None
ordered_of (number n) = option_map order.Answer (u32_of (number n))
ordered_of (string s) = if pointwise nat_eq s (codes "trap") then Some order.Trap else None
ordered_of (array ds) = None
ordered_of (object ms) = None
