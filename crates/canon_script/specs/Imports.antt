-- What a guest may ask for, by its number: functions of the host with their answers, and calls on the handles of resource types.
use Rattle.std.specs.Prelude.{ℕ, ◌≡◌, ◌++◌, ◌∷◌, All, IfSome, List, None, Option, Some, Vec, [], codes, false, if◌then◌else◌, length, map, nat_eq, option_and_then, option_map, slice_get}
use Rattle.std.specs.declared.alloc.Global.{Global}
use lib.Pointwise.{pointwise}
use Rattle.serde_json.specs.Data.{Data, Items, array, boolean, null, number, object, string}
use Rattle.serde_json.specs.Find.{as_object, as_str, get}
use Rattle.canon_context.specs.declared.component.Import.{Import}
use Rattle.canon_context.specs.declared.component.Import.TheVariants as import
use Rattle.canon_json.specs.Json.{each, each_of, has_len, onward, u32_of}
use Rattle.canon_layout.specs.Asked.{unless}
use Rattle.canon_layout.specs.Entries.{reference_of}
use Rattle.canon_types.specs.Refusal.{func_refusal, with_func}
use Rattle.canon_types.specs.Table.{HasFunc, HasResource, TypeTable, types_of}
use Rattle.canon_types.specs.declared.types.InterfaceType.{InterfaceType}
use Rattle.canon_val.specs.declared.val.Val.{Val}
use Rattle.canon_literals.specs.Literals.{Literal, literals_view}
use Rattle.canon_script.specs.Numbers.{if_below}
use Rattle.canon_script.specs.Values.{plain_value_of}
use Rattle.canon_script.specs.declared.imports.Host.{Host}
use Rattle.canon_script.specs.declared.imports.Imports.{Imports}

-- ---- answers

-- what a function of the host gives once: its results, or none where it refuses
abbrev pub HostAnswer : Type 0
HostAnswer = Option (List Literal)

abbrev pub answer_view : Option (Vec Val Global) → HostAnswer
answer_view a = option_map (λ vs. literals_view vs.items) a

abbrev pub answers_view : List (Vec (Option (Vec Val Global)) Global) → List (List HostAnswer)
answers_view given = map (λ answers. map answer_view answers.items) given

-- the word of a refusal
abbrev pub refusal_by_word : List ℕ → Option HostAnswer
refusal_by_word word = if pointwise nat_eq word (codes "refuse") then Some None else None

abbrev pub if_many : ℕ → List Literal → Option HostAnswer
if_many count xs = if nat_eq (length xs) count then Some (Some xs) else None

-- values in which no resource stands, as many as there are results; or the word of a refusal
abbrev pub host_answer_of : ℕ → Data → Option HostAnswer
host_answer_of results null = None
host_answer_of results (boolean b) = None
host_answer_of results (number n) = None
host_answer_of results (string word) = refusal_by_word word
host_answer_of results (array ds) = option_and_then (if_many results) (each plain_value_of ds)
host_answer_of results (object ms) = None

-- What import n answers after it gave k answers: none where it refuses, or has no more.
abbrev pub answer_after : List (List HostAnswer) → ℕ → ℕ → HostAnswer
answer_after answers n k = option_and_then (λ a. a) (option_and_then (λ given. slice_get given k) (slice_get answers n))

-- ---- functions of the host

-- the types of a function's parameters and results, and its answers in order
pub record HostParts : Type 0 where
  pub params : List InterfaceType
  pub results : List InterfaceType
  pub answers : List HostAnswer

abbrev pub host_with : List InterfaceType → List InterfaceType → List HostAnswer → HostParts
host_with params results answers = record { params = params; results = results; answers = answers }

abbrev pub host_view : Host → HostParts
host_view h = host_with h.params.items h.results.items (map answer_view h.answers.items)

abbrev pub host_of : List InterfaceType → Data → Option HostParts
host_of types d =
    option_and_then (λ params. option_and_then (λ results. option_map (host_with params results)
    (option_and_then (each_of (host_answer_of (length results))) (get (codes "answers") d)))
    (option_and_then (each_of (reference_of types)) (get (codes "results") d)))
    (option_and_then (each_of (reference_of types)) (get (codes "params") d))

-- ---- calls on handles

-- a call on the handles of the resource type of this number, by its word
abbrev pub builtin_by : ℕ → List ℕ → Option Import
builtin_by r word =
    if pointwise nat_eq word (codes "new") then Some (import.ResourceNew r)
    else (if pointwise nat_eq word (codes "rep") then Some (import.ResourceRep r)
    else (if pointwise nat_eq word (codes "drop") then Some (import.ResourceDrop r) else None))

-- the number of one of the table's resource types
abbrev pub known_resource : TypeTable → ℕ → Option ℕ
known_resource t r = if_below (length t.resources) r

-- an object of these two members
abbrev pub builtin_import_of : TypeTable → Data → Option Import
builtin_import_of t d =
    if has_len 2 (as_object d)
    then option_and_then (λ r. option_and_then (builtin_by r) (option_and_then as_str (get (codes "builtin") d)))
    (option_and_then (known_resource t) (option_and_then u32_of (get (codes "resource") d)))
    else None

-- ---- all of them

-- a table, what the guest may ask for over it, and the answers of each
pub record Imported : Type 0 where
  pub table : TypeTable
  pub imports : List Import
  pub answers : List (List HostAnswer)

abbrev pub imported : TypeTable → List Import → List (List HostAnswer) → Imported
imported t imports answers = record { table = t; imports = imports; answers = answers }

abbrev pub imported_view : TypeTable → Imports → Imported
imported_view t m = imported t m.imports.items (answers_view m.answers.items)

-- one import more, over this table
abbrev pub with_import : Imported → TypeTable → Import → List HostAnswer → Imported
with_import m t i answers = imported t (m.imports ++ i ∷ []) (m.answers ++ answers ∷ [])

-- A function of the host adds its function type to the table. All of them have the same options, the first of the component.
abbrev pub with_host : Imported → HostParts → Option Imported
with_host m h = unless (func_refusal m.table h.params h.results) (with_import m (with_func m.table h.params h.results false) (import.Host (length m.table.funcs) 0) h.answers)

abbrev pub with_builtin : Imported → Import → Imported
with_builtin m i = with_import m m.table i []

-- a function of the host has three members, and a call on handles two
abbrev pub add_import : List InterfaceType → Imported → Data → Option Imported
add_import types m d =
    if has_len 3 (as_object d) then option_and_then (with_host m) (host_of types d)
    else option_map (with_builtin m) (builtin_import_of m.table d)

-- the imports of an array, over these types
abbrev pub imports_over : List InterfaceType → TypeTable → Items → Option Imported
imports_over types t items = onward (add_import types) (imported t [] []) items

-- ---- what is known of them

-- the number of a function's results, if there is such a function
abbrev pub func_result_count : TypeTable → ℕ → Option ℕ
func_result_count t func = option_map (λ f. length (types_of t f.results)) (slice_get t.funcs func)

-- It is a function of a type of the table that isn't async, under the first options; or a call on the handles of one of its resource types.
abbrev pub ImportStands : TypeTable → Import → Type 0
ImportStands t (import.Host type options) = HasFunc t type × IfSome (slice_get t.funcs type) (λ f. f.async_ ≡ false) × (options ≡ 0)
ImportStands t (import.ResourceNew r) = HasResource t r
ImportStands t (import.ResourceRep r) = HasResource t r
ImportStands t (import.ResourceDrop r) = HasResource t r

-- a refusal, or as many values as there are results
abbrev pub IsAnswer : Option ℕ → HostAnswer → Type 0
IsAnswer results None = Unit {0}
IsAnswer results (Some xs) = results ≡ Some (length xs)

-- a call on handles has no answers
abbrev pub HasAnswers : TypeTable → Import → List HostAnswer → Type 0
HasAnswers t (import.Host type options) answers = All (IsAnswer (func_result_count t type)) answers
HasAnswers t (import.ResourceNew r) answers = answers ≡ []
HasAnswers t (import.ResourceRep r) answers = answers ≡ []
HasAnswers t (import.ResourceDrop r) answers = answers ≡ []

-- each import has its answers
abbrev pub HaveAnswers : TypeTable → List Import → List (List HostAnswer) → Type 0
HaveAnswers t [] [] = Unit {0}
HaveAnswers t [] (a ∷ gs) = ⊥
HaveAnswers t (i ∷ is) [] = ⊥
HaveAnswers t (i ∷ is) (a ∷ gs) = HasAnswers t i a × HaveAnswers t is gs
