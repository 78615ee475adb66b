-- The script that a number makes.
use Rattle.std.specs.Prelude.{ℕ, ◌%◌, ◌==◌, List, [], ◌∷◌, ◌++◌, Option, codes, false, if◌then◌else◌, option_and_then, option_map}
use Rattle.serde_json.specs.Read.{read}
use Rattle.canon_abi.specs.declared.options.StringEncoding.{StringEncoding}
use Rattle.canon_abi.specs.declared.options.StringEncoding.TheVariants as encoding
use Rattle.canon_model.specs.Image.{le_bytes}
use Rattle.canon_scripted.specs.declared.actions.Action.{Action}
use Rattle.canon_scripted.specs.declared.actions.Action.TheVariants as action
use Rattle.canon_script.specs.Script.{Play, ScriptCall, call_item, call_with, script_of}
use Rattle.canon_gen.specs.Records.{list_drawn}

-- what the scripts of all numbers have in common: memory, the heap, fuel, and one function from a list of records to such a list
abbrev pub common_text : List ℕ
common_text = codes "{\"memory\":16777216,\"heap\":1024,\"fuel\":1000000000,"
    ++ codes "\"types\":[{\"list\":\"string\"},{\"option\":\"bool\"},{\"record\":[[\"id\",\"u32\"],[\"name\",\"string\"],[\"tags\",0],[\"on\",1]]},{\"list\":2}],"
    ++ codes "\"funcs\":[{\"params\":[3],\"results\":[3]}]}"

unfoldable pub common : Option Play
common = option_and_then script_of (read common_text)

abbrev pub encoding_for : ℕ → StringEncoding
encoding_for n = if n == 0 then encoding.Utf8 else (if n == 1 then encoding.Utf16 else encoding.CompactUtf16)

-- texts are spelled by the rest of n by 3
abbrev pub encoding_made : ℕ → StringEncoding
encoding_made n = encoding_for (n % 3)

-- the guest writes a pointer and a length: a list of n items at 1024; and returns their address
abbrev pub actions_made : ℕ → List Action
actions_made n = action.Write 0 (le_bytes 4 1024 ++ le_bytes 4 n) ∷ action.Return (0 ∷ []) ∷ []

-- the one call, with the list that n draws
abbrev pub call_made : ℕ → ScriptCall
call_made n = call_with 0 (list_drawn n ∷ []) (actions_made n) 1 [] false

abbrev pub with_call : ℕ → Play → Play
with_call n play = record play { encoding = encoding_made n; items = call_item (call_made n) ∷ [] }

abbrev pub script_made : ℕ → Option Play
script_made n = option_map (with_call n) common
