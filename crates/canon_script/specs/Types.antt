-- What a script declares before its items: resources, types, functions and imports.
use Rattle.std.specs.Prelude.{Bool, List, Option, option_and_then, option_map}
use Rattle.serde_json.specs.Data.{Items}
use Rattle.canon_context.specs.declared.component.Import.{Import}
use Rattle.canon_types.specs.Refusal.{empty_type_table}
use Rattle.canon_json.specs.Json.{onward}
use Rattle.canon_types.specs.Table.{TypeTable}
use Rattle.canon_types.specs.declared.types.InterfaceType.{InterfaceType}
use Rattle.canon_layout.specs.Asked.{Funcs, Listed, add_resource, funcs_over, types_over}
use Rattle.canon_script.specs.Imports.{HostAnswer, Imported, answers_view, imports_over}
use Rattle.canon_script.specs.declared.types.Declarations.{Declarations}

-- The table, for each function whether it has a post-return function, what the guest may ask for by its number, and the answers of each of
-- these. The function types of the functions stand first in the table, and after them those of the host's functions.
pub record Declared : Type 0 where
  pub table : TypeTable
  pub posts : List Bool
  pub imports : List Import
  pub answers : List (List HostAnswer)

abbrev pub declared : List Bool → Imported → Declared
declared posts m = record { table = m.table; posts = posts; imports = m.imports; answers = m.answers }

abbrev pub declared_view : Declarations → Declared
declared_view d = record { table = d.types; posts = d.posts.items; imports = d.imports.imports.items; answers = answers_view d.imports.answers.items }

-- imports over types and functions
abbrev pub declared_over : Items → List InterfaceType → Funcs → Option Declared
declared_over imports types fs = option_map (declared fs.posts) (imports_over types fs.table imports)

-- functions over types, and then imports
abbrev pub declared_with : Items → Items → Listed → Option Declared
declared_with funcs imports l = option_and_then (declared_over imports l.types) (funcs_over funcs l)

-- resources come first, then types, then functions, then imports
abbrev pub declared_of : Items → Items → Items → Items → Option Declared
declared_of resources types funcs imports =
    option_and_then (λ t. option_and_then (declared_with funcs imports) (types_over t types)) (onward add_resource empty_type_table resources)
