-- What a JSON value asks of the program: the image of a value, or the value of an image.
use Rattle.std.specs.Prelude.{ℕ, List, if◌then◌else◌, codes, Option, None, Some, option_map, option_and_then}
use Rattle.serde_json.specs.Data.{Data}
use Rattle.serde_json.specs.Find.{get, as_object}
use Rattle.canon_json.specs.Hex.{bytes_of}
use Rattle.canon_json.specs.Json.{has_len}
use Rattle.canon_types.specs.Table.{TypeTable}
use Rattle.canon_types.specs.declared.types.InterfaceType.{InterfaceType}
use Rattle.canon_layout.specs.Asked.{types_listed}
use Rattle.canon_layout.specs.Entries.{reference_of}
use Rattle.canon_literals.specs.Literals.{Literal, literal_view}
use Rattle.canon_script.specs.Values.{plain_value_of}
use Rattle.canon_image_cli.specs.declared.task.Given.{Given}
use Rattle.canon_image_cli.specs.declared.task.Given.TheVariants as given
use Rattle.canon_image_cli.specs.declared.task.ImageTask.{ImageTask}

-- a value, or the bytes of an image
pub data Told : Type 0 where
  a_value : Literal → Told
  some_bytes : List ℕ → Told

-- a type of this table, and what is printed of it
pub record Question : Type 0 where
  pub table : TypeTable
  pub type : InterfaceType
  pub told : Told

abbrev pub question_of : TypeTable → InterfaceType → Told → Question
question_of table type told = record { table = table; type = type; told = told }

-- exactly one of the two is there: a value as a script spells it, without resources, or hex
abbrev pub given_of : Option Data → Option Data → Option Told
given_of (Some value) None = option_map a_value (plain_value_of value)
given_of None (Some hex) = option_map some_bytes (bytes_of hex)
given_of None None = None
given_of (Some value) (Some hex) = None

-- an object of three members: `types`, `type`, which is one of these or a scalar or text, and `value` or `hex`
abbrev pub image_task_of : Data → Option Question
image_task_of d =
    if has_len 3 (as_object d)
    then option_and_then (λ l. option_and_then (λ type. option_map (question_of l.table type)
    (given_of (get (codes "value") d) (get (codes "hex") d)))
    (option_and_then (reference_of l.types) (get (codes "type") d)))
    (option_and_then types_listed (get (codes "types") d))
    else None

-- ---- how it is kept

abbrev pub given_view : Given → Told
given_view (given.Value v) = a_value (literal_view v)
given_view (given.Image bytes) = some_bytes bytes.items

abbrev pub task_view : ImageTask → Question
task_view task = question_of task.types task.ty (given_view task.given)
