-- What the program reads, and what it answers.
use Rattle.std.specs.Prelude.{◌≡◌, ℕ, ◌+◌, ◌^◌, ◌<◌, ◌≤◌, ◌⊎◌, List, [], ◌∷◌, length, nat_eq, codes, if◌then◌else◌, IfSome, Option, None, Some, option_map, String, string_bytes, IsUtf8}
use lib.Pointwise.{pointwise}
use Rattle.std.specs.declared.alloc.Global.{Global}
use Rattle.std.specs.Io.KnownBytes.{Consumes, IsAtEnd}
use Rattle.serde_json.specs.Data.{Data}
use Rattle.serde_json.specs.Read.{read}
use Rattle.canon_gen.specs.Lines.{Generated}
use Rattle.canon_layout.specs.Asked.{Listed, layout_of}
use Rattle.canon_layout.specs.Lines.{layout_text}
use Rattle.canon_player.specs.Session.{Session}
use Rattle.canon_script.specs.Script.{Play, script_of}
use Rattle.canon_transcript.specs.Text.{transcript_text}
use Rattle.canon_transcript.specs.declared.transcript.Record.{Record}
use Rattle.canon_conversions.specs.Conversions.{Job, conversions_of}
use Rattle.canon_cli.specs.Gen.{gen_of}
use Rattle.canon_conversions.specs.Lines.{Lines}
use Rattle.canon_cli.specs.declared.command.Command.{Command}
use Rattle.canon_cli.specs.declared.command.Command.TheVariants as command
use Rattle.canon_cli.specs.declared.status.Status.{Status}

-- the command that the words are
abbrev pub command_named : List ℕ → Option Command
command_named name =
    if pointwise nat_eq name (codes "run") then Some command.Run
    else (if pointwise nat_eq name (codes "text") then Some command.Text
    else (if pointwise nat_eq name (codes "layout") then Some command.Layout else None))

abbrev pub command_of : List (String Global) → Option Command
command_of [] = None
command_of (word ∷ []) = command_named (string_bytes word)
command_of (word ∷ other ∷ words) = None

-- what a command is asked to do
pub data Task : Type 0 where
  script : Play → Task
  conversions : List Job → Task
  listing : Listed → Task

-- what a JSON value asks a command to do
abbrev pub task_of : Command → Data → Option Task
task_of command.Run tree = option_map script (script_of tree)
task_of command.Text tree = option_map conversions (conversions_of tree)
task_of command.Layout tree = option_map listing (layout_of tree)

-- what a task leaves in the transcript, and its text: a script its session, conversions their lines, and so types
abbrev pub TaskLeaves : Task → List Record → List ℕ → Type 0
TaskLeaves (script play) records text = Session play records × (text ≡ transcript_text records)
TaskLeaves (conversions jobs) records text = (records ≡ []) × Lines jobs text
TaskLeaves (listing l) records text = (records ≡ []) × (text ≡ layout_text l)

-- the most bytes of an input
abbrev pub max_input : ℕ
max_input = 2 ^ 24

-- the most that are taken of a source: those of an input, and of one read more
abbrev pub most_taken : ℕ
most_taken = max_input + 4096

-- the bytes read as this JSON value
pub record IsJson (bytes : List ℕ) (tree : Data) : Type 0 where
  pub text : IsUtf8 bytes
  pub value : read bytes ≡ Some tree

-- they read as none
abbrev pub IsNoJson : List ℕ → Type 0
IsNoJson bytes = (tree : Data) → ¬ IsJson bytes tree

-- the bytes were read from a source, to its end
pub record IsInput (left left' : Option (List ℕ)) (bytes : List ℕ) : Type 0 where
  pub taken : Consumes left left' bytes
  pub whole : IsAtEnd left'
  pub short : length bytes ≤ max_input

-- what was read is this JSON value
pub record ReadsJson (left left' : Option (List ℕ)) (tree : Data) : Type 0 where
  pub input : List ℕ
  pub whole : IsInput left left' input
  pub json : IsJson input tree

-- what was read is a task; which one a JSON value asks for is what the program says, here and below
pub record ReadsTask {T : Type 0} (asks : Data → Option T) (left left' : Option (List ℕ)) (task : T) : Type 0 where
  pub input : List ℕ
  pub tree : Data
  pub whole : IsInput left left' input
  pub json : IsJson input tree
  pub is : asks tree ≡ Some task

-- what was read is a task, and this was left and is to be written
pub record Performed (asked : Command) (left left' : Option (List ℕ)) (records : List Record) (text : List ℕ) : Type 0 where
  pub task : Task
  pub reads : ReadsTask (task_of asked) left left' task
  pub done : TaskLeaves task records text

-- What the words ask for was performed: a command's task, which was read, or the session of the script that the number of `gen N` makes.
abbrev pub IsPerformed : List (String Global) → Option (List ℕ) → Option (List ℕ) → List Record → List ℕ → Type 0
IsPerformed words left left' records text = IfSome (command_of words) (λ asked. Performed asked left left' records text) × IfSome (gen_of words) (λ n. Generated n records text)

-- what was read is no JSON
pub record ReadsNoJson (left left' : Option (List ℕ)) : Type 0 where
  pub input : List ℕ
  pub whole : IsInput left left' input
  pub none : IsNoJson input

-- what was read is JSON and no task
pub record ReadsNoTask {T : Type 0} (asks : Data → Option T) (left left' : Option (List ℕ)) : Type 0 where
  pub input : List ℕ
  pub tree : Data
  pub whole : IsInput left left' input
  pub json : IsJson input tree
  pub none : asks tree ≡ None

-- more was read than an input may have
pub record ReadsTooMuch (left left' : Option (List ℕ)) : Type 0 where
  pub input : List ℕ
  pub taken : Consumes left left' input
  pub long : max_input < length input

-- nothing was done: wrong words (2), a failed read (3), too many bytes (6), no JSON (7) or no task (8)
abbrev pub IsRefusedStatus : Status → Type 0
IsRefusedStatus s = (s.0 ≡ 2) ⊎ ((s.0 ≡ 3) ⊎ ((s.0 ≡ 6) ⊎ ((s.0 ≡ 7) ⊎ (s.0 ≡ 8))))

-- one of these, all written (0), a failed write (4) or out of memory (5)
abbrev pub IsStatus : Status → Type 0
IsStatus s = IsRefusedStatus s ⊎ ((s.0 ≡ 0) ⊎ ((s.0 ≡ 4) ⊎ (s.0 ≡ 5)))

-- The status of an input that was there to be read, where no read failed: each is answered, or memory ran out.
pub record AnswersInput {T : Type 0} (asks : Data → Option T) (input : List ℕ) (s : Status) : Type 0 where
  pub too_long : max_input < length input → (s.0 ≡ 6) ⊎ (s.0 ≡ 5)
  pub not_json : length input ≤ max_input → IsNoJson input → (s.0 ≡ 7) ⊎ (s.0 ≡ 5)
  pub bad_script : length input ≤ max_input → (tree : Data) → IsJson input tree → asks tree ≡ None → (s.0 ≡ 8) ⊎ (s.0 ≡ 5)
  pub task : length input ≤ max_input → (tree : Data) → IsJson input tree → (task : T) → asks tree ≡ Some task → (s.0 ≡ 0) ⊎ ((s.0 ≡ 4) ⊎ (s.0 ≡ 5))

-- an input that is a task
pub record IsTask {T : Type 0} (asks : Data → Option T) (input : List ℕ) : Type 0 where
  pub short : length input ≤ max_input
  pub tree : Data
  pub json : IsJson input tree
  pub task : T
  pub is : asks tree ≡ Some task

-- a fact of the bytes of a source
abbrev pub OnTold : Option (List ℕ) → (List ℕ → Type 0) → Type 0
OnTold None P = Unit {0}
OnTold (Some bytes) P = P bytes
