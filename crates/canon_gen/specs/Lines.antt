-- What is printed of the session of the script that a number makes.
use Rattle.std.specs.Prelude.{ℕ, ◌≡◌, Bool, List, Some, [], ◌∷◌, ◌++◌, codes, false, if◌then◌else◌, sum_by, true}
use Rattle.std.specs.Fmt.{decimal}
use Rattle.canon_abi.specs.declared.options.StringEncoding.{StringEncoding}
use Rattle.canon_abi.specs.declared.options.StringEncoding.TheVariants as encoding
use Rattle.canon_memory.specs.declared.event.Event.{Event}
use Rattle.canon_memory.specs.declared.event.Event.TheVariants as event
use Rattle.canon_val.specs.declared.val.Val.{Val}
use Rattle.canon_val.specs.Equal.{is_equal}
use Rattle.canon_literals.specs.Literals.{literal_view}
use Rattle.canon_script.specs.Script.{Play}
use Rattle.canon_player.specs.Session.{Session}
use Rattle.canon_transcript.specs.Blocks.{block_bytes}
use Rattle.canon_transcript.specs.Text.{bool_text, end}
use Rattle.canon_transcript.specs.declared.transcript.Answer.{Answer}
use Rattle.canon_transcript.specs.declared.transcript.Answer.TheVariants as answer
use Rattle.canon_transcript.specs.declared.transcript.Record.{Record}
use Rattle.canon_gen.specs.Records.{list_drawn}
use Rattle.canon_gen.specs.Made.{encoding_made, script_made}

-- ---- counts

abbrev pub is_start : Event → Bool
is_start (event.Start func words memory) = true
is_start _ = false

-- the events before the guest is started
abbrev pub before_start : List Event → List Event
before_start [] = []
before_start (e ∷ es) = if is_start e then [] else e ∷ before_start es

abbrev pub is_request : Event → ℕ
is_request (event.Realloc old old_size align new_size answer) = 1
is_request _ = 0

-- how often `realloc` answered
abbrev pub request_count : List Event → ℕ
request_count events = sum_by is_request events

-- ---- the result

-- the first result is equal to the value that was given
abbrev pub first_equals : Val → List Val → Bool
first_equals given [] = false
first_equals given (v ∷ vs) = is_equal v given

-- an error has no result, and so has a call whose types are others, or that was skipped
abbrev pub answer_equals : Val → Answer → Bool
answer_equals given (answer.Ok results) = first_equals given results.items
answer_equals given (answer.Err e) = false
answer_equals given answer.Typecheck = false
answer_equals given answer.Skipped = false

-- ---- lines

abbrev pub encoding_word : StringEncoding → List ℕ
encoding_word encoding.Utf8 = codes "utf8"
encoding_word encoding.Utf16 = codes "utf16"
encoding_word encoding.CompactUtf16 = codes "compact"

-- a word and a number
abbrev pub count_line : List ℕ → ℕ → List ℕ
count_line word n = word ++ codes " " ++ decimal n ++ end

-- of a number
abbrev pub number_lines : ℕ → List ℕ
number_lines n = count_line (codes "gen") n ++ codes "encoding " ++ encoding_word (encoding_made n) ++ end ++ count_line (codes "records") n

-- of the events before the start
abbrev pub count_lines : List Event → List ℕ
count_lines before = count_line (codes "reallocs") (request_count before) ++ count_line (codes "bytes") (block_bytes before)

-- of the answer of a call with this value
abbrev pub equal_line : Val → Answer → List ℕ
equal_line given a = codes "equal " ++ bool_text (answer_equals given a) ++ end

-- the seven lines of a call with this value
abbrev pub gen_text : ℕ → Val → Record → List ℕ
gen_text n given r = number_lines n ++ count_lines (before_start r.events) ++ equal_line given r.answer ++ count_line (codes "live") r.live

-- The script that n makes was played, and this is left and is to be written. The given value is the list that n draws.
pub record Generated (n : ℕ) (records : List Record) (text : List ℕ) : Type 0 where
  pub play : Play
  pub made : script_made n ≡ Some play
  pub session : Session play records
  pub call : Record
  pub only : records ≡ call ∷ []
  pub given : Val
  pub drawn : literal_view given ≡ list_drawn n
  pub is : text ≡ gen_text n given call
