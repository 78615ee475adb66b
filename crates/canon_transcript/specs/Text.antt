-- The text of a transcript.
use Rattle.std.specs.Prelude.{Vec, ℕ, ◌+◌, ◌-◌, ◌^◌, ◌==◌, ◌&&◌, ◌||◌, nat_le, not, if◌then◌else◌, Bool, Box, Err, None, Ok, Option, Some, true, false, List, [], ◌∷◌, ◌++◌, codes, drop, flat_map, length, map, min, replicate, string_bytes, take, String}
use Rattle.std.specs.Fmt.{decimal, digits, signed_decimal}
use Rattle.std.specs.List.{join_with_byte}
use Rattle.std.specs.Str.{chars}
use Rattle.std.specs.declared.alloc.Global.{Global}
use Rattle.hex.specs.Hex.{encode_lower}
use Rattle.canon_memory.specs.declared.event.Event.{Event}
use Rattle.canon_memory.specs.declared.event.Event.TheVariants as event
use Rattle.canon_context.specs.declared.fault.At.{At}
use Rattle.canon_context.specs.declared.fault.At.TheVariants as at
use Rattle.canon_context.specs.declared.fault.Fault.{Fault}
use Rattle.canon_context.specs.declared.fault.Fault.TheVariants as fault
use Rattle.canon_ledger.specs.declared.fault.ResourceFault.{ResourceFault}
use Rattle.canon_ledger.specs.declared.fault.ResourceFault.TheVariants as resource
use Rattle.canon_resources.specs.Held.{Any}
use Rattle.canon_value_parts.specs.Resources.{all_resources}
use Rattle.canon_val.specs.declared.val.Val.{Val}
use Rattle.canon_val.specs.declared.val.Val.TheFolds.{fold-Val}
use Rattle.canon_val.specs.declared.val.Val.TheOpen.{Val-F}
use Rattle.canon_func.specs.declared.error.Error.{Error}
use Rattle.canon_func.specs.declared.error.Error.TheVariants as error
use Rattle.canon_transcript.specs.declared.blocks.Block.{Block}
use Rattle.canon_transcript.specs.declared.transcript.Head.{Head}
use Rattle.canon_transcript.specs.declared.transcript.Head.TheVariants as head
use Rattle.canon_transcript.specs.declared.transcript.Answer.{Answer}
use Rattle.canon_transcript.specs.declared.transcript.Answer.TheVariants as answer
use Rattle.canon_transcript.specs.declared.transcript.Record.{Record}
use Rattle.canon_transcript.specs.Blocks.{blocks_after}

-- the end of a line
abbrev pub end : List ℕ
end = codes "\n"

-- ---- pages

-- What was printed so far, and the number of the next resource: none where resources have no numbers.
pub record Page : Type 0 where
  pub text : List ℕ
  pub next : Option ℕ

abbrev pub page : List ℕ → Option ℕ → Page
page text next = record { text = text; next = next }

-- a page after a printing, by the page before it
abbrev pub Printing : Type 0
Printing = Page → Page

-- a text at the end of the page
abbrev pub write : List ℕ → Printing
write text p = page (p.text ++ text) p.next

-- a printing after a text
abbrev pub text_then : List ℕ → Printing → Printing
text_then text f p = f (write text p)

abbrev pub between : List ℕ → Printing → List ℕ → Printing
between opening f closing p = write closing (text_then opening f p)

-- each printing after this separator
abbrev pub each_after : List ℕ → List Printing → Printing
each_after separator [] p = p
each_after separator (f ∷ fs) p = each_after separator fs (text_then separator f p)

-- printings with a comma between them
abbrev pub comma_separated : List Printing → Printing
comma_separated [] p = p
comma_separated (f ∷ fs) p = each_after (codes ",") fs (f p)

-- ---- values

abbrev pub bool_text : Bool → List ℕ
bool_text true = codes "true"
bool_text false = codes "false"

-- a number in lower-case hexadecimal, with zeros before it up to this many digits
abbrev pub hexadecimal : ℕ → ℕ → List ℕ
hexadecimal width n = replicate (width - length (digits 16 false n)) 48 ++ digits 16 false n

-- U+0020 to U+007E but the two quotes and the backslash
abbrev pub is_plain : ℕ → Bool
is_plain c = nat_le 0x20 c && nat_le c 0x7E && not (c == 0x22 || c == 0x27 || c == 0x5C)

-- a plain scalar stands for itself, and every other for its number in braces
abbrev pub escaped : ℕ → List ℕ
escaped c = if is_plain c then c ∷ [] else codes "\\u{" ++ digits 16 false c ++ codes "}"

abbrev pub name_text : List ℕ → List ℕ
name_text name = flat_map escaped (chars name)

-- a text in double quotes
abbrev pub quoted : List ℕ → List ℕ
quoted text = codes "\"" ++ name_text text ++ codes "\""

abbrev pub flag_text : String Global → List ℕ
flag_text name = name_text (string_bytes name)

-- names with a bar between them
abbrev pub flag_names_text : List (String Global) → List ℕ
flag_names_text names = codes "<" ++ join_with_byte 0x7C (map flag_text names) ++ codes ">"

-- a mark, and the number of the resource, where it has one
abbrev pub resource_text : Option ℕ → List ℕ
resource_text None = codes "#"
resource_text (Some n) = codes "#" ++ decimal n

-- the number after this one: the numbers stand still at the end of a u64
abbrev pub following : ℕ → ℕ
following n = min (n + 1) (2 ^ 64 - 1)

abbrev pub next_number : Option ℕ → Option ℕ
next_number None = None
next_number (Some n) = Some (following n)

abbrev pub resource_printing : Printing
resource_printing p = page (p.text ++ resource_text p.next) (next_number p.next)

-- a field's name and its value
abbrev pub labelled : String Global × Printing → Printing
labelled field = text_then (name_text (string_bytes field.0)) (text_then (codes ":") field.1)

-- a key and its value
abbrev pub key_and_value : Printing × Printing → Printing
key_and_value pair p = text_then (codes "=") pair.1 (pair.0 p)

-- a payload in brackets, if there is one
abbrev pub wrapped : Option (Box Printing Global) → Printing
wrapped None p = p
wrapped (Some payload) p = between (codes "(") payload.value (codes ")") p

-- the printing of one layer of a value, which has the printings of its members in their place
abbrev pub layer_printing : Val-F Printing → Printing
layer_printing (Val-F.Bool b) = write (bool_text b)
layer_printing (Val-F.S8 n) = write (signed_decimal n)
layer_printing (Val-F.U8 n) = write (decimal n)
layer_printing (Val-F.S16 n) = write (signed_decimal n)
layer_printing (Val-F.U16 n) = write (decimal n)
layer_printing (Val-F.S32 n) = write (signed_decimal n)
layer_printing (Val-F.U32 n) = write (decimal n)
layer_printing (Val-F.S64 n) = write (signed_decimal n)
layer_printing (Val-F.U64 n) = write (decimal n)
layer_printing (Val-F.Float32 bits) = write (codes "f32:" ++ hexadecimal 8 bits)
layer_printing (Val-F.Float64 bits) = write (codes "f64:" ++ hexadecimal 16 bits)
layer_printing (Val-F.Char c) = write (codes "'" ++ escaped c ++ codes "'")
layer_printing (Val-F.String s) = write (quoted (string_bytes s))
layer_printing (Val-F.List items) = between (codes "[") (comma_separated items.items) (codes "]")
layer_printing (Val-F.Map pairs) = between (codes "map[") (comma_separated (map key_and_value pairs.items)) (codes "]")
layer_printing (Val-F.Record fields) = between (codes "{") (comma_separated (map labelled fields.items)) (codes "}")
layer_printing (Val-F.Tuple parts) = between (codes "(") (comma_separated parts.items) (codes ")")
layer_printing (Val-F.Variant name payload) = text_then (name_text (string_bytes name)) (wrapped payload)
layer_printing (Val-F.Enum name) = write (name_text (string_bytes name))
layer_printing (Val-F.Option None) = write (codes "none")
layer_printing (Val-F.Option (Some payload)) = text_then (codes "some") (wrapped (Some payload))
layer_printing (Val-F.Result (Ok payload)) = text_then (codes "ok") (wrapped payload)
layer_printing (Val-F.Result (Err payload)) = text_then (codes "err") (wrapped payload)
layer_printing (Val-F.Flags names) = write (flag_names_text names.items)
layer_printing (Val-F.Resource x) = resource_printing
layer_printing (Val-F.FixedLengthList items) = between (codes "[") (comma_separated items.items) (codes "]")

abbrev pub value_printing : Val → Printing
value_printing = fold-Val Printing layer_printing

-- the text of a value alone, whose resources have no numbers
abbrev pub value_text : Val → List ℕ
value_text v = (value_printing v (page [] None)).text

-- a field, and the printings of a record of these fields, of a map of these pairs, of a payload, and of values in a row between
-- these brackets
abbrev pub field_printing : String Global × Val → Printing
field_printing field = labelled (field.0, value_printing field.1)

abbrev pub fields_printing : List (String Global × Val) → Printing
fields_printing fields = between (codes "{") (comma_separated (map field_printing fields)) (codes "}")

abbrev pub pair_printing : Val × Val → Printing
pair_printing pair = key_and_value (value_printing pair.0, value_printing pair.1)

abbrev pub pairs_printing : List (Val × Val) → Printing
pairs_printing pairs = between (codes "map[") (comma_separated (map pair_printing pairs)) (codes "]")

abbrev pub payload_printing : Option (Box Val Global) → Printing
payload_printing None p = p
payload_printing (Some payload) p = between (codes "(") (value_printing payload.value) (codes ")") p

abbrev pub option_printing : Option (Box Val Global) → Printing
option_printing None = write (codes "none")
option_printing (Some payload) = text_then (codes "some") (payload_printing (Some payload))

abbrev pub row_printing : List ℕ → List Val → List ℕ → Printing
row_printing opening values closing = between opening (comma_separated (map value_printing values)) closing

-- each value after a space
abbrev pub values_printing : List Val → Printing
values_printing values = each_after (codes " ") (map value_printing values)

-- each value after a space, and its resources without numbers
abbrev pub value_item : Val → List ℕ
value_item v = codes " " ++ value_text v

abbrev pub values_text : List Val → List ℕ
values_text values = flat_map value_item values

-- ---- errors

abbrev pub at_text : At → List ℕ
at_text (at.Word k) = codes "w" ++ decimal k
at_text (at.Address a) = codes "@" ++ decimal a

-- why the ledger refused a handle: the name of the variant, and what it carries after a space
abbrev pub refusal_text : ResourceFault → List ℕ
refusal_text (resource.UnknownHandle i) = codes "UnknownHandle " ++ decimal i
refusal_text (resource.NotAResource i) = codes "NotAResource " ++ decimal i
refusal_text resource.ResourceTypeMismatch = codes "ResourceTypeMismatch"
refusal_text (resource.StillLent i) = codes "StillLent " ++ decimal i
refusal_text (resource.TooManyLends i) = codes "TooManyLends " ++ decimal i
refusal_text resource.HandleLimit = codes "HandleLimit"
refusal_text resource.IndexOverflow = codes "IndexOverflow"
refusal_text resource.BorrowAsOwn = codes "BorrowAsOwn"
refusal_text resource.HostConsumed = codes "HostConsumed"
refusal_text resource.HostDeallocated = codes "HostDeallocated"
refusal_text resource.GenerationExhausted = codes "GenerationExhausted"
refusal_text resource.BorrowsRemain = codes "BorrowsRemain"
refusal_text resource.NoScope = codes "NoScope"
refusal_text resource.OutOfMemory = codes "OutOfMemory"

-- a fault, in the same way
abbrev pub fault_text : Fault → List ℕ
fault_text (fault.TypeMismatch place) = codes "TypeMismatch " ++ decimal place
fault_text (fault.FieldName place) = codes "FieldName " ++ decimal place
fault_text (fault.UnknownCase place) = codes "UnknownCase " ++ decimal place
fault_text (fault.UnknownFlag place) = codes "UnknownFlag " ++ decimal place
fault_text (fault.PayloadExpected place) = codes "PayloadExpected " ++ decimal place
fault_text (fault.PayloadNotExpected place) = codes "PayloadNotExpected " ++ decimal place
fault_text (fault.LengthMismatch place) = codes "LengthMismatch " ++ decimal place
fault_text (fault.StringTooLong bytes) = codes "StringTooLong " ++ decimal bytes
fault_text (fault.SizeOverflow count) = codes "SizeOverflow " ++ decimal count
fault_text (fault.ReallocMisaligned address) = codes "ReallocMisaligned " ++ decimal address
fault_text (fault.ReallocOutOfBounds address) = codes "ReallocOutOfBounds " ++ decimal address
fault_text fault.GuestTrap = codes "GuestTrap"
fault_text (fault.PointerMisaligned a) = codes "PointerMisaligned " ++ at_text a
fault_text (fault.PointerOutOfBounds a) = codes "PointerOutOfBounds " ++ at_text a
fault_text (fault.InvalidUtf8 a) = codes "InvalidUtf8 " ++ at_text a
fault_text (fault.InvalidUtf16 a) = codes "InvalidUtf16 " ++ at_text a
fault_text (fault.InvalidChar a) = codes "InvalidChar " ++ at_text a
fault_text (fault.BadDiscriminant a number) = codes "BadDiscriminant " ++ at_text a ++ codes " " ++ decimal number
fault_text (fault.Resource e) = refusal_text e
fault_text fault.HostcallFuelExhausted = codes "HostcallFuelExhausted"
-- no transcript holds it: a script that wants memory ends without a record
fault_text fault.OutOfMemory = codes "OutOfMemory"

abbrev pub error_text : Error → List ℕ
error_text (error.Fault f) = fault_text f
error_text error.WrongCount = codes "WrongCount"
error_text error.AsyncLifted = codes "AsyncLifted"
error_text error.CannotEnterComponent = codes "CannotEnterComponent"
error_text error.WrongWords = codes "WrongWords"
error_text (error.UnknownImport index) = codes "UnknownImport " ++ decimal index
error_text error.TurnsExhausted = codes "TurnsExhausted"
error_text (error.ImportFault index f) = codes "ImportFault " ++ decimal index ++ codes " " ++ fault_text f
error_text (error.HostRefused index) = codes "HostRefused " ++ decimal index

-- ---- events

abbrev pub word_text : ℕ → List ℕ
word_text word = 32 ∷ decimal word

-- each word after a space, to the end of the line
abbrev pub words_text : List ℕ → List ℕ
words_text words = flat_map word_text words ++ end

-- bytes in lower-case hexadecimal after a space, where there are some
abbrev pub bytes_text : List ℕ → List ℕ
bytes_text [] = []
bytes_text (b ∷ bs) = 32 ∷ encode_lower (b ∷ bs)

-- A block and the bytes that stand in it. A block may pass the end of memory: then these are the bytes up to there, and
-- none where it starts past it.
abbrev pub block_line : List ℕ → Block → List ℕ
block_line memory b = codes "block " ++ decimal b.start ++ bytes_text (take b.size (drop b.start memory)) ++ end

abbrev pub block_lines : List ℕ → List Block → List ℕ
block_lines memory bs = flat_map (block_line memory) bs

-- the lines of an event, where the events before it left these blocks
abbrev pub event_text : List Block → Event → List ℕ
event_text bs (event.Realloc old old_size align new_size answer) =
    codes "realloc " ++ decimal old ++ codes " " ++ decimal old_size ++ codes " " ++ decimal align ++ codes " " ++ decimal new_size ++ codes " = " ++ decimal answer ++ end
event_text bs (event.Start func words memory) = codes "start " ++ decimal func ++ words_text words ++ block_lines memory bs
event_text bs (event.Ask index words memory) = codes "ask " ++ decimal index ++ words_text words
event_text bs (event.Resume words memory) = codes "resume" ++ words_text words
event_text bs (event.Return words memory) = codes "return" ++ words_text words
event_text bs (event.Post func words) = codes "post" ++ words_text words
event_text bs (event.Dtor func rep) = codes "dtor " ++ decimal func ++ codes " " ++ decimal rep ++ end
event_text bs (event.Trap asked len) = codes "trap" ++ end

-- ---- served asks

-- An ask that a function of the host served: the number of the import, the parameters and the results.
abbrev pub Served : Type 0
Served = ℕ × Vec Val Global × Vec Val Global

abbrev pub served_text : Served → List ℕ
served_text s = codes "served " ++ decimal s.0 ++ values_text s.1.items ++ codes " ->" ++ values_text s.2.items ++ end

-- the import that was asked for last
abbrev pub asked_after : Option ℕ → Event → Option ℕ
asked_after asked (event.Realloc old old_size align new_size answer) = asked
asked_after asked (event.Start func words memory) = asked
asked_after asked (event.Ask index words memory) = Some index
asked_after asked (event.Resume words memory) = asked
asked_after asked (event.Return words memory) = asked
asked_after asked (event.Post func words) = asked
asked_after asked (event.Dtor func rep) = asked
asked_after asked (event.Trap asked_for len) = asked

abbrev pub is_resume : Event → Bool
is_resume (event.Realloc old old_size align new_size answer) = false
is_resume (event.Start func words memory) = false
is_resume (event.Ask index words memory) = false
is_resume (event.Resume words memory) = true
is_resume (event.Return words memory) = false
is_resume (event.Post func words) = false
is_resume (event.Dtor func rep) = false
is_resume (event.Trap asked len) = false

-- a served ask is of the import that was asked for
abbrev pub is_of : Option ℕ → Served → Bool
is_of None s = false
is_of (Some index) s = s.0 == index

-- Of the served asks that are left the first is the one that a resume ends, where it is of the import that was asked for last. An ask for a
-- call on handles is none of them.
abbrev pub first_text : Option ℕ → List Served → List ℕ
first_text asked [] = []
first_text asked (s ∷ served) = if is_of asked s then served_text s else []

abbrev pub others_served : Option ℕ → List Served → List Served
others_served asked [] = []
others_served asked (s ∷ served) = if is_of asked s then served else s ∷ served

-- what stands before an event, and the served asks that are left after it
abbrev pub text_before : Option ℕ → List Served → Event → List ℕ
text_before asked served e = if is_resume e then first_text asked served else []

abbrev pub left_after : Option ℕ → List Served → Event → List Served
left_after asked served e = if is_resume e then others_served asked served else served

-- The lines of events, where those before them left these blocks, the last ask before them was for this import, and these served asks are
-- left.
abbrev pub events_text : List Block → Option ℕ → List Served → List Event → List ℕ
events_text bs asked served [] = []
events_text bs asked served (e ∷ es) = text_before asked served e ++ event_text bs e ++ events_text (blocks_after bs e) (asked_after asked e) (left_after asked served e) es

-- ---- records

abbrev pub head_text : Head → List ℕ
head_text (head.Call func) = codes "call " ++ decimal func ++ end
head_text (head.Typed func) = codes "typed " ++ decimal func ++ end
head_text head.New = codes "new" ++ end
head_text (head.Drop resource) = codes "drop " ++ decimal resource ++ end

abbrev pub answer_printing : Answer → Printing
answer_printing (answer.Ok values) = between (codes "ok") (values_printing values.items) end
answer_printing (answer.Err e) = write (codes "error " ++ error_text e ++ end)
answer_printing answer.Typecheck = write (codes "error TypecheckFailed" ++ end)
answer_printing answer.Skipped = write (codes "skipped" ++ end)

-- the line of an answer whose first resource has this number
abbrev pub answer_text : ℕ → Answer → List ℕ
answer_text first a = (answer_printing a (page [] (Some first))).text

abbrev pub live_text : ℕ → List ℕ
live_text live = codes "live " ++ decimal live ++ end

-- the lines of what the guest did, with the asks that were served
abbrev pub acts_text : Record → List ℕ
acts_text r = events_text [] None r.served.items r.events

abbrev pub record_printing : Record → Printing
record_printing r = text_then (head_text r.head) (between (acts_text r) (answer_printing r.answer) (live_text r.live))

-- the text of a record whose first resource has this number
abbrev pub record_text : ℕ → Record → List ℕ
record_text first r = head_text r.head ++ acts_text r ++ answer_text first r.answer ++ live_text r.live

-- the resources that an answer gave, depth first
abbrev pub resources_given : Answer → List Any
resources_given (answer.Ok values) = all_resources values.items
resources_given (answer.Err e) = []
resources_given answer.Typecheck = []
resources_given answer.Skipped = []

-- the number after those of these resources
abbrev pub number_after : ℕ → List Any → ℕ
number_after first [] = first
number_after first (x ∷ xs) = number_after (following first) xs

-- the text of records whose first resource has this number
abbrev pub records_text : ℕ → List Record → List ℕ
records_text first [] = []
records_text first (r ∷ rs) = record_text first r ++ records_text (number_after first (resources_given r.answer)) rs

abbrev pub transcript_text : List Record → List ℕ
transcript_text records = records_text 0 records
