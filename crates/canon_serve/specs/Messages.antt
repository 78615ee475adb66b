-- How commands and answers are spelled, and which messages they are.
use Rattle.std.specs.Prelude.{List, [], length, nat_eq, ◌++◌, ◌∷◌, ◌≡◌, ◌≤◌, ◌<◌, ◌⊎◌, ℕ}
use Rattle.canon_relay.specs.Channel.{Message, heard, told}
use Rattle.canon_relay.specs.Wire.{number_at, numbers_bytes}
use Rattle.canon_serve.specs.Errors.{error_numbers}
use Rattle.canon_serve.specs.declared.answer.Answer.{Answer}
use Rattle.canon_serve.specs.declared.answer.Answer.TheVariants as answer
use Rattle.canon_serve.specs.declared.answer.Senseless.{Senseless}
use Rattle.canon_serve.specs.declared.answer.Senseless.TheVariants as senseless
use Rattle.canon_serve.specs.declared.command.Command.{Command}
use Rattle.canon_serve.specs.declared.command.Command.TheVariants as command
use Rattle.canon_serve.specs.declared.command.Unheard.{Unheard}
use Rattle.canon_serve.specs.declared.command.Unheard.TheVariants as unheard

-- ---- a command

-- what a command is, by its numbers: what is asked for, its operands, and its bytes
abbrev pub IsCommand : ℕ → ℕ → ℕ → List ℕ → Command → Type 0
IsCommand what operand second bytes command.End = what ≡ 0
IsCommand what operand second bytes (command.Begin watches_all keeps_events json) = (what ≡ 1) × (watches_all ≡ nat_eq operand 1) × (keeps_events ≡ nat_eq second 1) × (json.items ≡ bytes)
IsCommand what operand second bytes (command.Call export params) = (what ≡ 2) × (export ≡ operand) × (params.items ≡ bytes)
IsCommand what operand second bytes command.Live = what ≡ 3
IsCommand what operand second bytes command.Marks = what ≡ 4
IsCommand what operand second bytes (command.Drop number) = (what ≡ 5) × (number ≡ operand)
IsCommand what operand second bytes (command.New ty rep) = (what ≡ 6) × (ty ≡ operand) × (rep ≡ second)
IsCommand what operand second bytes command.Events = what ≡ 7
IsCommand what operand second bytes command.Unknown = 8 ≤ what

-- bytes are a message, unless there are none
abbrev pub heard_bytes : List ℕ → List Message
heard_bytes [] = []
heard_bytes (b ∷ bytes) = heard (b ∷ bytes) ∷ []

abbrev pub told_bytes : List ℕ → List Message
told_bytes [] = []
told_bytes (b ∷ bytes) = told (b ∷ bytes) ∷ []

-- The messages that were heard as this command: 32 bytes, and then as many as they say, at most 16,777,216.
pub record HearsCommand (asked : Command) (messages : List Message) : Type 0 where
  pub head : List ℕ
  pub bytes : List ℕ
  pub are : messages ≡ heard head ∷ heard_bytes bytes
  pub sized : length head ≡ 32
  pub count : length bytes ≡ number_at head 24
  pub few : length bytes ≤ 16777216
  pub is : IsCommand (number_at head 0) (number_at head 8) (number_at head 16) bytes asked

-- no command was heard: nothing, or the first 32 bytes of one that has more
abbrev pub HearsNone : List Message → Type 0
HearsNone messages = (messages ≡ []) ⊎ ((head : List ℕ) × (length head ≡ 32) × (0 < number_at head 24) × (messages ≡ heard head ∷ []))

-- no command was heard for want of memory for its bytes: the first 32 bytes of one that has more, at most 16,777,216
abbrev pub HearsHead : List Message → Type 0
HearsHead messages = (head : List ℕ) × (length head ≡ 32) × (0 < number_at head 24) × (number_at head 24 ≤ 16777216) × (messages ≡ heard head ∷ [])

-- by why nothing more is heard
abbrev pub HearsNothing : Unheard → List Message → Type 0
HearsNothing unheard.Broken messages = HearsNone messages
HearsNothing unheard.OutOfMemory messages = HearsHead messages

-- these messages are a strict prefix of all: one more would have followed
abbrev pub IsStrictPrefix : List Message → List Message → Type 0
IsStrictPrefix all messages = (next : Message) × (rest : List Message) × (all ≡ messages ++ next ∷ rest)

-- ---- an answer

abbrev pub senseless_numbers : Senseless → List ℕ
senseless_numbers senseless.NoCommand = 1 ∷ 0 ∷ []
senseless_numbers senseless.NoExport = 2 ∷ 0 ∷ []
senseless_numbers (senseless.NoImage place) = 3 ∷ place ∷ []
senseless_numbers senseless.NoResource = 4 ∷ 0 ∷ []
senseless_numbers senseless.NoComponent = 5 ∷ 0 ∷ []
senseless_numbers senseless.TooWide = 7 ∷ 0 ∷ []
senseless_numbers senseless.NoEvents = 8 ∷ 0 ∷ []

abbrev pub with_place : List ℕ → List ℕ
with_place (code ∷ place ∷ []) = 7 ∷ 2 ∷ code ∷ 0 ∷ 0 ∷ place ∷ 0 ∷ []
with_place _ = []

-- its numbers but the last, which is how many bytes it has
abbrev pub answer_numbers : Answer → List ℕ
answer_numbers (answer.Done bytes) = 7 ∷ 0 ∷ 0 ∷ 0 ∷ 0 ∷ 0 ∷ 0 ∷ []
answer_numbers (answer.Refused e) = 7 ∷ 1 ∷ error_numbers e
answer_numbers (answer.Senseless why) = with_place (senseless_numbers why)

abbrev pub answer_bytes : Answer → List ℕ
answer_bytes (answer.Done bytes) = bytes.items
answer_bytes (answer.Refused e) = []
answer_bytes (answer.Senseless why) = []

-- the messages that tell it
abbrev pub answer_messages : Answer → List Message
answer_messages a = told (numbers_bytes (answer_numbers a ++ length (answer_bytes a) ∷ [])) ∷ told_bytes (answer_bytes a)
