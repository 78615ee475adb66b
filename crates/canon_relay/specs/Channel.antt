-- What passes over a channel.
use Rattle.std.specs.Prelude.{Bool, List, None, Option, Some, [], false, true, ℕ, ◌++◌, ◌∷◌, ◌≡◌}

-- bytes that were told to the other side, or heard from it; memory that it was lent, with its bytes before and after
pub data Message : Type 0 where
  told : List ℕ → Message
  heard : List ℕ → Message
  lent : List ℕ → List ℕ → Message

-- a log that is exposed has these messages more at its end
abbrev pub AddsMessages : Option (List Message) → Option (List Message) → List Message → Type 0
AddsMessages None after messages = after ≡ None
AddsMessages (Some before) after messages = after ≡ Some (before ++ messages)

-- the message, where it passed whole
abbrev pub message_if : Bool → Message → List Message
message_if true message = message ∷ []
message_if false message = []
