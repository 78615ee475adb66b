-- The laws of recordings. Each is proved as the contract of a function in src/laws.rt.
use Rattle.std.specs.Prelude.{List, ℕ, ◌≡◌}
use Rattle.canon_context.specs.declared.component.Component.{Component}
use Rattle.canon_val.specs.Value.{AreSame, EachSame}
use Rattle.canon_recording_parts.specs.Format.{IsFormat}
use Rattle.canon_recording.specs.Recordings.{Functions, RecordedCall, ServedAsk, exports_of, imports_of, read_recording, recording}

-- No recording's bytes begin another's, what was written doesn't stop reading, reading stops at one place, and a recording is written in
-- one way: as recordings are written, and as they are read.
abbrev pub RecordingsAreApart : Type 0
RecordingsAreApart = (c : Component) → IsFormat (recording c) × IsFormat (read_recording c)

-- asks of one import, with the same values
pub record IsSameAsk (imports : Functions) (a b : ServedAsk) : Type 0 where
  pub import : a.import ≡ b.import
  pub params : AreSame (imports.params a.import) a.params b.params
  pub results : AreSame (imports.results a.import) a.results b.results

-- calls of one export, with the same values, events and asks
pub record IsSameCall (exports imports : Functions) (x y : RecordedCall) : Type 0 where
  pub export : x.export ≡ y.export
  pub params : AreSame (exports.params x.export) x.params y.params
  pub results : AreSame (exports.results x.export) x.results y.results
  pub events : x.events ≡ y.events
  pub served : EachSame (IsSameAsk imports) x.served y.served

-- What was written is read as the same calls, whose flags stand in their types' order, each once.
abbrev pub RecordingsComeBack : Type 0
RecordingsComeBack = (c : Component) (calls read : List RecordedCall) (bs : List ℕ) → (recording c).writes calls bs → (read_recording c).writes read bs
    → EachSame (IsSameCall (exports_of c) (imports_of c)) calls read
