-- What encoding and decoding recordings answers.
use Rattle.std.specs.Prelude.{Err, List, Ok, Result, Vec, length, ℕ, ⊤, ◌++◌, ◌<◌, ◌^◌, ◌≡◌, ◌≤◌, ◌⊎◌}
use Rattle.std.specs.declared.alloc.Global.{Global}
use Rattle.canon_context.specs.declared.component.Component.{Component}
use Rattle.canon_image_parts.specs.declared.error.ImageError.{ImageError}
use Rattle.canon_image_parts.specs.declared.error.ImageError.TheVariants as image
use Rattle.canon_recording_parts.specs.declared.error.ReplayError.{ReplayError}
use Rattle.canon_recording_parts.specs.declared.error.ReplayError.TheVariants as error
use Rattle.canon_recording.specs.Fits.{AreRuns, IsNoRunAt}
use Rattle.canon_recording.specs.Recordings.{RecordedCall, calls_in, read_recording, recording}
use Rattle.canon_recording.specs.declared.recording.Recording.{Recording}

-- how an image is told that can't be read, where it begins at place p
abbrev pub told_as : ℕ → ImageError → ReplayError
told_as p image.OutOfMemory = error.OutOfMemory
told_as p _ = error.BadRecording p

-- `encode` of these calls answers so: they are written in at most 2^30 bytes, or each way to write them has more
abbrev pub IsEncoded : Component → List RecordedCall → Result (Vec ℕ Global) ReplayError → Type 0
IsEncoded c calls (Ok bytes) = (recording c).writes calls bytes.items × (length bytes.items ≤ 2 ^ 30)
IsEncoded c calls (Err error.TooLong) = (bs : List ℕ) → (recording c).writes calls bs → 2 ^ 30 < length bs
IsEncoded c calls (Err error.OutOfMemory) = ⊤
IsEncoded c calls (Err _) = ⊥

-- the first p bytes are a recording, and more follow
abbrev pub IsRecordingFollowed : Component → List ℕ → ℕ → Type 0
IsRecordingFollowed c bs p = (calls : List RecordedCall) × (xs rest : List ℕ) × (bs ≡ xs ++ rest) × (read_recording c).writes calls xs × (p ≡ length xs) × (0 < length rest)

-- reading all of these bytes gives these calls, or stops
abbrev pub IsReadWhole : Component → List ℕ → Result (List RecordedCall) ReplayError → Type 0
IsReadWhole c bs (Ok calls) = (read_recording c).writes calls bs
IsReadWhole c bs (Err (error.BadRecording p)) = (read_recording c).stops bs p ⊎ IsRecordingFollowed c bs p
IsReadWhole c bs (Err error.OutOfMemory) = ⊤
IsReadWhole c bs (Err _) = ⊥

-- `decode` of these bytes answers so
abbrev pub IsDecoded : Component → List ℕ → Result Recording ReplayError → Type 0
IsDecoded c bs (Ok r) = (read_recording c).writes (calls_in r) bs × AreRuns c 0 (calls_in r)
IsDecoded c bs (Err (error.BadRecording p)) = (read_recording c).stops bs p ⊎ IsRecordingFollowed c bs p
IsDecoded c bs (Err (error.NotARun k)) = (calls : List RecordedCall) × (read_recording c).writes calls bs × IsNoRunAt c 0 calls k
IsDecoded c bs (Err error.OutOfMemory) = ⊤
IsDecoded c bs (Err error.TooLong) = ⊥

-- Two answers to one question are the same, but that one of them may be out of memory; of two recordings this says only that both are.
abbrev pub IsSameDecoding : Result Recording ReplayError → Result Recording ReplayError → Type 0
IsSameDecoding (Err error.OutOfMemory) q = ⊤
IsSameDecoding r (Err error.OutOfMemory) = ⊤
IsSameDecoding (Ok r) (Ok q) = ⊤
IsSameDecoding (Err e) (Err f) = e ≡ f
IsSameDecoding r q = ⊥

-- each cause of another answer is that of this one
abbrev pub IsOnlyDecoding : Component → List ℕ → Result Recording ReplayError → Type 0
IsOnlyDecoding c bs result = (other : Result Recording ReplayError) → IsDecoded c bs other → IsSameDecoding result other
