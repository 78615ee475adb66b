-- What the command `text` prints.
use Rattle.std.specs.Prelude.{◌≡◌, ℕ, ◌++◌, List, [], ◌∷◌, length, take, flat_map, Bool, codes, Result, Ok, Err, MatchResult, ⊤}
use Rattle.std.specs.Fmt.{decimal}
use Rattle.hex.specs.Hex.{encode_lower}
use Rattle.canon_model.specs.Text.{in_latin1, in_utf16, in_utf8, unit_bytes}
use Rattle.canon_text.specs.Answers.{Compacts, Converts, Narrows, PassFails, Passed, Widens, bytes_before, inflated}
use Rattle.canon_text.specs.Decoding.{units_in}
use Rattle.canon_text.specs.Faults.{IsFirstFault, error_place}
use Rattle.canon_text.specs.Writing.{over}
use Rattle.canon_text.specs.declared.error.SizePair.{SizePair}
use Rattle.canon_text.specs.declared.error.TextError.{TextError}
use Rattle.canon_text.specs.declared.error.TextError.TheVariants.{InvalidUtf16, InvalidUtf8}
use Rattle.canon_conversions.specs.Conversions.{Job, destination}
use Rattle.canon_conversions.specs.TextCalls.{name_of}
use Rattle.canon_conversions.specs.declared.conversion.TextCall.{TextCall}
use Rattle.canon_conversions.specs.declared.conversion.TextCall.TheVariants as call

-- what is printed of an answer
abbrev pub text_fault_text : TextError → List ℕ
text_fault_text (InvalidUtf8 at) = codes " InvalidUtf8 " ++ decimal at
text_fault_text (InvalidUtf16 at) = codes " InvalidUtf16 " ++ decimal at

abbrev pub done_text : Result ⊤ TextError → List ℕ
done_text (Ok _) = codes " ok"
done_text (Err e) = text_fault_text e

abbrev pub wrote_text : Result ℕ TextError → List ℕ
wrote_text (Ok n) = codes " wrote " ++ decimal n
wrote_text (Err e) = text_fault_text e

abbrev pub length_text : Result ℕ TextError → List ℕ
length_text (Ok n) = codes " length " ++ decimal n
length_text (Err e) = text_fault_text e

abbrev pub pair_text : SizePair → List ℕ
pair_text p = codes " read " ++ decimal p.src_read ++ codes " wrote " ++ decimal p.dst_written

abbrev pub pass_text : Result SizePair TextError → List ℕ
pass_text (Ok p) = pair_text p
pass_text (Err e) = text_fault_text e

-- the units that were written, as bytes
abbrev pub InUnits : List ℕ → (List ℕ → Type 0) → Type 0
InUnits new P = (units : List ℕ) × (new ≡ flat_map unit_bytes units) × P units

-- A call over these bytes answered what is said, and left these bytes in its destination.
abbrev pub CallSays : TextCall → (src old : List ℕ) (first : Bool) (so_far : ℕ) (said new : List ℕ) → Type 0
CallSays call.Utf8ToUtf8 src old first so_far said new = (r : Result ⊤ TextError) × (said ≡ done_text r)
    × MatchResult r (λ _. Converts in_utf8 in_utf8 src old new (length src)) (λ e. IsFirstFault in_utf8 src e × (new ≡ old))
CallSays call.Utf16ToUtf16 src old first so_far said new = InUnits new (λ units. (r : Result ⊤ TextError) × (said ≡ done_text r)
    × MatchResult r (λ _. Converts in_utf16 in_utf16 (units_in src) (units_in old) units (length (units_in src)))
    (λ e. IsFirstFault in_utf16 (units_in src) e × (units ≡ over (units_in old) (take (error_place e) (units_in src)))))
CallSays call.Latin1ToLatin1 src old first so_far said new = (said ≡ codes " ok") × Converts in_latin1 in_latin1 src old new (length src)
CallSays call.Latin1ToUtf16 src old first so_far said new = InUnits new (λ units. (said ≡ codes " ok") × Converts in_latin1 in_utf16 src (units_in old) units (length src))
CallSays call.Utf8ToUtf16 src old first so_far said new = InUnits new (λ units. (r : Result ℕ TextError) × (said ≡ wrote_text r)
    × MatchResult r (λ n. Converts in_utf8 in_utf16 src (units_in old) units n) (λ e. IsFirstFault in_utf8 src e × (units ≡ units_in old)))
CallSays call.Utf16ToUtf8 src old first so_far said new = (r : Result SizePair TextError) × (said ≡ pass_text r)
    × MatchResult r (λ p. Passed in_utf16 first (units_in src) old new p.src_read p.dst_written) (λ e. PassFails in_utf16 first (units_in src) old new e)
CallSays call.Latin1ToUtf8 src old first so_far said new = (p : SizePair) × (said ≡ pair_text p) × Passed in_latin1 first src old new p.src_read p.dst_written
CallSays call.Utf16ToCompactProbablyUtf16 src old first so_far said new = (r : Result ℕ TextError) × (said ≡ length_text r)
    × MatchResult r (λ n. Compacts (units_in src) new n) (λ e. IsFirstFault in_utf16 (units_in src) e × (new ≡ over old (bytes_before (units_in src) e)))
CallSays call.Utf8ToLatin1 src old first so_far said new = (p : SizePair) × (said ≡ pair_text p) × Narrows in_utf8 src old new p.src_read p.dst_written
CallSays call.Utf16ToLatin1 src old first so_far said new = (p : SizePair) × (said ≡ pair_text p) × Narrows in_utf16 (units_in src) old new p.src_read p.dst_written
CallSays call.Utf8ToCompactUtf16 src old first so_far said new = (r : Result ℕ TextError) × (said ≡ length_text r)
    × MatchResult r (λ n. Widens in_utf8 src old new so_far n) (λ e. IsFirstFault in_utf8 src e × (new ≡ over old (inflated old so_far)))
CallSays call.Utf16ToCompactUtf16 src old first so_far said new = (r : Result ℕ TextError) × (said ≡ length_text r)
    × MatchResult r (λ n. Widens in_utf16 (units_in src) old new so_far n)
    (λ e. IsFirstFault in_utf16 (units_in src) e × (new ≡ over old (inflated old so_far ++ bytes_before (units_in src) e)))

-- a destination in hex after a space, where it has bytes
abbrev pub destination_text : List ℕ → List ℕ
destination_text [] = []
destination_text (b ∷ bs) = 32 ∷ encode_lower (b ∷ bs)

-- the line of a conversion
pub record Line (job : Job) (line : List ℕ) : Type 0 where
  pub said : List ℕ
  pub new : List ℕ
  pub says : CallSays job.call job.src (destination job) job.first job.so_far said new
  pub is : line ≡ name_of job.call ++ said ++ destination_text new ++ codes "\n"

-- the line of each, in order
abbrev pub Lines : List Job → List ℕ → Type 0
Lines [] text = text ≡ []
Lines (j ∷ js) text = (line : List ℕ) × (rest : List ℕ) × Line j line × Lines js rest × (text ≡ line ++ rest)
