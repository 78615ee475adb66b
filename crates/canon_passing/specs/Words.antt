-- Words that stay where others are written.
use Rattle.std.specs.Prelude.{List, length, slice_index, ℕ, ◌<◌, ◌≡◌, ◌≤◌}
use Rattle.canon_model.specs.Flat.{AreZero}

-- the words before word i, and how many there are, stay
pub record WordsStay (i : ℕ) (dst dst2 : List ℕ) : Type 0 where
  pub same_length : length dst2 ≡ length dst
  pub before : (p : ℕ) → p < i → slice_index dst2 p ≡ slice_index dst p

-- no words but those from i up to e were written
pub record WordsWritten (i e : ℕ) (dst dst2 : List ℕ) : Type 0 where
  pub stays : WordsStay i dst dst2
  pub behind : (p : ℕ) → e ≤ p → slice_index dst2 p ≡ slice_index dst p

-- the words from i up to e become 0, and the others stay
pub record Clears (i e : ℕ) (dst dst2 : List ℕ) : Type 0 where
  pub written : WordsWritten i e dst dst2
  pub zeros : AreZero dst2 i e
