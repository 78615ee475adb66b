use Rattle.std.proofs.Common.{◌≡◌, ◌≤◌, ◌<◌, ◌+◌, slice_index, ℕ}
use Rattle.canon_passing.specs.Words.{WordsWritten}
use Rattle.canon_value_parts.proofs.flags.clear_words.Given as goal

-- the words so far are zero
abbrev pub invariant-loop-j : goal.invariant-loop-j
invariant-loop-j l = record {
  written : WordsWritten l.first (l.first + l.count) l.fn.dst l.dst;
  none : (i : ℕ) → l.first ≤ i → i < l.j → slice_index l.dst i ≡ 0;
}
