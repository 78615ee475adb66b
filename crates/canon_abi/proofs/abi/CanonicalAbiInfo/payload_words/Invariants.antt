-- What is left of the cases completes the words so far to those of the longest.
use Rattle.std.proofs.Common.{◌≤◌, unwrap_or, ◌≡◌, map, max, drop}
use Rattle.canon_abi.specs.Numbers.{case_words_of, flat_within, largest_of}
use Rattle.canon_abi.proofs.abi.CanonicalAbiInfo.payload_words.Given as goal

abbrev pub invariant-loop-case : goal.invariant-loop-case
invariant-loop-case l =
    record {
      few : unwrap_or l.words 16 ≤ 16;
      counted : flat_within (max (unwrap_or l.words 17) (largest_of (map case_words_of (drop l.case-index l.cases)))) ≡ flat_within (largest_of (map case_words_of l.cases));
    }
