-- What is left of the fields completes the words so far to those of the record.
use Rattle.std.proofs.Common.{◌≤◌, unwrap_or, ◌≡◌, ◌+◌, map, drop}
use Rattle.canon_abi.specs.Numbers.{flat_within, sum_of_numbers, words_of}
use Rattle.canon_abi.proofs.abi.CanonicalAbiInfo.product_words.Given as goal

abbrev pub invariant-loop-field : goal.invariant-loop-field
invariant-loop-field l =
    record {
      few : unwrap_or l.words 16 ≤ 16;
      counted : flat_within (unwrap_or l.words 17 + sum_of_numbers (map words_of (drop l.field-index l.fields))) ≡ flat_within (sum_of_numbers (map words_of l.fields));
    }
