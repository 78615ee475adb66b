-- What is left of the fields completes the numbers so far to those of the record.
use Rattle.std.proofs.Common.{IsTrue, ◌≡◌, ◌^◌, ◌<◌, map, max, drop}
use Rattle.canon_abi.specs.Alignment.{is_alignment}
use Rattle.canon_abi.specs.Numbers.{end_of, largest_align, numbers_in}
use Rattle.canon_abi.proofs.abi.CanonicalAbiInfo.product_extent.Given as goal

abbrev pub invariant-loop-field : goal.invariant-loop-field
invariant-loop-field l =
    let rest = map (numbers_in l.wide) (drop l.field-index l.fields) in
    let all = map (numbers_in l.wide) l.fields in
    record {
      fits : l.end < 2 ^ 32;
      aligned : IsTrue (is_alignment l.align);
      ends : end_of l.end rest ≡ end_of 0 all;
      aligns : max l.align (largest_align rest) ≡ largest_align all;
    }
