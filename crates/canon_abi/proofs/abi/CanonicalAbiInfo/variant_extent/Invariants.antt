-- What is left of the cases completes the numbers so far to those of the variant.
use Rattle.std.proofs.Common.{IsTrue, ◌≡◌, ◌^◌, ◌<◌, map, max, drop}
use Rattle.canon_abi.specs.Alignment.{is_alignment}
use Rattle.canon_abi.specs.Numbers.{case_numbers_in, largest_align, largest_size}
use Rattle.canon_abi.proofs.abi.CanonicalAbiInfo.variant_extent.Given as goal

abbrev pub invariant-loop-case : goal.invariant-loop-case
invariant-loop-case l =
    let rest = map (case_numbers_in l.wide) (drop l.case-index l.cases) in
    let all = map (case_numbers_in l.wide) l.cases in
    record {
      in_range : l.largest < 2 ^ 32;
      aligned : IsTrue (is_alignment l.align);
      sizes : max l.largest (largest_size rest) ≡ largest_size all;
      aligns : max l.align (largest_align rest) ≡ largest_align all;
    }
