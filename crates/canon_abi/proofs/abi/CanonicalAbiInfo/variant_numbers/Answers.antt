use Rattle.std.proofs.Common.{ℕ, Option, ◌+◌, ◌≡◌, ◌∙◌, ap, map, sym, unwrap_or}
use Rattle.canon_abi.specs.Numbers.{align_in, case_numbers_in, case_words_of, flat_within, largest_of, of_variant, payload_offset_in, payload_place, size_in}
use Rattle.canon_abi.proofs.Capped.{one_more_told}
use Rattle.canon_abi.proofs.Widths.{for_both}
use Rattle.canon_abi.proofs.abi.CanonicalAbiInfo.variant_numbers.Goals as goal

pub returns : goal.returns
returns c =
    let cases = c.args.cases.now in
    let narrow = c.in_ok-offset32.ensures in
    let broad = c.in_ok-offset64.ensures in
    let abi = c.joined.result in (
      record {
        size = for_both (λ wide. size_in wide abi ≡ (of_variant (map (case_numbers_in wide) cases)).size) (sym c.joined.ensures.narrow.0 ∙ narrow.1.0) (sym c.joined.ensures.wide.0 ∙ broad.1.0);
        align = for_both (λ wide. align_in wide abi ≡ (of_variant (map (case_numbers_in wide) cases)).align) (sym c.joined.ensures.narrow.1 ∙ narrow.1.1) (sym c.joined.ensures.wide.1 ∙ broad.1.1);
        flat = c.joined.ensures.flat ∙ c.flat_sum-words.ensures ∙ ap (λ (o : Option ℕ). flat_within (1 + unwrap_or o 17)) c.payload_words.ensures.count ∙ one_more_told (largest_of (map case_words_of cases));
      },
      record {
        size = c.of-tag.ensures;
        offset = for_both (λ wide. payload_offset_in wide (record {
          size = c.of-tag.result;
          payload_offset32 = c.in_ok-offset32.offset32;
          payload_offset64 = c.in_ok-offset64.offset64;
        }) ≡ payload_place (map (case_numbers_in wide) cases)) narrow.0 broad.0;
        few = c.requires;
      },
    )
