use Rattle.std.proofs.Common.{IsUtf8, arith, ap, drop, length, subst, take, ℕ, ◌+◌, ◌-◌, ◌∙◌, ◌≡◌, ◌≤◌}
use Rattle.canon_image_parts.proofs.Fetching.{text_good}
use Rattle.canon_image_parts.proofs.read.read_text.Goals as goal

pub returns-in-Ok-from_str : goal.returns-in-Ok-from_str
returns-in-Ok-from_str c =
    let bs = c.args.bytes.now in
    let mid = c.read_count.new.at in
    let n = c.in-Ok.count in
    let count : mid + n - mid ≡ n = omega arith in
    let same = ap (λ (k : ℕ). take k (drop mid bs)) count in
    let room : mid + n ≤ length bs = omega (arith, c.if-bytes-at.false, c.in-Ok.ensures.reads.2) in
    record {
      reads = text_good bs c.args.at.now mid n c.in-Ok.ensures.reads c.in-Ok-from_str.text room (subst IsUtf8 same c.in-Ok-from_utf8.ensures.cases.1)
          (c.in-Ok-from_str.ensures.ok ∙ (c.in-Ok-from_utf8.ensures.cases.0 ∙ same));
    }
