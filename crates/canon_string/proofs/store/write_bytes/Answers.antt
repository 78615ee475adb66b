use Rattle.std.proofs.Common.{◌≡◌, ◌+◌, ◌-◌, ◌∙◌, ap, arith, false, length, subst, sym, ℕ}
use borrow.Rule.Slice.PartMut.{put_mid}
use Rattle.canon_lowering.specs.Storing.{narrow}
use Rattle.canon_model.proofs.Numbers.{bytes_at-put_mid}
use Rattle.canon_model.specs.Memory.{bytes_at}
use Rattle.canon_string.proofs.store.write_bytes.Goals as goal

pub returns-clause-there : goal.returns-clause-there
returns-clause-there c =
    let a = c.args in
    let n = length a.bytes.now in
    let put = c.copy_from_slice.new.self in
    let same : a.at + n - a.at ≡ n = omega arith in
    subst (λ (k : ℕ). bytes_at (narrow (put_mid a.at k a.memory.now put)) a.at n ≡ a.bytes.now) (sym same)
    (bytes_at-put_mid a.memory.now put false a.at n (omega (arith, c.requires.room)) (ap length c.copy_from_slice.ensures.after) ∙ c.copy_from_slice.ensures.after)
