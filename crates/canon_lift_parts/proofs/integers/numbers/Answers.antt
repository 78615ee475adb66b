use Rattle.std.proofs.Common.{rules, ◌≡◌, ◌+◌, ◌*◌, ap₂, length, subst, sym, ℕ}
use Rattle.canon_lowering.specs.Storing.{narrow}
use Rattle.canon_model.specs.Memory.{num}
use Rattle.canon_lift_parts.specs.Integers.{AreSpelled}
use Rattle.canon_lift_parts.proofs.IntegerRows.{held_more}
use Rattle.canon_lift_parts.proofs.integers.numbers.Goals as goal

pub loop-k-preserved : goal.loop-k-preserved
loop-k-preserved g c =
    let Held = g.T.Integer.held in
    let b = g.T.Integer.bytes in
    let m = narrow c.args.memory.now in
    let p = c.args.pointer in
    let xs = c.loop-k.items.items in
    let i = c.loop-k.invariant in
    let here : p + c.loop-k.k * c.width-width.result ≡ p + length xs * b = ap₂ (λ (n k : ℕ). p + n * k) (sym i.count) c.width-width.ensures.width in
    record {
      count = search rules;
      held = subst (λ ys. AreSpelled Held b m p ys) (sym c.in-Ok.ensures.items) (held_more Held b m p xs c.load.result i.held (subst (λ a. Held c.load.result (num m a b)) here c.load.ensures));
    }
