use Rattle.std.proofs.Common.{arith, length, refl, ◌∙◌, ◌≤◌}
use Rattle.canon_serve.proofs.Beginning.{every_export, every_option}
use Rattle.canon_serve.proofs.begin.component_of.Goals as goal

pub returns : goal.returns
returns c =
    let past : length c.args.posts.now ≤ c.loop-i.i = omega (arith, c.loop-i-test.false, c.loop-i.auto.i-end) in
    record {
      types = λ i. record { types = c.new.ensures.types i; store = (c.new.ensures.store ∙ c.from_u64.ensures) i };
      options = every_option c.loop-i.i c.args.posts.now past c.args.types c.args.encoding _ _ c.loop-i.invariant.options;
      exports = every_export c.loop-i.i c.args.posts.now past _ c.loop-i.invariant.exports;
      imports = refl;
    }
