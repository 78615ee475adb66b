use Rattle.std.proofs.Common.{arith}
use Rattle.canon_scripted.proofs.Steps.{smaller_does, smaller_row}
use Rattle.canon_scripted.proofs.allocator.Allocator.shrink.Goals as goal

pub invariant_of-self : goal.invariant_of-self
invariant_of-self c =
    let s = c.self.inside in
    smaller_row c.args.self.now s.top s.live.items c.args.index c.args.old c.args.old_size c.args.new_size c.replace.new.live.items
    (record { view = c.self.view_is; row = c.self.invariant; got = c.requires.lives; now = c.replace.ensures.replaced }) c.requires.smaller

pub returns : goal.returns
returns c =
    let s = c.self.inside in
    record {
      does = smaller_does c.args.self.now s.top s.live.items c.args.index c.args.old c.args.old_size c.args.new_size c.replace.new.live.items
          (record { view = c.self.view_is; row = c.self.invariant; got = c.requires.lives; now = c.replace.ensures.replaced })
          c.args.len c.requires.narrow (omega (arith, c.if-len-old.false));
    }
