use Rattle.std.proofs.Common.{arith}
use Rattle.canon_scripted.proofs.Steps.{last_does, last_row}
use Rattle.canon_scripted.proofs.allocator.Allocator.resize_last.Goals as goal

pub invariant_of-self : goal.invariant_of-self
invariant_of-self c =
    let s = c.self.inside in
    last_row c.args.self.now s.top s.live.items c.args.index c.args.old c.args.old_size c.args.new_size c.replace.new.live.items
    (record { view = c.self.view_is; row = c.self.invariant; got = c.requires.lives; now = c.replace.ensures.replaced }) c.requires.last

pub returns : goal.returns
returns c =
    let s = c.self.inside in
    record {
      does = last_does c.args.self.now s.top s.live.items c.args.index c.args.old c.args.old_size c.args.new_size c.replace.new.live.items
          (record { view = c.self.view_is; row = c.self.invariant; got = c.requires.lives; now = c.replace.ensures.replaced })
          c.args.len c.requires.narrow (omega (arith, c.if-old-new_size.false));
    }
