use Rattle.std.proofs.Common.{◌∙◌, ap, ◌++◌, drop, take, List, ◌+◌}
use Rattle.canon_model.specs.Memory.{Block}
use Rattle.canon_scripted.specs.Allocator.{listed}
use Rattle.canon_scripted.proofs.Steps.{moved_does, moved_row}
use Rattle.canon_scripted.proofs.allocator.Allocator.move_block.Goals as goal

pub invariant_of-self-2 : goal.invariant_of-self-2
invariant_of-self-2 c =
    let s = c.self.inside in
    moved_row c.args.self.now s.top s.live.items c.args.index c.args.old c.args.old_size c.replace.new.live.items
    (record {
      view = c.self.view_is;
      row = c.self.invariant;
      got = c.requires.lives;
      now = c.replace.ensures.replaced ∙ ap (λ (xs : List Block). take c.args.index xs ++ listed c.args.old 0 ++ drop (c.args.index + 1) xs) c.reserve.ensures.items;
    })
    c.args.align c.args.new_size c.in-Some.start c.list.new.live.items (c.in-Some.ensures).1 c.list.ensures c.requires.aligned

pub returns : goal.returns
returns c =
    let s = c.self.inside in
    record {
      does = moved_does c.args.self.now s.top s.live.items c.args.index c.args.old c.args.old_size c.replace.new.live.items
          (record {
            view = c.self.view_is;
            row = c.self.invariant;
            got = c.requires.lives;
            now = c.replace.ensures.replaced ∙ ap (λ (xs : List Block). take c.args.index xs ++ listed c.args.old 0 ++ drop (c.args.index + 1) xs) c.reserve.ensures.items;
          })
          c.args.align c.args.new_size c.in-Some.start c.list.new.live.items (c.in-Some.ensures).1 c.list.ensures c.args.len (c.in-Some.ensures).0.0 (c.in-Some.ensures).0.1;
    }
