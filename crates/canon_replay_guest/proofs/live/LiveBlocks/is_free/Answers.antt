use Rattle.std.proofs.Common.{◌∙◌, ◌↔◌, IsTrue, List, refl, subst, sym}
use Rattle.std.specs.List.{All}
use Rattle.canon_model.specs.Memory.{Block}
use Rattle.canon_memory.specs.Realloc.{block, call}
use Rattle.canon_replay_guest.specs.Lawful.{IsFree, IsHighestBlock, IsOldOrApart}
use Rattle.canon_replay_guest.proofs.Blocks.{free_else, free_of_front, free_past}
use Rattle.canon_replay_guest.proofs.live.LiveBlocks.is_free.Goals as goal

pub returns-then-start-self : goal.returns-then-start-self
returns-then-start-self c = (
  λ t. subst (λ (live : List Block). IsFree live (call c.args.old c.args.old_size 1 c.args.size) c.args.start) c.self.view_is
      (free_past c.self.inside.end c.self.inside.blocks.items (call c.args.old c.args.old_size 1 c.args.size) c.args.start c.self.invariant.0 c.if-start-self.true),
  λ free. refl,
)

pub returns-then-ends_in : goal.returns-then-ends_in
returns-then-ends_in c =
    let xs : List Block = c.self.inside.blocks.items in
    let asked = call c.args.old c.args.old_size 1 c.args.size in
    let ends = subst (λ (l : List Block). IsHighestBlock l c.self.inside.before c.new-old.result) c.deref.ensures.value (c.ends_in.ensures c.if-ends_in.true) in (
      λ t. subst (λ (live : List Block). IsFree live asked c.args.start) c.self.view_is
          (free_of_front xs c.self.inside.end c.self.inside.before c.new-old.result c.self.invariant ends asked c.args.start (sym c.new-old.ensures) c.if-start-self-2.true),
      λ free. refl,
    )

pub returns : goal.returns
returns c =
    let h : IsTrue c.are_free.result ↔ All (IsOldOrApart c.new-old.result c.new-new.result) c.deref-2.result.now = c.are_free.ensures in
    let h2 = subst (λ (b : Block). IsTrue c.are_free.result ↔ All (IsOldOrApart b c.new-new.result) c.deref-2.result.now) c.new-old.ensures h in
    let h3 = subst (λ (b : Block). IsTrue c.are_free.result ↔ All (IsOldOrApart (block c.args.old c.args.old_size) b) c.deref-2.result.now) c.new-new.ensures h2 in
    free_else c.args.self.now c.deref-2.result.now (call c.args.old c.args.old_size 1 c.args.size) c.args.start c.are_free.result (c.deref-2.ensures.value ∙ c.self.view_is) h3
