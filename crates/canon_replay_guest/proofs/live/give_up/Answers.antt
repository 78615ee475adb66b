use Rattle.std.proofs.Common.{rules, ◌≡◌, ◌∙◌, ◌-◌, List, length, subst, take}
use Rattle.canon_model.specs.Memory.{Block}
use Rattle.canon_replay_guest.specs.Lawful.{IsHighestBlock}
use Rattle.canon_replay_guest.proofs.Blocks.{kept_out, last_given_up}
use Rattle.canon_replay_guest.proofs.live.give_up.Goals as goal

pub returns-then-ends_in-clause-kept : goal.returns-then-ends_in-clause-kept
returns-then-ends_in-clause-kept c =
    let xs : List Block = c.args.blocks.now.items in
    let ends = subst (λ (l : List Block). IsHighestBlock l c.args.before.now c.args.old) c.deref.ensures.value (c.ends_in.ensures c.if-ends_in.true) in
    let front : c.truncate.new.self.items ≡ take (length xs - 1) xs = search rules in
    front ∙ last_given_up xs c.args.end.now c.args.before.now c.args.old c.requires ends

pub returns-else-ends_in-clause-listed : goal.returns-else-ends_in-clause-listed
returns-else-ends_in-clause-listed c = kept_out c.args.end.now c.args.before.now c.args.blocks.now.items c.take_out.new.blocks.items c.args.old c.take_out.ensures.kept c.requires
