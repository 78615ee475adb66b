use Rattle.std.proofs.Common.{◌≤◌, ◌*◌, ◌^◌, ◌⊎◌, false, inl, refl, subst, ℕ}
use Rattle.canon_lower_parts.proofs.BlockSteps.{asked_items}
use Rattle.canon_lower_parts.proofs.blocks.ask_items.Goals as goal

pub returns-in_default-clause-asked : goal.returns-in_default-clause-asked
returns-in_default-clause-asked g c s layout =
    inl (refl, refl, c.memory-memory.ensures.small, subst (λ (k : ℕ). (2 ^ 32 ≤ c.args.count) ⊎ (2 ^ 32 ≤ c.args.count * k)) (layout.size false) (c.in_default.ensures.none refl))

pub returns-clause-asked : goal.returns-clause-asked
returns-clause-asked g c s layout =
    let abi = c.args.abi.now in
    asked_items g.G.Guest.seen g.G.Guest.moves c.args.cx.now.core.now c.ask.new.core s c.args.count c.in-Some.bytes abi.size32 abi.align32 c.ask.result (layout.size false)
    (layout.align false) c.in-Some.ensures.some c.ask.ensures.asked
