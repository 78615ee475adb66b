use Rattle.std.proofs.Common.{◌+◌, ◌∷◌, [], Err, Ok, refl, set, subst, sym}
use Rattle.canon_resources.specs.Parts.{passed}
use Rattle.canon_plan.specs.Plan.{shape_of_handle}
use Rattle.canon_context.specs.Core.{Parts}
use Rattle.canon_context.specs.declared.fault.Fault.{Fault}
use Rattle.canon_value_parts.specs.Words.{LowersTo}
use Rattle.canon_val.specs.declared.val.Val.TheVariants as val
use Rattle.canon_context.proofs.Moves.{GuestLaws}
use Rattle.canon_value_parts.proofs.HandleSteps.{handle_lowered, handle_not_lowered}
use Rattle.canon_passing.proofs.Passing.{Ended}
use Rattle.canon_walks.proofs.lower.lower_handle.Goals as goal

pub returns-in-Ok : goal.returns-in-Ok
returns-in-Ok g c =
    let a = c.args in
    let core = a.core.now in
    let gives = c.in-Ok.ensures.gives in
    let L : GuestLaws _ = record { seen = g.G.Guest.seen; moves = g.G.Guest.moves; stays = g.met.G.Guest.stays; goes_on = g.met.G.Guest.goes_on } in
    record {
      lowers = λ options. subst (λ (y : Parts _ _). LowersTo L.seen L.moves options core y a.dst.now (set a.dst.now a.from.word c.u32.result) a.from (Ok (record {
        word = a.from.word + 1;
        place = c.saturating_add.result;
      })) (shape_of_handle a.handle) (val.Resource a.resource))
          (sym gives.only_ledger)
          (handle_lowered L options core c.give_handle.new.core.ledger a.handle.owned a.handle.resource a.resource c.requires.small a.dst.now a.from _ c.in-Ok.number c.u32.result c.requires.room gives.narrow c.u32.ensures refl
          c.saturating_add.ensures gives.passed);
    }

pub returns-in-Err : goal.returns-in-Err
returns-in-Err g c =
    let a = c.args in
    let core = a.core.now in
    let gives = c.in-Err.ensures.gives in
    let l = c.give_handle.new.core.ledger in
    let (r, is) = gives.refusal in
    let L : GuestLaws _ = record { seen = g.G.Guest.seen; moves = g.G.Guest.moves; stays = g.met.G.Guest.stays; goes_on = g.met.G.Guest.goes_on } in
    record {
      lowers = λ options. let Stands : Parts _ _ → Fault → Type 0 = λ y e. LowersTo L.seen L.moves options core y a.dst.now a.dst.now a.from (Err e) (shape_of_handle a.handle) (val.Resource a.resource) in
          subst (λ (y : Parts _ _). Stands y c.in-Err.fault) (sym gives.only_ledger) (subst (λ (e : Fault). Stands (record core { ledger = l }) e) (sym is)
          (handle_not_lowered L options core l a.handle.owned a.handle.resource a.resource c.requires.small r
          (subst (λ (e : Fault). Ended core.component.types core.ledger l (passed a.handle.owned a.handle.resource a.resource ∷ []) e) is gives.passed) a.dst.now a.from));
    }
