use Rattle.std.proofs.Common.{◌≡◌, ◌%◌, ◌^◌, ◌∙◌, ◌∷◌, [], Err, List, Ok, ap, subst, sym, ℕ}
use Rattle.canon_lowering.specs.Steps.{Writes}
use Rattle.canon_memory.specs.Memory.{written_over}
use Rattle.canon_memory.specs.Realloc.{block}
use Rattle.canon_resources.specs.Parts.{passed}
use Rattle.canon_plan.specs.Plan.{shape_of_handle}
use Rattle.canon_context.specs.Core.{Parts}
use Rattle.canon_context.specs.declared.fault.Fault.{Fault}
use Rattle.canon_value_parts.specs.Stores.{StoresTo}
use Rattle.canon_val.specs.declared.val.Val.TheVariants as val
use Rattle.canon_context.proofs.Moves.{GuestLaws}
use Rattle.canon_value_parts.proofs.HandleSteps.{handle_not_stored, handle_stored}
use Rattle.canon_passing.proofs.Passing.{Ended}
use Rattle.canon_walks.proofs.store.store_handle.Goals as goal

pub returns-in-Ok : goal.returns-in-Ok
returns-in-Ok g c =
    let a = c.args in
    let core = a.core.now in
    let gives = c.in-Ok.ensures.gives in
    let l = c.give_handle.new.core.ledger in
    let m = c.put_low_bytes.new.memory in
    let L : GuestLaws _ = record { seen = g.G.Guest.seen; moves = g.G.Guest.moves; stays = g.met.G.Guest.stays; goes_on = g.met.G.Guest.goes_on } in
    let same : c.as_slice_mut.result.now ≡ core.memory = c.as_slice_mut.ensures.value ∙ ap (λ (y : Parts _ _). y.memory) gives.only_ledger in
    record {
      stores = λ options. subst (λ (y : Parts _ _). StoresTo L.seen L.moves options core (record y { memory = written_over y.memory m }) (shape_of_handle a.handle) a.at (val.Resource a.resource) a.place (Ok c.saturating_add.result)) (sym gives.only_ledger)
          (handle_stored L options core l a.handle.owned a.handle.resource a.resource c.requires.small m a.at c.in-Ok.number a.place c.saturating_add.result c.requires.room gives.narrow
          (subst (λ (xs : List ℕ). Writes (block a.at 4) xs m) same c.put_low_bytes.ensures.writes) (c.put_low_bytes.ensures.stored ∙ ap (λ (n : ℕ). n % 256 ^ 4) c.from.ensures) c.saturating_add.ensures gives.passed);
    }

pub returns-in-Err : goal.returns-in-Err
returns-in-Err g c =
    let a = c.args in
    let core = a.core.now in
    let gives = c.in-Err.ensures.gives in
    let l = c.give_handle.new.core.ledger in
    let (r, is) = gives.refusal in
    let L : GuestLaws _ = record { seen = g.G.Guest.seen; moves = g.G.Guest.moves; stays = g.met.G.Guest.stays; goes_on = g.met.G.Guest.goes_on } in
    record {
      stores = λ options. let Stands : Parts _ _ → Fault → Type 0 = λ y e. StoresTo L.seen L.moves options core y (shape_of_handle a.handle) a.at (val.Resource a.resource) a.place (Err e) in
          subst (λ (y : Parts _ _). Stands y c.in-Err.fault) (sym gives.only_ledger) (subst (λ (e : Fault). Stands (record core { ledger = l }) e) (sym is)
          (handle_not_stored L options core l a.handle.owned a.handle.resource a.resource c.requires.small r
          (subst (λ (e : Fault). Ended core.component.types core.ledger l (passed a.handle.owned a.handle.resource a.resource ∷ []) e) is gives.passed) a.at a.place));
    }
