use Rattle.std.proofs.Common.{ap, arith, refl, subst, sym, ℕ}
use Rattle.canon_model.specs.Layout.{flat}
use Rattle.canon_context.specs.Core.{component_types}
use Rattle.canon_value_parts.specs.Words.{IsWordOf}
use Rattle.canon_context.proofs.Moves.{GuestLaws}
use Rattle.canon_plan.proofs.ScalarTypes.{scalar_shape}
use Rattle.canon_value_parts.proofs.PassesOf.{scalar_passes}
use Rattle.canon_value_parts.proofs.WordSteps.{scalar_lowers}
use Rattle.canon_walks.proofs.lower.lower_word.Goals as goal

pub bounds-dst-from : goal.bounds-dst-from
unfolding flat
bounds-dst-from g c =
    let (k, t, e, has, is, least) = c.requires.word in
    omega (arith, c.requires.room, ap flat (scalar_shape (component_types c.args.core.now) c.args.ty k e))

pub returns : goal.returns
returns g c =
    let a = c.args in
    let L : GuestLaws _ = record { seen = g.G.Guest.seen; moves = g.G.Guest.moves; stays = g.met.G.Guest.stays; goes_on = g.met.G.Guest.goes_on } in
    record {
      lowers = λ options. scalar_lowers L options a.core.now a.dst.now a.from _ a.ty a.value.now c.u64.result c.requires.small c.requires.room
          (subst (λ (w : ℕ). IsWordOf a.ty a.value.now w) (sym c.u64.ensures) c.requires.word) refl c.saturating_add.ensures (scalar_passes (component_types a.core.now) a.ty a.value.now a.word c.requires.word);
    }
