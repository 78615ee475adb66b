use Rattle.std.proofs.Common.{inl, inr, refl, subst}
use Rattle.std.proofs.lemmas.Result.{IfOk-weaker}
use Rattle.canon_player.specs.Signatures.{Passing, Returning}
use Rattle.canon_player.proofs.TypedPlayed.{has_signature, player_number_is}
use Rattle.canon_player.proofs.typed.make_typed.Goals as goal

pub returns-in-Ok-clause-typed : goal.returns-in-Ok-clause-typed
returns-in-Ok-clause-typed g c =
    let passing : Passing g.row.P.Denot = record { fits = g.P.ComponentType.fits; walks = g.P.ComponentType.walks; gives = g.P.Lower.gives } in
    let returning : Returning g.row.R.Denot = record { fits = g.R.ComponentType.fits; reading = g.R.Lift.reading; literals = g.R.Told.literals } in
    let number = player_number_is c.func.result c.unwrap-f.result c.from_u32.result c.args.call.func c.args.store.now.core.id c.unwrap-f.ensures c.func.ensures.func c.from_u32.ensures in
    let is = has_signature passing returning c.args.store.now.core.component c.args.call.func c.unwrap-f.result.export number c.requires.typable.type in
    IfOk-weaker c.call_typed.result _ _ (λ r h. inr (subst (λ (X : Type 0). X) is c.in-Ok.ensures.ok, h)) c.call_typed.ensures.called

pub returns-in-Err-clause-typed : goal.returns-in-Err-clause-typed
returns-in-Err-clause-typed g c =
    let passing : Passing g.row.P.Denot = record { fits = g.P.ComponentType.fits; walks = g.P.ComponentType.walks; gives = g.P.Lower.gives } in
    let returning : Returning g.row.R.Denot = record { fits = g.R.ComponentType.fits; reading = g.R.Lift.reading; literals = g.R.Told.literals } in
    let number = player_number_is c.func.result c.unwrap-f.result c.from_u32.result c.args.call.func c.args.store.now.core.id c.unwrap-f.ensures c.func.ensures.func c.from_u32.ensures in
    let is = has_signature passing returning c.args.store.now.core.component c.args.call.func c.unwrap-f.result.export number c.requires.typable.type in
    inl (subst (λ (X : Type 0). ¬ X) is c.in-Err.ensures.err, (c.idle_record.ensures.answer, (c.idle_record.ensures.events, c.idle_record.ensures.served), refl))
