use Rattle.std.proofs.Common.{Err, Ok, refl, subst, sym, ◌∙◌, ◌≡◌}
use Rattle.canon_ledger.specs.Ledger.{leave}
use Rattle.canon_context.specs.Core.{SameButLedger}
use Rattle.canon_func.specs.Drop.{Failed, IsRemoved, Ran, Removes}
use Rattle.canon_func.proofs.DropLemmas.{is_cut_off, is_dropped, not_removed}
use Rattle.canon_func.proofs.dropping.resource_drop.Goals as goal

pub returns-in-Err-clause-drops : goal.returns-in-Err-clause-drops
returns-in-Err-clause-drops g c =
    let store = c.args.store.now in
    let x = c.in-Some.index in
    let mid = c.remove.new.core in
    let e = c.in-Err.error in
    let first : c.core_mut.result.now ≡ store.core = c.core_mut.ensures.value in
    rw (sym c.host_index.ensures ∙ c.in-Some.is, sym c.refusal.ensures ∙ c.in_default-refusal.is)
    (not_removed g.G.Guest.seen g.G.Guest.moves g.G.Guest.leaves g.met.G.Guest.stays x store _ e
    (subst (λ k. SameButLedger k mid) first c.in-Err.ensures.same)
    refl
    refl
    refl
    (subst (λ k. Removes k.ledger x mid.ledger (Err e)) first c.in-Err.ensures.removes))

pub returns-in-Ok-finish-clause-drops : goal.returns-in-Ok-finish-clause-drops
returns-in-Ok-finish-clause-drops g c =
    let seen = g.G.Guest.seen in
    let moves = g.G.Guest.moves in
    let store = c.args.store.now in
    let x = c.in-Some.index in
    let d = c.in-Ok.destructor in
    let mid = c.remove.new.core in
    let after = c.finish.new.entered in
    let first : c.core_mut.result.now ≡ store.core = c.core_mut.ensures.value in
    let second : c.core_mut-2.result.now ≡ mid = c.core_mut-2.ensures.value in
    rw (sym c.host_index.ensures ∙ c.in-Some.is, sym c.refusal.ensures ∙ c.in_default-refusal.is)
    (is_dropped seen moves g.G.Guest.leaves g.met.G.Guest.stays x store _ mid d
    (subst (λ k. IsRemoved k.ledger x d mid.ledger) first c.in-Ok.ensures.removes)
    (subst (λ k. SameButLedger k mid) first c.in-Ok.ensures.same)
    (subst (λ k. after ≡ record k { guest = after.guest; memory = after.memory; ledger = after.ledger }) second c.in-Ok-finish.ensures.same)
    (subst (λ k. Ran seen moves g.G.Guest.leaves d k after (Ok tt)) second c.in-Ok-finish.ensures.ran)
    (subst (λ k. after.ledger ≡ leave k.ledger) second c.in-Ok-finish.ensures.scope)
    refl)

pub returns-in-Err-finish-clause-drops : goal.returns-in-Err-finish-clause-drops
returns-in-Err-finish-clause-drops g c =
    let seen = g.G.Guest.seen in
    let moves = g.G.Guest.moves in
    let store = c.args.store.now in
    let x = c.in-Some.index in
    let d = c.in-Ok.destructor in
    let mid = c.remove.new.core in
    let after = c.finish.new.entered in
    let e = c.in-Err-finish.error in
    let first : c.core_mut.result.now ≡ store.core = c.core_mut.ensures.value in
    let second : c.core_mut-2.result.now ≡ mid = c.core_mut-2.ensures.value in
    rw (sym c.host_index.ensures ∙ c.in-Some.is, sym c.refusal.ensures ∙ c.in_default-refusal.is, c.trap.ensures)
    (is_cut_off seen moves g.G.Guest.leaves g.met.G.Guest.stays x store _ mid d
    (subst (λ k. IsRemoved k.ledger x d mid.ledger) first c.in-Ok.ensures.removes)
    (subst (λ k. SameButLedger k mid) first c.in-Ok.ensures.same)
    (subst (λ k. after ≡ record k { guest = after.guest; memory = after.memory; ledger = after.ledger }) second c.in-Err-finish.ensures.same)
    e
    (subst (λ k. Ran seen moves g.G.Guest.leaves d k after (Err e)) second c.in-Err-finish.ensures.ran)
    (subst (λ k. after.ledger ≡ k.ledger) second c.in-Err-finish.ensures.scope)
    refl
    (subst (λ k. Failed seen d k after e) second c.in-Err-finish.ensures.failed))
