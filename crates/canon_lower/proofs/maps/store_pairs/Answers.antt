use Rattle.std.proofs.Common.{◌≡◌, ◌∙◌, ◌+◌, ◌++◌, ◌*◌, ◌∷◌, Err, Ok, [], add-mul, ap, arith, drop, false, length, one-mul, refl, subst, sym, ℕ}
use Rattle.std.proofs.lemmas.List.{length-append}
use Rattle.canon_context.proofs.Moves.{GuestLaws}
use Rattle.canon_context.specs.Core.{component_types}
use Rattle.canon_model.specs.Layout.{size}
use Rattle.canon_types.specs.Instance.{Instance}
use Rattle.canon_typed.specs.Meaning.{PairMeans}
use Rattle.canon_passing.proofs.Passing.{handles_instance}
use Rattle.canon_lower_parts.proofs.Items.{left_below, left_next}
use Rattle.canon_lower_parts.proofs.MapSteps.{one_inside, pair_stood}
use Rattle.canon_lower_parts.proofs.Rows.{RowIsStored, row_begin, row_broken, row_ended, row_go_on}
use Rattle.canon_lower_parts.specs.Gives.{pair_gives}
use Rattle.canon_lower_parts.specs.Pairs.{IsPairType, pair_in}
use Rattle.canon_lower.proofs.maps.store_pairs.Goals as goal

pub loop-key-init : goal.loop-key-init
loop-key-init g c =
    let L : GuestLaws _ = record { seen = g.G.Guest.seen; moves = g.G.Guest.moves; stays = g.met.G.Guest.stays; goes_on = g.met.G.Guest.goes_on } in
    let a = c.args in
    let core = a.cx.now.core.now in
    let s = pair_in (component_types core) a.pair.now in
    let W = PairMeans g.K.ComponentType.walks g.V.ComponentType.walks in
    let gives = pair_gives g.K.LowerShared.gives g.V.LowerShared.gives in
    let xs = a.map.now.entries in
    record {
      stored = row_begin L a.cx.now.options W (gives core.component.types s) s a.offset xs core c.memory-memory.ensures.small;
      left = c.into_iter-key-iterator.ensures.into_iter_gives ∙ c.iter-key-items.ensures.rest;
      place = omega arith;
      options = refl;
      reference = refl;
    }

pub store_pair-requires-clause-pair : goal.store_pair-requires-clause-pair
store_pair-requires-clause-pair g c =
    subst (λ (i : Instance). IsPairType g.K.ComponentType.fits g.V.ComponentType.fits i c.args.pair.now) (sym (handles_instance c.args.cx.now.core.now c.loop-key.cx.core.now c.loop-key.invariant.stored.same)) c.requires.pair

pub store_pair-requires-clause-room : goal.store_pair-requires-clause-room
store_pair-requires-clause-room g c =
    let a = c.args in
    let core = a.cx.now.core.now in
    let now = c.loop-key.cx.core.now in
    let inv = c.loop-key.invariant in
    let k = length c.loop-key.yielded in
    let xs = a.map.now.entries in
    let bytes = size false (pair_in (component_types core) a.pair.now) in
    let same : size false (pair_in (component_types now) a.pair.now) ≡ bytes = ap (λ (i : Instance). size false (pair_in i.types a.pair.now)) (handles_instance core now inv.stored.same) in
    let below = left_below xs c.next.new.self k (c.in-Some.key.now, c.in-Some.value.now) (sym inv.left ∙ c.in-Some.ensures.steps) in
    omega (arith, inv.place, same, one_inside k (length xs) bytes below, c.requires.room, inv.stored.longer)

pub loop-key-preserved : goal.loop-key-preserved
loop-key-preserved g c =
    let L : GuestLaws _ = record { seen = g.G.Guest.seen; moves = g.G.Guest.moves; stays = g.met.G.Guest.stays; goes_on = g.met.G.Guest.goes_on } in
    let a = c.args in
    let core = a.cx.now.core.now in
    let s = pair_in (component_types core) a.pair.now in
    let W = PairMeans g.K.ComponentType.walks g.V.ComponentType.walks in
    let gives = pair_gives g.K.LowerShared.gives g.V.LowerShared.gives in
    let xs = a.map.now.entries in
    let now = c.loop-key.cx.core.now in
    let k = length c.loop-key.yielded in
    let inv = c.loop-key.invariant in
    let x : g.row.K.Denot × g.row.V.Denot = (c.in-Some.key.now, c.in-Some.value.now) in
    let e : drop k xs ≡ x ∷ c.next.new.self = sym inv.left ∙ c.in-Some.ensures.steps in
    let here : drop k xs ≡ x ∷ drop (k + 1) xs = e ∙ ap (λ zs. x ∷ zs) (sym (left_next xs c.next.new.self k x e)) in
    let one = pair_stood L.seen L.moves a.cx.now.options W gives core.component.types now c.store_pair.new.cx.core.now c.loop-key.cx.options a.pair.now c.loop-key.at (a.offset + k * size false s) x
    (Ok tt) inv.options (handles_instance core now inv.stored.same) inv.place
    c.in-Ok.ensures.stores in
    let count : k + 1 ≡ length (c.loop-key.yielded ++ (c.in-Some.key, c.in-Some.value) ∷ []) = sym (length-append c.loop-key.yielded ((c.in-Some.key, c.in-Some.value) ∷ [])) in
    let bytes : c.from-size.result ≡ size false s = c.from-size.ensures ∙ (c.requires.pair.layout.size false) in
    record {
      stored = subst (λ (n : ℕ). RowIsStored L a.cx.now.options W (gives core.component.types s) s a.offset xs core c.store_pair.new.cx.core.now n) count
          (row_go_on L a.cx.now.options W (gives core.component.types s) s a.offset xs core now c.store_pair.new.cx.core.now k x here one inv.stored);
      left = sym (ap (λ (n : ℕ). drop n xs) (sym count) ∙ left_next xs c.next.new.self k x e);
      place = omega (arith, inv.place, bytes, add-mul k 1 (size false s), one-mul (size false s), ap (λ (n : ℕ). n * size false s) count);
      options = c.in-Ok.ensures.same_options ∙ inv.options;
      reference = c.in-Ok.ensures.same_reference ∙ inv.reference;
    }

pub returns-in-Err-clause-stores : goal.returns-in-Err-clause-stores
returns-in-Err-clause-stores g c =
    let L : GuestLaws _ = record { seen = g.G.Guest.seen; moves = g.G.Guest.moves; stays = g.met.G.Guest.stays; goes_on = g.met.G.Guest.goes_on } in
    let a = c.args in
    let core = a.cx.now.core.now in
    let s = pair_in (component_types core) a.pair.now in
    let W = PairMeans g.K.ComponentType.walks g.V.ComponentType.walks in
    let gives = pair_gives g.K.LowerShared.gives g.V.LowerShared.gives in
    let xs = a.map.now.entries in
    let now = c.loop-key.cx.core.now in
    let k = length c.loop-key.yielded in
    let inv = c.loop-key.invariant in
    let x : g.row.K.Denot × g.row.V.Denot = (c.in-Some.key.now, c.in-Some.value.now) in
    let e : drop k xs ≡ x ∷ c.next.new.self = sym inv.left ∙ c.in-Some.ensures.steps in
    let here : drop k xs ≡ x ∷ drop (k + 1) xs = e ∙ ap (λ zs. x ∷ zs) (sym (left_next xs c.next.new.self k x e)) in
    let one = pair_stood L.seen L.moves a.cx.now.options W gives core.component.types now c.store_pair.new.cx.core.now c.loop-key.cx.options a.pair.now c.loop-key.at (a.offset + k * size false s) x
    (Err c.in-Err.fault) inv.options (handles_instance core now inv.stored.same) inv.place
    c.in-Err.ensures.stores in
    row_broken L a.cx.now.options W (gives core.component.types s) s a.offset xs core now c.store_pair.new.cx.core.now k x c.in-Err.fault here one inv.stored

pub returns-clause-stores : goal.returns-clause-stores
returns-clause-stores g c =
    let L : GuestLaws _ = record { seen = g.G.Guest.seen; moves = g.G.Guest.moves; stays = g.met.G.Guest.stays; goes_on = g.met.G.Guest.goes_on } in
    let a = c.args in
    let core = a.cx.now.core.now in
    let s = pair_in (component_types core) a.pair.now in
    let W = PairMeans g.K.ComponentType.walks g.V.ComponentType.walks in
    let gives = pair_gives g.K.LowerShared.gives g.V.LowerShared.gives in
    let xs = a.map.now.entries in
    let now = c.loop-key.cx.core.now in
    let k = length c.loop-key.yielded in
    let inv = c.loop-key.invariant in
    row_ended L a.cx.now.options W (gives core.component.types s) s a.offset xs core now k (sym inv.left ∙ c.in-None.ensures.steps.0) inv.stored
