use Rattle.std.proofs.Common.{arith, length, map, refl, sym, ◌<◌}
use Rattle.std.proofs.lemmas.List.{get_or-map, length-map}
use Rattle.canon_named.specs.Named.{AnswersTest, test_failed, test_passed}
use Rattle.canon_named.proofs.Zips.{all_more, any_at, on_err}
use Rattle.canon_named.proofs.named.pass_fields.Goals as goal

pub returns-in_err-part-clause-err : goal.returns-in_err-part-clause-err
returns-in_err-part-clause-err g c =
    let fields = c.args.fields.now in
    let k = c.loop-k.k in
    let field = c.index-fields-k.result in
    let l : k < length fields = omega (arith, c.requires.count, c.loop-k-test.true) in
    let m : k < length (map (λ f. f.ty) fields) = omega (arith, l, length-map fields (λ f. f.ty)) in
    on_err c.from_residual.result
    (any_at (AnswersTest _ c.args.types.now test_failed) c.args.parts.now (map (λ f. f.ty) fields) k _ c.index-parts-k.result field.ty _ c.loop-k-test.true m
    (sym c.index-parts-k.is) (get_or-map (λ f. f.ty) fields k field field.ty l)
    (record { shown = _; shows = refl; beside = c.args.types; holds = refl; says = c.in_err-part.ensures.0 }))

pub loop-k-preserved : goal.loop-k-preserved
loop-k-preserved g c =
    let fields = c.args.fields.now in
    let k = c.loop-k.k in
    let field = c.index-fields-k.result in
    let l : k < length fields = omega (arith, c.requires.count, c.loop-k-test.true) in
    let m : k < length (map (λ f. f.ty) fields) = omega (arith, l, length-map fields (λ f. f.ty)) in
    all_more (AnswersTest _ c.args.types.now test_passed) c.args.parts.now (map (λ f. f.ty) fields) k _ c.index-parts-k.result field.ty _ c.loop-k-test.true m
    (sym c.index-parts-k.is) (get_or-map (λ f. f.ty) fields k field field.ty l)
    c.loop-k.invariant
    (record { shown = _; shows = refl; beside = c.args.types; holds = refl; says = c.in_ok-part.ensures.0 })
