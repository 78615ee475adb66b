use Rattle.std.proofs.Common.{◌≡◌, ◌+◌, ◌++◌, ◌∷◌, ◌∙◌, List, [], ap, append-nil, append_assoc, arith, length, refl, sym}
use Rattle.std.proofs.lemmas.List.{length-append}
use Rattle.std.specs.Vec.Iter.{into_iter_items}
use Rattle.canon_value_parts.specs.Elements.{by_turns}
use Rattle.canon_val.specs.declared.val.Val.{Val}
use Rattle.canon_value_parts.proofs.PairRows.{count_turns, turns_push}
use Rattle.canon_value_parts.proofs.Planning.{value_nothing_left}
use Rattle.canon_value_parts.proofs.rebuilt.rebuild_map.Goals as goal

-- as many are left as aren't in pairs
left : (ps : List (Val × Val)) (rest values : List Val) → by_turns ps ++ rest ≡ values → length ps + length ps + length rest ≡ length values
left ps rest values e = omega (arith, ap length e, length-append (by_turns ps) rest, count_turns ps)

pub loop-preserved-in_default : goal.loop-preserved-in_default
loop-preserved-in_default c =
    let at = c.loop in
    absurd (omega (
      arith,
      left at.pairs.items (into_iter_items at.rest) c.args.values.items at.invariant.0,
      at.invariant.1,
      at.invariant.2,
      c.in_default.ensures.cases.0,
      c.loop-test.true,
      at.auto.counter-end,
      c.len-count.ensures,
      c.args.values.ok.0,
    ))

pub loop-preserved-in_default-next : goal.loop-preserved-in_default-next
loop-preserved-in_default-next c =
    let at = c.loop in
    absurd (omega (
      arith,
      left at.pairs.items (into_iter_items at.rest) c.args.values.items at.invariant.0,
      at.invariant.1,
      at.invariant.2,
      c.in-Some.ensures.cases.1,
      c.in_default-next.ensures.cases.0,
      c.loop-test.true,
      at.auto.counter-end,
      c.len-count.ensures,
      c.args.values.ok.0,
    ))

pub loop-preserved : goal.loop-preserved
loop-preserved c =
    let at = c.loop in
    let ps = at.pairs.items in
    let key = c.in-Some.key in
    let value = c.in-Some-next.value in
    let first = c.in-Some.ensures.cases in
    let second = c.in-Some-next.ensures.cases in
    let kept = c.in_ok-keep.ensures.ok in
    let rest = into_iter_items c.next-in-loop.new.self in (
      ap (λ (qs : List (Val × Val)). by_turns qs ++ rest) kept ∙ (ap (λ (vs : List Val). vs ++ rest) (turns_push ps (key, value)) ∙ (append_assoc (by_turns ps) (key ∷ value ∷ []) rest
          ∙ (ap (λ (vs : List Val). by_turns ps ++ vs) (sym (first.0 ∙ ap (λ (vs : List Val). key ∷ vs) second.0)) ∙ at.invariant.0))),
      omega (arith, at.invariant.1, first.1, second.1, ap length first.0, ap length second.0),
      omega (arith, at.invariant.2, ap length kept, length-append ps ((key, value) ∷ [])),
    )

pub returns-clause-ok : goal.returns-clause-ok
returns-clause-ok c =
    let at = c.loop in
    let rest = into_iter_items at.rest in
    let none : rest ≡ [] = value_nothing_left rest (omega (
      arith,
      left at.pairs.items rest c.args.values.items at.invariant.0,
      at.invariant.2,
      c.loop-test.false,
      at.auto.counter-end,
      c.len-count.ensures,
      c.args.values.ok.0,
      c.requires.even,
    )) in
    (at.pairs.items, (at.pairs, refl, refl), sym (append-nil (by_turns at.pairs.items)) ∙ (ap (λ (vs : List Val). by_turns at.pairs.items ++ vs) (sym none) ∙ at.invariant.0))
