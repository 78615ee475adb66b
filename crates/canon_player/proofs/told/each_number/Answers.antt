use Rattle.std.proofs.Common.{[], ap, sym, ℕ, ◌≡◌, ◌++◌, ◌∙◌, ◌∷◌}
use Rattle.std.proofs.Math.ListN.{get_or}
use Rattle.std.proofs.lemmas.List.{map-append, map_more}
use Rattle.canon_val.specs.declared.val.Val.{fold-roll-Val}
use Rattle.canon_val.specs.declared.val.Val.TheOpen.{Val-F}
use Rattle.canon_val.specs.declared.val.Val.TheVariants as val
use Rattle.canon_literals.specs.Literals.{Literal, literal_step, literal_view, literals_view, u32}
use Rattle.canon_player.proofs.told.each_number.Goals as goal

number : (n : ℕ) → literal_view (val.U32 n) ≡ u32 n
number n = ap literal_view (sym (val.rolls-U32 n)) ∙ fold-roll-Val Literal literal_step (Val-F.U32 n)

pub loop-n-preserved : goal.loop-n-preserved
loop-n-preserved c =
    let n = get_or c.args.numbers.now c.loop-n.n-index 0 in
    let done = literals_view c.loop-n.values.items in
    ap literals_view c.in_ok-push.ensures.items ∙ (map-append literal_view c.loop-n.values.items (val.U32 n ∷ [])
    ∙ (ap (λ x. done ++ x ∷ []) (number n) ∙ (ap (λ ls. ls ++ u32 n ∷ []) c.loop-n.invariant ∙ sym (map_more u32 c.args.numbers.now c.loop-n.n-index 0 c.loop-n-test.true))))
