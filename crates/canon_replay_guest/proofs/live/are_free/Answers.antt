use Rattle.std.proofs.Common.{rules, ◌≡◌, ◌∙◌, false, subst, sym}
use Rattle.std.proofs.lemmas.Bool.{false≢true, iff_false}
use Rattle.std.proofs.lemmas.List.{get_or_default}
use Rattle.std.proofs.lemmas.List.Elements.{AllWithin-more}
use Rattle.canon_replay_guest.specs.Lawful.{IsOldOrApart}
use Rattle.canon_replay_guest.proofs.live.are_free.Goals as goal

pub returns-then-not-is_other : goal.returns-then-not-is_other
returns-then-not-is_other c =
    let P = IsOldOrApart c.args.old c.args.new in
    let no_true : c.is_other.result ≡ false = search rules in
    (λ e. absurd (false≢true e), λ all. absurd (iff_false c.is_other.ensures no_true (subst P (sym c.b-item.is) (all c.loop-b.b-index c.b-item.result c.loop-b-test.true))))

pub loop-b-preserved : goal.loop-b-preserved
loop-b-preserved c =
    let P = IsOldOrApart c.args.old c.args.new in
    let held : P c.b-item.result = search rules in
    AllWithin-more P c.args.blocks.now 0 c.loop-b.b-index c.loop-b.invariant (λ d. subst P (c.b-item.is ∙ get_or_default c.args.blocks.now c.loop-b.b-index c.b-item.result d c.loop-b-test.true) held)
