use Rattle.std.proofs.Common.{sym, ◌∙◌}
use Rattle.canon_script.specs.Typed.{literal_number}
use Rattle.canon_script.proofs.Members.{literals_end, literals_none, literals_step}
use Rattle.canon_script.proofs.typed_params.each_number.Goals as goal

pub loop-item-preserved : goal.loop-item-preserved
loop-item-preserved c =
    literals_step literal_number c.args.items.now c.loop-item.item-index c.item-item.result c.loop-item.numbers.items c.push.new.self.items c.in-Some.n c.loop-item-test.true c.item-item.is (sym c.in-Some.ensures)
    c.in_ok-push.ensures.items c.loop-item.invariant

pub returns : goal.returns
returns c = literals_end literal_number c.args.items.now c.loop-item.item-index c.loop-item.numbers.items c.loop-item-test.false c.loop-item.invariant

pub returns-in_default : goal.returns-in_default
returns-in_default c =
    literals_none literal_number c.args.items.now c.loop-item.item-index c.item-item.result c.loop-item.numbers.items c.loop-item-test.true c.item-item.is (sym c.number_in.ensures ∙ c.in_default.is) c.loop-item.invariant
