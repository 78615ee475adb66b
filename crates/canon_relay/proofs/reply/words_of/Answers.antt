use Rattle.std.proofs.Common.{◌∙◌}
use Rattle.canon_relay.proofs.Numbers.{one_more_word}
use Rattle.canon_relay.proofs.reply.words_of.Goals as goal

pub loop-i-preserved : goal.loop-i-preserved
loop-i-preserved c = record {
  words = one_more_word _ c.loop-i.words c.push.new.self c.args.reply.now c.u64.result c.count_of-count.result c.loop-i.i c.in_ok-push.ensures.ok (c.u64.ensures ∙ c.number_at.ensures) c.loop-i-test.true c.loop-i.invariant.words;
}
