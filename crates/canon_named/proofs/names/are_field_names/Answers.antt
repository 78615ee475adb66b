use Rattle.std.proofs.Common.{string_bytes}
use Rattle.std.proofs.lemmas.Bool.{false≢true}
use Rattle.canon_named.proofs.Texts.{alike, others, same_at, same_more}
use Rattle.canon_named.proofs.names.are_field_names.Goals as goal

pub returns-then-ne : goal.returns-then-ne
returns-then-ne c = (
  λ f. absurd (false≢true f),
  λ e. absurd (others c.index-fields-k.result.name c.index-names-k.result _ c.ne.ensures c.if-ne.true
      (same_at (λ f. string_bytes f.name) c.args.fields.now c.args.names.now c.loop-k.k c.index-fields-k.result c.index-names-k.result c.loop-k-test.true c.loop-k.invariant.long c.index-fields-k.is c.index-names-k.is e)),
)

pub loop-k-preserved : goal.loop-k-preserved
loop-k-preserved c = record {
  long = c.loop-k.invariant.long;
  same = same_more (λ f. string_bytes f.name) c.args.fields.now c.args.names.now c.loop-k.k c.index-fields-k.result c.index-names-k.result c.loop-k-test.true c.loop-k.invariant.long c.index-fields-k.is c.index-names-k.is
      c.loop-k.invariant.same (alike c.index-fields-k.result.name c.index-names-k.result _ c.ne.ensures c.if-ne.false);
}
