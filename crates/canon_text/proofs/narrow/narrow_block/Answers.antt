use Rattle.std.proofs.Common.{arith, refl}
use Rattle.canon_text.specs.Runs.{run}
use Rattle.canon_text.proofs.Lanes.{map-same}
use Rattle.canon_text.proofs.Copied.{copies-block}
use Rattle.canon_text.proofs.narrow.narrow_block.Goals as goal

pub returns : goal.returns
returns g c = copies-block c.args.limit c.args.src.now c.args.dst.now _ _ c.args.from c.args.at g.row.N (omega arith) (omega arith) (c.is_below.ensures c.if-not-is_below.false)
    (map-same _ (λ x. refl) (run c.args.src.now c.args.from g.row.N)) refl
