use Rattle.std.proofs.Common.{arith}
use Rattle.canon_model.proofs.Layouts.{align_to-next_multiple_of}
use Rattle.canon_example_guests.proofs.blocks.next_start.Goals as goal

pub returns-then-end-len : goal.returns-then-end-len
returns-then-end-len c = grind (arith, align_to-next_multiple_of c.args.top c.args.align c.requires)

pub returns-else-start-lt-ADDRESSES : goal.returns-else-start-lt-ADDRESSES
returns-else-start-lt-ADDRESSES c = grind (arith, align_to-next_multiple_of c.args.top c.args.align c.requires)
