use Rattle.std.proofs.Common.{arith}
use Rattle.canon_memory.specs.Realloc.{call}
use Rattle.canon_example_guests.proofs.Lawful.{given_is_lawful}
use Rattle.canon_example_guests.proofs.arena.ArenaGuest.realloc.Goals as goal

pub returns-in-Ok-clause-lawful : goal.returns-in-Ok-clause-lawful
returns-in-Ok-clause-lawful c =
    given_is_lawful c.args.memory.now.bytes c.args.self.now.blocks c.give.new.self (call c.args._old c.args.old_size c.args.align c.args.new_size) c.in-Ok.at
    c.give.ensures.row c.requires.aligned (omega (arith, c.if-old_size-gt0.false)) (rw c.len.ensures.count at c.in-Ok.ensures.does)
