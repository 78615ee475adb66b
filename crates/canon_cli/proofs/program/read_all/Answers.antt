use Rattle.std.proofs.Common.{◌++◌, ◌≤◌, arith, length, length-append, length-take, take}
use Rattle.std.proofs.KnownBytes.{Consumes-trans}
use Rattle.canon_cli.specs.Program.{most_taken}
use Rattle.canon_cli.proofs.program.read_all.Goals as goal

pub returns-then-is_err-clause-most : goal.returns-then-is_err-clause-most
returns-then-is_err-clause-most g c =
    let left = g.S.Source.left in
    let piece = take c.in-Ok.count c.read.new.buf in
    let few : length (c.reading.bytes.items ++ piece) ≤ most_taken =
    omega (arith, length-append c.reading.bytes.items piece, length-take c.in-Ok.count c.read.new.buf, c.in-Ok.ensures.bound, c.reading-test.true, c.len.ensures, c.reading.invariant.1) in
    (c.reading.bytes.items ++ piece, Consumes-trans (left c.args.source.now) (left c.reading.source) (left c.read.new.self) c.reading.bytes.items piece c.reading.invariant.0 c.in-Ok.ensures.bytes.0, few)
