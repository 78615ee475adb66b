use Rattle.std.proofs.Common.{false, refl}
use Rattle.canon_types.specs.declared.types.InterfaceType.TheVariants as ty
use Rattle.canon_same.specs.Same.{SameResource, SameTypes}
use Rattle.canon_same.proofs.Steps.{at_other, back, borrow_step, through}
use Rattle.canon_same.proofs.TypeKinds.{number_of, unlike}
use Rattle.canon_same.proofs.same.same_borrows.Goals as goal

pub returns-in_default : goal.returns-in_default
returns-in_default c = unlike c.args.read.now c.args.written.now (ty.Borrow c.args.r) c.args.other.now false refl c.requires.known c.requires.other_known (c.in_default.not-Borrow (number_of c.args.other.now))

pub returns : goal.returns
returns c = at_other (SameTypes c.args.read.now c.args.written.now (ty.Borrow c.args.r)) _ _ _ c.in-Borrow.is
    (through c.same_resources.ensures (back (borrow_step (SameResource c.args.read.now c.args.written.now) c.args.r c.in-Borrow.q)))
