use Rattle.canon_lift_parts.proofs.MemberSteps.{tuple_aligned, tuple_inside}
use Rattle.canon_lift.proofs.members.lift_tuple.Goals as goal

pub lift_members-requires-clause-aligned : goal.lift_members-requires-clause-aligned
lift_members-requires-clause-aligned g c = tuple_aligned g.P.Members.LiftMembers.all c.args.cx.now.core.now.component.types c.in-Tuple.i c.args.ty c.in-Tuple.is c.requires.fits c.args.at c.requires.aligned

pub lift_members-requires-clause-inside : goal.lift_members-requires-clause-inside
lift_members-requires-clause-inside g c = tuple_inside g.P.Members.LiftMembers.all c.args.cx.now.core.now.component.types c.in-Tuple.i c.args.ty c.in-Tuple.is c.requires.fits c.args.at c.args.cx.now.core.now.memory c.requires.inside
