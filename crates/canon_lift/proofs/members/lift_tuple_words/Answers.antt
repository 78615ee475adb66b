use Rattle.std.proofs.Common.{length}
use Rattle.canon_lift_parts.proofs.MemberSteps.{tuple_words}
use Rattle.canon_lift.proofs.members.lift_tuple_words.Goals as goal

pub lift_member_words-requires-clause-words : goal.lift_member_words-requires-clause-words
lift_member_words-requires-clause-words g c = tuple_words g.P.Members.LiftMembers.all c.args.cx.now.core.now.component.types c.in-Tuple.i c.args.ty c.in-Tuple.is c.requires.fits c.args.at (length c.args.src.now) c.requires.words
