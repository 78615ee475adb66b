use Rattle.canon_replay.proofs.FaithfulAsks as proof
use Rattle.canon_replay.proofs.laws.logged_calls_are_same.Goals as goal

pub returns : goal.returns
returns g c = proof.logged_are_same g.G.Guest.seen g.G.Guest.moves g.G.Guest.leaves g.I.Imports.plan g.I.Imports.gives g.I.Imports.log g.I.Imports.refusals
