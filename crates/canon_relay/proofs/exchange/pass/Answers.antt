use Rattle.canon_relay.proofs.Exchanges.{unheard, unlent, untold}
use Rattle.canon_relay.proofs.exchange.pass.Goals as goal

pub returns-then-not-tell-clause-stops : goal.returns-then-not-tell-clause-stops
returns-then-not-tell-clause-stops g c = untold _ _ _ _ c.if-not-tell.ensures

pub returns-then-not-lend-clause-stops : goal.returns-then-not-lend-clause-stops
returns-then-not-lend-clause-stops g c = unlent _ _ _ _ _ c.if-not-tell.ensures c.if-not-lend.ensures.log

pub returns-then-not-hear-clause-stops : goal.returns-then-not-hear-clause-stops
returns-then-not-hear-clause-stops g c = unheard _ _ _ _ _ _ _ c.if-not-tell.ensures c.if-not-lend.ensures.log c.if-not-hear.ensures.log
