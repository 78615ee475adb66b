-- Resources of a session's list.
use Rattle.std.proofs.Common.{List, None, Option, Result, Some, refl, subst, sym, ◌≡◌}
use Rattle.canon_resources.specs.Held.{Any}
use Rattle.canon_func.specs.declared.error.Error.{Error}
use Rattle.canon_serve.specs.Carries.{DropsHandle, DropsListed, EngineStore, SessionLogs, TellsDrop, session}
use Rattle.canon_serve.specs.declared.answer.Answer.{Answer}
use Rattle.canon_serve.specs.declared.answer.Answer.TheVariants as answer
use Rattle.canon_serve.specs.declared.answer.Senseless.TheVariants as senseless

module _ {E H : Type 0} (logs : SessionLogs E H) (store : EngineStore E H) (list : List Any) where
  pub dropped_listed : (store2 : EngineStore E H) (a : Answer) (o : Option Any) (x : Any) → o ≡ Some x → (ended : Result (Unit {0}) Error) × DropsHandle logs x store store2 ended × TellsDrop ended a
      → DropsListed logs (session store list) (session store2 list) a o
  dropped_listed store2 a o x is (ended, drops, told) = subst (λ p. DropsListed logs (session store list) (session store2 list) a p) (sym is) (ended, drops, told, refl)

  pub none_listed : (o : Option Any) → o ≡ None → DropsListed logs (session store list) (session store list) (answer.Senseless senseless.NoResource) o
  none_listed o is = subst (λ p. DropsListed logs (session store list) (session store list) (answer.Senseless senseless.NoResource) p) (sym is) (refl, refl)
