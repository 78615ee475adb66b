-- What passed by the answer to a demand.
use Rattle.std.proofs.Common.{Err, List, Ok, Option, Result, [], ap, length, subst, sym, ℕ, ◌<◌, ◌^◌, ◌∙◌, ◌≡◌}
use Rattle.std.specs.Prelude.{IfErr, IfOk, IsErr, IsErrAnd}
use Rattle.canon_memory.specs.declared.error.GuestFault.{GuestFault}
use Rattle.canon_memory.specs.declared.error.GuestFault.TheVariants as fault
use Rattle.canon_memory.specs.declared.guest.Step.{Step}
use Rattle.canon_memory.specs.declared.guest.Step.TheVariants as step
use Rattle.canon_relay.specs.Channel.{Message}
use Rattle.canon_relay.specs.Ends.{BlockRefused, IsStepOf, StepRefused, end_kind}
use Rattle.canon_relay.specs.Relay.{IsNoBlockReply, IsNoStepReply, IsNoDoneReply, OnBlock, OnReply, OnStep, PassesMessages, Replied, RepliesBlock, RepliesStep, StopsDemand, StopsExchange}
use Rattle.canon_relay.specs.Wire.{demand_bytes, reply_count, reply_number, reply_words}
use Rattle.canon_relay.specs.declared.demand.Demand.{Demand}
use Rattle.canon_relay.specs.declared.exchange.End.{End}
use Rattle.canon_relay.specs.declared.exchange.End.TheVariants as end
use Rattle.canon_relay.proofs.Exchanges.{no_block, no_step, not_done, stops_replied, stops_weaker}

-- a fault that is handed on
module _ (a c : Option (List Message)) (asked before : List ℕ) where
  pub handed_on : {T : Type 0} (R R2 : List ℕ → Type 0) (P : T → List Message → Type 0) (r : Result T GuestFault) (e : GuestFault) → ((reply : List ℕ) → R reply → R2 reply) → IsErr r × IsErrAnd r (λ x. x ≡ e)
      → StopsDemand a c asked before R e → OnReply a c asked before R2 P r
  handed_on R R2 P (Ok x) e f is s = absurd (let w = is.0 in cc)
  handed_on R R2 P (Err x) e f is s = stops_weaker a c asked before R R2 x f (subst (StopsDemand a c asked before R) (sym is.1) s)

-- a reply that was heard
module _ (a c : Option (List Message)) (d : Demand) (words before after reply : List ℕ) where
  abbrev asked : List ℕ
  asked = demand_bytes d (length before) words

  step_said : (ended : End) (s : Step) → IsStepOf ended reply s → PassesMessages a c (Replied (end_kind ended) asked before after reply) → PassesMessages a c (RepliesStep d words before after s)
  step_said end.Return (step.Return results) (is, few) (ms, added, replied) = (ms, added, (reply, replied, (let e : results ≡ reply_words reply = cc in sym e, few)))
  step_said end.Return (step.Import index words2) (is, few) p = absurd (cc)
  step_said end.Ask (step.Import index words2) (is, few) (ms, added, replied) =
      (ms, added, (reply, replied, (let e : index ≡ reply_number reply = cc in sym e, let e : words2 ≡ reply_words reply = cc in sym e, few)))
  step_said end.Ask (step.Return results) (is, few) p = absurd (cc)

  pub step_answered : (ended : End) (r : Result Step GuestFault) → PassesMessages a c (Replied (end_kind ended) asked before after reply) → IfOk r (IsStepOf ended reply)
      → IfErr r (λ e. e ≡ fault.Trap → StepRefused ended reply) → OnStep a c d words before after r
  step_answered ended (Ok s) p ok err = step_said ended s ok p
  step_answered ended (Err e) p ok err = stops_replied a c asked before IsNoStepReply e (end_kind ended) after reply p (λ trap. no_step ended reply p.2.kind_is (err trap))

  -- an ask in the place of an end
  pub ask_refused : (ended : End) → ended ≡ end.Ask → PassesMessages a c (Replied (end_kind ended) asked before after reply) → PassesMessages a c (StopsExchange asked before IsNoDoneReply)
  ask_refused ended e p = stops_replied a c asked before IsNoDoneReply fault.Trap (end_kind ended) after reply p (λ trap. not_done reply (p.2.kind_is ∙ ap end_kind e))

module _ (a c : Option (List Message)) (d : Demand) (before after reply : List ℕ) where
  pub block_answered : (ended : End) (r : Result ℕ GuestFault) → PassesMessages a c (Replied (end_kind ended) (demand_bytes d (length before) []) before after reply)
      → IfOk r (λ at. (ended ≡ end.Return) × (reply_number reply ≡ at) × (reply_count reply ≡ 0) × (at < 2 ^ 32)) → IfErr r (λ e. BlockRefused ended reply) → OnBlock a c d before after r
  block_answered ended (Ok at) p (returned, number, none, narrow) err =
      (p.0, p.1, (reply, subst (λ k. Replied k (demand_bytes d (length before) []) before after reply p.0) (ap end_kind returned) p.2, (number, none, narrow)))
  block_answered ended (Err e) p ok err = stops_replied a c (demand_bytes d (length before) []) before IsNoBlockReply e (end_kind ended) after reply p (λ trap. no_block ended reply p.2.kind_is err)
