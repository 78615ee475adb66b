-- How an engine ended that didn't trap.
use Rattle.std.specs.Prelude.{List, ℕ, ◌≡◌, ◌≤◌, ◌<◌, ◌^◌, ◌⊎◌}
use Rattle.canon_memory.specs.declared.guest.Step.{Step}
use Rattle.canon_memory.specs.declared.guest.Step.TheVariants as step
use Rattle.canon_relay.specs.Wire.{reply_count, reply_number, reply_words}
use Rattle.canon_relay.specs.declared.exchange.End.{End}
use Rattle.canon_relay.specs.declared.exchange.End.TheVariants as end

-- the kind of its reply
abbrev pub end_kind : End → ℕ
end_kind end.Return = 0
end_kind end.Ask = 1

-- what the guest did, by the reply, which has room for its words
abbrev pub IsStepOf : End → List ℕ → Step → Type 0
IsStepOf end.Return reply done = (done ≡ step.Return (reply_words reply)) × (reply_count reply ≤ 17)
IsStepOf end.Ask reply done = (done ≡ step.Import (reply_number reply) (reply_words reply)) × (reply_count reply ≤ 17)

-- it is none: there is no room for its words, or it asks for an import by more than 32 bits
abbrev pub StepRefused : End → List ℕ → Type 0
StepRefused ended reply = (17 < reply_count reply) ⊎ ((ended ≡ end.Ask) × (2 ^ 32 ≤ reply_number reply))

-- it is no block: it is an ask, or it has words, or an address of more than 32 bits
abbrev pub BlockRefused : End → List ℕ → Type 0
BlockRefused ended reply = (ended ≡ end.Ask) ⊎ ((0 < reply_count reply) ⊎ (2 ^ 32 ≤ reply_number reply))
