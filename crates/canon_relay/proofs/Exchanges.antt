-- A demand was told, and its reply heard.
use Rattle.std.proofs.Common.{List, Option, [], ap, arith, inl, inr, length, refl, replicate, subst, suc, sym, zero, ◌++◌, ◌<◌, ◌∙◌, ◌∷◌, ◌≡◌, ℕ}
use Rattle.std.proofs.lemmas.List.{append-nil, length-replicate}
use Rattle.canon_memory.specs.declared.error.GuestFault.{GuestFault}
use Rattle.canon_memory.specs.declared.error.GuestFault.TheVariants as fault
use Rattle.canon_relay.specs.Channel.{AddsMessages, Message, heard, lent, told}
use Rattle.canon_relay.specs.Ends.{BlockRefused, StepRefused, end_kind}
use Rattle.canon_relay.specs.Relay.{AnyReply, IsAsGivenBack, IsNoBlockReply, IsNoReply, IsNoStepReply, IsNoDoneReply, PassesMessages, Replied, StopsDemand, StopsExchange, adds_both, adds_none, exchange_messages, lent_again}
use Rattle.canon_relay.specs.Wire.{reply_grown, reply_kind}
use Rattle.canon_relay.specs.declared.exchange.End.{End}

replied : (a b c : Option (List Message)) (kind : ℕ) (asked before ran after reply : List ℕ) → AddsMessages a b (told asked ∷ lent before ran ∷ heard reply ∷ [])
    → AddsMessages b c (lent_again (reply_grown reply) ran after) → IsAsGivenBack (reply_grown reply) ran after → reply_kind reply ≡ kind → length reply ≡ 168
    → PassesMessages a c (Replied kind asked before after reply)
replied a b c kind asked before ran after reply first second left kind_is sized = (
  told asked ∷ lent before ran ∷ heard reply ∷ lent_again (reply_grown reply) ran after,
  adds_both a b c (told asked ∷ lent before ran ∷ heard reply ∷ []) (lent_again (reply_grown reply) ran after) first second,
  record { ran = ran; passed = refl; left = left; kind_is = kind_is; sized = sized },
)

-- where memory was made longer by so many bytes as the reply says
pub replied_by : (a b c : Option (List Message)) (kind n : ℕ) (asked before ran after reply : List ℕ) → AddsMessages a b (told asked ∷ lent before ran ∷ heard reply ∷ [])
    → n ≡ reply_grown reply → AddsMessages b c (lent_again n ran after) × IsAsGivenBack n ran after → reply_kind reply ≡ kind → length reply ≡ 168
    → PassesMessages a c (Replied kind asked before after reply)
replied_by a b c kind n asked before ran after reply first is second kind_is sized =
    let grown = subst (λ k. AddsMessages b c (lent_again k ran after) × IsAsGivenBack k ran after) is second in
    replied a b c kind asked before ran after reply first grown.0 grown.1 kind_is sized

-- ---- no reply

-- a reply that wasn't heard
abbrev unsaid : List ℕ
unsaid = replicate 168 0

-- Nothing was told.
pub untold : (a b : Option (List Message)) (asked before : List ℕ) → AddsMessages a b [] → PassesMessages a b (StopsExchange asked before (λ reply. ⊥))
untold a b asked before none = ([], none, record { ran = []; reply = unsaid; after = []; rest = exchange_messages asked before [] unsaid []; part = refl; sized = length-replicate {A = ℕ} 168 0; refused = λ e. absurd (cc) })

-- Memory wasn't lent.
pub unlent : (a b c : Option (List Message)) (asked before : List ℕ) → AddsMessages a b (told asked ∷ []) → AddsMessages b c [] → PassesMessages a c (StopsExchange asked before (λ reply. ⊥))
unlent a b c asked before first none = (
  told asked ∷ [],
  adds_both a b c (told asked ∷ []) [] first none,
  record { ran = []; reply = unsaid; after = []; rest = lent before [] ∷ heard unsaid ∷ lent_again (reply_grown unsaid) [] []; part = refl; sized = length-replicate {A = ℕ} 168 0; refused = λ e. absurd (cc) },
)

-- No reply was heard.
pub unheard : (a b c d : Option (List Message)) (asked before ran : List ℕ) → AddsMessages a b (told asked ∷ []) → AddsMessages b c (lent before ran ∷ []) → AddsMessages c d []
    → PassesMessages a d (StopsExchange asked before (λ reply. ⊥))
unheard a b c d asked before ran first second none = (
  told asked ∷ lent before ran ∷ [],
  adds_both a c d (told asked ∷ lent before ran ∷ []) [] (adds_both a b c (told asked ∷ []) (lent before ran ∷ []) first second) none,
  record { ran = ran; reply = unsaid; after = []; rest = heard unsaid ∷ lent_again (reply_grown unsaid) ran []; part = refl; sized = length-replicate {A = ℕ} 168 0; refused = λ e. absurd (cc) },
)

some_again : (n : ℕ) (ran after : List ℕ) → 0 < n → (m : Message) × (lent_again n ran after ≡ m ∷ [])
some_again zero ran after h = absurd (omega (arith, h))
some_again (suc n) ran after h = (lent (ran ++ replicate (suc n) 0) after, refl)

-- Memory wasn't lent again.
unlent_again : (a b c : Option (List Message)) (asked before ran reply : List ℕ) → length reply ≡ 168 → AddsMessages a b (told asked ∷ lent before ran ∷ heard reply ∷ []) → AddsMessages b c [] → 0 < reply_grown reply
    → PassesMessages a c (StopsExchange asked before (λ reply. ⊥))
unlent_again a b c asked before ran reply sized first none some =
    let again = some_again (reply_grown reply) ran [] some in (
      told asked ∷ lent before ran ∷ heard reply ∷ [],
      adds_both a b c (told asked ∷ lent before ran ∷ heard reply ∷ []) [] first none,
      record { ran = ran; reply = reply; after = []; rest = again.0 ∷ []; part = ap (λ ms. told asked ∷ lent before ran ∷ heard reply ∷ ms) again.1; sized = sized; refused = λ e. absurd (cc) },
    )

module _ (a c : Option (List Message)) (asked before : List ℕ) where
  -- for another cause as well
  weaker : (R R2 : List ℕ → Type 0) → ((reply : List ℕ) → R reply → R2 reply) → PassesMessages a c (StopsExchange asked before R) → PassesMessages a c (StopsExchange asked before R2)
  weaker R R2 f (messages, added, s) = (messages, added, record { ran = s.ran; reply = s.reply; after = s.after; rest = s.rest; part = s.part; sized = s.sized; refused = λ e. f s.reply (s.refused e) })

  pub stops_weaker : (R R2 : List ℕ → Type 0) (e : GuestFault) → ((reply : List ℕ) → R reply → R2 reply) → StopsDemand a c asked before R e → StopsDemand a c asked before R2 e
  stops_weaker R R2 fault.Trap f s = weaker R R2 f s
  stops_weaker R R2 fault.OutOfMemory f s = s

  pub stops_same : (R : List ℕ → Type 0) (e e2 : GuestFault) → e2 ≡ e → StopsDemand a c asked before R e → StopsDemand a c asked before R e2
  stops_same R e e2 same s = subst (StopsDemand a c asked before R) (sym same) s

  -- not all messages of the exchange passed
  pub stops_cut : (R : List ℕ → Type 0) (e : GuestFault) → PassesMessages a c (StopsExchange asked before (λ reply. ⊥)) → StopsDemand a c asked before R e
  stops_cut R fault.Trap s = weaker (λ reply. ⊥) R (λ reply h. absurd h) s
  stops_cut R fault.OutOfMemory s = weaker (λ reply. ⊥) AnyReply (λ reply h. absurd h) s

  -- all did, and the reply is refused
  pub stops_whole : (R : List ℕ → Type 0) (e : GuestFault) (ran reply after : List ℕ) → length reply ≡ 168 → AddsMessages a c (exchange_messages asked before ran reply after) → (e ≡ fault.Trap → R reply) → StopsDemand a c asked before R e
  stops_whole R fault.Trap ran reply after sized added h =
      (exchange_messages asked before ran reply after, added, record { ran = ran; reply = reply; after = after; rest = []; part = sym (append-nil _); sized = sized; refused = λ e. h refl })
  stops_whole R fault.OutOfMemory ran reply after sized added h =
      (exchange_messages asked before ran reply after, added, record { ran = ran; reply = reply; after = after; rest = []; part = sym (append-nil _); sized = sized; refused = λ e. tt })

  pub stops_replied : (R : List ℕ → Type 0) (e : GuestFault) (kind : ℕ) (after reply : List ℕ) → PassesMessages a c (Replied kind asked before after reply) → (e ≡ fault.Trap → R reply) → StopsDemand a c asked before R e
  stops_replied R e kind after reply p h = stops_whole R e p.2.ran reply after p.2.sized (subst (AddsMessages a c) p.2.passed p.1) h

-- it wasn't asked at all
pub stops_unasked : (a : Option (List Message)) (asked before : List ℕ) (R : List ℕ → Type 0) (e : GuestFault) → StopsDemand a a asked before R e
stops_unasked a asked before R e = stops_cut a a asked before R e (untold a a asked before (adds_none a))

-- memory wasn't lent again, where the reply says by how much it is to be longer
pub stops_unlent : (a b c : Option (List Message)) (n : ℕ) (asked before ran reply : List ℕ) (R : List ℕ → Type 0) (e : GuestFault) → length reply ≡ 168
    → AddsMessages a b (told asked ∷ lent before ran ∷ heard reply ∷ []) → n ≡ reply_grown reply
    → AddsMessages b c [] → 0 < n → StopsDemand a c asked before R e
stops_unlent a b c n asked before ran reply R e sized first is none some = stops_cut a c asked before R e (unlent_again a b c asked before ran reply sized first none (subst (λ k. 0 < k) is some))

-- the reply was refused, after memory was lent again where it had to be
pub stops_refused : (a b c : Option (List Message)) (n : ℕ) (asked before ran reply after : List ℕ) (R : List ℕ → Type 0) (e : GuestFault) → length reply ≡ 168
    → AddsMessages a b (told asked ∷ lent before ran ∷ heard reply ∷ []) → n ≡ reply_grown reply
    → AddsMessages b c (lent_again n ran after) → (e ≡ fault.Trap → R reply) → StopsDemand a c asked before R e
stops_refused a b c n asked before ran reply after R e sized first is second h =
    let grown = subst (λ k. AddsMessages b c (lent_again k ran after)) is second in
    stops_whole a c asked before R e ran reply after sized (adds_both a b c (told asked ∷ lent before ran ∷ heard reply ∷ []) (lent_again (reply_grown reply) ran after) first grown) h

-- ---- replies that are refused

pub no_step : (ended : End) (reply : List ℕ) → reply_kind reply ≡ end_kind ended → StepRefused ended reply → IsNoStepReply reply
no_step ended reply k (inl many) = inr (inl many)
no_step ended reply k (inr (ask, far)) = inr (inr (k ∙ ap end_kind ask, far))

pub no_block : (ended : End) (reply : List ℕ) → reply_kind reply ≡ end_kind ended → BlockRefused ended reply → IsNoBlockReply reply
no_block ended reply k (inl ask) = inl (inl (k ∙ ap end_kind ask))
no_block ended reply k (inr h) = inr h

pub not_done : (reply : List ℕ) → reply_kind reply ≡ 1 → IsNoDoneReply reply
not_done reply k = inl k

pub none_done : (reply : List ℕ) → IsNoReply reply → IsNoDoneReply reply
none_done reply h = inr h

pub none_block : (reply : List ℕ) → IsNoReply reply → IsNoBlockReply reply
none_block reply h = inl (inr h)

pub none_step : (reply : List ℕ) → IsNoReply reply → IsNoStepReply reply
none_step reply h = inl h
