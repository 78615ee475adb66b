-- Messages that are a strict prefix of all, and commands of which no more was heard.
use Rattle.std.proofs.Common.{List, Option, [], false, inr, refl, subst, ◌<◌, ◌==◌, ◌∷◌, ◌≡◌, ◌≤◌, ℕ}
use Rattle.std.specs.Prelude.{length}
use Rattle.canon_relay.specs.Channel.{AddsMessages, Message, heard, told}
use Rattle.canon_relay.specs.Relay.{PassesMessages, adds_both}
use Rattle.canon_relay.specs.Wire.{number_at}
use Rattle.canon_serve.specs.Messages.{HearsNothing, IsStrictPrefix, told_bytes}
use Rattle.canon_serve.specs.declared.command.Unheard.{Unheard}
use Rattle.canon_serve.specs.declared.command.Unheard.TheVariants as unheard

pub cut_before : (a b : Option (List Message)) (one : Message) (rest : List Message) → AddsMessages a b [] → PassesMessages a b (IsStrictPrefix (one ∷ rest))
cut_before a b one rest none = ([], none, (one, rest, refl))

pub cut_after : (a b c : Option (List Message)) (one next : Message) (rest : List Message) → AddsMessages a b (one ∷ []) → AddsMessages b c [] → PassesMessages a c (IsStrictPrefix (one ∷ next ∷ rest))
cut_after a b c one next rest first none = (one ∷ [], adds_both a b c (one ∷ []) [] first none, (next, rest, refl))

-- bytes that there are are one message
pub told_some : (bytes : List ℕ) → (length bytes == 0) ≡ false → told_bytes bytes ≡ told bytes ∷ []
told_some [] h = absurd (cc)
told_some (b ∷ bytes) h = refl

-- only the first bytes of a command were heard
pub hears_nothing : (a b c : Option (List Message)) (head : List ℕ) (why : Unheard) (n : ℕ) → length head ≡ 32 → AddsMessages a b (heard head ∷ []) → AddsMessages b c [] → n ≡ number_at head 24
    → 0 < n → (why ≡ unheard.OutOfMemory → n ≤ 16777216)
    → PassesMessages a c (HearsNothing why)
hears_nothing a b c head unheard.Broken n sized first none is some few = (heard head ∷ [], adds_both a b c (heard head ∷ []) [] first none, inr (head, sized, subst (λ k. 0 < k) is some, refl))
hears_nothing a b c head unheard.OutOfMemory n sized first none is some few =
    (heard head ∷ [], adds_both a b c (heard head ∷ []) [] first none, (head, sized, subst (λ k. 0 < k) is some, subst (λ k. k ≤ 16777216) is (few refl), refl))
