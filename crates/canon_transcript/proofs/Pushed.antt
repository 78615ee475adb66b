-- What was printed on Ok.
use Rattle.std.proofs.Common.{◌≡◌, ℕ, List, ◌++◌, Result, Ok, Err, if◌then◌else◌, subst, ap, ◌∙◌, append_assoc}
use Rattle.std.specs.Prelude.{OnOk, is_ok}

-- by `push_str`
pub pushed : {T E : Type 0} (r : Result T E) (old new text : List ℕ) → new ≡ (if is_ok r then old ++ text else old) → OnOk r (new ≡ old ++ text)
pushed (Ok x) old new text h = h
pushed (Err e) old new text h = tt

-- the same text, spelled otherwise
pub printed : {T E : Type 0} (r : Result T E) (old new text other : List ℕ) → text ≡ other → OnOk r (new ≡ old ++ text) → OnOk r (new ≡ old ++ other)
printed r old new text other e h = subst (λ s. OnOk r (new ≡ old ++ s)) e h

-- a text in two parts, the first of which was printed before
pub printed_after : {T E : Type 0} (r : Result T E) (old mid new first second whole : List ℕ) → mid ≡ old ++ first → first ++ second ≡ whole → OnOk r (new ≡ mid ++ second) → OnOk r (new ≡ old ++ whole)
printed_after r old mid new first second whole begun is h =
    subst (λ s. OnOk r (new ≡ s)) (ap (λ s. s ++ second) begun ∙ (append_assoc old first second ∙ ap (λ s. old ++ s) is)) h
