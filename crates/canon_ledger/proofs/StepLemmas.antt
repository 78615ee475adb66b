-- Lemmas on refusals.
use Rattle.std.proofs.Common.{◌≡◌, Bool, true, false, Result, Ok, Err, refl, IfOk}
use Rattle.canon_handles.specs.Step.{refuse_if, and_then}

pub if_ok-refuse : {A E : Type 0} (P : A → Type 0) (b : Bool) (e : E) (r : Result A E) → (b ≡ false → IfOk r P) → IfOk (refuse_if b e r) P
if_ok-refuse P true e r h = tt
if_ok-refuse P false e r h = h refl

pub if_ok-then : {A B E : Type 0} (P : B → Type 0) (r : Result A E) (f : A → Result B E) → IfOk r (λ a. IfOk (f a) P) → IfOk (and_then r f) P
if_ok-then P (Ok x) f h = h
if_ok-then P (Err e) f h = tt

pub if_ok_always : {A E : Type 0} (P : A → Type 0) (r : Result A E) → ((a : A) → P a) → IfOk r P
if_ok_always P (Ok x) h = h x
if_ok_always P (Err e) h = tt
