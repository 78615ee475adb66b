-- Values are compared by their images.
use Rattle.std.proofs.Common.{Bool, Err, List, Ok, Result, false, refl, subst, subst₂, sym, true, true≢false, ℕ, ◌∙◌, ◌≡◌}
use Rattle.std.specs.Prelude.{IsErr, IsErrAnd, IsTrue, ◌↔◌}
use Rattle.canon_model.specs.Shape.{Shape}
use Rattle.canon_val.specs.declared.val.Val.{Val}
use Rattle.canon_recording_parts.specs.declared.error.ReplayError.{ReplayError}
use Rattle.canon_recording_parts.specs.declared.error.ReplayError.TheVariants as error
use Rattle.canon_replay.specs.Calls.{ComparesImages, HaveImage}

pub compared : (s : Shape) (vs ws : List Val) (xs ys : List ℕ) (b : Bool) → HaveImage s vs xs → HaveImage s ws ys → IsTrue b ↔ (xs ≡ ys) → ComparesImages s vs ws (Ok b)
compared s vs ws xs ys true h g same = (xs, h, subst (HaveImage s ws) (sym (same.0 refl)) g)
compared s vs ws xs ys false h g same = (xs, ys, h, g, λ e. true≢false (sym (same.1 e)))

-- the same of bytes that are lent
pub lent_compared : (s : Shape) (vs ws : List Val) (xs ys us zs : List ℕ) (b : Bool) → us ≡ xs → zs ≡ ys → HaveImage s vs xs → HaveImage s ws ys → IsTrue b ↔ (us ≡ zs) → ComparesImages s vs ws (Ok b)
lent_compared s vs ws xs ys us zs b e f h g same = compared s vs ws xs ys b h g (subst₂ (λ (x y : List ℕ). IsTrue b ↔ (x ≡ y)) e f same)

pub short_compared : (s : Shape) (vs ws : List Val) (e : ReplayError) (r : Result Bool ReplayError) → IsErr r × IsErrAnd r (λ f. f ≡ e) → e ≡ error.OutOfMemory → ComparesImages s vs ws r
short_compared s vs ws e (Ok b) h short = absurd h.1
short_compared s vs ws e (Err f) h short = subst (λ (x : ReplayError). ComparesImages s vs ws (Err x)) (sym (h.1 ∙ short)) tt

-- no other error is answered
pub compares_short : (s : Shape) (vs ws : List Val) (e : ReplayError) → ComparesImages s vs ws (Err e) → e ≡ error.OutOfMemory
compares_short s vs ws (error.BadRecording p) h = absurd h
compares_short s vs ws (error.NotARun k) h = absurd h
compares_short s vs ws error.TooLong h = absurd h
compares_short s vs ws error.OutOfMemory h = refl
