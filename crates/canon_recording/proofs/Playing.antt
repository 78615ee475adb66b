-- Which calls are runs of their exports.
use Rattle.std.proofs.Common.{List, [], ap, arith, drop, length, map, refl, subst, suc, sym, zero, ℕ, ◌+◌, ◌<◌, ◌∙◌, ◌∷◌, ◌≡◌}
use Rattle.std.specs.Prelude.{slice_index_or}
use Rattle.canon_context.specs.declared.component.Component.{Component}
use Rattle.canon_func.specs.Runs.{last_len}
use Rattle.canon_recording.specs.Fits.{AreRuns, IsNoRunAt, IsRunFrom}
use Rattle.canon_recording.specs.Recordings.{RecordedCall}

-- after some calls that are runs
pub record AreSoFar (c : Component) (calls : List RecordedCall) (k len : ℕ) : Type 0 where
  pub rest : AreRuns c len (drop k calls) → AreRuns c 0 calls
  pub later : (j : ℕ) → IsNoRunAt c len (drop k calls) j → IsNoRunAt c 0 calls (k + j)

pub none_so_far : (c : Component) (calls : List RecordedCall) → AreSoFar c calls 0 0
none_so_far c calls = record { rest = λ h. h; later = λ j h. subst (IsNoRunAt c 0 calls) (omega_zero j) h }
  where
    omega_zero : (j : ℕ) → j ≡ 0 + j
    omega_zero j = omega arith

pub recorded_one_more : (c : Component) (calls : List RecordedCall) (k len : ℕ) (call : RecordedCall) → drop k calls ≡ call ∷ drop (k + 1) calls → IsRunFrom c len call → AreSoFar c calls k len
    → AreSoFar c calls (k + 1) (last_len len call.events)
recorded_one_more c calls k len call e run s = record {
  rest = λ h. s.rest (subst (AreRuns c len) (sym e) (run, h));
  later = λ j h. subst (IsNoRunAt c 0 calls) (next j) (s.later (suc j) (subst (λ l. IsNoRunAt c len l (suc j)) (sym e) (run, h)));
}
  where
    next : (j : ℕ) → k + suc j ≡ k + 1 + j
    next j = omega arith

pub not_here : (c : Component) (calls : List RecordedCall) (k len : ℕ) (call : RecordedCall) → drop k calls ≡ call ∷ drop (k + 1) calls → ¬ IsRunFrom c len call → AreSoFar c calls k len → IsNoRunAt c 0 calls k
not_here c calls k len call e no_run s = subst (IsNoRunAt c 0 calls) zero_more (s.later 0 (subst (λ l. IsNoRunAt c len l 0) (sym e) no_run))
  where
    zero_more : k + 0 ≡ k
    zero_more = omega arith

pub all_so_far : (c : Component) (calls : List RecordedCall) (k len : ℕ) → drop k calls ≡ [] → AreSoFar c calls k len → AreRuns c 0 calls
all_so_far c calls k len e s = s.rest (subst (AreRuns c len) (sym e) tt)

pub mapped_at : {X A : Type 0} (f : X → A) (xs : List X) (k : ℕ) (x : X) → k < length xs → slice_index_or xs k x ≡ x → drop k (map f xs) ≡ f x ∷ drop (k + 1) (map f xs)
mapped_at f [] k x h e = absurd (omega (arith, h))
mapped_at f (y ∷ xs) zero x h e = ap (λ i. f i ∷ map f xs) e
mapped_at f (y ∷ xs) (suc k) x h e =
    let next : suc (k + 1) ≡ suc k + 1 = omega arith in
    mapped_at f xs k x (omega (arith, h)) e ∙ ap (λ i. f x ∷ drop i (map f (y ∷ xs))) next

pub mapped_end : {X A : Type 0} (f : X → A) (xs : List X) (k : ℕ) → length xs ≡ k → drop k (map f xs) ≡ []
mapped_end f [] zero h = refl
mapped_end f [] (suc k) h = absurd (omega (arith, h))
mapped_end f (x ∷ xs) zero h = absurd (omega (arith, h))
mapped_end f (x ∷ xs) (suc k) h = mapped_end f xs k (omega (arith, h))
