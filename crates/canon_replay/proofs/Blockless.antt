-- Values of types that reach no text, no list and no map: none is too large for memory.
use Rattle.std.proofs.Common.{Bool, List, [], false, inl, inr, refl, suc, true, true≢false, zero, ℕ, ◌||◌, ◌∷◌, ◌≡◌}
use Rattle.canon_context.specs.Quiet.{cases_have_block, has_block, have_block}
use Rattle.canon_model.specs.Shape.{Cases, Members, Shape, bare, borrow, fixed, flags, list, member, no_cases, no_members, own, payload, product, scalar, string, variant}
use Rattle.canon_model.specs.Text.{Encoding}
use Rattle.canon_val.specs.declared.val.Val.{Val}
use Rattle.canon_value_parts.specs.Fails.{AreSmall, CaseFails, Failure, Fails, FailsAt, MemberFails, SomeFails, overflow, too_long}

pub first_none : (a b : Bool) → a || b ≡ false → a ≡ false
first_none false b e = refl
first_none true b e = e

pub later_none : (a b : Bool) → a || b ≡ false → b ≡ false
later_none false b e = e
later_none true b e = absurd (true≢false e)

no_long_text : (enc : Encoding) (n : ℕ) (s : Shape) (v : Val) → has_block s ≡ false → ¬ Fails (too_long enc n) s v
no_long_text enc n (scalar c) v quiet f = f
no_long_text enc n string v quiet f = true≢false quiet
no_long_text enc n (own r) v quiet f = f
no_long_text enc n (borrow r) v quiet f = f
no_long_text enc n (list k s) v quiet f = true≢false quiet
no_long_text enc n (fixed m s) v quiet f = f
no_long_text enc n (product k ms) v quiet f = f
no_long_text enc n (variant k cs) v quiet f = f
no_long_text enc n (flags names) v quiet f = f

no_large_list : (n : ℕ) (s : Shape) (v : Val) → has_block s ≡ false → ¬ Fails (overflow n) s v
no_large_list n (scalar c) v quiet f = f
no_large_list n string v quiet f = f
no_large_list n (own r) v quiet f = f
no_large_list n (borrow r) v quiet f = f
no_large_list n (list k s) v quiet f = true≢false quiet
no_large_list n (fixed m s) v quiet f = f
no_large_list n (product k ms) v quiet f = f
no_large_list n (variant k cs) v quiet f = f
no_large_list n (flags names) v quiet f = f

some_none : {A : Type 0} (count : A → ℕ) (F : A → ℕ → Type 0) → ((x : A) (k : ℕ) → ¬ F x k) → (xs : List A) (k : ℕ) → ¬ SomeFails count F xs k
some_none count F none [] k f = f
some_none count F none (x ∷ xs) k (inl f) = none x k f
some_none count F none (x ∷ xs) k (inr (j, e, f)) = some_none count F none xs j f

module _ (how : Failure) (itself : (s : Shape) (v : Val) → has_block s ≡ false → ¬ Fails how s v) where
  mutual
    none_at : (s : Shape) (v : Val) (k : ℕ) → has_block s ≡ false → ¬ FailsAt how s v k
    none_at (scalar c) v k quiet f = itself (scalar c) v quiet f.1
    none_at string v k quiet f = true≢false quiet
    none_at (own r) v k quiet f = itself (own r) v quiet f.1
    none_at (borrow r) v k quiet f = itself (borrow r) v quiet f.1
    none_at (list l s) v k quiet f = true≢false quiet
    none_at (fixed n s) v k quiet (inl f) = itself (fixed n s) v quiet f.1
    none_at (fixed n s) v k quiet (inr (vs, j, is, count, e, f)) = some_none _ (λ w i. FailsAt how s w i) (λ w i g. none_at s w i quiet g) vs j f
    none_at (product l ms) v k quiet (inl f) = itself (product l ms) v quiet f.1
    none_at (product l ms) v k quiet (inr (names, vs, j, is, count, e, f)) = none_among ms vs j quiet f
    none_at (variant l cs) v k quiet (inl f) = itself (variant l cs) v quiet f.1
    none_at (variant l cs) v k quiet (inr (d, vs, j, is, e, f)) = none_in_case cs d vs j quiet f
    none_at (flags names) v k quiet f = itself (flags names) v quiet f.1

    none_among : (ms : Members) (vs : List Val) (k : ℕ) → have_block ms ≡ false → ¬ MemberFails how ms vs k
    none_among no_members vs k quiet f = f
    none_among (member name s ms) [] k quiet f = f
    none_among (member name s ms) (v ∷ vs) k quiet (inl f) = none_at s v k (first_none (has_block s) (have_block ms) quiet) f
    none_among (member name s ms) (v ∷ vs) k quiet (inr (j, e, f)) = none_among ms vs j (later_none (has_block s) (have_block ms) quiet) f

    none_in_case : (cs : Cases) (d : ℕ) (vs : List Val) (k : ℕ) → cases_have_block cs ≡ false → ¬ CaseFails how cs d vs k
    none_in_case no_cases d vs k quiet f = f
    none_in_case (bare name cs) zero vs k quiet f = f
    none_in_case (bare name cs) (suc d) vs k quiet f = none_in_case cs d vs k quiet f
    none_in_case (payload name s cs) zero [] k quiet f = f
    none_in_case (payload name s cs) zero (v ∷ vs) k quiet f = none_at s v k (first_none (has_block s) (cases_have_block cs) quiet) f
    none_in_case (payload name s cs) (suc d) vs k quiet f = none_in_case cs d vs k (later_none (has_block s) (cases_have_block cs) quiet) f

pub all_small : (enc : Encoding) (ms : Members) (vs : List Val) → have_block ms ≡ false → AreSmall enc ms vs
all_small enc ms vs quiet = record {
  texts = λ n k. none_among (too_long enc n) (no_long_text enc n) ms vs k quiet;
  lists = λ n k. none_among (overflow n) (no_large_list n) ms vs k quiet;
}
