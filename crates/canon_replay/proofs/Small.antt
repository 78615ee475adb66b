-- Values with the same literals are alike in whether one of them is too large for memory.
use Rattle.std.proofs.Common.{List, [], ap, inl, inr, length, map, refl, suc, sym, zero, ℕ, ◌+◌, ◌∙◌, ◌∷◌, ◌≡◌}
use Rattle.canon_literals.specs.Literals.{literal_view, literals_view, pair_view}
use Rattle.canon_model.specs.Shape.{Cases, Members, Shape, bare, borrow, fixed, flags, list, member, no_cases, no_members, of_items, of_pairs, own, payload, product, scalar, string, variant}
use Rattle.canon_model.specs.Text.{Encoding}
use Rattle.canon_recording.proofs.Rows.{map_length}
use Rattle.canon_val.specs.declared.val.Val.{Val}
use Rattle.canon_val.specs.Value.{pair_places, places}
use Rattle.canon_value_parts.specs.Fails.{AreSmall, CaseFails, Failure, Fails, FailsAt, MemberFails, PairFails, SomeFails, overflow, too_long}
use Rattle.canon_replay.proofs.Literals.{as_many, case_same, entries_same, fixed_of_literals, items_of_literals, pair_row, product_same, text_same}

-- ---- the value itself

long_text : (enc : Encoding) (n : ℕ) (s : Shape) (v w : Val) → literal_view v ≡ literal_view w → Fails (too_long enc n) s v → Fails (too_long enc n) s w
long_text enc n (scalar c) v w e f = f
long_text enc n string v w e (s, ev, long) = let (z, ew, bytes) = text_same s v w e ev in (z, ew, rw (sym bytes) long)
long_text enc n (own r) v w e f = f
long_text enc n (borrow r) v w e f = f
long_text enc n (list k s) v w e f = f
long_text enc n (fixed m s) v w e f = f
long_text enc n (product k ms) v w e f = f
long_text enc n (variant k cs) v w e f = f
long_text enc n (flags names) v w e f = f

large_list : (n : ℕ) (s : Shape) (v w : Val) → literal_view v ≡ literal_view w → Fails (overflow n) s v → Fails (overflow n) s w
large_list n (scalar c) v w e f = f
large_list n string v w e f = f
large_list n (own r) v w e f = f
large_list n (borrow r) v w e f = f
large_list n (list of_items s) v w e (vs, is, count, many) = let (ws, isw, rows) = items_of_literals vs v w e is in (ws, isw, count ∙ as_many vs ws rows, many)
large_list n (list of_pairs s) v w e (ps, is, count, many) =
    let (qs, isw, rows) = entries_same ps v w e is in
    (qs, isw, count ∙ (sym (map_length pair_view ps) ∙ (ap length rows ∙ map_length pair_view qs)), many)
large_list n (fixed m s) v w e f = f
large_list n (product k ms) v w e f = f
large_list n (variant k cs) v w e f = f
large_list n (flags names) v w e f = f

-- ---- one in a value

some_same : {A X : Type 0} (view : A → X) (count : A → ℕ) (F : A → ℕ → Type 0) → ((v w : A) (k : ℕ) → view v ≡ view w → F v k → (j : ℕ) × F w j) → (vs ws : List A) (k : ℕ)
    → map view vs ≡ map view ws → SomeFails count F vs k → (j : ℕ) × SomeFails count F ws j
some_same view count F one [] ws k e f = absurd f
some_same view count F one (v ∷ vs) [] k e f = cc
some_same view count F one (v ∷ vs) (w ∷ ws) k e (inl f) = let first : view v ≡ view w = cc in let (j, g) = one v w k first f in (j, inl g)
some_same view count F one (v ∷ vs) (w ∷ ws) k e (inr (i, at, f)) =
    let others : map view vs ≡ map view ws = cc in
    let (j, g) = some_same view count F one vs ws i others f in
    (count w + j, inr (j, refl, g))

module _ (how : Failure) (itself : (s : Shape) (v w : Val) → literal_view v ≡ literal_view w → Fails how s v → Fails how s w) where
  mutual
    fails_too : (s : Shape) (v w : Val) (k : ℕ) → literal_view v ≡ literal_view w → FailsAt how s v k → (j : ℕ) × FailsAt how s w j
    fails_too (scalar c) v w k e (at, f) = (k, (at, itself (scalar c) v w e f))
    fails_too string v w k e (at, f) = (k, (at, itself string v w e f))
    fails_too (own r) v w k e (at, f) = (k, (at, itself (own r) v w e f))
    fails_too (borrow r) v w k e (at, f) = (k, (at, itself (borrow r) v w e f))
    fails_too (flags names) v w k e (at, f) = (k, (at, itself (flags names) v w e f))
    fails_too (list of_items s) v w k e (inl (at, f)) = (k, inl (at, itself (list of_items s) v w e f))
    fails_too (list of_items s) v w k e (inr (vs, i, is, at, f)) =
        let (ws, isw, rows) = items_of_literals vs v w e is in
        let (j, g) = some_same literal_view places (λ x n. FailsAt how s x n) (λ x y n same h. fails_too s x y n same h) vs ws i rows f in
        (1 + j, inr (ws, j, isw, refl, g))
    fails_too (list of_pairs s) v w k e (inl (at, f)) = (k, inl (at, itself (list of_pairs s) v w e f))
    fails_too (list of_pairs s) v w k e (inr (ps, i, is, at, f)) =
        let (qs, isw, rows) = entries_same ps v w e is in
        let (j, g) = some_same pair_view pair_places (λ p n. PairFails how s p n) (λ p q n same h. pair_fails s p q n same h) ps qs i rows f in
        (1 + j, inr (qs, j, isw, refl, g))
    fails_too (fixed n s) v w k e (inl (at, f)) = (k, inl (at, itself (fixed n s) v w e f))
    fails_too (fixed n s) v w k e (inr (vs, i, is, count, at, f)) =
        let (ws, isw, rows) = fixed_of_literals vs v w e is in
        let (j, g) = some_same literal_view places (λ x m. FailsAt how s x m) (λ x y m same h. fails_too s x y m same h) vs ws i rows f in
        (1 + j, inr (ws, j, isw, sym (as_many vs ws rows) ∙ count, refl, g))
    fails_too (product l ms) v w k e (inl (at, f)) = (k, inl (at, itself (product l ms) v w e f))
    fails_too (product l ms) v w k e (inr (names, vs, i, is, count, at, f)) =
        let (ws, isw, rows) = product_same l names vs v w e is in
        let (j, g) = members_fail ms vs ws i rows f in
        (1 + j, inr (names, ws, j, isw, sym (as_many vs ws rows) ∙ count, refl, g))
    fails_too (variant l cs) v w k e (inl (at, f)) = (k, inl (at, itself (variant l cs) v w e f))
    fails_too (variant l cs) v w k e (inr (d, vs, i, is, at, f)) =
        let (ws, isw, rows) = case_same l cs d vs v w e is in
        let (j, g) = case_fails cs d vs ws i rows f in
        (1 + j, inr (d, ws, j, isw, refl, g))

    members_fail : (ms : Members) (vs ws : List Val) (k : ℕ) → literals_view vs ≡ literals_view ws → MemberFails how ms vs k → (j : ℕ) × MemberFails how ms ws j
    members_fail no_members vs ws k e f = absurd f
    members_fail (member name s ms) [] ws k e f = absurd f
    members_fail (member name s ms) (v ∷ vs) [] k e f = cc
    members_fail (member name s ms) (v ∷ vs) (w ∷ ws) k e (inl f) = let first : literal_view v ≡ literal_view w = cc in let (j, g) = fails_too s v w k first f in (j, inl g)
    members_fail (member name s ms) (v ∷ vs) (w ∷ ws) k e (inr (i, at, f)) =
        let others : literals_view vs ≡ literals_view ws = cc in
        let (j, g) = members_fail ms vs ws i others f in
        (places w + j, inr (j, refl, g))

    pair_fails : (s : Shape) (p q : Val × Val) (k : ℕ) → pair_view p ≡ pair_view q → PairFails how s p k → (j : ℕ) × PairFails how s q j
    pair_fails (product l ms) p q k e f = members_fail ms (p.0 ∷ p.1 ∷ []) (q.0 ∷ q.1 ∷ []) k (pair_row p q e) f
    pair_fails (scalar c) p q k e f = absurd f
    pair_fails string p q k e f = absurd f
    pair_fails (own r) p q k e f = absurd f
    pair_fails (borrow r) p q k e f = absurd f
    pair_fails (list l s) p q k e f = absurd f
    pair_fails (fixed n s) p q k e f = absurd f
    pair_fails (variant l cs) p q k e f = absurd f
    pair_fails (flags names) p q k e f = absurd f

    case_fails : (cs : Cases) (d : ℕ) (vs ws : List Val) (k : ℕ) → literals_view vs ≡ literals_view ws → CaseFails how cs d vs k → (j : ℕ) × CaseFails how cs d ws j
    case_fails no_cases d vs ws k e f = absurd f
    case_fails (bare name cs) zero vs ws k e f = absurd f
    case_fails (bare name cs) (suc d) vs ws k e f = case_fails cs d vs ws k e f
    case_fails (payload name s cs) zero [] ws k e f = absurd f
    case_fails (payload name s cs) zero (v ∷ vs) [] k e f = cc
    case_fails (payload name s cs) zero (v ∷ vs) (w ∷ ws) k e f = let first : literal_view v ≡ literal_view w = cc in fails_too s v w k first f
    case_fails (payload name s cs) (suc d) vs ws k e f = case_fails cs d vs ws k e f

-- where none of these is too large, none of the others is
pub small_same : (enc : Encoding) (ms : Members) (vs ws : List Val) → literals_view vs ≡ literals_view ws → AreSmall enc ms vs → AreSmall enc ms ws
small_same enc ms vs ws e small = record {
  texts = λ n k f. let (j, g) = members_fail (too_long enc n) (long_text enc n) ms ws vs k (sym e) f in small.texts n j g;
  lists = λ n k f. let (j, g) = members_fail (overflow n) (large_list n) ms ws vs k (sym e) f in small.lists n j g;
}
