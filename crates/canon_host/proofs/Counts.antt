-- How many values and words a tuple takes.
use Rattle.std.proofs.Common.{List, None, Option, Some, arith, le-leb, length, max, nat_le, refl, sym, ℕ, ⊎_elim, ◌+◌, ◌∙◌, ◌≡◌, ◌≤◌, ◌<◌}
use Rattle.std.specs.Prelude.{SomeIff, unwrap_or}
use Rattle.std.proofs.Math.Nat.{le-max_left, le-max_right}
use Rattle.std.proofs.lemmas.Bool.{cases_lt, cond-false, cond-true, lt-leb}
use Rattle.canon_model.specs.Flat.{max_params, max_results}
use Rattle.canon_model.specs.Layout.{flat, members_flat}
use Rattle.canon_model.specs.Shape.{Members, of_places, product}
use Rattle.canon_passing.proofs.Far.{far_words, value_near_words}
use Rattle.canon_passing.specs.Args.{args_words}
use Rattle.canon_host.specs.Asked.{AreEnough, pointer_words, row_words, storage_words}

pub product_flat : (ms : Members) → flat (product of_places ms) ≡ members_flat ms
unfolding flat
product_flat ms = refl

counted : (n : ℕ) (o : Option ℕ) (ms : Members) → n ≡ members_flat ms → SomeIff o ((n ≤ 16) × (n ≤ 16)) n → unwrap_or o 1 ≡ args_words ms
counted n (Some x) ms e h = h.1 ∙ (e ∙ sym (value_near_words ms (omega (arith, h.0.0, e))))
counted n None ms e h = sym (⊎_elim (λ far. far_words ms far) (λ near. absurd (h (omega (arith, near, e), omega (arith, near, e)))) (cases_lt max_params (members_flat ms)))

pub words_counted : (o : Option ℕ) (ms : Members) → SomeIff o ((flat (product of_places ms) ≤ 16) × (flat (product of_places ms) ≤ 16)) (flat (product of_places ms)) → unwrap_or o 1 ≡ args_words ms
words_counted o ms h = counted (flat (product of_places ms)) o ms (product_flat ms) h

few_counted : (n : ℕ) (o : Option ℕ) → SomeIff o ((n ≤ 16) × (n ≤ 16)) n → unwrap_or o 1 ≤ 16
few_counted n (Some x) h = omega (arith, h.0.0, h.1)
few_counted n None h = omega arith

pub words_few : (o : Option ℕ) (ms : Members) → SomeIff o ((flat (product of_places ms) ≤ 16) × (flat (product of_places ms) ≤ 16)) (flat (product of_places ms)) → unwrap_or o 1 ≤ 16
words_few o ms h = few_counted (flat (product of_places ms)) o h

told_few : (n : ℕ) (o : Option ℕ) (ms : Members) → n ≡ members_flat ms → SomeIff o ((n ≤ 1) × (n ≤ 16)) n → SomeIff o (members_flat ms ≤ max_results) (members_flat ms)
told_few n (Some x) ms e h = (omega (arith, h.0.0, e), h.1 ∙ e)
told_few n None ms e h = λ few. h (omega (arith, few, e), omega (arith, few, e))

pub results_counted : (o : Option ℕ) (ms : Members) → SomeIff o ((flat (product of_places ms) ≤ 1) × (flat (product of_places ms) ≤ 16)) (flat (product of_places ms)) → SomeIff o (members_flat ms ≤ max_results) (members_flat ms)
results_counted o ms h = told_few (flat (product of_places ms)) o ms (product_flat ms) h

pub first_near : (o : Option ℕ) (ms : Members) → SomeIff o (members_flat ms ≤ max_results) (members_flat ms) → members_flat ms ≤ max_results → unwrap_or o 0 ≡ members_flat ms
first_near (Some x) ms h few = h.1
first_near None ms h few = absurd (h few)

pub first_far : (o : Option ℕ) (ms : Members) → SomeIff o (members_flat ms ≤ max_results) (members_flat ms) → max_results < members_flat ms → unwrap_or o 0 ≡ 0
first_far (Some x) ms h many = absurd (omega (arith, h.0, many))
first_far None ms h many = refl

-- ---- the words of an ask

pub near_pointer : (ms : Members) → members_flat ms ≤ max_results → pointer_words ms ≡ 0
near_pointer ms near = cond-true (nat_le (members_flat ms) max_results) _ _ (le-leb _ _ near)

pub far_pointer : (ms : Members) → max_results < members_flat ms → pointer_words ms ≡ 1
far_pointer ms far = cond-false (nat_le (members_flat ms) max_results) _ _ (lt-leb (members_flat ms) max_results far)

pub near_row : (ms : Members) → members_flat ms ≤ max_results → row_words ms ≡ members_flat ms
near_row ms near = cond-true (nat_le (members_flat ms) max_results) _ _ (le-leb _ _ near)

pub far_row : (ms : Members) → max_results < members_flat ms → row_words ms ≡ 0
far_row ms far = cond-false (nat_le (members_flat ms) max_results) _ _ (lt-leb (members_flat ms) max_results far)

-- as counted
pub no_pointer : (x : ℕ) (ms : Members) → SomeIff (Some x) (members_flat ms ≤ max_results) (members_flat ms) → 0 ≡ pointer_words ms
no_pointer x ms h = sym (near_pointer ms h.0)

pub one_pointer : (ms : Members) → SomeIff None (members_flat ms ≤ max_results) (members_flat ms) → 1 ≡ pointer_words ms
one_pointer ms h = sym (far_pointer ms (omega (arith, h)))

pub row_told : (o : Option ℕ) (ms : Members) → SomeIff o (members_flat ms ≤ max_results) (members_flat ms) → unwrap_or o 0 ≡ row_words ms
row_told (Some x) ms h = h.1 ∙ sym (near_row ms h.0)
row_told None ms h = sym (far_row ms (omega (arith, h)))

-- storage that is so long is enough
by_most : (a p r n : ℕ) → max (a + p) r ≤ n → (a + p ≤ n) × (r ≤ n)
by_most a p r n h = (omega (arith, le-max_left (a + p) r), omega (arith, le-max_right (a + p) r))

pub enough_words : (params results : Members) (words : List ℕ) → storage_words params results ≤ length words → AreEnough params results words
enough_words params results words h =
    let most = by_most (args_words params) (pointer_words results) (row_words results) (length words) h in
    record {
      given = omega (arith, most.0);
      pointer = λ many. omega (arith, most.0, far_pointer results many);
      room = λ few. omega (arith, most.1, near_row results few);
    }

-- there is room for results in a row
pub row_within : (params results : Members) (words : List ℕ) → AreEnough params results words → row_words results ≤ length words
row_within params results words room =
    ⊎_elim (λ far. omega (arith, far_row results far)) (λ near. omega (arith, near_row results near, room.room near)) (cases_lt max_results (members_flat results))
