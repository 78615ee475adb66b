-- Results of the host that are lowered.
use Rattle.std.proofs.Common.{[], refl, ◌∷◌, ◌≡◌, ◌≤◌, ◌<◌, Option, None, Some, List, ap, arith, false, is_some, true, ℕ}
use Rattle.std.specs.Prelude.{SomeIff}
use Rattle.canon_lowering.proofs.Attempts.{attempt_as}
use Rattle.canon_lowering.specs.Attempt.{LowersMembers, StoresMembers, members_at, members_span, members_words}
use Rattle.canon_lowering.specs.Lowering.{Ending}
use Rattle.canon_model.specs.Homes.{host_texts}
use Rattle.canon_model.specs.Flat.{max_results}
use Rattle.canon_model.specs.Layout.{flat, members_flat}
use Rattle.canon_model.specs.Shape.{Members, Shape, of_places, product}
use Rattle.canon_model.specs.Text.{Encoding}
use Rattle.canon_model.specs.Tree.{Trees}
use Rattle.canon_lowering.specs.Stages.{Stage}

-- the same trees, said otherwise
module _ (enc : Encoding) (ms : Members) (Have Have2 : Trees → Type 0) (to : (ts : Trees) → Have ts → Have2 ts) (from : (ts : Trees) → Have2 ts → Have ts) where
  pub words_as : {K : Type 0} {hs : List ℕ} (a c : Stage K) (ws : List ℕ) (e : Ending) → LowersMembers false a c (host_texts enc) ms ws 0 Have hs e → LowersMembers false a c (host_texts enc) ms ws 0 Have2 hs e
  words_as a c ws e h = attempt_as false a c [] [] (members_words false (host_texts enc) ms ws 0 Have) (members_words false (host_texts enc) ms ws 0 Have2) e (λ i q. q) (record {
    turn = λ ts. ts;
    back = λ ts. ts;
    is = to;
    is_back = from;
    asks = λ ts have. refl;
    rep = λ fresh ts is g. g;
    home = λ pointer ts xs ys is g. g;
    handles = λ ts is. refl;
  }) h

  pub stored_as : {K : Type 0} {hs : List ℕ} (a c : Stage K) (at : ℕ) (e : Ending) → StoresMembers false a c (host_texts enc) ms 0 at Have hs e → StoresMembers false a c (host_texts enc) ms 0 at Have2 hs e
  stored_as a c at e h = attempt_as false a c (members_span false ms 0 at ∷ []) (members_span false ms 0 at ∷ []) (members_at false (host_texts enc) ms 0 at Have) (members_at false (host_texts enc) ms 0 at Have2) e (λ i q. q) (record {
    turn = λ ts. ts;
    back = λ ts. ts;
    is = to;
    is_back = from;
    asks = λ ts have. refl;
    rep = λ fresh ts is g. g;
    home = λ pointer ts xs ys is g. g;
    handles = λ ts is. refl;
  }) h

-- how many words, by whether there is one or none
pub one_or_none : (s : Shape) (ms : Members) (told : Option ℕ) (most : ℕ) → s ≡ product of_places ms → most ≡ 1 → SomeIff told ((flat s ≤ most) × (flat s ≤ 16)) (flat s) → is_some told ≡ true → members_flat ms ≤ max_results
unfolding flat
one_or_none s ms (Some n) most is one h e = let same : flat s ≡ members_flat ms = ap flat is in omega (arith, same, one, h.0.0)
one_or_none s ms None most is one h e = cc

pub more_than_one : (s : Shape) (ms : Members) (told : Option ℕ) (most : ℕ) → s ≡ product of_places ms → most ≡ 1 → SomeIff told ((flat s ≤ most) × (flat s ≤ 16)) (flat s) → is_some told ≡ false → max_results < members_flat ms
unfolding flat
more_than_one s ms (Some n) most is one h e = cc
more_than_one s ms None most is one h e =
    let same : flat s ≡ members_flat ms = ap flat is in
    let many : ¬ (flat s ≤ 1) = λ l. h (omega (arith, l, one), omega (arith, l)) in
    omega (arith, same, many)
