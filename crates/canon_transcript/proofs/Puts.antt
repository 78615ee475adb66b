-- Blocks in the place of the first that is looked for.
use Rattle.std.proofs.Common.{◌≡◌, ◌<◌, ◌≤◌, ◌+◌, ℕ, suc, Bool, true, false, cond, not, List, [], ◌∷◌, ◌++◌, length, take, drop, None, Some, nat_lt, refl, ap, sym, ◌∙◌, arith, append-nil, set, eqb}
use Rattle.std.proofs.lemmas.Bool.{eqb-false, eqb-true, ltb-false, ltb-true}
use Rattle.std.proofs.lemmas.List.{drop-set, take-append-drop, take-set, take_all}
use Rattle.std.proofs.Math.ListN.{drop_of_length-le}
use Rattle.std.specs.List.{position, position_or_len}
use Rattle.canon_transcript.specs.Blocks.{answered_block, is_at, put_block}
use Rattle.canon_transcript.specs.declared.blocks.Block.{Block}

abbrev transcript_first : ℕ → ℕ → List Block → ℕ
transcript_first start size bs = position_or_len (is_at start size) bs

put_first : (start size : ℕ) (new bs : List Block) → put_block start size new bs ≡ take (transcript_first start size bs) bs ++ (new ++ drop (suc (transcript_first start size bs)) bs)
put_first start size new [] = sym (append-nil new)
put_first start size new (b ∷ bs) = by_test (is_at start size b) (transcript_first start size bs) (1 + transcript_first start size bs) (omega arith) (put_first start size new bs)
  where
    by_test : (t : Bool) (k m : ℕ) → m ≡ suc k → put_block start size new bs ≡ take k bs ++ (new ++ drop (suc k) bs)
        → cond t (new ++ bs) (b ∷ put_block start size new bs) ≡ take (cond (not t) m 0) (b ∷ bs) ++ (new ++ drop (suc (cond (not t) m 0)) (b ∷ bs))
    by_test true k m e h = refl
    by_test false k m e h = ap (λ xs. b ∷ xs) h ∙ ap (λ n. take n (b ∷ bs) ++ (new ++ drop n bs)) (sym e)

none_below : (n l : ℕ) (t : Bool) → nat_lt n l ≡ t → cond t (Some n) None ≡ None → l ≤ n
none_below n l true e h = cc
none_below n l false e h = ltb-false n l e

some_below : (n l i : ℕ) (t : Bool) → nat_lt n l ≡ t → cond t (Some n) None ≡ Some i → (n ≡ i) × (n < l)
some_below n l i true e h = (cc, ltb-true n l e)
some_below n l i false e h = cc

pub put_absent : (start size : ℕ) (new bs : List Block) → position (is_at start size) bs ≡ None → put_block start size new bs ≡ bs ++ new
put_absent start size new bs e =
    let n = transcript_first start size bs in
    let past = none_below n (length bs) (nat_lt n (length bs)) refl e in
    let further : length bs ≤ suc n = omega (arith, past) in
    put_first start size new bs ∙ (ap (λ xs. xs ++ (new ++ drop (suc n) bs)) (take_all n bs past)
    ∙ (ap (λ xs. bs ++ (new ++ xs)) (drop_of_length-le bs further) ∙ ap (λ xs. bs ++ xs) (append-nil new)))

-- the place of the first, and what stands around it
record Place (start size i : ℕ) (new bs : List Block) : Type 0 where
  inside : i < length bs
  is : put_block start size new bs ≡ take i bs ++ (new ++ drop (i + 1) bs)

place : (start size i : ℕ) (new bs : List Block) → position (is_at start size) bs ≡ Some i → Place start size i new bs
place start size i new bs e =
    let n = transcript_first start size bs in
    let at = some_below n (length bs) i (nat_lt n (length bs)) refl e in
    let more : suc i ≡ i + 1 = omega arith in
    record {
      inside = omega (arith, at.0, at.1);
      is = put_first start size new bs ∙ (ap (λ k. take k bs ++ (new ++ drop (suc k) bs)) at.0 ∙ ap (λ k. take i bs ++ (new ++ drop k bs)) more);
    }

answered_some : (b : Block) (t : Bool) → 0 < b.size → eqb b.size 0 ≡ t → cond t [] (b ∷ []) ≡ b ∷ []
answered_some b true h e = absurd (omega (arith, eqb-true b.size 0 e))
answered_some b false h e = refl

answered_none : (b : Block) (t : Bool) → b.size ≤ 0 → eqb b.size 0 ≡ t → cond t [] (b ∷ []) ≡ []
answered_none b true h e = refl
answered_none b false h e = absurd (eqb-false b.size 0 e (omega (arith, h)))

pub put_written : (start size i : ℕ) (b : Block) (bs : List Block) → position (is_at start size) bs ≡ Some i → 0 < b.size → set bs i b ≡ put_block start size (answered_block b.start b.size) bs
put_written start size i b bs e h =
    let p = place start size i (answered_block b.start b.size) bs e in
    sym (take-append-drop i (set bs i b)) ∙ (ap (λ xs. xs ++ drop i (set bs i b)) (take-set bs i b)
    ∙ (ap (λ xs. take i bs ++ xs) (drop-set bs i b p.inside) ∙ (ap (λ xs. take i bs ++ (xs ++ drop (i + 1) bs)) (sym (answered_some b (eqb b.size 0) h refl)) ∙ sym p.is)))

pub put_removed : (start size i : ℕ) (b : Block) (bs : List Block) → position (is_at start size) bs ≡ Some i → b.size ≤ 0 → take i bs ++ drop (i + 1) bs ≡ put_block start size (answered_block b.start b.size) bs
put_removed start size i b bs e h =
    let p = place start size i (answered_block b.start b.size) bs e in
    ap (λ xs. take i bs ++ (xs ++ drop (i + 1) bs)) (sym (answered_none b (eqb b.size 0) h refl)) ∙ sym p.is
