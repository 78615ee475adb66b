-- The marks that a guest added for its answers tell whether these are lawful, and whether they are tidy. Of a guest that is watched
-- the marks are a list that its embedder can read.
use Rattle.std.proofs.Common.{List, [], ap, arith, drop, length, subst, suc, ◌++◌, ◌∙◌, ◌∷◌, ◌≡◌}
use Rattle.std.specs.List.{All}
use Rattle.std.proofs.Math.Seq.{drop-append_seam}
use Rattle.canon_memory.specs.Guest.{Mark}
use Rattle.canon_lowering.specs.Lowering.{AllLawful, AllTidy, Answer, SaysLawful, SaysTidy, marks_of}

pub all_lawful : (xs : List Answer) → All SaysLawful (marks_of xs) → AllLawful xs
all_lawful [] h = tt
all_lawful (x ∷ xs) h = (h 0 x.mark (omega arith), all_lawful xs (λ k d lt. h (suc k) d (omega (arith, lt))))

pub all_tidy : (xs : List Answer) → All SaysTidy (marks_of xs) → AllTidy xs
all_tidy [] h = tt
all_tidy (x ∷ xs) h = (h 0 x.mark (omega arith), all_tidy xs (λ k d lt. h (suc k) d (omega (arith, lt))))

-- the marks before a call, and after it
module _ (before after : List Mark) (xs : List Answer) (added : after ≡ before ++ marks_of xs) where
  new_marks : drop (length before) after ≡ marks_of xs
  new_marks = ap (drop (length before)) added ∙ drop-append_seam before (marks_of xs)

  pub lawful_by_marks : All SaysLawful (drop (length before) after) → AllLawful xs
  lawful_by_marks h = all_lawful xs (subst (λ (ms : List Mark). All SaysLawful ms) new_marks h)

  pub tidy_by_marks : All SaysTidy (drop (length before) after) → AllTidy xs
  tidy_by_marks h = all_tidy xs (subst (λ (ms : List Mark). All SaysTidy ms) new_marks h)
