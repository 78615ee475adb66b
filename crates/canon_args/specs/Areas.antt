-- What holds of a reading of a Rust type holds of the reading of what is passed, in a row or by a pointer.
use Rattle.std.proofs.Common.{Bool, List, eq-eqb, false, subst, sym, true, ℕ, ◌≡◌}
use Rattle.std.proofs.lemmas.Bool.{and_from, cond-true, le-leb}
use Rattle.canon_resources.specs.Parts.{LeavesTake, Part}
use Rattle.canon_reading.specs.Reading.{AreTaken, Reading, Setting}
use Rattle.canon_reading.specs.Scopes.{AllKeep, all_if, none_kept}
use Rattle.canon_reading.specs.Spots.{Spot}
use Rattle.canon_model.specs.Shape.{Shape}
use Rattle.canon_args.specs.Returned.{IsGoodArea, area_in, area_reading, is_good_area, reading_by}

pub good_area : (w : Setting) (at : Spot) (s : Shape) → IsGoodArea w at s → is_good_area w at s ≡ true
good_area w at s (aligned, inside) = and_from _ _ (le-leb _ _ inside) (eq-eqb _ _ aligned)

module _ {A : Type 0} (R : Reading A) where
  -- its handles are taken by their steps
  area_taken : AreTaken R → AreTaken (area_reading R)
  area_taken law w at s before after v (good, read) =
      subst (λ (steps : List (List Part)). (hs : List ℕ) × LeavesTake before steps hs after) (sym (cond-true _ _ _ (good_area w at s good))) (law w (area_in w at) s before after v read)

  pub passed_taken : AreTaken R → (b : Bool) → AreTaken (reading_by b R)
  passed_taken law true = law
  passed_taken law false = area_taken law

  -- they leave the scopes as they are
  pub passed_kept : (w : Setting) (s : Shape) → ((at : Spot) → AllKeep (R.steps w at s)) → (b : Bool) (at : Spot) → AllKeep ((reading_by b R).steps w at s)
  passed_kept w s law true at = law at
  passed_kept w s law false at = all_if _ _ _ (law (area_in w at)) none_kept
