-- Texts and lists in blocks of their own, in two words.
use Rattle.std.proofs.Common.{◌≡◌, ◌∙◌, ◌∷◌, Err, List, Ok, Result, [], ap, false, length, refl, subst, sym, true, ℕ}
use Rattle.canon_context.proofs.Moves.{GuestLaws}
use Rattle.canon_context.specs.Core.{Parts, encoding_by, stage_of}
use Rattle.canon_context.specs.Quiet.{has_block}
use Rattle.canon_context.specs.declared.fault.Fault.{Fault}
use Rattle.canon_resources.specs.Parts.{Part}
use Rattle.canon_lower_parts.proofs.Attempts.{ends_early, lower_not_false}
use Rattle.canon_lower_parts.specs.Places.{TypedPlaces, block_words, without_value}
use Rattle.canon_lower_parts.specs.Words.{TypedLowers}
use Rattle.canon_lower_parts.specs.declared.blocks.Placed.{Placed}
use Rattle.canon_lowering.proofs.AimedWords.{words_moved}
use Rattle.canon_lowering.proofs.Attempts.{attempt_other}
use Rattle.canon_lowering.specs.Attempt.{value_words}
use Rattle.canon_model.specs.Homes.{host_texts}
use Rattle.canon_model.specs.Fits.{Fits}
use Rattle.canon_model.specs.Flat.{SameWords}
use Rattle.canon_model.specs.Layout.{flat}
use Rattle.canon_model.specs.Shape.{ListKind, Shape, list, string}
use Rattle.canon_model.specs.Tree.{Tree}

pub text_flat : flat string ≡ 2
unfolding flat
text_flat = refl

pub lower_list_words : (z s : Shape) (k : ListKind) → z ≡ list k s → flat z ≡ 2
unfolding flat
lower_list_words z s k e = ap flat e

-- no more is asked of a list's tree
pub rows_fit : (z s : Shape) (k : ListKind) → z ≡ list k s → (Has : Tree → Type 0) (t : Tree) → Has t → Fits z t
rows_fit z s k e Has t has = subst (λ (x : Shape). Fits x t) (sym e) tt

module _ {D G : Type 0} (L : GuestLaws G) (options : ℕ) (a b : Parts D G) (s : Shape) (Has : Tree → Type 0) (gs : List (List Part)) (block : has_block s ≡ true) where
  -- the two words stand there
  placed_lowers : (x : Placed) (ws : List ℕ) → flat s ≡ 2 → ((t : Tree) → Has t → Fits s t) → SameWords (x.pointer ∷ x.length ∷ []) 0 ws 0 2 → TypedPlaces L.seen L.moves options a b s Has gs (Ok x)
      → TypedLowers L.seen L.moves options a b s ws 0 Has gs (Ok tt)
  placed_lowers x ws two fits there h = record {
    handles = h.placed.handles;
    ending = h.placed.ending;
    ends = h.placed.ends;
    attempt = words_moved false (stage_of L.seen L.moves a) (stage_of L.seen L.moves b) (host_texts (encoding_by a options)) s (x.pointer ∷ x.length ∷ []) ws 0 0 Has h.placed.ending fits
        (subst (λ (n : ℕ). SameWords (x.pointer ∷ x.length ∷ []) 0 ws 0 n) (sym two) there) h.placed.attempt;
    passed = h.placed.passed;
    same = h.placed.same;
    quiet = λ none. absurd (lower_not_false (sym block ∙ none));
    cause = tt;
    small = h.placed.small;
  }

  -- or it isn't placed
  placed_refused : (e : Fault) (ws : List ℕ) → TypedPlaces L.seen L.moves options a b s Has gs (Err e) → TypedLowers L.seen L.moves options a b s ws 0 Has gs (Err e)
  placed_refused e ws h = record {
    handles = h.placed.handles;
    ending = h.placed.ending;
    ends = h.placed.ends;
    attempt = attempt_other false (stage_of L.seen L.moves a) (stage_of L.seen L.moves b) [] _ (value_words false (host_texts (encoding_by a options)) s ws 0 Has) h.placed.ending
        (ends_early gs e h.placed.ending h.placed.ends) (λ t has. (has, refl)) h.placed.attempt;
    passed = h.placed.passed;
    same = h.placed.same;
    quiet = λ none. absurd (lower_not_false (sym block ∙ none));
    cause = h.placed.cause;
    small = tt;
  }

  pub placed_done : (r : Result Placed Fault) (q : Result (Unit {0}) Fault) (ws : List ℕ) → flat s ≡ 2 → ((t : Tree) → Has t → Fits s t) → q ≡ without_value r → SameWords (block_words r) 0 ws 0 (length (block_words r))
      → TypedPlaces L.seen L.moves options a b s Has gs r → TypedLowers L.seen L.moves options a b s ws 0 Has gs q
  placed_done (Ok x) q ws two fits e there h = subst (λ (z : Result (Unit {0}) Fault). TypedLowers L.seen L.moves options a b s ws 0 Has gs z) (sym e) (placed_lowers x ws two fits there h)
  placed_done (Err f) q ws two fits e there h = subst (λ (z : Result (Unit {0}) Fault). TypedLowers L.seen L.moves options a b s ws 0 Has gs z) (sym e) (placed_refused f ws h)
