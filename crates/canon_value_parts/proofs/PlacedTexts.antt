-- A text in a block of its own, as a value.
use Rattle.std.proofs.Common.{◌≡◌, ◌+◌, ap, Err, List, Ok, String, [], ◌∷◌, arith, false, refl, string_bytes, subst, sym, ℕ}
use Rattle.std.specs.declared.alloc.Global.{Global}
use Rattle.canon_lowering.proofs.Attempts.{attempt_as}
use Rattle.canon_lowering.specs.Attempt.{LowersValue, value_words}
use Rattle.canon_lowering.specs.Lowering.{Ending, done}
use Rattle.canon_model.specs.Homes.{host_texts}
use Rattle.canon_model.specs.Shape.{string}
use Rattle.canon_model.specs.Text.{Spells, in_utf8}
use Rattle.canon_context.specs.Core.{Parts, encoding_by, stage_of}
use Rattle.canon_context.specs.Lowers.{fault_ending}
use Rattle.canon_context.specs.declared.fault.Fault.{Fault}
use Rattle.canon_string.specs.Texts.{IsTextOf, PutsText}
use Rattle.canon_value_parts.specs.Fails.{Blames, FailsAt}
use Rattle.canon_value_parts.specs.Stores.{PlacesTo}
use Rattle.canon_context.specs.declared.fault.Fault.TheVariants as fault
use Rattle.canon_passing.proofs.Passing.{ledger_unless, passes_none, passes_stopped, same_handles, value_same_ledger}
use Rattle.canon_value_parts.proofs.PassesOf.{text_none}
use Rattle.canon_value_parts.specs.Resources.{passes}
use Rattle.canon_val.specs.Value.{HasTree}
use Rattle.canon_model.specs.Memory.{cap}
use Rattle.canon_val.specs.declared.val.Val.TheVariants as val
use Rattle.canon_context.proofs.Moves.{GuestLaws}
use Rattle.canon_value_parts.proofs.Contents.{places_text, value_same_text}
use Rattle.canon_value_parts.proofs.Sizes.{text_small}
use Rattle.canon_value_parts.proofs.Steps.{blames_unless}

module _ {T G : Type 0} (L : GuestLaws G) (options : ℕ) (a b : Parts T G) (s : String Global) where
  -- a text's trees are its value's
  as_value : (ws : List ℕ) (e : Ending) → LowersValue false (stage_of L.seen L.moves a) (stage_of L.seen L.moves b) (host_texts (encoding_by a options)) string ws 0 (IsTextOf (string_bytes s)) [] e
      → LowersValue false (stage_of L.seen L.moves a) (stage_of L.seen L.moves b) (host_texts (encoding_by a options)) string ws 0 (HasTree string (val.String s)) [] e
  as_value ws e h = attempt_as false (stage_of L.seen L.moves a) (stage_of L.seen L.moves b) [] [] (value_words false (host_texts (encoding_by a options)) string ws 0 (IsTextOf (string_bytes s)))
      (value_words false (host_texts (encoding_by a options)) string ws 0 (HasTree string (val.String s))) e (λ i q. q) (record {
        turn = λ t. t;
        back = λ t. t;
        is = λ t (cs, n, g, is). (cs, n, (s, refl, g), is);
        is_back = λ t (cs, n, (r, es, g), is). (cs, n, subst (λ (x : String Global). Spells in_utf8 (string_bytes x) cs) (sym (value_same_text s r es)) g, is);
        asks = λ t q. refl;
        rep = λ fresh t is q. q;
        home = λ pointer t xs ys is q. q;
        handles = λ t is. refl;
      }) h

  pub text_placed : (place p n next : ℕ) → next ≡ cap (place + 1) → PutsText L.seen L.moves options a b (string_bytes s) (Ok (record { pointer = p; length = n }))
      → PlacesTo L.seen L.moves options a b string (val.String s) place (Ok (record { pointer = p; length = n; next = next }))
  text_placed place p n next counted h = record {
    handles = [];
    lowered = as_value (p ∷ n ∷ []) done h.lowered;
    handed = passes_none a.component.types a.ledger b.ledger (passes (val.String s) string) (value_same_ledger a b h.same) (text_none s);
    narrow = h.narrow;
    counted = (omega (arith, counted, places_text s), text_small (encoding_by a options) s h.fits);
    same = same_handles a b h.same;
  }

  pub text_unplaced : (place : ℕ) (e : Fault) → PutsText L.seen L.moves options a b (string_bytes s) (Err e) → PlacesTo L.seen L.moves options a b string (val.String s) place (Err e)
  text_unplaced place e h = record {
    handles = [];
    lowered = as_value [] (fault_ending e) h.lowered;
    handed = passes_stopped a.component.types a.ledger b.ledger (passes (val.String s) string) e (value_same_ledger a b h.same)
        (ledger_unless e (λ r is. let (still, n, long, many) = h.blames (ap fault_ending is) in let other : e ≡ fault.Resource r = is in cc));
    narrow = tt;
    counted = blames_unless (encoding_by a options) (λ how k. FailsAt how string (val.String s) k) place e (λ is.
        let (still, n, same, long) = h.blames is in
        subst (Blames (encoding_by a options) (λ how k. FailsAt how string (val.String s) k) place) (sym same) (0, (refl, (s, refl, long))));
    same = same_handles a b h.same;
  }
