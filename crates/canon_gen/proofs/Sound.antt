-- With its call the common script stays one.
use Rattle.std.proofs.Common.{◌≡◌, ◌≤◌, ◌*◌, ℕ, List, [], ◌∷◌, Some, arith, length, subst, sym}
use Rattle.std.proofs.lemmas.List.Elements.{All-cons, All-nil}
use Rattle.canon_abi.specs.declared.options.StringEncoding.{StringEncoding}
use Rattle.canon_script.specs.Script.{IsWellFormed, ItemStands, Play, ScriptItem, call_item, final_memory, max_memory, max_work, times_entered}
use Rattle.canon_gen.proofs.Common.{common_memory, common_posts}
use Rattle.canon_gen.specs.Made.{call_made, common, encoding_made, with_call}

module _ (n : ℕ) (p : Play) (e : common ≡ Some p) where
  abbrev items : List ScriptItem
  items = call_item (call_made n) ∷ []

  pub with_call_sound : IsWellFormed p → IsWellFormed (with_call n p)
  with_call_sound h = record {
    heap_inside = h.heap_inside;
    memory_fits = subst (λ m. final_memory m items ≤ max_memory) (sym (common_memory p e)) (omega arith);
    work_fits = subst (λ m. final_memory m items * 2 * times_entered items ≤ max_work) (sym (common_memory p e)) (omega arith);
    posts_told = h.posts_told;
    posts_few = h.posts_few;
    imports_stand = h.imports_stand;
    answers_stand = h.answers_stand;
    items_stand = All-cons (ItemStands (length p.posts)) (call_item (call_made n)) [] (omega (arith, common_posts p e), tt) (All-nil (ItemStands (length p.posts)));
  }

  -- as the parts are kept
  pub made_sound : (encoding : StringEncoding) (kept : List ScriptItem) → encoding ≡ encoding_made n → kept ≡ items → IsWellFormed p → IsWellFormed (record p { encoding = encoding; items = kept })
  made_sound encoding kept spelled called h =
      subst (λ x. IsWellFormed (record p { encoding = x; items = kept })) (sym spelled)
      (subst (λ x. IsWellFormed (record p { encoding = encoding_made n; items = x })) (sym called) (with_call_sound h))
