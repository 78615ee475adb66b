use Rattle.std.proofs.Common.{◌≡◌, [], ◌∷◌, ◌++◌, false, refl, string_bytes, sym, true, ◌∙◌}
use Rattle.std.specs.List.{list_any}
use Rattle.std.specs.String.{string_eq}
use Rattle.std.specs.Vec.Iter.{into_iter_items}
use Rattle.canon_types.proofs.Names.{all_next, found_next, keys_new, new_next, not_false, not_true}
use Rattle.canon_types.proofs.table.names.name_set.Goals as goal

pub returns-then-not-is_new-clause-cause : goal.returns-then-not-is_new-clause-cause
returns-then-not-is_new-clause-cause c =
    let there : list_any (string_eq c.in-Some.name) c.loop-name.set.keys ≡ true = not_false _ (sym c.in_ok-is_new.ensures.added ∙ c.if-not-is_new.true) in
    λ _. (refl, found_next (λ n. string_bytes n) string_eq (λ a b. refl) c.loop-name.set.keys (into_iter_items c.loop-name.name-iterator) c.in-Some.name (into_iter_items c.next.new.self) _ there c.in-Some.ensures.steps.0 c.loop-name.invariant.rest)

pub loop-name-preserved : goal.loop-name-preserved
loop-name-preserved c =
    let apart : list_any (string_eq c.in-Some.name) c.loop-name.set.keys ≡ false = not_true _ (sym c.in_ok-is_new.ensures.added ∙ c.if-not-is_new.false) in
    let keys : c.insert_full.new.self.keys ≡ c.loop-name.set.keys ++ c.in-Some.name ∷ [] = c.in_ok-is_new.ensures.keys ∙ keys_new string_eq c.loop-name.set.keys c.in-Some.name _ apart in
    record {
      next = tt;
      ends = tt;
      all = all_next c.loop-name.set.keys (into_iter_items c.loop-name.name-iterator) c.in-Some.name (into_iter_items c.next.new.self) c.insert_full.new.self.keys _ c.in-Some.ensures.steps.0 keys c.loop-name.invariant.all;
      rest = new_next (λ n. string_bytes n) string_eq (λ a b. refl) c.loop-name.set.keys (into_iter_items c.loop-name.name-iterator) c.in-Some.name
          (into_iter_items c.next.new.self) c.insert_full.new.self.keys _ apart c.in-Some.ensures.steps.0 keys c.loop-name.invariant.rest;
    }
