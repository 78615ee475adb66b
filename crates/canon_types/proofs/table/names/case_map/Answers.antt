use Rattle.std.proofs.Common.{◌≡◌, ◌<◌, ◌≤◌, [], ◌∷◌, ◌++◌, Some, ap, arith, false, length, map, refl, string_bytes, sym, ◌∙◌}
use Rattle.std.proofs.lemmas.Grind.{common_steps}
use Rattle.std.proofs.lemmas.List.{length-map}
use Rattle.std.specs.String.{string_eq}
use Rattle.std.specs.Vec.Iter.{into_iter_items}
use Rattle.canon_types.specs.Refusal.{has_repeats, names_refusal}
use Rattle.canon_types.proofs.Made.{caused, names_many, names_pass, names_repeat}
use Rattle.canon_types.proofs.Names.{all_next, entry_new, found_entry, next_entry}
use Rattle.canon_types.proofs.table.names.case_map.Goals as goal

pub returns-in_err-check_count-clause-cause : goal.returns-in_err-check_count-clause-cause
returns-in_err-check_count-clause-cause c =
    let ns = map (λ x. string_bytes x.0) c.args.cases.items in
    let many : 1048576 < length ns = omega (arith, length-map c.args.cases.items (λ x. string_bytes x.0), ap length c.as_slice.ensures.value, c.in_err-check_count.ensures.cause.1) in
    caused c.from_residual.result c.in_err-check_count.field-0.0 (names_refusal ns 1048576) c.from_residual.ensures (λ _. names_many ns 1048576 many ∙ ap Some (sym c.in_err-check_count.ensures.cause.0))

pub returns-clause-fits : goal.returns-clause-fits
returns-clause-fits c =
    let ns = map (λ x. string_bytes x.0) c.args.cases.items in
    let few : length ns ≤ 1048576 = omega (arith, length-map c.args.cases.items (λ x. string_bytes x.0), ap length c.as_slice.ensures.value, c.in_ok-check_count.ensures.fits) in
    let apart : has_repeats ns ≡ false = grind (arith, common_steps) in
    names_pass ns 1048576 few apart

pub returns-then-is_some-clause-cause : goal.returns-then-is_some-clause-cause
returns-then-is_some-clause-cause c =
    let ns = map (λ x. string_bytes x.0) c.args.cases.items in
    let few : length ns ≤ 1048576 = omega (arith, length-map c.args.cases.items (λ x. string_bytes x.0), ap length c.as_slice.ensures.value, c.in_ok-check_count.ensures.fits) in
    λ _. names_repeat ns 1048576 few
    (found_entry string_eq (λ n. string_bytes n) (λ a b. refl) c.loop-name.map.entries (into_iter_items c.loop-name.name-iterator) c.in-Some.name c.in-Some.payload (into_iter_items c.next.new.self) _ c.in_ok-insert.field-0 c.in_ok-insert.ensures.old
    (sym c.if-is_some.ensures) c.in-Some.ensures.steps.0 c.loop-name.invariant.rest)

pub loop-name-preserved : goal.loop-name-preserved
loop-name-preserved c =
    let grown : c.insert.new.self.entries ≡ c.loop-name.map.entries ++ (c.in-Some.name, c.in-Some.payload) ∷ [] =
    entry_new string_eq c.loop-name.map.entries c.insert.new.self.entries c.in-Some.name c.in-Some.payload c.in_ok-insert.field-0 c.in_ok-insert.ensures.old (sym c.if-is_some.ensures) c.in_ok-insert.ensures.entries in
    record {
      next = tt;
      ends = tt;
      all = all_next c.loop-name.map.entries (into_iter_items c.loop-name.name-iterator) _ (into_iter_items c.next.new.self) c.insert.new.self.entries _ c.in-Some.ensures.steps.0 grown c.loop-name.invariant.all;
      rest = next_entry string_eq (λ n. string_bytes n) (λ a b. refl) c.loop-name.map.entries (into_iter_items c.loop-name.name-iterator)
          c.in-Some.name c.in-Some.payload (into_iter_items c.next.new.self) c.insert.new.self.entries _ c.in_ok-insert.field-0
          c.in_ok-insert.ensures.old (sym c.if-is_some.ensures) c.in-Some.ensures.steps.0 grown c.loop-name.invariant.rest;
    }
