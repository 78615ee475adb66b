use Rattle.std.proofs.Common.{◌≡◌, ◌≤◌, ◌<◌, ◌+◌, ◌/◌, ◌^◌, ◌∙◌, ◌++◌, ◌∷◌, List, String, [], ap, arith, get_or, length, refl, rules, string_bytes, subst, sym, ℕ, ⊎_elim}
use Rattle.std.specs.declared.alloc.Global.{Global}
use Rattle.std.proofs.lemmas.Bool.{cases_lt}
use Rattle.std.proofs.lemmas.List.{get_or-map, length-map, map-append}
use Rattle.canon_model.specs.Shape.{Name}
use Rattle.canon_types.specs.Keeps.{names_of}
use Rattle.canon_value_parts.specs.Flags.{digit_of, flag_names, width_of}
use Rattle.canon_value_parts.proofs.FlagNames.{flags_are, names_are, names_differ}
use Rattle.canon_value_parts.proofs.FlagReading.{IsReading, flags_end, flags_unpaid, read_set, read_unpaid, read_unset, room_of}
use Rattle.canon_value_parts.proofs.flags.flags_of.Goals as goal
use Rattle.canon_value_parts.proofs.flags.flags_of.Goals.{After-as_slice-names, After-is_set, then-is_set+in_ok-charge+in_ok-name+in_ok-keep, else-is_set}

-- the names, as they are read
names_read : (c : After-as_slice-names) → flag_names c.args.types.now c.args.i ≡ names_of c.as_slice-names.result.now
names_read c = names_are c.args.types.now c.args.i c.flags.result.now c.flags.ensures.entry ∙ ap (λ (ns : List (String Global)). names_of ns) (sym c.as_slice-names.ensures.keys)

inside : (c : After-is_set) → c.loop-k.k < length (names_of c.as_slice-names.result.now)
inside c = simp length-map (omega arith)

name_at : (xs : List (String Global)) (k : ℕ) (s : String Global) → k < length xs → s ≡ get_or xs k s → get_or (names_of xs) k [] ≡ string_bytes s
name_at xs k s l e = get_or-map (λ (x : String Global). string_bytes x) xs k s [] l ∙ ap (λ (x : String Global). string_bytes x) (sym e)

kept_name : (xs ys : List (String Global)) (s : String Global) (name : Name) → ys ≡ xs ++ s ∷ [] → string_bytes s ≡ name → names_of ys ≡ names_of xs ++ name ∷ []
kept_name xs ys s name e is = ap (λ (zs : List (String Global)). names_of zs) e ∙ (map-append (λ (x : String Global). string_bytes x) xs (s ∷ []) ∙ ap (λ (n : Name). names_of xs ++ n ∷ []) is)

pub returns-in_err-charge-clause-err : goal.returns-in_err-charge-clause-err
returns-in_err-charge-clause-err c =
    let at = goal.at.returns-in_err-charge-clause-err c in
    let xs = c.as_slice-names.result.now in
    let ns = names_of xs in
    let ms = c.args.marks.now in
    let same = names_read at.After-as_slice-names in
    let l = inside at.After-is_set in
    let name = c.index-names-k.result in
    let is = name_at xs c.loop-k.k name c.loop-k-test.true c.index-names-k.is in
    let low = read_unpaid ms ns c.loop-k.k c.args.fuel.now c.loop-k.fuel (names_of c.loop-k.set.items) c.loop-k.invariant.reading l (room_of ms _ ns same c.args.fuel.now c.requires.room) c.loop-k.invariant.below (string_bytes name) is
    (sym c.if-is_set.true ∙ c.is_set.ensures.bit) (omega (arith, c.in_err-charge.ensures, c.len.ensures)) in
    flags_unpaid ms _ ns same c.args.fuel.now _ c.from_residual.result c.in_err-charge.field-0.0 (flags_are c.args.types.now c.args.i c.flags.result.now c.flags.ensures.entry) c.from_residual.ensures c.in_err-charge.ensures.0 low

pub loop-k-preserved : goal.loop-k-preserved
loop-k-preserved c =
    let at = goal.at.loop-k-preserved c in
    let xs = c.as_slice-names.result.now in
    let ns = names_of xs in
    let ms = c.args.marks.now in
    let k = c.loop-k.k in
    let same = names_read at.After-as_slice-names in
    let l = inside at.After-is_set in
    let room = room_of ms _ ns same c.args.fuel.now c.requires.room in
    let before = names_of c.loop-k.set.items in
    record {
      reading = elim c.if-is_set.branch as (λ _. IsReading ms ns (k + 1) c.args.fuel.now c.if-is_set.fuel (names_of c.if-is_set.set.items)) [
        | then-is_set+in_ok-charge+in_ok-name+in_ok-keep w ↦
            let name = w.index-names-k.result in
            let is = name_at xs k name c.loop-k-test.true w.index-names-k.is in
            let again = name_at xs k w.index-names-k-then-is_set.result c.loop-k-test.true w.index-names-k-then-is_set.is in
            let copied : string_bytes w.in_ok-name.name ≡ string_bytes w.index-names-k-then-is_set.result = search rules in
            let paid : c.loop-k.fuel ≡ w.charge.new.fuel + length (string_bytes name) = omega (arith, w.in_ok-charge.ensures, w.len.ensures) in
            let kept : names_of w.keep.new.items.items ≡ before ++ string_bytes name ∷ [] = kept_name c.loop-k.set.items w.keep.new.items.items w.in_ok-name.name (string_bytes name) w.in_ok-keep.ensures.ok (copied ∙ (sym again ∙ is)) in
            rw (w.fuel-is, w.set-is, kept) (read_set ms ns k c.args.fuel.now c.loop-k.fuel before c.loop-k.invariant.reading l room c.loop-k.invariant.below (string_bytes name) is
            (sym w.if-is_set.true ∙ c.is_set.ensures.bit) w.charge.new.fuel paid)
        | else-is_set w ↦
            rw (w.fuel-is, w.set-is) (read_unset ms ns k c.args.fuel.now c.loop-k.fuel before c.loop-k.invariant.reading l room c.loop-k.invariant.below (get_or ns k []) refl (sym w.if-is_set.false ∙ c.is_set.ensures.bit))
      ];
      below = λ j u. ⊎_elim (λ (old : j < k). c.loop-k.invariant.below j old)
          (λ (new : k ≤ j). subst (λ (i : ℕ). digit_of ms (i / width_of ms) < 2 ^ width_of ms) (let e : k ≡ j = omega (arith, new, u) in e) c.is_set.ensures.below) (cases_lt j k);
    }

pub returns-clause-ok : goal.returns-clause-ok
returns-clause-ok c =
    let at = goal.at.returns-clause-ok c in
    let ns = names_of c.as_slice-names.result.now in
    let same = names_read at.After-as_slice-names in
    let all : c.loop-k.k ≡ length ns = simp length-map (omega arith) in
    let t = c.args.types.now in
    let f = c.flags.result.now in
    let is = c.flags.ensures.entry in
    flags_end c.args.marks.now _ ns same c.args.fuel.now _ c.loop-k.k c.loop-k.fuel c.loop-k.set (flags_are t c.args.i f is) (names_differ t c.args.i f is c.flags.ensures.names) all c.loop-k.invariant.reading
