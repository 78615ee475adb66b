use Rattle.std.proofs.Common.{List, arith, length, refl, rules, string_bytes, subst, sym, take, ℕ}
use Rattle.canon_model.specs.Layout.{flags_size}
use Rattle.canon_model.specs.Shape.{Name}
use Rattle.canon_types.specs.Keeps.{names_of}
use Rattle.canon_value_parts.specs.Flags.{flag_names}
use Rattle.canon_val.specs.Value.{Occurs}
use Rattle.canon_value_parts.proofs.FlagDigits.{byte_inside}
use Rattle.canon_value_parts.proofs.FlagNames.{marked_all}
use Rattle.canon_value_parts.proofs.FlagWriting.{AreStored, last_name, next_name, next_unknown, stored_begin, stored_more}
use Rattle.canon_image_parts.proofs.write.mark_names.Goals as goal

pub loop-name-init : goal.loop-name-init
loop-name-init c = record {
  stored = stored_begin c.args.memory.now c.args.memory.now c.args.at (flags_size (length (flag_names c.args.types.now c.args.i))) (flag_names c.args.types.now c.args.i) c.requires.room
      (record { same_length = refl; kept = λ i out. refl }) c.requires.zeros;
}

pub returns-in_default : goal.returns-in_default
returns-in_default c =
    let names = flag_names c.args.types.now c.args.i in
    let other : Occurs (string_bytes c.name-item.result) names → ⊥ = search (rules, c.in_default.ensures.none) in
    record { marks = (refl, next_unknown c.args.set.now.items c.deref-name-items.result.now c.deref-name-items.ensures.value c.loop-name.name-index c.name-item.result (omega arith) c.name-item.is names other) }

pub mark_byte-requires : goal.mark_byte-requires
mark_byte-requires c = record { room = omega (arith, byte_inside _ _ c.in-Some.ensures.some.0, c.requires.room, c.loop-name.invariant.stored.writes.same_length) }

pub loop-name-preserved : goal.loop-name-preserved
loop-name-preserved c =
    let a = c.args in
    let names = flag_names a.types.now a.i in
    let size : ℕ = flags_size (length names) in
    let ys = c.deref-name-items.result.now in
    let i = c.loop-name.name-index in
    let (inside, here) = c.in-Some.ensures.some in
    let next = next_name a.set.now.items ys c.deref-name-items.ensures.value i c.name-item.result (omega arith) c.name-item.is in
    record {
      stored = subst (λ (xs : List Name). AreStored a.memory.now c.mark_byte.new.memory a.at size names xs) (sym next)
          (stored_more a.memory.now c.loop-name.memory c.mark_byte.new.memory a.at size names (names_of (take i ys)) c.in-Some.k (string_bytes c.name-item.result) c.requires.room refl c.number_of.ensures.differ c.loop-name.invariant.stored inside here
          c.mark_byte.ensures);
    }

pub returns : goal.returns
returns c =
    let a = c.args in
    let names = flag_names a.types.now a.i in
    let size : ℕ = flags_size (length names) in
    let all = last_name a.set.now.items c.deref-name-items.result.now c.loop-name.name-index c.deref-name-items.ensures.value (omega arith) (omega arith) in
    let h = subst (λ (xs : List Name). AreStored a.memory.now c.loop-name.memory a.at size names xs) all c.loop-name.invariant.stored in
    record { marks = (record { writes = h.writes; below = h.below; marked = marked_all names (names_of a.set.now.items) _ h.marked h.known }, c.saturating_add.ensures) }
