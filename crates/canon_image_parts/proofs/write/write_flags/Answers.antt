use Rattle.std.proofs.Common.{List, ap, arith, length, refl, rules, subst, sym, ℕ, ◌+◌, ◌≡◌}
use Rattle.canon_model.specs.Layout.{flags_size}
use Rattle.canon_types.specs.Keeps.{names_of}
use Rattle.canon_types.specs.Table.{shape_of}
use Rattle.canon_types.specs.declared.types.InterfaceType.TheVariants as ty
use Rattle.canon_value_parts.specs.Flags.{flag_names}
use Rattle.canon_val.specs.declared.val.Val.TheVariants as val
use Rattle.canon_value_parts.proofs.FlagNames.{flags_are}
use Rattle.canon_value_parts.proofs.FlagSteps.{flags_bytes}
use Rattle.canon_image_parts.proofs.Flagging.{filled, flags_told, whole}
use Rattle.canon_image_parts.specs.Written.{MarksTo, WritesTo, sink}
use Rattle.canon_image_parts.proofs.write.write_flags.Goals as goal
use Rattle.canon_image_parts.proofs.write.write_flags.Goals.{After-resize}

many : (c : After-resize) → c.flags.result.now.abi.size32 ≡ flags_size (length (flag_names c.args.types.now c.args.i))
many c = flags_bytes c.args.types.now c.args.types.now c.args.i c.flags.result.now refl c.flags.ensures.entry c.flags.ensures.abi

pub mark_names-requires-clause-room : goal.mark_names-requires-clause-room
mark_names-requires-clause-room c = omega (arith, many (goal.at.mark_names-requires-clause-room c).After-resize, ap length c.deref_mut.ensures.value, c.in-Ok.ensures.len)

pub returns-in-Ok : goal.returns-in-Ok
returns-in-Ok c =
    let a = c.args in
    let names = flag_names a.types.now a.i in
    let mid = c.resize.new.self.items in
    let value : c.deref_mut.result.now ≡ mid = c.deref_mut.ensures.value in
    let after = c.mark_names.new.memory in
    let old : c.len-at.result ≡ length a.bytes.now.items = search rules in
    let long : length mid ≡ c.len-at.result + flags_size (length names) = omega (arith, many (goal.at.returns-in-Ok c).After-resize, ap length value, c.in-Ok.ensures.len) in
    record {
      writes = λ xs. subst (λ (l : List ℕ). WritesTo (sink a.bytes.now.items xs) (sink l xs) (shape_of a.types.now (ty.Flags a.i)) (val.Flags a.set.now) a.place c.mark_names.result)
          (sym (whole c.resize.new.self.len mid after c.deref_mut.result.now value (search rules) (search rules)))
          (flags_told a.bytes.now.items _ mid after c.len-at.result a.place names a.set.now (shape_of a.types.now (ty.Flags a.i)) c.mark_names.result (flags_are a.types.now a.i c.flags.result.now c.flags.ensures.entry)
          (filled a.bytes.now.items mid (c.len-at.result + c.flags.result.now.abi.size32) _ (omega (arith, old)) c.in-Ok.ensures.items) long old (omega arith)
          (subst (λ (l : List ℕ). MarksTo l after c.len-at.result names (names_of a.set.now.items) a.place c.mark_names.result) value c.mark_names.ensures.marks) xs);
    }
