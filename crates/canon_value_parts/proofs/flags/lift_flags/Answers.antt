use Rattle.std.proofs.Common.{◌+◌, ◌∙◌, ◌≡◌, None, arith, refl}
use Rattle.canon_abi.specs.Options.{encoding_of}
use Rattle.canon_lowering.specs.Storing.{narrow}
use Rattle.canon_value_parts.specs.Flags.{flag_names}
use Rattle.canon_value_parts.proofs.FlagLifting.{flags_lifted}
use Rattle.canon_value_parts.proofs.FlagNames.{flags_are}
use Rattle.canon_value_parts.proofs.FlagSteps.{flags_words_count, flat_flags}
use Rattle.canon_context.proofs.Told.{core_on_err}
use Rattle.canon_context.specs.Told.{IsNoRefusal}
use Rattle.canon_value_parts.proofs.LeavesAt.{flags_flat_leaves}
use Rattle.canon_value_parts.proofs.Lifted.{lifts_nothing, no_refusal}
use Rattle.canon_value_parts.specs.Resources.{resources}
use Rattle.canon_context.specs.Faults.{stop_of}
use Rattle.canon_value_parts.proofs.flags.lift_flags.Goals as goal

pub flags_of-requires-clause-room : goal.flags_of-requires-clause-room
flags_of-requires-clause-room c = omega (arith, c.requires.room, flat_flags _ _ (flags_are c.args.source.now.types.now c.args.i c.flags.result.now c.flags.ensures.entry))

pub returns-clause-lifts : goal.returns-clause-lifts
returns-clause-lifts c =
    let s = c.args.source.now in
    let words = c.div_ceil.ensures ∙ flags_words_count s.types.now c.args.i c.flags.result.now c.len.result c.flags.ensures.entry c.len.ensures.len in
    flags_lifted (encoding_of s.encoding) (narrow s.memory.now) (flag_names s.types.now c.args.i) c.args.fuel.now _ c.args.src.now c.args.at.now (c.args.at.now + c.div_ceil.result) c.flags_of.new.fuel c.flags_of.result
    (flags_are s.types.now c.args.i c.flags.result.now c.flags.ensures.entry) (omega (arith, words)) c.flags_of.ensures.ok c.flags_of.ensures.err

pub returns-clause-handles : goal.returns-clause-handles
returns-clause-handles c =
    let s = c.args.source.now in
    λ l. lifts_nothing s.instance.now resources l l _ c.flags_of.result
    (flags_flat_leaves (narrow s.memory.now) c.args.src.now c.args.at.now _ (flag_names s.types.now c.args.i) (flags_are s.types.now c.args.i c.flags.result.now c.flags.ensures.entry)) refl
    c.flags_of.ensures.none (core_on_err c.flags_of.result IsNoRefusal (λ e. stop_of e ≡ None) no_refusal c.flags_of.ensures.unrefused)
