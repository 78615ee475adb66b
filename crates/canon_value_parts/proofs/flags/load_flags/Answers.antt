use Rattle.std.proofs.Common.{◌≡◌, ◌≤◌, ◌+◌, None, arith, length, refl}
use Rattle.canon_abi.specs.Options.{encoding_of}
use Rattle.canon_lowering.specs.Storing.{narrow}
use Rattle.canon_model.specs.Layout.{flags_size}
use Rattle.canon_value_parts.specs.Flags.{flag_names}
use Rattle.canon_value_parts.proofs.FlagLifting.{flags_blamed, flags_loaded}
use Rattle.canon_value_parts.proofs.FlagNames.{flags_are}
use Rattle.canon_value_parts.proofs.FlagSteps.{size_flags}
use Rattle.canon_value_parts.proofs.flags.load_flags.Goals.{After-flags-flags}
use Rattle.canon_context.proofs.Told.{core_on_err}
use Rattle.canon_context.specs.Told.{IsNoRefusal}
use Rattle.canon_value_parts.proofs.LeavesAt.{flags_leaves}
use Rattle.canon_value_parts.proofs.Lifted.{lifts_nothing, no_refusal}
use Rattle.canon_value_parts.specs.Resources.{resources}
use Rattle.canon_context.specs.Faults.{stop_of}
use Rattle.canon_value_parts.proofs.flags.load_flags.Goals as goal

room : (c : After-flags-flags) → c.args.at + flags_size (length (flag_names c.args.source.now.types.now c.args.i)) ≤ length c.args.source.now.memory.now
room c = omega (arith, c.requires.inside, size_flags _ _ (flags_are c.args.source.now.types.now c.args.i c.flags-flags.result.now c.flags-flags.ensures.entry))

pub flags_of-requires-clause-room : goal.flags_of-requires-clause-room
flags_of-requires-clause-room c = room (goal.at.flags_of-requires-clause-room c).After-flags-flags

pub returns-clause-ok : goal.returns-clause-ok
returns-clause-ok c =
    let s = c.args.source.now in
    flags_loaded (encoding_of s.encoding) (narrow s.memory.now) (flag_names s.types.now c.args.i) c.args.fuel.now _ c.args.at c.flags_of.new.fuel c.flags_of.result
    (flags_are s.types.now c.args.i c.flags-flags.result.now c.flags-flags.ensures.entry)
    (room (goal.at.returns-clause-ok c).After-flags-flags) c.flags_of.ensures.ok

pub returns-clause-err : goal.returns-clause-err
returns-clause-err c =
    let s = c.args.source.now in
    flags_blamed (encoding_of s.encoding) (narrow s.memory.now) (flag_names s.types.now c.args.i) c.args.fuel.now _ c.args.at c.flags_of.result
    (flags_are s.types.now c.args.i c.flags-flags.result.now c.flags-flags.ensures.entry) c.flags_of.ensures.err

pub returns-clause-handles : goal.returns-clause-handles
returns-clause-handles c =
    let s = c.args.source.now in
    λ l. lifts_nothing s.instance.now resources l l _ c.flags_of.result (flags_leaves s.memory.now _ c.args.at (flag_names s.types.now c.args.i) (flags_are s.types.now c.args.i c.flags-flags.result.now c.flags-flags.ensures.entry)) refl
    c.flags_of.ensures.none (core_on_err c.flags_of.result IsNoRefusal (λ e. stop_of e ≡ None) no_refusal c.flags_of.ensures.unrefused)
