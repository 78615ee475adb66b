use Rattle.std.proofs.Common.{Some, ap, sym, ◌∙◌}
use Rattle.canon_types.specs.Keeps.{definition_of}
use Rattle.canon_types.specs.Refusal.{refusal}
use Rattle.canon_types.proofs.Growth.{funcs-push, kept-push}
use Rattle.canon_types.proofs.Made.{caused}
use Rattle.canon_types.proofs.Measured.{entry_measured, full_refused, room_accepted}
use Rattle.canon_types.proofs.table.ComponentTypes.enter.Goals as goal

pub returns-in_err-check_room-clause-cause : goal.returns-in_err-check_room-clause-cause
returns-in_err-check_room-clause-cause c =
    let d = definition_of c.args.entry.item in
    caused c.from_residual.result c.in_err-check_room.field-0.0 (refusal c.args.self.now d) c.from_residual.ensures
    (λ _. full_refused c.args.self.now d c.requires.measured.fits c.in_err-check_room.ensures.cause.1 ∙ ap Some (sym c.in_err-check_room.ensures.cause.0))

pub invariant_of-self-2 : goal.invariant_of-self-2
invariant_of-self-2 c = record {
  plain = c.self.invariant.plain;
  entries = kept-push c.self.inside c.args.self.now c.push.new.self.items c.args.entry c.self.view_is c.in_ok-push.ensures.items c.self.invariant.entries (entry_measured c.args.self.now c.args.entry c.requires.measured c.requires.layout);
  funcs = funcs-push c.self.inside c.push.new.self.items c.args.entry c.in_ok-push.ensures.items c.self.invariant.funcs;
  instances = c.self.invariant.instances;
}

pub returns-clause-fits : goal.returns-clause-fits
returns-clause-fits c = room_accepted c.args.self.now (definition_of c.args.entry.item) c.requires.measured.fits c.in_ok-check_room.ensures.fits
