use Rattle.std.proofs.Common.{◌≡◌, ◌≤◌, ◌+◌, ◌%◌, ◌∙◌, Err, Ok, ap, arith, drop, false, length, subst, sym}
use Rattle.canon_context.specs.Core.{Parts, component_types}
use Rattle.canon_model.specs.Layout.{members_align, members_end}
use Rattle.canon_types.specs.Table as table
use Rattle.canon_types.specs.Table.{HasTuple, members_of, shape_of}
use Rattle.canon_typed.specs.Types.{AreOf}
use Rattle.canon_reading.specs.Spots.{stored, stored_from}
use Rattle.canon_lift.proofs.MemberLifting.{IsMember, IsNextMember, IsPlacedMember, first_refused, members_from, next, lift_placed, rest_lifts}
use Rattle.canon_lift.proofs.Stays.{only_ledger}
use Rattle.canon_lift_parts.proofs.MemberSteps.{lift_next_fits}
use Rattle.canon_lift.proofs.members.FirstLiftMembers.lift_members.Given.{Over}
use Rattle.canon_lift.proofs.members.FirstLiftMembers.lift_members.Goals.{After-index, After-next_field32_size-start}
use Rattle.canon_lift.proofs.members.FirstLiftMembers.lift_members.Goals as goal

-- the type of member k
next_there : (g : Over) (c : After-index g) → IsNextMember c.args.cx.now.core.now c.args.i c.args.k g.A.ComponentType.fits g.R.LiftMembers.all c.index.result.now
next_there g c =
    next c.args.cx.now.core.now c.args.i c.args.k g.A.ComponentType.fits g.R.LiftMembers.all c.types.result.now c.tuple.result.now.types.items c.index.result.now
    c.types.ensures c.tuple.ensures.types c.index.ensures c.requires.fits

-- where it stands, and those behind it
module _ (g : Over) (c : After-next_field32_size-start g) (n : IsNextMember c.args.cx.now.core.now c.args.i c.args.k g.A.ComponentType.fits g.R.LiftMembers.all c.index.result.now) where
  stands : IsPlacedMember (shape_of (component_types c.args.cx.now.core.now) c.index.result.now) (members_from c.args.i (c.args.k + 1) c.args.cx.now.core.now) c.args.cx.now.core.now.memory
      c.args.at c.args.end c.next_field32_size-start.result c.next_field32_size-start.new.offset
  stands =
      let t = component_types c.args.cx.now.core.now in
      let f = c.next_field32_size-start in
      lift_placed t c.types-2.result.now _ _ c.index.result.now n.split c.args.cx.now.core.now.memory c.args.at c.args.end f.result f.new.offset c.canonical_abi.result.now
      c.requires.aligned c.requires.inside c.types-2.ensures c.canonical_abi.ensures f.ensures.start f.ensures.end

  here : IsMember c.args.cx.now.core.now c.args.i c.args.k (shape_of (component_types c.args.cx.now.core.now) c.index.result.now) (stored_from c.args.at c.args.end)
      (stored_from c.args.at c.next_field32_size-start.new.offset) (stored (c.args.at + c.next_field32_size-start.result))
  here = record { are = ap (members_of (component_types c.args.cx.now.core.now)) n.split; place = stands.place; behind = ap (stored_from c.args.at) stands.behind }

pub next_field32_size-start-requires : goal.next_field32_size-start-requires
next_field32_size-start-requires g c =
    let t = component_types c.args.cx.now.core.now in
    let n = next_there g (goal.at.next_field32_size-start-requires g c).After-index in
    record {
      fits = lift_next_fits t _ _ c.index.result.now n.split c.args.at c.args.end c.args.cx.now.core.now.memory c.requires.inside c.requires.aligned
          c.types-2.result.now c.canonical_abi.result.now c.types-2.ensures c.canonical_abi.ensures c.memory-memory.ensures.small;
    }

pub overflow_add-at : goal.overflow_add-at
overflow_add-at g c =
    let at = goal.at.overflow_add-at g c in
    record { fits = omega (arith, c.memory-memory.ensures.small, (stands g at.After-next_field32_size-start (next_there g at.After-index)).inside) }

pub linear_lift_from_memory-requires-clause-aligned : goal.linear_lift_from_memory-requires-clause-aligned
linear_lift_from_memory-requires-clause-aligned g c =
    let at = goal.at.linear_lift_from_memory-requires-clause-aligned g c in
    (stands g at.After-next_field32_size-start (next_there g at.After-index)).aligned

pub linear_lift_from_memory-requires-clause-inside : goal.linear_lift_from_memory-requires-clause-inside
linear_lift_from_memory-requires-clause-inside g c =
    let at = goal.at.linear_lift_from_memory-requires-clause-inside g c in
    (stands g at.After-next_field32_size-start (next_there g at.After-index)).inside

pub lift_members-requires-clause-aligned : goal.lift_members-requires-clause-aligned
lift_members-requires-clause-aligned g c =
    let at = goal.at.lift_members-requires-clause-aligned g c in
    subst (λ (z : Parts g.row.U.Denot g.row.G.Denot). c.args.at % members_align false (members_from c.args.i (c.args.k + 1) z) ≡ 0) (sym c.in-Ok.ensures.same_core)
    (stands g at.After-next_field32_size-start (next_there g at.After-index)).more_aligned

pub lift_members-requires-clause-inside : goal.lift_members-requires-clause-inside
lift_members-requires-clause-inside g c =
    let at = goal.at.lift_members-requires-clause-inside g c in
    subst (λ (z : Parts g.row.U.Denot g.row.G.Denot). c.args.at + members_end false c.next_field32_size-start.new.offset (members_from c.args.i (c.args.k + 1) z) ≤ length z.memory)
    (sym c.in-Ok.ensures.same_core)
    (stands g at.After-next_field32_size-start (next_there g at.After-index)).more_inside

pub linear_lift_from_memory-requires-clause-fits : goal.linear_lift_from_memory-requires-clause-fits
linear_lift_from_memory-requires-clause-fits g c = (next_there g (goal.at.linear_lift_from_memory-requires-clause-fits g c).After-index).first

pub lift_members-requires-clause-tuple : goal.lift_members-requires-clause-tuple
lift_members-requires-clause-tuple g c = subst (λ (z : Parts g.row.U.Denot g.row.G.Denot). HasTuple (component_types z) c.args.i) (sym c.in-Ok.ensures.same_core) c.requires.tuple

pub lift_members-requires-clause-fits : goal.lift_members-requires-clause-fits
lift_members-requires-clause-fits g c =
    subst (λ (z : Parts g.row.U.Denot g.row.G.Denot). AreOf g.R.LiftMembers.all z.component.types (drop (c.args.k + 1) (table.types_of (component_types z) c.args.i)))
    (sym c.in-Ok.ensures.same_core) (next_there g (goal.at.lift_members-requires-clause-fits g c).After-index).others

pub returns-in-Err : goal.returns-in-Err
returns-in-Err g c =
    let cx = c.args.cx.now in
    let mid = c.linear_lift_from_memory.new.cx in
    let h = here g (goal.at.returns-in-Err g c).After-next_field32_size-start (next_there g (goal.at.returns-in-Err g c).After-index) in
    record {
      lifts = first_refused g.A.Lift.reading g.R.LiftMembers.rest cx.core.now cx.options c.args.i c.args.k h cx.fuel c.in-Err.fault mid.core.now.ledger mid.fuel c.in-Err.ensures.lifts;
      same_core = c.in-Err.ensures.same_core;
      same_reference = c.in-Err.ensures.same_reference;
      same_options = c.in-Err.ensures.same_options;
    }

pub returns-in-Err-lift_members : goal.returns-in-Err-lift_members
returns-in-Err-lift_members g c =
    let cx = c.args.cx.now in
    let mid = c.linear_lift_from_memory.new.cx in
    let after = c.lift_members.new.cx in
    let h = here g (goal.at.returns-in-Err-lift_members g c).After-next_field32_size-start (next_there g (goal.at.returns-in-Err-lift_members g c).After-index) in
    record {
      lifts = rest_lifts g.A.Lift.reading g.R.LiftMembers.rest cx.core.now cx.options c.args.i c.args.k h cx.fuel g.met.A.Lift.taken
          mid.core.now c.in-Ok.ensures.same_core mid.options c.in-Ok.ensures.same_options after.core.now.ledger mid.fuel after.fuel
          c.in-Ok.first c.in-Ok.ensures.lifts (Err c.in-Err-lift_members.fault) c.in-Err-lift_members.ensures.lifts;
      same_core = only_ledger cx.core.now mid.core.now after.core.now c.in-Ok.ensures.same_core c.in-Err-lift_members.ensures.same_core;
      same_reference = c.in-Err-lift_members.ensures.same_reference ∙ c.in-Ok.ensures.same_reference;
      same_options = c.in-Err-lift_members.ensures.same_options ∙ c.in-Ok.ensures.same_options;
    }

pub returns-in-Ok-lift_members : goal.returns-in-Ok-lift_members
returns-in-Ok-lift_members g c =
    let cx = c.args.cx.now in
    let mid = c.linear_lift_from_memory.new.cx in
    let after = c.lift_members.new.cx in
    let h = here g (goal.at.returns-in-Ok-lift_members g c).After-next_field32_size-start (next_there g (goal.at.returns-in-Ok-lift_members g c).After-index) in
    record {
      lifts = rest_lifts g.A.Lift.reading g.R.LiftMembers.rest cx.core.now cx.options c.args.i c.args.k h cx.fuel g.met.A.Lift.taken
          mid.core.now c.in-Ok.ensures.same_core mid.options c.in-Ok.ensures.same_options after.core.now.ledger mid.fuel after.fuel
          c.in-Ok.first c.in-Ok.ensures.lifts (Ok c.in-Ok-lift_members.rest) c.in-Ok-lift_members.ensures.lifts;
      same_core = only_ledger cx.core.now mid.core.now after.core.now c.in-Ok.ensures.same_core c.in-Ok-lift_members.ensures.same_core;
      same_reference = c.in-Ok-lift_members.ensures.same_reference ∙ c.in-Ok.ensures.same_reference;
      same_options = c.in-Ok-lift_members.ensures.same_options ∙ c.in-Ok.ensures.same_options;
    }
