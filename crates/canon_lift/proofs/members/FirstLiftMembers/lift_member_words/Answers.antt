use Rattle.std.proofs.Common.{rules, ◌≡◌, ◌≤◌, ◌<◌, ◌+◌, ◌^◌, ◌∙◌, Err, Ok, [], ap, arith, drop, length, refl, subst, sym}
use Rattle.canon_context.specs.Core.{Parts, component_types}
use Rattle.canon_model.specs.Layout.{flat, members_flat}
use Rattle.canon_types.specs.Table as table
use Rattle.canon_types.specs.Table.{HasTuple, members_of, shape_of}
use Rattle.canon_typed.specs.Types.{AreOf}
use Rattle.canon_reading.specs.Spots.{flat_from, flat_in}
use Rattle.canon_lift.proofs.MemberLifting.{IsMember, IsNextMember, first_refused, members_from, next, rest_lifts}
use Rattle.canon_lift.proofs.Stays.{only_ledger}
use Rattle.canon_lift_parts.proofs.WordRooms.{member_words}
use Rattle.canon_lift.proofs.members.FirstLiftMembers.lift_member_words.Given.{Over}
use Rattle.canon_lift.proofs.members.FirstLiftMembers.lift_member_words.Goals.{After-flat_words, After-index}
use Rattle.canon_lift.proofs.members.FirstLiftMembers.lift_member_words.Goals as goal

-- the type of member k, and its words
module _ (g : Over) (c : After-index g) where
  next_there : IsNextMember c.args.cx.now.core.now c.args.i c.args.k g.A.ComponentType.fits g.R.LiftMembers.all c.index.result.now
  next_there =
      next c.args.cx.now.core.now c.args.i c.args.k g.A.ComponentType.fits g.R.LiftMembers.all c.types.result.now c.tuple.result.now.types.items c.index.result.now
      c.types.ensures c.tuple.ensures.types c.index.ensures c.requires.fits

  room : c.args.at + flat (shape_of (component_types c.args.cx.now.core.now) c.index.result.now) + members_flat (members_from c.args.i (c.args.k + 1) c.args.cx.now.core.now)
      ≤ length c.args.src.now
  room =
      let t = component_types c.args.cx.now.core.now in
      member_words (members_from c.args.i c.args.k c.args.cx.now.core.now) [] (shape_of t c.index.result.now) (members_from c.args.i (c.args.k + 1) c.args.cx.now.core.now)
      c.args.at (length c.args.src.now) (ap (members_of t) next_there.split) c.requires.words

module _ (g : Over) (c : After-flat_words g) where
  words : c.flat_words.result ≡ flat (shape_of (component_types c.args.cx.now.core.now) c.index.result.now)
  words = c.flat_words.ensures ∙ ap (λ t. flat (shape_of t c.index.result.now)) c.types-2.ensures

  -- where it stands, and those behind it
  here : IsNextMember c.args.cx.now.core.now c.args.i c.args.k g.A.ComponentType.fits g.R.LiftMembers.all c.index.result.now
      → IsMember c.args.cx.now.core.now c.args.i c.args.k (shape_of (component_types c.args.cx.now.core.now) c.index.result.now) (flat_from c.args.src.now c.args.at)
      (flat_from c.args.src.now (c.args.at + c.flat_words.result)) (flat_in c.args.src.now c.args.at)
  here n = record {
    are = ap (members_of (component_types c.args.cx.now.core.now)) n.split;
    place = refl;
    behind = ap (λ j. flat_from c.args.src.now (c.args.at + j)) words;
  }

pub flat_words-requires-clause-few : goal.flat_words-requires-clause-few
flat_words-requires-clause-few g c =
    let all : length c.args.src.now < 2 ^ 64 = search rules in
    subst (λ t. flat (shape_of t c.index.result.now) < 2 ^ 64) (sym c.types-2.ensures) (omega (arith, room g (goal.at.flat_words-requires-clause-few g c).After-index, all))

pub overflow_add-next : goal.overflow_add-next
overflow_add-next g c =
    let at = goal.at.overflow_add-next g c in
    let all : length c.args.src.now < 2 ^ 64 = search rules in
    record { fits = omega (arith, room g at.After-index, words g at.After-flat_words, all) }

pub lift_words-requires-clause-words : goal.lift_words-requires-clause-words
lift_words-requires-clause-words g c = omega (arith, room g (goal.at.lift_words-requires-clause-words g c).After-index)

pub lift_member_words-requires-clause-words : goal.lift_member_words-requires-clause-words
lift_member_words-requires-clause-words g c =
    let at = goal.at.lift_member_words-requires-clause-words g c in
    let next = c.args.at + c.flat_words.result in
    let there : next + members_flat (members_from c.args.i (c.args.k + 1) c.args.cx.now.core.now) ≤ length c.args.src.now =
    omega (arith, room g at.After-index, words g at.After-flat_words) in
    subst (λ (z : Parts g.row.U.Denot g.row.G.Denot). next + members_flat (members_from c.args.i (c.args.k + 1) z) ≤ length c.args.src.now) (sym c.in-Ok.ensures.same_core) there

pub lift_words-requires-clause-fits : goal.lift_words-requires-clause-fits
lift_words-requires-clause-fits g c = (next_there g (goal.at.lift_words-requires-clause-fits g c).After-index).first

pub lift_member_words-requires-clause-tuple : goal.lift_member_words-requires-clause-tuple
lift_member_words-requires-clause-tuple g c = subst (λ (z : Parts g.row.U.Denot g.row.G.Denot). HasTuple (component_types z) c.args.i) (sym c.in-Ok.ensures.same_core) c.requires.tuple

pub lift_member_words-requires-clause-fits : goal.lift_member_words-requires-clause-fits
lift_member_words-requires-clause-fits g c =
    subst (λ (z : Parts g.row.U.Denot g.row.G.Denot). AreOf g.R.LiftMembers.all z.component.types (drop (c.args.k + 1) (table.types_of (component_types z) c.args.i)))
    (sym c.in-Ok.ensures.same_core) (next_there g (goal.at.lift_member_words-requires-clause-fits g c).After-index).others

pub returns-in-Err : goal.returns-in-Err
returns-in-Err g c =
    let cx = c.args.cx.now in
    let mid = c.lift_words.new.cx in
    let h = here g (goal.at.returns-in-Err g c).After-flat_words (next_there g (goal.at.returns-in-Err g c).After-index) in
    record {
      lifts = first_refused g.A.Lift.reading g.R.LiftMembers.rest cx.core.now cx.options c.args.i c.args.k h cx.fuel c.in-Err.fault mid.core.now.ledger mid.fuel c.in-Err.ensures.lifts;
      same_core = c.in-Err.ensures.same_core;
      same_reference = c.in-Err.ensures.same_reference;
      same_options = c.in-Err.ensures.same_options;
    }

pub returns-in-Err-lift_member_words : goal.returns-in-Err-lift_member_words
returns-in-Err-lift_member_words g c =
    let cx = c.args.cx.now in
    let mid = c.lift_words.new.cx in
    let after = c.lift_member_words.new.cx in
    let h = here g (goal.at.returns-in-Err-lift_member_words g c).After-flat_words (next_there g (goal.at.returns-in-Err-lift_member_words g c).After-index) in
    record {
      lifts = rest_lifts g.A.Lift.reading g.R.LiftMembers.rest cx.core.now cx.options c.args.i c.args.k h cx.fuel g.met.A.Lift.taken
          mid.core.now c.in-Ok.ensures.same_core mid.options c.in-Ok.ensures.same_options after.core.now.ledger mid.fuel after.fuel
          c.in-Ok.first c.in-Ok.ensures.lifts (Err c.in-Err-lift_member_words.fault) c.in-Err-lift_member_words.ensures.lifts;
      same_core = only_ledger cx.core.now mid.core.now after.core.now c.in-Ok.ensures.same_core c.in-Err-lift_member_words.ensures.same_core;
      same_reference = c.in-Err-lift_member_words.ensures.same_reference ∙ c.in-Ok.ensures.same_reference;
      same_options = c.in-Err-lift_member_words.ensures.same_options ∙ c.in-Ok.ensures.same_options;
    }

pub returns-in-Ok-lift_member_words : goal.returns-in-Ok-lift_member_words
returns-in-Ok-lift_member_words g c =
    let cx = c.args.cx.now in
    let mid = c.lift_words.new.cx in
    let after = c.lift_member_words.new.cx in
    let h = here g (goal.at.returns-in-Ok-lift_member_words g c).After-flat_words (next_there g (goal.at.returns-in-Ok-lift_member_words g c).After-index) in
    record {
      lifts = rest_lifts g.A.Lift.reading g.R.LiftMembers.rest cx.core.now cx.options c.args.i c.args.k h cx.fuel g.met.A.Lift.taken
          mid.core.now c.in-Ok.ensures.same_core mid.options c.in-Ok.ensures.same_options after.core.now.ledger mid.fuel after.fuel
          c.in-Ok.first c.in-Ok.ensures.lifts (Ok c.in-Ok-lift_member_words.rest) c.in-Ok-lift_member_words.ensures.lifts;
      same_core = only_ledger cx.core.now mid.core.now after.core.now c.in-Ok.ensures.same_core c.in-Ok-lift_member_words.ensures.same_core;
      same_reference = c.in-Ok-lift_member_words.ensures.same_reference ∙ c.in-Ok.ensures.same_reference;
      same_options = c.in-Ok-lift_member_words.ensures.same_options ∙ c.in-Ok.ensures.same_options;
    }
