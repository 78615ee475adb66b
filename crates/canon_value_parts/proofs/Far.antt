-- Parameters that are lowered into a block.
use Rattle.canon_memory.specs.Guest.{Moment}
use Rattle.canon_value_parts.specs.Fails.{MemberFails}
use Rattle.canon_value_parts.proofs.Lookups.{tuple_names}
use Rattle.canon_lowering.specs.Attempt.{StoresMembers, args_call}
use Rattle.canon_lowering.specs.Lowering.{CauseOf, Answer, Trap, refused}
use Rattle.canon_lowering.proofs.Lowerings.{none_answered}
use Rattle.std.proofs.Common.{◌≡◌, ◌<◌, ◌∙◌, Err, List, None, Option, Result, [], ◌∷◌, ap, false, length, subst, sym, ℕ, Ok}
use Rattle.std.specs.Prelude.{IfErr}
use Rattle.canon_lowering.proofs.Parameters.{args_far, far_first, far_only}
use Rattle.canon_model.specs.Homes.{host_texts}
use Rattle.canon_model.specs.Flat.{max_params}
use Rattle.canon_model.specs.Layout.{members_flat}
use Rattle.canon_model.specs.Shape.{Members, member_count}
use Rattle.canon_model.specs.Text.{Encoding}
use Rattle.canon_types.specs.Table.{TypeTable, tuple_members}
use Rattle.canon_passing.specs.Args.{LowersParams}
use Rattle.canon_context.specs.Core.{Parts, component_types, encoding_by, moment_of, stage_of}
use Rattle.canon_context.specs.Lowers.{ending_of, fault_ending}
use Rattle.canon_context.specs.Asks.{AsksFor, SameButHandles}
use Rattle.canon_passing.proofs.Passing.{handles_then, passes_from, same_handles}
use Rattle.canon_passing.specs.Passed.{PartsLower}
use Rattle.canon_value_parts.specs.Resources.{all_passes}
use Rattle.canon_value_parts.specs.Stores.{FieldsCount, PartsStoreTo, PlacesCounted}
use Rattle.canon_model.specs.Tree.{Trees}
use Rattle.canon_val.specs.Value.{HaveTrees, no_names, all_places}
use Rattle.canon_context.specs.declared.fault.Fault.{Fault}
use Rattle.canon_val.specs.declared.val.Val.{Val}
use Rattle.canon_context.proofs.Moves.{GuestLaws}
use Rattle.canon_context.proofs.Cores.{same_encoding, same_types}
use Rattle.canon_value_parts.proofs.StoreSteps.{MemberNamed, value_count_members}

-- where a refusal is for the value alone, no request trapped
no_trap : (a b : Moment) (answers : List Answer) (trap : Option Trap) (r : Result ℕ Fault) → IfErr r (λ e. fault_ending e ≡ refused) → CauseOf a b answers trap (ending_of r) → trap ≡ None
no_trap a b answers trap (Ok n) h cause = cause
no_trap a b answers trap (Err e) h cause = subst (λ end. CauseOf a b answers trap end) h cause

module _ {T G : Type 0} (L : GuestLaws G) (options : ℕ) (a b c : Parts T G) (j : ℕ) (vs : List Val) (p : ℕ) (far : max_params < members_flat (tuple_members (component_types a) j))
    (count : length vs ≡ member_count (tuple_members (component_types a) j))
    (g : AsksFor L.seen L.moves a b (args_call false (tuple_members (component_types a) j)) (Ok p)) (r : Result ℕ Fault)
    (h : PartsStoreTo L.seen L.moves options b c 0 (tuple_members (component_types b) j) 0 p (no_names vs) vs 0 r) where
  abbrev ms : Members
  ms = tuple_members (component_types a) j

  -- what the storing of the members left, said of the table of the start
  stood : PartsStoreTo L.seen L.moves options b c 0 ms 0 p (no_names vs) vs 0 r
  stood = subst (λ (x : TypeTable). PartsStoreTo L.seen L.moves options b c 0 (tuple_members x j) 0 p (no_names vs) vs 0 r) (same_types a b g.same) h

  storing : StoresMembers false (stage_of L.seen L.moves b) (stage_of L.seen L.moves c) (host_texts (encoding_by a options)) ms 0 p (MemberNamed ms (no_names vs) vs) stood.handles (ending_of r)
  storing = subst (λ (x : Encoding). StoresMembers false (stage_of L.seen L.moves b) (stage_of L.seen L.moves c) (host_texts x) ms 0 p (MemberNamed ms (no_names vs) vs) stood.handles (ending_of r))
      (same_encoding a b options g.same) stood.storing

  from : (ts : Trees) → HaveTrees ms vs ts → MemberNamed ms (no_names vs) vs ts
  from ts have = (tuple_names (component_types a) j vs count, have)

  -- the block is given, and the members are stored there
  lowered : LowersParams (stage_of L.seen L.moves a) (stage_of L.seen L.moves c) (encoding_by a options) ms (HaveTrees ms vs) (p ∷ []) stood.handles (ending_of r)
  lowered = record {
    lowered = args_far false (host_texts (encoding_by a options)) ms (MemberNamed ms (no_names vs) vs) (HaveTrees ms vs) (λ ts have. have.1) from (stage_of L.seen L.moves a)
        (stage_of L.seen L.moves b) (stage_of L.seen L.moves c) p (ending_of r) far g.small g.does storing;
    asks = λ many. (
      far_first false (host_texts (encoding_by a options)) ms (MemberNamed ms (no_names vs) vs) (HaveTrees ms vs) (λ ts have. have.1) from (stage_of L.seen L.moves a) (stage_of L.seen L.moves b)
          (stage_of L.seen L.moves c) p (ending_of r) far g.small g.does storing,
      λ quiet. far_only false (host_texts (encoding_by a options)) ms (MemberNamed ms (no_names vs) vs) (HaveTrees ms vs) (λ ts have. have.1) from (stage_of L.seen L.moves a)
          (stage_of L.seen L.moves b) (stage_of L.seen L.moves c) p (ending_of r) far g.small g.does storing
          (none_answered (L.seen b.guest).marks storing.answers (ap (λ (x : G). (L.seen x).marks) (sym (stood.quiet quiet).0) ∙ storing.lowering.goes.marks))
          (no_trap (moment_of L.seen b) (moment_of L.seen c) storing.answers storing.trap r (stood.quiet quiet).1 storing.lowering.cause),
    );
  }

  pub far_lowered : PartsLower a c (all_passes ms vs) (λ hs. LowersParams (stage_of L.seen L.moves a) (stage_of L.seen L.moves c) (encoding_by a options) ms (HaveTrees ms vs) (p ∷ []) hs (ending_of r)) r
  far_lowered = record { handles = stood.handles; lowered = lowered; passed = passes_from a b c.ledger (all_passes ms vs) stood.handles r g.same stood.handed }

  pub far_same : SameButHandles a c
  far_same = handles_then a b c (same_handles a b g.same) stood.same

  pub far_counted : PlacesCounted (encoding_by a options) (λ how k. MemberFails how ms vs k) 0 (all_places vs) r
  far_counted = value_count_members (encoding_by a options) 0 ms (no_names vs) vs 0 r (tuple_names (component_types a) j vs count)
      (subst (λ (x : Encoding). FieldsCount x 0 ms (no_names vs) vs 0 r) (same_encoding a b options g.same) stood.counted)
