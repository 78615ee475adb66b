-- An ask of a function of the host over values is as it has to be.
use Rattle.std.proofs.Common.{Err, List, None, Option, Result, Some, [], ap, inl, length, map, refl, subst, sym, ℕ, ⊎_elim, ◌++◌, ◌∙◌, ◌≡◌, ◌≤◌}
use Rattle.std.proofs.lemmas.Bool.{cases_lt}
use Rattle.std.proofs.lemmas.List.{take-append-le}
use Rattle.std.specs.Prelude.{Bool, false, take}
use Rattle.canon_model.specs.Flat.{max_params, max_results}
use Rattle.canon_model.specs.Layout.{members_flat}
use Rattle.canon_model.specs.Shape.{Members}
use Rattle.canon_model.specs.Text.{Encoding}
use Rattle.canon_model.specs.Tree.{Trees}
use Rattle.canon_model.proofs.Faults.{fault_excludes}
use Rattle.canon_model.proofs.Reached.{reach_is_the_cost}
use Rattle.canon_memory.specs.Guest.{Moment, Seen}
use Rattle.canon_ledger.specs.Ledger.{LedgerState}
use Rattle.canon_ledger.specs.declared.fault.ResourceFault.TheVariants as resource
use Rattle.canon_resources.proofs.Leaves.{leaves_excluded}
use Rattle.canon_resources.proofs.Lifts.{lifts_take}
use Rattle.canon_resources.specs.Parts.{LeavesStop, LeavesTake, Part, PassedResource, lift_parts}
use Rattle.canon_lowering.proofs.Lowerings.{none_answered}
use Rattle.canon_lowering.specs.Lowering.{AllLawful, Answer, CauseOf, Ending, Trap, marks_of}
use Rattle.canon_lowering.specs.Storing.{narrow}
use Rattle.canon_context.specs.Core.{Parts, moment_of, stage_of}
use Rattle.canon_context.specs.Quiet.{have_block, have_handle}
use Rattle.canon_context.specs.Told.{place_of}
use Rattle.canon_context.specs.declared.component.Export.{Export}
use Rattle.canon_context.specs.declared.fault.Fault.{Fault}
use Rattle.canon_context.specs.declared.fault.Fault.TheVariants as fault
use Rattle.canon_value_parts.proofs.Values.{failure_excludes}
use Rattle.canon_passing.specs.Args.{args_words}
use Rattle.canon_value_parts.specs.Fails.{AreSmall, BlamesMembers, Failure, IsTypeFailure, MemberFails, field_name, mismatch, payload_expected, payload_not_expected, unknown_case, unknown_flag, wrong_length}
use Rattle.canon_value_parts.specs.Lifts.{LiftsParams}
use Rattle.canon_passing.specs.Passed.{EndsAs, told_fault}
use Rattle.canon_value_parts.specs.Resources.{all_passes}
use Rattle.canon_context.specs.Faults.{stop_of}
use Rattle.canon_val.specs.Value.{HaveTrees}
use Rattle.canon_val.specs.declared.val.Val.{Val}
use Rattle.canon_host.specs.Forms.{ValuesAnswering}
use Rattle.canon_host.specs.HostSide.{LoggedEntry, Giving, entry}
use Rattle.canon_host.specs.Imports.{logged, logged_entry, steps_of_values}
use Rattle.canon_host.specs.Serves.{LowersGiven}
use Rattle.canon_host.specs.declared.asked.Asked.{Asked}
use Rattle.canon_func.specs.AskForms.{ask_values}
use Rattle.canon_func.specs.AskValues.{AskLiftable, AskLifts, AskLowers, asked_origin, asked_params, asked_results}
use Rattle.canon_func.specs.HostAsks.{IsHostAsk, asked_error, host_error}
use Rattle.canon_func.specs.Stores.{Callee, export_callee}
use Rattle.canon_func.specs.declared.error.Error.TheVariants as error
use Rattle.canon_func.proofs.AskLaws.{AskLawful, AskSound, FollowsSteps, LowersAs}
use Rattle.canon_func.proofs.HostLowered.{into_by, lowered_as, no_lawful, no_lawful_end, pointer_counts, quiet_trap}
use Rattle.canon_func.proofs.Prefixes.{past_cost}
use Rattle.canon_context.proofs.Moves.{GuestLaws}

-- ---- parameters

-- lifting doesn't trap
no_trap_lifted : (callee : Callee) (fuel : ℕ) (asked : Asked) (words memory : List ℕ) (l n : LedgerState) (f : Fault) → AskLifts callee fuel asked words memory l (Err f) n → ¬ (f ≡ fault.GuestTrap)
no_trap_lifted callee fuel asked words memory l n f h is = (subst (λ g. AskLifts callee fuel asked words memory l (Err g) n) is h).1.err

module _ (callee : Callee) (fuel : ℕ) (asked : Asked) (words memory : List ℕ) (l n : LedgerState) (index : ℕ) where
  abbrev enc : Encoding
  enc = (asked_origin callee asked memory).encoding

  lift_excluded : (f : Fault) → AskLiftable callee fuel asked words memory l → AskLifts callee fuel asked words memory l (Err f) n → asked_error index f ≡ error.Fault fault.OutOfMemory
  lift_excluded fault.OutOfMemory ok h = refl
  lift_excluded (fault.PointerMisaligned at) ok h = absurd (fault_excludes.values max_params false enc (narrow memory) _ (asked_params callee asked) ok.trees _ (place_of at) h.1.err ok.represented)
  lift_excluded (fault.PointerOutOfBounds at) ok h = absurd (fault_excludes.values max_params false enc (narrow memory) _ (asked_params callee asked) ok.trees _ (place_of at) h.1.err ok.represented)
  lift_excluded (fault.InvalidUtf8 at) ok h = absurd (fault_excludes.values max_params false enc (narrow memory) _ (asked_params callee asked) ok.trees _ (place_of at) h.1.err ok.represented)
  lift_excluded (fault.InvalidUtf16 at) ok h = absurd (fault_excludes.values max_params false enc (narrow memory) _ (asked_params callee asked) ok.trees _ (place_of at) h.1.err ok.represented)
  lift_excluded (fault.InvalidChar at) ok h = absurd (fault_excludes.values max_params false enc (narrow memory) _ (asked_params callee asked) ok.trees _ (place_of at) h.1.err ok.represented)
  lift_excluded (fault.BadDiscriminant at d) ok h = absurd (fault_excludes.values max_params false enc (narrow memory) _ (asked_params callee asked) ok.trees _ (place_of at) h.1.err ok.represented)
  lift_excluded fault.HostcallFuelExhausted ok h =
      absurd (past_cost fuel _ _ h.1.err (reach_is_the_cost.values max_params false enc (narrow memory) _ (asked_params callee asked) ok.trees ok.represented) ok.cheap)
  lift_excluded (fault.Resource resource.OutOfMemory) ok h = refl
  lift_excluded (fault.Resource r) ok h =
      let taken = lifts_take callee.types l ok.lifted _ ok.resources ok.lifts in
      absurd (leaves_excluded r l n ok.lifted (map (lift_parts callee.types) _) taken.0 h.1.handles taken.1)
  lift_excluded f ok h = absurd h.1.err

-- ---- results

module _ (callee : Callee) (asked : Asked) (at : ℕ) (from to : Moment) (results : List Val) (low : List ℕ) (answers : List Answer) (trap : Option Trap) (l n : LedgerState) where
  trapped_last : AskLowers callee asked at from to results low answers trap l n (Err fault.GuestTrap) → (t : Trap) × (trap ≡ Some t)
  trapped_last h = ⊎_elim
      (λ far. let w = h.crosses.lowered.far far in let c = subst (λ e. CauseOf from to w.0.answers w.0.trap e) h.crosses.ends w.0.lowering.cause in (c.1.0, sym w.2 ∙ c.1.1))
      (λ near. let w = h.crosses.lowered.near near in let c = subst (λ e. CauseOf from to w.0.answers w.0.trap e) h.crosses.ends w.0.lowering.cause in (c.1.0, sym w.2 ∙ c.1.1))
      (cases_lt max_results (members_flat (asked_results callee asked)))

  cause_into : (f : Fault) (h : AskLowers callee asked at from to results low answers trap l n (Err f)) → CauseOf from to answers trap h.crosses.ending
  cause_into f h = ⊎_elim
      (λ far. let w = h.crosses.lowered.far far in subst (λ o. CauseOf from to answers o h.crosses.ending) w.2 (subst (λ xs. CauseOf from to xs w.0.trap h.crosses.ending) w.1 w.0.lowering.cause))
      (λ near. let w = h.crosses.lowered.near near in subst (λ o. CauseOf from to answers o h.crosses.ending) w.2 (subst (λ xs. CauseOf from to xs w.0.trap h.crosses.ending) w.1 w.0.lowering.cause))
      (cases_lt max_results (members_flat (asked_results callee asked)))

module _ (enc : Encoding) (ms : Members) (vs : List Val) (ts : Trees) (have : HaveTrees ms vs ts) (small : AreSmall enc ms vs) where
  unfit : (how : Failure) (j : ℕ) → IsTypeFailure how → MemberFails how ms vs j → ⊥
  unfit how j is fails = failure_excludes how ms vs j ts is fails have

  module _ (some : Bool) (ps : List PassedResource) (a b : Moment) (answers : List Answer) (trap : Option Trap) (lawful : AllLawful answers) (none : trap ≡ None) (l n m : LedgerState)
      (parts : List (List Part)) (hs : List ℕ) (takes : LeavesTake l parts hs m) where
    -- for whatever fault except out of memory
    lowering_excluded : (f : Fault) (ending : Ending) → EndsAs {T = Unit {0}} some ps (Err f) ending → CauseOf a b answers trap ending → BlamesMembers enc ms vs f → told_fault f ≡ f → LeavesStop (stop_of f) l parts n → f ≡ fault.OutOfMemory
    lowering_excluded fault.OutOfMemory ending ends cause blames told stops = refl
    lowering_excluded (fault.TypeMismatch k) ending ends cause blames told stops = absurd (unfit mismatch blames.0 tt blames.2)
    lowering_excluded (fault.FieldName k) ending ends cause blames told stops = absurd (unfit field_name blames.0 tt blames.2)
    lowering_excluded (fault.UnknownCase k) ending ends cause blames told stops = absurd (unfit unknown_case blames.0 tt blames.2)
    lowering_excluded (fault.UnknownFlag k) ending ends cause blames told stops = absurd (unfit unknown_flag blames.0 tt blames.2)
    lowering_excluded (fault.PayloadExpected k) ending ends cause blames told stops = absurd (unfit payload_expected blames.0 tt blames.2)
    lowering_excluded (fault.PayloadNotExpected k) ending ends cause blames told stops = absurd (unfit payload_not_expected blames.0 tt blames.2)
    lowering_excluded (fault.LengthMismatch k) ending ends cause blames told stops = absurd (unfit wrong_length blames.0 tt blames.2)
    lowering_excluded (fault.StringTooLong k) ending ends cause blames told stops = absurd (small.texts k blames.0 blames.1)
    lowering_excluded (fault.SizeOverflow k) ending ends cause blames told stops = absurd (small.lists k blames.0 blames.1)
    lowering_excluded (fault.ReallocMisaligned k) ending ends cause blames told stops = absurd (no_lawful a b answers trap k lawful (subst (λ e. CauseOf a b answers trap e) ends cause))
    lowering_excluded (fault.ReallocOutOfBounds k) ending ends cause blames told stops = absurd (no_lawful_end a b answers trap k lawful (subst (λ e. CauseOf a b answers trap e) ends cause))
    lowering_excluded fault.GuestTrap ending ends cause blames told stops = let w = sym none ∙ (subst (λ e. CauseOf a b answers trap e) ends cause).1.1 in cc
    lowering_excluded (fault.PointerMisaligned at) ending ends cause blames told stops = absurd blames
    lowering_excluded (fault.PointerOutOfBounds at) ending ends cause blames told stops = absurd blames
    lowering_excluded (fault.InvalidUtf8 at) ending ends cause blames told stops = absurd blames
    lowering_excluded (fault.InvalidUtf16 at) ending ends cause blames told stops = absurd blames
    lowering_excluded (fault.InvalidChar at) ending ends cause blames told stops = absurd blames
    lowering_excluded (fault.BadDiscriminant at d) ending ends cause blames told stops = absurd blames
    lowering_excluded fault.HostcallFuelExhausted ending ends cause blames told stops = absurd blames
    lowering_excluded (fault.Resource resource.OutOfMemory) ending ends cause blames told stops = cc
    lowering_excluded (fault.Resource r) ending ends cause blames told stops = absurd (leaves_excluded r l n m parts hs stops takes)

-- ---- the laws

pub values_sound : {T : Type 0} (may : ValuesAnswering T) → AskSound (ask_values may)
values_sound may = record {
  short = λ callee asked index log. refl;
  declined = λ callee asked index log e is. inl is;
  calm = λ store. no_trap_lifted;
  unlifted = λ store callee fuel asked words memory l n f h. h.1.handles;
  lift_excluded = λ store. lift_excluded;
  given = λ callee asked at from to results low answers trap l n h. (h.crosses.given, h.crosses.passed);
  ungiven = λ callee asked at from to results low answers trap l n f h. h.crosses.passed.0;
  traps = trapped_last;
}

pub values_lawful : {T : Type 0} (may : ValuesAnswering T) → AskLawful (ask_values may)
values_lawful may = record {
  taken = λ store callee fuel asked words memory l n params h. lifts_take callee.types l n _ _ h.1.handles;
  lower_excluded = λ callee asked at from to results low answers trap l n f ok h lawful none.
      lowering_excluded (asked_origin callee asked from.bytes).encoding (asked_results callee asked) results ok.trees ok.have ok.small _ _ from to answers trap lawful none l n ok.left _ ok.given ok.takes
      f h.crosses.ending h.crosses.ends (cause_into callee asked at from to results low answers trap l n f h) h.cause h.crosses.as_told h.crosses.passed.0;
}

-- ---- its steps

module _ {T G : Type 0} (may : ValuesAnswering T) (L : GuestLaws G) (gives : Giving T) (log : Option (List LoggedEntry)) (index : ℕ) (a b : Parts T G) (export : Export) (asked : Asked) (words pad storage2 : List ℕ)
    (is : IsHostAsk (export_callee a.component export) index words asked) where
  abbrev callee : Callee
  callee = export_callee a.component export

  first_is : take (args_words (asked_params callee asked)) (words ++ pad) ≡ take (args_words (asked_params callee asked)) words
  first_is = take-append-le (args_words (asked_params callee asked)) words pad (pointer_counts (args_words (asked_params callee asked)) (members_flat (asked_results callee asked)) (length words) is.count).0

  -- results that reach no text and no list ask for nothing
  asks_none : (s : T) (l : LedgerState) (at : ℕ) (results : List Val) (r : Result (Unit {0}) Fault) (h : LowersGiven L.seen L.moves asked (record a { state = s; ledger = l }) at results r b storage2)
      (answers : List Answer) (trap : Option Trap)
      → (L.seen b.guest).marks ≡ (L.seen a.guest).marks ++ marks_of answers → CauseOf (moment_of L.seen a) (moment_of L.seen b) answers trap h.lowered.ending → have_block (asked_results callee asked) ≡ false
      → (answers ≡ []) × (trap ≡ None) × (L.seen b.guest ≡ L.seen a.guest) × (members_flat (asked_results callee asked) ≤ max_results → b.memory ≡ a.memory)
  asks_none s l at results r h answers trap marks cause none =
      let still : L.seen b.guest ≡ L.seen a.guest = ap L.seen (h.quiet none).0 in (
        none_answered (L.seen a.guest).marks answers (ap (λ (k : Seen). k.marks) (sym still) ∙ marks),
        quiet_trap r (have_handle (asked_results callee asked)) (all_passes (asked_results callee asked) results) (moment_of L.seen a) (moment_of L.seen b) answers trap h.lowered.ending h.lowered.ends (h.quiet none).1 cause,
        still,
        λ near. ap (λ (k : Parts T G). k.memory) (h.quiet_near near none).0,
      )

  lowered : (s : T) (l : LedgerState) (at : ℕ) (results : List Val) (r : Result (Unit {0}) Fault) → LowersGiven L.seen L.moves asked (record a { state = s; ledger = l }) at results r b storage2
      → LowersAs (ask_values may) L.seen L.moves index a b callee asked storage2 at results l r
  lowered s l at results r h =
      let by = into_by callee asked at (stage_of L.seen L.moves a) (stage_of L.seen L.moves b) results (take (members_flat (asked_results callee asked)) storage2) h.lowered.given h.lowered.ending h.lowered.lowered in
      lowered_as may L index a b callee asked at results (take (members_flat (asked_results callee asked)) storage2) storage2 refl l r (record {
        answers = by.answers;
        trap = by.trap;
        ending = h.lowered.ending;
        ends = h.lowered.ends;
        lowers = record {
          crosses = record { given = h.lowered.given; ending = h.lowered.ending; ends = h.lowered.ends; lowered = by.into; passed = h.lowered.passed; as_told = h.lowered.as_told };
          cause = h.cause;
          small = h.small;
          quiet = asks_none s l at results r h by.answers by.trap by.goes.marks by.cause;
        };
        goes = by.goes;
        moves = by.moves;
        cause = by.cause;
      })

module _ {T G : Type 0} (may : ValuesAnswering T) (L : GuestLaws G) (gives : Giving T) (log : Option (List LoggedEntry)) (index : ℕ) (a b : Parts T G) (export : Export) (asked : Asked) (words pad storage2 : List ℕ)
    (is : IsHostAsk (export_callee a.component export) index words asked) where
  pub values_follow : FollowsSteps (ask_values may) gives.answers (steps_of_values gives log index L.seen L.moves asked may)
      (λ told. logged log (logged_entry index told)) L.seen L.moves log index a b (export_callee a.component export) asked words pad storage2
  values_follow = record {
    declines = λ e why. ap (host_error index) why;
    lifts = λ l r lifted h. (subst (λ ws. (over : ℕ) × LiftsParams (asked_origin (export_callee a.component export) asked a.memory) ws (asked_params (export_callee a.component export) asked) l a.fuel r lifted.ledger over) (first_is may L gives log index a b export asked words pad storage2 is) h.0, h.1);
    fails = λ before after e h. h;
    gives = λ before after params results h. (h.steps, h.same, (h.may_give, h.by_log, h.counted));
    stops = λ before after params why left h. (h.steps, h.same, (h.may_give, h.by_log, tt));
    logs = λ params told same. ap (λ ps. logged log (entry index ps told.results)) same;
    ends = λ before left ws r h. h;
    lowers = λ g s l at results r h. lowered may L gives log index (record a { guest = g }) b export asked words pad storage2 is s l at results r h;
    state = λ g s l at results r h. ap (λ (k : Parts T G). k.state) h.same;
    id = λ g s l at results r h. ap (λ (k : Parts T G). k.id) h.same;
  }
