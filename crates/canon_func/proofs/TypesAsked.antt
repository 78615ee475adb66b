-- An ask of a function of the host over Rust types is as it has to be.
use Rattle.std.proofs.Common.{Err, List, None, Ok, Option, Result, Some, [], ap, arith, inl, inr, length, refl, subst, sym, ℕ, ⊎_elim, ◌++◌, ◌<◌, ◌∙◌, ◌≡◌, ◌≤◌, ◌⊎◌}
use Rattle.std.proofs.lemmas.Bool.{cases_lt}
use Rattle.std.proofs.lemmas.List.{take-append-le}
use Rattle.std.specs.Prelude.{IfErr, false, nat_le, take}
use Rattle.canon_args.specs.Areas.{passed_taken}
use Rattle.canon_args.specs.Params.{InParts}
use Rattle.canon_args.specs.Results.{LowersTuple}
use Rattle.canon_model.specs.Flat.{max_params, max_results}
use Rattle.canon_model.specs.Layout.{flat, members_flat}
use Rattle.canon_model.specs.Tree.{Tree}
use Rattle.canon_memory.specs.Guest.{Goes, Moment, Seen}
use Rattle.canon_ledger.specs.Ledger.{LedgerState}
use Rattle.canon_ledger.specs.declared.fault.ResourceFault.TheVariants as resource
use Rattle.canon_resources.proofs.Leaves.{leaves_excluded}
use Rattle.canon_resources.specs.Parts.{Part}
use Rattle.canon_reading.specs.Reading.{AreTaken, Lifts, Reading}
use Rattle.canon_reading.specs.Spots.{flat_in}
use Rattle.canon_lower_parts.proofs.Attempts.{ends_done}
use Rattle.canon_lower_parts.specs.Blames.{IsElsewhere, IsLargeFault}
use Rattle.canon_lower_parts.specs.Lowers.{EndsBy}
use Rattle.canon_lowering.proofs.Lowerings.{none_answered, unless}
use Rattle.canon_lowering.specs.Lowering.{AllLawful, Answer, CauseOf, Ending, Trap, UnlessShort, events_of, marks_of, refused}
use Rattle.canon_context.specs.Core.{Parts, guest_of, moment_of, stage_of}
use Rattle.canon_context.specs.Lowers.{fault_ending}
use Rattle.canon_context.specs.Quiet.{have_block}
use Rattle.canon_context.specs.declared.component.Export.{Export}
use Rattle.canon_context.specs.declared.fault.Fault.{Fault}
use Rattle.canon_context.specs.declared.fault.Fault.TheVariants as fault
use Rattle.canon_passing.specs.Args.{args_words}
use Rattle.canon_host.specs.Forms.{IsOfOthers, RustTypes, TypedAnswering}
use Rattle.canon_host.specs.HostSide.{LoggedEntry, Giving}
use Rattle.canon_host.specs.Imports.{Declines, steps_of_types}
use Rattle.canon_host.specs.ServesTyped.{LiftsTyped, LowersTyped}
use Rattle.canon_host.specs.declared.asked.Asked.{Asked}
use Rattle.canon_host.specs.declared.error.HostError.{HostError}
use Rattle.canon_func.specs.AskForms.{ask_types}
use Rattle.canon_func.specs.AskTypes.{TupleInto, TypedAskLiftable, TypedAskLifts, TypedAskLowerable, TypedAskLowers, asked_reading, asked_setting, asked_shape, typed_given}
use Rattle.canon_func.specs.AskValues.{asked_origin, asked_params, asked_results}
use Rattle.canon_func.specs.Call.{OnAnswered}
use Rattle.canon_func.specs.HostAsks.{IsHostAsk, asked_error, host_error}
use Rattle.canon_func.specs.Steps.{RisesAt}
use Rattle.canon_func.specs.Stores.{Callee, export_callee}
use Rattle.canon_func.specs.TypedLaws.{blamed_one}
use Rattle.canon_func.specs.declared.error.Error.TheVariants as error
use Rattle.canon_func.proofs.AskLaws.{AskLawful, AskSound, FollowsSteps, LowersAs}
use Rattle.canon_func.proofs.HostLowered.{asked_moves, no_lawful, no_lawful_end, not_far, pointer_counts, traps_late}
use Rattle.canon_func.proofs.Lowered.{untrapped}
use Rattle.canon_lowering.specs.Stages.{GoesBy, Stage, moment_at}
use Rattle.canon_context.proofs.Moves.{GuestLaws, moved_by}
use Rattle.canon_lowering.proofs.Attempts.{attempt_bare, bare_asked}

same_fault : (e f : Fault) → ◌≡◌ {A = Result (Unit {0}) Fault} (Err e) (Err f) → e ≡ f
same_fault e f h = cc

past_fuel : (fuel reach : ℕ) → fuel < reach → reach ≤ fuel → ⊥
past_fuel fuel reach h few = omega (arith, h, few)

-- ---- parameters

module _ {P : Type 0} (reading : Reading P) (store : ℕ) (callee : Callee) (fuel : ℕ) (asked : Asked) (words memory : List ℕ) (l n : LedgerState) where
  abbrev Unlifted : Fault → Type 0
  Unlifted f = TypedAskLifts reading callee asked words memory store fuel l (Err f) n

  typed_calm : (f : Fault) → Unlifted f → ¬ (f ≡ fault.GuestTrap)
  typed_calm f h is = (subst (λ g. Unlifted g) is h).1.cause

  typed_lift_excluded : (index : ℕ) (f : Fault) → TypedAskLiftable reading callee asked words memory fuel l store → Unlifted f → asked_error index f ≡ error.Fault fault.OutOfMemory
  typed_lift_excluded index fault.OutOfMemory ok h = refl
  typed_lift_excluded index (fault.PointerMisaligned at) ok h = absurd (ok.faultless _ h.1.cause.0 h.1.cause.2)
  typed_lift_excluded index (fault.PointerOutOfBounds at) ok h = absurd (ok.faultless _ h.1.cause.0 h.1.cause.2)
  typed_lift_excluded index (fault.InvalidUtf8 at) ok h = absurd (ok.faultless _ h.1.cause.0 h.1.cause.2)
  typed_lift_excluded index (fault.InvalidUtf16 at) ok h = absurd (ok.faultless _ h.1.cause.0 h.1.cause.2)
  typed_lift_excluded index (fault.InvalidChar at) ok h = absurd (ok.faultless _ h.1.cause.0 h.1.cause.2)
  typed_lift_excluded index (fault.BadDiscriminant at d) ok h = absurd (ok.faultless _ h.1.cause.0 h.1.cause.2)
  typed_lift_excluded index fault.HostcallFuelExhausted ok h = absurd (past_fuel fuel _ h.1.cause ok.within)
  typed_lift_excluded index (fault.Resource resource.OutOfMemory) ok h = refl
  typed_lift_excluded index (fault.Resource r) ok h = absurd (leaves_excluded r l n ok.lifted _ ok.handles h.1.stops ok.takes)
  typed_lift_excluded index f ok h = absurd h.1.cause

-- ---- results

module _ (Has : Tree → Type 0) (gives : List (List Part)) (callee : Callee) (asked : Asked) (at : ℕ) (from to : Moment) (low : List ℕ) (answers : List Answer) (trap : Option Trap) (l n : LedgerState) where
  abbrev Unlowered : Fault → Type 0
  Unlowered f = TypedAskLowers Has gives callee asked at from to low answers trap l n (Err f)

  tuple_cause : (f : Fault) (h : Unlowered f) → CauseOf from to answers trap h.ending
  tuple_cause f h = ⊎_elim
      (λ far. let w = h.lowered.far far in subst (λ o. CauseOf from to answers o h.ending) w.2 (subst (λ xs. CauseOf from to xs w.0.trap h.ending) w.1 w.0.lowering.cause))
      (λ near. let w = h.lowered.near near in subst (λ o. CauseOf from to answers o h.ending) w.2 (subst (λ xs. CauseOf from to xs w.0.trap h.ending) w.1 w.0.lowering.cause))
      (cases_lt max_results (members_flat (asked_results callee asked)))

  -- how it ended, but for want of memory
  ended_as : (f : Fault) (h : Unlowered f) → ¬ (f ≡ fault.OutOfMemory) → h.ending ≡ fault_ending f
  ended_as f h other = ⊎_elim (λ is. is) (λ both. absurd (other (same_fault f fault.OutOfMemory both.0))) h.ends

  caused : (f : Fault) (h : Unlowered f) → ¬ (f ≡ fault.OutOfMemory) → CauseOf from to answers trap (fault_ending f)
  caused f h other = subst (λ e. CauseOf from to answers trap e) (ended_as f h other) (tuple_cause f h)

  typed_traps : Unlowered fault.GuestTrap → (t : Trap) × (trap ≡ Some t)
  typed_traps h = let c = caused fault.GuestTrap h (λ is. cc) in (c.1.0, c.1.1)

  module _ (one : (t : Tree) × Has t) (ok : TypedAskLowerable Has gives callee asked from.bytes l) (lawful : AllLawful answers) (none : trap ≡ None) where
    blamed : (f : Fault) → Unlowered f → IsElsewhere f ⊎ IsLargeFault f
    blamed f h = blamed_one (asked_origin callee asked from.bytes).encoding (asked_results callee asked) Has f one h.cause

    never : (f : Fault) → Unlowered f → (IsElsewhere f → ⊥) → (IsLargeFault f → ⊥) → ⊥
    never f h elsewhere large = ⊎_elim elsewhere large (blamed f h)

    too_large : (f : Fault) → Unlowered f → (IsElsewhere f → ⊥) → ⊥
    too_large f h elsewhere = ⊎_elim elsewhere (λ some. ok.small one.0 one.1 f some) (h.cause one.0 one.1)

    typed_lower_excluded : (f : Fault) → Unlowered f → f ≡ fault.OutOfMemory
    typed_lower_excluded fault.OutOfMemory h = refl
    typed_lower_excluded (fault.StringTooLong k) h = absurd (too_large (fault.StringTooLong k) h (λ x. x))
    typed_lower_excluded (fault.SizeOverflow k) h = absurd (too_large (fault.SizeOverflow k) h (λ x. x))
    typed_lower_excluded (fault.ReallocMisaligned k) h = absurd (no_lawful from to answers trap k lawful (caused (fault.ReallocMisaligned k) h (λ is. cc)))
    typed_lower_excluded (fault.ReallocOutOfBounds k) h = absurd (no_lawful_end from to answers trap k lawful (caused (fault.ReallocOutOfBounds k) h (λ is. cc)))
    typed_lower_excluded fault.GuestTrap h = let w = sym none ∙ (typed_traps h).1 in cc
    typed_lower_excluded (fault.Resource resource.OutOfMemory) h = absurd (never (fault.Resource resource.OutOfMemory) h (λ x. x) (λ x. x))
    typed_lower_excluded (fault.Resource r) h = absurd (leaves_excluded r l n ok.left gives ok.given h.passed.0 ok.takes)
    typed_lower_excluded (fault.TypeMismatch k) h = absurd (never (fault.TypeMismatch k) h (λ x. x) (λ x. x))
    typed_lower_excluded (fault.FieldName k) h = absurd (never (fault.FieldName k) h (λ x. x) (λ x. x))
    typed_lower_excluded (fault.UnknownCase k) h = absurd (never (fault.UnknownCase k) h (λ x. x) (λ x. x))
    typed_lower_excluded (fault.UnknownFlag k) h = absurd (never (fault.UnknownFlag k) h (λ x. x) (λ x. x))
    typed_lower_excluded (fault.PayloadExpected k) h = absurd (never (fault.PayloadExpected k) h (λ x. x) (λ x. x))
    typed_lower_excluded (fault.PayloadNotExpected k) h = absurd (never (fault.PayloadNotExpected k) h (λ x. x) (λ x. x))
    typed_lower_excluded (fault.LengthMismatch k) h = absurd (never (fault.LengthMismatch k) h (λ x. x) (λ x. x))
    typed_lower_excluded (fault.PointerMisaligned x) h = absurd (never (fault.PointerMisaligned x) h (λ y. y) (λ y. y))
    typed_lower_excluded (fault.PointerOutOfBounds x) h = absurd (never (fault.PointerOutOfBounds x) h (λ y. y) (λ y. y))
    typed_lower_excluded (fault.InvalidUtf8 x) h = absurd (never (fault.InvalidUtf8 x) h (λ y. y) (λ y. y))
    typed_lower_excluded (fault.InvalidUtf16 x) h = absurd (never (fault.InvalidUtf16 x) h (λ y. y) (λ y. y))
    typed_lower_excluded (fault.InvalidChar x) h = absurd (never (fault.InvalidChar x) h (λ y. y) (λ y. y))
    typed_lower_excluded (fault.BadDiscriminant x d) h = absurd (never (fault.BadDiscriminant x d) h (λ y. y) (λ y. y))
    typed_lower_excluded fault.HostcallFuelExhausted h = absurd (never fault.HostcallFuelExhausted h (λ y. y) (λ y. y))

-- ---- the laws

module _ {T P R : Type 0} (types : RustTypes P R) (May : TypedAnswering T P R) where
  declined_so : (A B C D : Type 0) → A ⊎ (B × C × D) → A ⊎ B
  declined_so A B C D (inl h) = inl h
  declined_so A B C D (inr h) = inr h.0

  pub types_sound : AskSound (ask_types types May)
  types_sound = record {
    short = λ callee asked index log. inl refl;
    declined = λ callee asked index log e why. declined_so _ _ _ _ why;
    calm = λ store callee fuel asked words memory l n f h. typed_calm types.reading store callee fuel asked words memory l n f h.1;
    unlifted = λ store callee fuel asked words memory l n f h. h.1.1.stops;
    lift_excluded = λ store callee fuel asked words memory l n index f ok h. typed_lift_excluded types.reading store callee fuel asked words memory l n index f ok h.1;
    given = λ callee asked at from to results low answers trap l n h. (h.handles, h.passed);
    ungiven = λ callee asked at from to results low answers trap l n f h. h.passed.0;
    traps = λ callee asked at from to results. typed_traps (types.walks results) (typed_given types callee asked results) callee asked at from to;
  }

  pub types_lawful : AreTaken types.reading → ((v : R) → (t : Tree) × types.walks v t) → AskLawful (ask_types types May)
  types_lawful taken walkable = record {
    taken = λ store callee fuel asked words memory l n params h.
        passed_taken types.reading taken (nat_le (flat (asked_shape callee asked)) max_params) (asked_setting callee asked memory store)
        (flat_in (take (args_words (asked_params callee asked)) words) 0) (asked_shape callee asked) l n params h.1.1.0;
    lower_excluded = λ callee asked at from to results low answers trap l n f ok h lawful none.
        typed_lower_excluded (types.walks results) (typed_given types callee asked results) callee asked at from to low answers trap l n (walkable results) ok lawful none f h;
  }

-- ---- its steps

-- what was lowered, from one moment to another, without its handles
record TupleBy {K : Type 0} (callee : Callee) (asked : Asked) (at : ℕ) (a b : Stage K) (Has : Tree → Type 0) (words : List ℕ) (hs : List ℕ) (ending : Ending) : Type 0 where
  answers : List Answer
  trap : Option Trap
  into : TupleInto (moment_at a) (moment_at b) callee asked at Has words answers trap hs ending
  goes : Goes (moment_at a) (moment_at b) (marks_of answers) (events_of answers trap)
  moves : UnlessShort ending (GoesBy a b (events_of answers trap))
  cause : CauseOf (moment_at a) (moment_at b) answers trap ending

tuple_by : {K : Type 0} (callee : Callee) (asked : Asked) (at : ℕ) (a b : Stage K) (Has : Tree → Type 0) (words : List ℕ) (hs : List ℕ) (ending : Ending)
    → LowersTuple a b (asked_origin callee asked a.bytes).encoding (asked_results callee asked) (InParts Has) at words hs ending
    → TupleBy callee asked at a b Has words hs ending
tuple_by callee asked at a b Has words hs ending h = ⊎_elim
    (λ far. let low = h.far far in record {
      answers = low.answers;
      trap = low.trap;
      into = record {
        near = λ near. absurd (not_far (members_flat (asked_results callee asked)) near far);
        far = λ again. (attempt_bare false a b _ _ ending low, (bare_asked false a b _ _ ending low).0, (bare_asked false a b _ _ ending low).1);
      };
      goes = low.lowering.goes;
      moves = low.lowering.moves;
      cause = low.lowering.cause;
    })
    (λ near. let low = h.near near in record {
      answers = low.answers;
      trap = low.trap;
      into = record {
        near = λ again. (attempt_bare false a b _ _ ending low, (bare_asked false a b _ _ ending low).0, (bare_asked false a b _ _ ending low).1);
        far = λ far. absurd (not_far (members_flat (asked_results callee asked)) near far);
      };
      goes = low.lowering.goes;
      moves = low.lowering.moves;
      cause = low.lowering.cause;
    })
    (cases_lt max_results (members_flat (asked_results callee asked)))

-- no request trapped where nothing was asked for
tuple_quiet : (r : Result (Unit {0}) Fault) (gives : List (List Part)) (a b : Moment) (answers : List Answer) (trap : Option Trap) (ending : Ending) → EndsBy gives r ending
    → IfErr r (λ e. ending ≡ refused) → CauseOf a b answers trap ending → trap ≡ None
tuple_quiet (Ok x) gives a b answers trap ending ends why cause = subst (λ e. CauseOf a b answers trap e) (ends_done gives tt ending ends) cause
tuple_quiet (Err f) gives a b answers trap ending ends why cause = untrapped a b answers trap ending cause (inr why)

-- where the guest trapped, its count of traps rose
tuple_rises : (index : ℕ) (gives : List (List Part)) (f : Fault) (a b : Moment) (answers : List Answer) (trap : Option Trap) (ending : Ending) → EndsBy {T = Unit {0}} gives (Err f) ending
    → CauseOf a b answers trap ending → RisesAt (asked_error index f) a b
tuple_rises index gives fault.GuestTrap a b answers trap ending (inl is) cause = (subst (λ e. CauseOf a b answers trap e) is cause).0
tuple_rises index gives fault.GuestTrap a b answers trap ending (inr both) cause = let want : ◌≡◌ {A = Result (Unit {0}) Fault} (Err fault.GuestTrap) (Err fault.OutOfMemory) = both.0 in cc
tuple_rises index gives fault.OutOfMemory a b answers trap ending ends cause = tt
tuple_rises index gives (fault.Resource resource.OutOfMemory) a b answers trap ending ends cause = tt
tuple_rises index gives (fault.Resource r) a b answers trap ending ends cause = tt
tuple_rises index gives f a b answers trap ending ends cause = tt

tuple_moves : (index : ℕ) (gives : List (List Part)) (f : Fault) (ending : Ending) (P : Type 0) → EndsBy {T = Unit {0}} gives (Err f) ending → UnlessShort ending P → OnAnswered {T = Unit {0}} (Err (asked_error index f)) P
tuple_moves index gives f ending P (inl is) m = asked_moves (Unit {0}) index f P (subst (λ e. UnlessShort e P) is m)
tuple_moves index gives f ending P (inr both) m = subst (λ x. OnAnswered {T = Unit {0}} (Err (asked_error index x)) P) (sym (same_fault f fault.OutOfMemory both.0)) tt

module _ {T G P R : Type 0} (types : RustTypes P R) (May : TypedAnswering T P R) (L : GuestLaws G) (gives : Giving T) (log : Option (List LoggedEntry)) (index : ℕ) (a b : Parts T G) (export : Export)
    (asked : Asked) (words pad storage2 : List ℕ)
    (is : IsHostAsk (export_callee a.component export) index words asked) where
  abbrev callee : Callee
  callee = export_callee a.component export

  first_is : take (args_words (asked_params callee asked)) (words ++ pad) ≡ take (args_words (asked_params callee asked)) words
  first_is = take-append-le (args_words (asked_params callee asked)) words pad (pointer_counts (args_words (asked_params callee asked)) (members_flat (asked_results callee asked)) (length words) is.count).0

  lifts : (l : LedgerState) (r : Result P Fault) (lifted : Parts T G) → LiftsTyped types.reading asked (record a { ledger = l }) (words ++ pad) r lifted → TypedAskLifts types.reading callee asked words a.memory a.id a.fuel l r lifted.ledger
  lifts l r lifted h = (
    h.0.0,
    subst (λ ws. Lifts (asked_reading types.reading callee asked words a.memory) (asked_setting callee asked a.memory a.id) (flat_in ws 0) (asked_shape callee asked) l a.fuel r lifted.ledger h.0.0) first_is h.0.1,
  )

  declines : (e : HostError) → Declines types log asked a e → (host_error index e ≡ error.Fault fault.OutOfMemory) ⊎ ((host_error index e ≡ error.HostRefused index) × (log ≡ None) × IsOfOthers types callee.types asked.func)
  declines e (inl wants) = inl (ap (host_error index) wants)
  declines e (inr other) = inr (ap (host_error index) other.0, other.1, other.2)

  abbrev Lowered : T → LedgerState → ℕ → R → Result (Unit {0}) Fault → Type 0
  Lowered s l at results r = LowersTyped L.seen L.moves types.walks types.gives asked (record a { state = s; ledger = l }) at results r b storage2

  -- results that reach no text and no list ask for nothing
  asks_none : (s : T) (l : LedgerState) (at : ℕ) (results : R) (r : Result (Unit {0}) Fault) (h : Lowered s l at results r) (answers : List Answer) (trap : Option Trap)
      → (L.seen b.guest).marks ≡ (L.seen a.guest).marks ++ marks_of answers → CauseOf (moment_of L.seen a) (moment_of L.seen b) answers trap h.ending → have_block (asked_results callee asked) ≡ false
      → (answers ≡ []) × (trap ≡ None) × (L.seen b.guest ≡ L.seen a.guest) × (members_flat (asked_results callee asked) ≤ max_results → b.memory ≡ a.memory)
  asks_none s l at results r h answers trap marks cause none =
      let still : L.seen b.guest ≡ L.seen a.guest = ap L.seen (h.quiet none).0 in (
        none_answered (L.seen a.guest).marks answers (ap (λ (k : Seen). k.marks) (sym still) ∙ marks),
        tuple_quiet r (typed_given types callee asked results) (moment_of L.seen a) (moment_of L.seen b) answers trap h.ending h.ends (h.quiet none).1 cause,
        still,
        λ near. ap (λ (k : Parts T G). k.memory) (h.quiet_near near none).0,
      )

  lowered : (s : T) (l : LedgerState) (at : ℕ) (results : R) (r : Result (Unit {0}) Fault) → Lowered s l at results r → LowersAs (ask_types types May) L.seen L.moves index a b callee asked storage2 at results l r
  lowered s l at results (Ok x) h =
      let by = tuple_by callee asked at (stage_of L.seen L.moves a) (stage_of L.seen L.moves b) (types.walks results) (take (members_flat (asked_results callee asked)) storage2) h.handles h.ending h.lowered in
      let over = ends_done (typed_given types callee asked results) tt h.ending h.ends in
      record {
        answers = by.answers;
        trap = by.trap;
        lowers = record {
          handles = h.handles;
          ending = h.ending;
          ends = h.ends;
          lowered = by.into;
          passed = h.passed;
          cause = h.cause;
          small = h.small;
          quiet = asks_none s l at results (Ok x) h by.answers by.trap by.goes.marks by.cause;
        };
        goes = by.goes;
        done = subst (λ e. CauseOf (moment_of L.seen a) (moment_of L.seen b) by.answers by.trap e) over by.cause;
        late = traps_late (moment_of L.seen a) (moment_of L.seen b) by.answers by.trap h.ending by.cause;
        rises = tt;
        moved = moved_by L a b (events_of by.answers by.trap) (subst (λ e. UnlessShort e (GoesBy (stage_of L.seen L.moves a) (stage_of L.seen L.moves b) (events_of by.answers by.trap))) over by.moves);
      }
  lowered s l at results (Err f) h =
      let by = tuple_by callee asked at (stage_of L.seen L.moves a) (stage_of L.seen L.moves b) (types.walks results) (take (members_flat (asked_results callee asked)) storage2) h.handles h.ending h.lowered in
      record {
        answers = by.answers;
        trap = by.trap;
        lowers = record {
          handles = h.handles;
          ending = h.ending;
          ends = h.ends;
          lowered = by.into;
          passed = h.passed;
          cause = h.cause;
          small = h.small;
          quiet = asks_none s l at results (Err f) h by.answers by.trap by.goes.marks by.cause;
        };
        goes = by.goes;
        done = tt;
        late = traps_late (moment_of L.seen a) (moment_of L.seen b) by.answers by.trap h.ending by.cause;
        rises = tuple_rises index (typed_given types callee asked results) f (moment_of L.seen a) (moment_of L.seen b) by.answers by.trap h.ending h.ends by.cause;
        moved = tuple_moves index (typed_given types callee asked results) f h.ending (L.moves (guest_of a) (events_of by.answers by.trap) (guest_of b)) h.ends (unless h.ending _ _ (moved_by L a b (events_of by.answers by.trap)) by.moves);
      }

module _ {T G P R : Type 0} (types : RustTypes P R) (May : TypedAnswering T P R) (L : GuestLaws G) (gives : Giving T) (log : Option (List LoggedEntry)) (index : ℕ) (a b : Parts T G) (export : Export)
    (asked : Asked) (words pad storage2 : List ℕ)
    (is : IsHostAsk (export_callee a.component export) index words asked) where
  pub types_follow : FollowsSteps (ask_types types May) gives.answers (steps_of_types types May log L.seen L.moves asked) (λ told. log) L.seen L.moves log index a b (export_callee a.component export) asked words pad storage2
  types_follow = record {
    declines = declines types May L gives log index a b export asked words pad storage2 is;
    lifts = λ l r lifted h. ((h.0, lifts types May L gives log index a b export asked words pad storage2 is l r lifted h.1), h.1.1);
    fails = λ before after e h. absurd h;
    gives = λ before after params results h. (h.steps, h.same, (h.unlogged, h.may_give));
    stops = λ before after params why left h. (h.steps, h.same, (h.unlogged, h.may_give));
    logs = λ params told same. refl;
    ends = λ before left ws r h. h;
    lowers = λ g s l at results r h. lowered types May L gives log index (record a { guest = g }) b export asked words pad storage2 is s l at results r h;
    state = λ g s l at results r h. ap (λ (k : Parts T G). k.state) h.same;
    id = λ g s l at results r h. ap (λ (k : Parts T G). k.id) h.same;
  }
