-- What lowering the results of a function of the host did, by how it ended.
use Rattle.std.proofs.Common.{Bool, Err, false, List, None, Ok, Option, Result, Some, [], arith, inl, inr, length, refl, subst, sym, ℕ, ⊎_elim, ◌+◌, ◌<◌, ◌∙◌, ◌≡◌, ◌≤◌, ◌⊎◌}
use Rattle.std.proofs.lemmas.Bool.{cases_lt, le-leb, lt-leb}
use Rattle.std.specs.Prelude.{IfErr, if◌then◌else◌, nat_le, take}
use Rattle.canon_model.specs.Flat.{max_results}
use Rattle.canon_model.specs.Layout.{members_flat}
use Rattle.canon_model.specs.Shape.{Members}
use Rattle.canon_memory.specs.Guest.{Goes, Moment}
use Rattle.canon_ledger.specs.Ledger.{LedgerState}
use Rattle.canon_ledger.specs.declared.fault.ResourceFault.TheVariants as resource
use Rattle.canon_lowering.specs.Lowering.{AllLawful, Answer, CauseOf, Ending, Trap, UnlessShort, done, events_of, marks_of, misaligned, out_of_bounds, refused, short, trapped}
use Rattle.canon_context.specs.Core.{Parts, guest_of, moment_of, stage_of}
use Rattle.canon_context.specs.Lowers.{fault_ending}
use Rattle.canon_context.specs.Quiet.{have_handle}
use Rattle.canon_context.specs.declared.fault.Fault.{Fault}
use Rattle.canon_context.specs.declared.fault.Fault.TheVariants as fault
use Rattle.canon_context.specs.declared.host.HostStop.{HostStop}
use Rattle.canon_context.specs.declared.host.HostStop.TheVariants as stop
use Rattle.canon_resources.specs.Parts.{PassedResource}
use Rattle.canon_passing.specs.Args.{IsNoArea, LowersResults}
use Rattle.canon_passing.specs.Passed.{EndsAs, UsesLedger}
use Rattle.canon_value_parts.specs.Resources.{all_passes}
use Rattle.canon_val.specs.Value.{HaveTrees}
use Rattle.canon_model.specs.Memory.{cap}
use Rattle.canon_val.specs.declared.val.Val.{Val}
use Rattle.canon_host.specs.Serves.{stopped}
use Rattle.canon_host.specs.declared.asked.Asked.{Asked}
use Rattle.canon_host.specs.declared.error.HostError.{HostError}
use Rattle.canon_host.specs.declared.error.HostError.TheVariants as host
use Rattle.canon_func.specs.Call.{OnAnswered}
use Rattle.canon_func.specs.HostAsks.{RefusalCounted, asked_error, host_error, stopped_error}
use Rattle.canon_func.specs.AskValues.{asked_origin, asked_results, AskLowers, LowersInto}
use Rattle.canon_func.specs.Steps.{RisesAt, TrapsLate}
use Rattle.canon_host.specs.Forms.{ValuesAnswering}
use Rattle.canon_func.specs.Stores.{Callee}
use Rattle.canon_func.specs.AskForms.{ask_values}
use Rattle.canon_func.proofs.AskLaws.{LowersAs}
use Rattle.canon_func.proofs.Lowered.{ending_quiet, untrapped}
use Rattle.canon_func.proofs.Prefixes.{last_lawful}
use Rattle.canon_lowering.specs.Stages.{GoesBy, Stage, moment_at}
use Rattle.canon_context.proofs.Moves.{GuestLaws, moved_by}
use Rattle.canon_lowering.proofs.Lowerings.{unless}
use Rattle.canon_lowering.proofs.Attempts.{attempt_bare, bare_asked}

-- ---- words

pub call_row_is : (n : ℕ) (ws : List ℕ) → take (if nat_le n max_results then n else 0) ws ≡ (if nat_le n max_results then take n ws else [])
call_row_is n ws = ⊎_elim (λ far. rw (lt-leb n max_results far) refl) (λ near. rw (le-leb n max_results near) refl) (cases_lt max_results n)

pub pointer_counts : (a n k : ℕ) → k ≡ a + (if nat_le n max_results then 0 else 1) → (a ≤ k) × (max_results < n → a < k)
pointer_counts a n k e = (
  ⊎_elim (λ far. let w : k ≡ a + 1 = subst (λ b. k ≡ a + (if b then 0 else 1)) (lt-leb n max_results far) e in omega (arith, w))
      (λ near. let w : k ≡ a + 0 = subst (λ b. k ≡ a + (if b then 0 else 1)) (le-leb n max_results near) e in omega (arith, w)) (cases_lt max_results n),
  λ far. let w : k ≡ a + 1 = subst (λ b. k ≡ a + (if b then 0 else 1)) (lt-leb n max_results far) e in omega (arith, w),
)

-- ---- results that were lowered

-- what was lowered, from one moment to another
pub record AskLowered {K : Type 0} (callee : Callee) (asked : Asked) (at : ℕ) (a b : Stage K) (results : List Val) (words : List ℕ) (l n : LedgerState) (r : Result (Unit {0}) Fault) : Type 0 where
  pub answers : List Answer
  pub trap : Option Trap
  pub ending : Ending
  pub ends : EndsAs (have_handle (asked_results callee asked)) (all_passes (asked_results callee asked) results) r ending
  pub lowers : AskLowers callee asked at (moment_at a) (moment_at b) results words answers trap l n r
  pub goes : Goes (moment_at a) (moment_at b) (marks_of answers) (events_of answers trap)
  pub moves : UnlessShort ending (GoesBy a b (events_of answers trap))
  pub cause : CauseOf (moment_at a) (moment_at b) answers trap ending

-- the same without its handles
pub record IntoBy {K : Type 0} (callee : Callee) (asked : Asked) (at : ℕ) (a b : Stage K) (results : List Val) (words : List ℕ) (hs : List ℕ) (ending : Ending) : Type 0 where
  pub answers : List Answer
  pub trap : Option Trap
  pub into : LowersInto (moment_at a) (moment_at b) callee asked at results words answers trap hs ending
  pub goes : Goes (moment_at a) (moment_at b) (marks_of answers) (events_of answers trap)
  pub moves : UnlessShort ending (GoesBy a b (events_of answers trap))
  pub cause : CauseOf (moment_at a) (moment_at b) answers trap ending

pub not_far : (n : ℕ) → n ≤ max_results → max_results < n → ⊥
not_far n a b = omega (arith, a, b)

module _ {K : Type 0} (callee : Callee) (asked : Asked) (at : ℕ) (a b : Stage K) (results : List Val) (words : List ℕ) where
  pub into_by : (hs : List ℕ) (ending : Ending) → LowersResults a b (asked_origin callee asked a.bytes).encoding (asked_results callee asked)
      (HaveTrees (asked_results callee asked) results) at words hs ending → IntoBy callee asked at a b results words hs ending
  into_by hs ending h = ⊎_elim
      (λ far. let low = h.far far in record {
        answers = low.answers;
        trap = low.trap;
        into = record {
          near = λ near. absurd (not_far (members_flat (asked_results callee asked)) near far);
          far = λ again. (attempt_bare false a b _ _ ending low, (bare_asked false a b _ _ ending low).0, (bare_asked false a b _ _ ending low).1);
        };
        goes = low.lowering.goes;
        moves = low.lowering.moves;
        cause = low.lowering.cause;
      })
      (λ near. let low = h.near near in record {
        answers = low.answers;
        trap = low.trap;
        into = record {
          near = λ again. (attempt_bare false a b _ _ ending low, (bare_asked false a b _ _ ending low).0, (bare_asked false a b _ _ ending low).1);
          far = λ far. absurd (not_far (members_flat (asked_results callee asked)) near far);
        };
        goes = low.lowering.goes;
        moves = low.lowering.moves;
        cause = low.lowering.cause;
      })
      (cases_lt max_results (members_flat (asked_results callee asked)))

-- ---- what a refused lowering says

trap_same : (t u : Trap) → Some t ≡ Some u → t ≡ u
trap_same t u e = cc

late_at : (a b : Moment) (answers : List Answer) (t : Trap) (ending : Ending) → CauseOf a b answers (Some t) ending → length a.bytes ≤ t.len
late_at a b answers t trapped (rose, (u, is, late)) = subst (λ (k : Trap). length a.bytes ≤ k.len) (sym (trap_same t u is)) late
late_at a b answers t done h = cc
late_at a b answers t short h = let w = h.0 in cc
late_at a b answers t refused h = cc
late_at a b answers t (misaligned k) h = let w = h.0 in cc
late_at a b answers t (out_of_bounds k) h = let w = h.0 in cc

pub traps_late : (a b : Moment) (answers : List Answer) (trap : Option Trap) (ending : Ending) → CauseOf a b answers trap ending → TrapsLate (length a.bytes) trap
traps_late a b answers None ending h = tt
traps_late a b answers (Some t) ending h = late_at a b answers t ending h

pub rises : (index : ℕ) (some : Bool) (ps : List PassedResource) (f : Fault) (a b : Moment) (answers : List Answer) (trap : Option Trap) (ending : Ending) → EndsAs {T = Unit {0}} some ps (Err f) ending → CauseOf a b answers trap ending
    → RisesAt (asked_error index f) a b
rises index some ps fault.GuestTrap a b answers trap ending ends cause = (subst (λ e. CauseOf a b answers trap e) ends cause).0
rises index some ps fault.OutOfMemory a b answers trap ending ends cause = tt
rises index some ps (fault.Resource resource.OutOfMemory) a b answers trap ending ends cause = tt
rises index some ps (fault.Resource r) a b answers trap ending ends cause = tt
rises index some ps f a b answers trap ending ends cause = tt

pub no_trap_there : (f : Fault) (bytes : List ℕ) (ms : Members) (ws : List ℕ) (k : ℕ) → IsNoArea bytes ms ws k f → ¬ (f ≡ fault.GuestTrap)
no_trap_there f bytes ms ws k (inl h) is = let w = sym h.0 ∙ is in cc
no_trap_there f bytes ms ws k (inr h) is = let w = sym h.0 ∙ is in cc

-- nothing of the guest moved where nothing was asked for
pub no_rise : (index : ℕ) (f : Fault) (a b : Moment) → ¬ (f ≡ fault.GuestTrap) → RisesAt (asked_error index f) a b
no_rise index fault.GuestTrap a b other = absurd (other refl)
no_rise index fault.OutOfMemory a b other = tt
no_rise index (fault.Resource resource.OutOfMemory) a b other = tt
no_rise index (fault.Resource r) a b other = tt
no_rise index f a b other = tt

-- what a refused lowering says of the guest's moves
pub asked_moves : (V : Type 0) (index : ℕ) (f : Fault) (P : Type 0) → UnlessShort (fault_ending f) P → OnAnswered {T = V} (Err (asked_error index f)) P
asked_moves V index fault.OutOfMemory P m = tt
asked_moves V index (fault.Resource resource.OutOfMemory) P m = tt
asked_moves V index (fault.Resource r) P m = m
asked_moves V index f P m = m

-- the same by how it ended
pub asked_moves_by : (V : Type 0) (index : ℕ) (some : Bool) (ps : List PassedResource) (f : Fault) (ending : Ending) (P : Type 0) → EndsAs {T = Unit {0}} some ps (Err f) ending → UnlessShort ending P
    → OnAnswered {T = V} (Err (asked_error index f)) P
asked_moves_by V index some ps fault.OutOfMemory ending P ends m = tt
asked_moves_by V index some ps (fault.Resource resource.OutOfMemory) ending P ends m = tt
asked_moves_by V index some ps (fault.Resource r) ending P ends m = subst (λ end. UnlessShort end P) ends m
asked_moves_by V index some ps f ending P ends m = asked_moves V index f P (subst (λ end. UnlessShort end P) ends m)

-- ---- the count of refusals

-- what an error of the host says of it
abbrev pub CountsHost : ℕ → ℕ → HostError → Type 0
CountsHost before after host.Refused = after ≡ cap (before + 1)
CountsHost before after (host.Fault f) = after ≡ before

pub fault_counted : {before after : ℕ} (index : ℕ) (f : Fault) → after ≡ before → RefusalCounted (asked_error index f) before after
fault_counted index fault.OutOfMemory same = same
fault_counted index (fault.Resource resource.OutOfMemory) same = same
fault_counted index (fault.Resource r) same = same
fault_counted index f same = same

pub host_counted : (before after index : ℕ) (e : HostError) → CountsHost before after e → RefusalCounted (host_error index e) before after
host_counted before after index host.Refused once = once
host_counted before after index (host.Fault f) same = fault_counted index f same

pub stopped_counted : (before after index : ℕ) (why : HostStop) → CountsHost before after (stopped why) → RefusalCounted (stopped_error index why) before after
stopped_counted before after index stop.Refused once = once
stopped_counted before after index stop.OutOfMemory same = same

-- ---- results that ask for nothing

pub quiet_trap : (r : Result (Unit {0}) Fault) (some : Bool) (ps : List PassedResource) (a b : Moment) (answers : List Answer) (trap : Option Trap) (ending : Ending) → EndsAs some ps r ending
    → IfErr r (λ e. (fault_ending e ≡ refused) ⊎ (UsesLedger some ps × (e ≡ fault.OutOfMemory))) → CauseOf a b answers trap ending → trap ≡ None
quiet_trap (Ok x) some ps a b answers trap ending ends why cause = subst (λ e. CauseOf a b answers trap e) ends cause
quiet_trap (Err f) some ps a b answers trap ending ends why cause = untrapped a b answers trap ending cause (ending_quiet some ps f ending ends why)

-- ---- a lowering that isn't refused

pub no_lawful : (a b : Moment) (answers : List Answer) (trap : Option Trap) (at : ℕ) → AllLawful answers → CauseOf a b answers trap (fault_ending (fault.ReallocMisaligned at)) → ⊥
no_lawful a b answers trap at lawful cause = last_lawful answers at _ (λ x bad. bad.1) cause.1 lawful

pub no_lawful_end : (a b : Moment) (answers : List Answer) (trap : Option Trap) (at : ℕ) → AllLawful answers → CauseOf a b answers trap (fault_ending (fault.ReallocOutOfBounds at)) → ⊥
no_lawful_end a b answers trap at lawful cause = last_lawful answers at _ (λ x bad. bad.2) cause.1 lawful

-- ---- what is asked of steps

module _ {T G : Type 0} (may : ValuesAnswering T) (L : GuestLaws G) (index : ℕ) (a b : Parts T G) (callee : Callee) (asked : Asked) (at : ℕ) (results : List Val) (words storage2 : List ℕ)
    (are : words ≡ take (members_flat (asked_results callee asked)) storage2)
    (l : LedgerState) where
  pub lowered_as : (r : Result (Unit {0}) Fault) → AskLowered callee asked at (stage_of L.seen L.moves a) (stage_of L.seen L.moves b) results words l b.ledger r
      → LowersAs (ask_values may) L.seen L.moves index a b callee asked storage2 at results l r
  lowered_as (Ok x) by = record {
    answers = by.answers;
    trap = by.trap;
    lowers = subst (λ ws. AskLowers callee asked at (moment_of L.seen a) (moment_of L.seen b) results ws by.answers by.trap l b.ledger (Ok tt)) are by.lowers;
    goes = by.goes;
    done = subst (λ e. CauseOf (moment_of L.seen a) (moment_of L.seen b) by.answers by.trap e) by.ends by.cause;
    late = traps_late (moment_of L.seen a) (moment_of L.seen b) by.answers by.trap by.ending by.cause;
    rises = tt;
    moved = moved_by L a b (events_of by.answers by.trap) (subst (λ end. UnlessShort end (GoesBy (stage_of L.seen L.moves a) (stage_of L.seen L.moves b) (events_of by.answers by.trap))) by.ends by.moves);
  }
  lowered_as (Err f) by = record {
    answers = by.answers;
    trap = by.trap;
    lowers = subst (λ ws. AskLowers callee asked at (moment_of L.seen a) (moment_of L.seen b) results ws by.answers by.trap l b.ledger (Err f)) are by.lowers;
    goes = by.goes;
    done = tt;
    late = traps_late (moment_of L.seen a) (moment_of L.seen b) by.answers by.trap by.ending by.cause;
    rises = rises index _ _ f (moment_of L.seen a) (moment_of L.seen b) by.answers by.trap by.ending by.ends by.cause;
    moved = asked_moves_by (Unit {0}) index _ _ f by.ending (L.moves (guest_of a) (events_of by.answers by.trap) (guest_of b)) by.ends (unless by.ending _ _ (moved_by L a b (events_of by.answers by.trap)) by.moves);
  }
