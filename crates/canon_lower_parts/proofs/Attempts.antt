-- Typed attempts, one after another, whatever they aim at.
use Rattle.std.proofs.Common.{◌≡◌, ◌++◌, Bool, Err, List, None, Ok, Result, [], ◌∷◌, false, true, inl, inr, refl, subst, sym, ⊎_elim, ℕ}
use Rattle.std.specs.Prelude.{IfErr, OnOk, ◌⊎◌}
use Rattle.canon_context.proofs.Cores.{not_done}
use Rattle.canon_context.proofs.Moves.{GuestLaws}
use Rattle.canon_context.specs.Core.{Parts, stage_of}
use Rattle.canon_context.specs.declared.fault.Fault.{Fault}
use Rattle.canon_context.specs.declared.fault.Fault.TheVariants as fault
use Rattle.canon_resources.proofs.Leaves.{leaves_stop_first, leaves_stop_then, leaves_then, stops_at_once}
use Rattle.canon_resources.specs.Parts.{LeavesStop, LeavesTake, Part}
use Rattle.canon_ledger.specs.Ledger.{LedgerState}
use Rattle.canon_passing.proofs.Passing.{handles_then, no_stop}
use Rattle.canon_lower_parts.specs.Blames.{IsElsewhere}
use Rattle.canon_lower_parts.specs.Lowers.{EndsBy, HandlesCross, TypedAttempt}
use Rattle.canon_passing.specs.Passed.{ledger_fault}
use Rattle.canon_context.specs.Faults.{stop_of}
use Rattle.canon_lowering.proofs.Attempts.{attempt_other}
use Rattle.canon_lowering.proofs.Lowerings.{NotDone}
use Rattle.canon_lowering.specs.Attempt.{Aim, Attempt}
use Rattle.canon_lowering.specs.Lowering.{Ending, done}
use Rattle.canon_model.specs.Memory.{Block}

-- ---- endings

no_ok : {A B : Type 0} (x : A) (e : B) → Ok x ≡ Err e → ⊥
no_ok x e h = cc

pub ends_done : {T : Type 0} (gives : List (List Part)) (x : T) (ending : Ending) → EndsBy gives (Ok x) ending → ending ≡ done
ends_done gives x ending (inl h) = h
ends_done gives x ending (inr h) = absurd (no_ok x fault.OutOfMemory h.0)

pub ends_early : {T : Type 0} (gives : List (List Part)) (e : Fault) (ending : Ending) → EndsBy {T = T} gives (Err e) ending → NotDone ending
ends_early gives e ending (inl h) = subst NotDone (sym h) (not_done e)
ends_early gives e ending (inr h) = subst NotDone (sym h.2) tt

-- where more handles are given
pub lower_ends_more : {T : Type 0} (gives more : List (List Part)) (r : Result T Fault) (ending : Ending) → (more ≡ [] → gives ≡ []) → EndsBy gives r ending → EndsBy more r ending
lower_ends_more gives more r ending wider (inl h) = inl h
lower_ends_more gives more r ending wider (inr h) = inr (h.0, λ none. h.1 (wider none), h.2)

-- ---- handles

pub none_first : {A : Type 0} (xs ys : List A) → xs ++ ys ≡ [] → xs ≡ []
none_first [] ys e = refl
none_first (x ∷ xs) ys e = cc

pub none_later : {A : Type 0} (xs ys : List A) → xs ++ ys ≡ [] → ys ≡ []
none_later [] ys e = e
none_later (x ∷ xs) ys e = cc

pub cross_then : {X : Type 0} (l m n : LedgerState) (gs fs : List (List Part)) (hs ks : List ℕ) (r : Result X Fault) → LeavesTake l gs hs m → HandlesCross m n fs ks r → HandlesCross l n (gs ++ fs) (hs ++ ks) r
cross_then l m n gs fs hs ks (Ok x) h k = leaves_then l m n gs fs hs ks h k
cross_then l m n gs fs hs ks (Err e) h (k, at) = (leaves_stop_then (stop_of e) l m n gs fs hs h k, ⊎_elim (λ none. inl none) (λ some. inr (λ nil. some (none_later gs fs nil))) at)

pub cross_stop : (l n : LedgerState) (gs fs : List (List Part)) (hs ks : List ℕ) (e : Fault) → HandlesCross {T = Unit {0}} l n gs hs (Err e) → HandlesCross {T = Unit {0}} l n (gs ++ fs) ks (Err e)
cross_stop l n gs fs hs ks e (h, at) = (leaves_stop_first (stop_of e) l n gs fs h, ⊎_elim (λ none. inl none) (λ some. inr (λ nil. some (none_first gs fs nil))) at)

-- it ended before any handle
pub cross_stopped : (l n : LedgerState) (gs : List (List Part)) (e : Fault) → n ≡ l → ledger_fault e ≡ None → HandlesCross {T = Unit {0}} l n gs [] (Err e)
cross_stopped l n gs e same none = (subst (λ why. LeavesStop why l gs n) (sym (no_stop e none)) (stops_at_once l n gs same), inl none)

pub lower_not_false : true ≡ false → ⊥
lower_not_false e = cc

-- ---- what is too large

-- the cause of a fault, and that nothing is too large where there is none
abbrev pub Cause : {X : Type 0} → (X → Type 0) → (Fault → X → Type 0) → Fault → Type 0
Cause {X = X} Is Large e = (x : X) → Is x → IsElsewhere e ⊎ Large e x

abbrev pub IsSmall : {X : Type 0} → (X → Type 0) → (Fault → X → Type 0) → Type 0
IsSmall {X = X} Is Large = (x : X) → Is x → (e : Fault) → ¬ Large e x

-- each y has a part that is too large exactly where an x has one
abbrev pub AsLarge : {X Y : Type 0} → (X → Type 0) → (Y → Type 0) → (Fault → X → Type 0) → (Fault → Y → Type 0) → Type 0
AsLarge {X = X} {Y = Y} Is Is2 Large Large2 = (y : Y) → Is2 y → (x : X) × Is x × ((e : Fault) → Large e x → Large2 e y) × ((e : Fault) → Large2 e y → Large e x)

module _ {X Y : Type 0} (Is : X → Type 0) (Is2 : Y → Type 0) (Large : Fault → X → Type 0) (Large2 : Fault → Y → Type 0) where
  -- a cause is one of the larger's too
  pub cause_of : (e : Fault) → ((y : Y) → Is2 y → (x : X) × Is x × (Large e x → Large2 e y)) → Cause Is Large e → Cause Is2 Large2 e
  cause_of e up h y is = let (x, isx, more) = up y is in ⊎_elim (λ out. inl out) (λ some. inr (more some)) (h x isx)

  pub cause_as : (r : Result (Unit {0}) Fault) → AsLarge Is Is2 Large Large2 → IfErr r (Cause Is Large) → IfErr r (Cause Is2 Large2)
  cause_as (Ok u) same h = tt
  cause_as (Err e) same h = cause_of e (λ y is. let (x, isx, up, down) = same y is in (x, isx, up e)) h

  pub small_as : (r : Result (Unit {0}) Fault) → AsLarge Is Is2 Large Large2 → OnOk r (IsSmall Is Large) → OnOk r (IsSmall Is2 Large2)
  small_as (Ok u) same h = λ y is e some. let (x, isx, up, down) = same y is in h x isx e (down e some)
  small_as (Err e) same h = tt

-- each z has a part that is too large exactly where an x or a y has one
abbrev pub EitherLarge : {X Y Z : Type 0} → (X → Type 0) → (Y → Type 0) → (Z → Type 0) → (Fault → X → Type 0) → (Fault → Y → Type 0) → (Fault → Z → Type 0) → Type 0
EitherLarge {X = X} {Y = Y} {Z = Z} Is Is2 Is3 Large Large2 Large3 =
    (z : Z) → Is3 z → (x : X) × (y : Y) × Is x × Is2 y × ((e : Fault) → Large e x ⊎ Large2 e y → Large3 e z) × ((e : Fault) → Large3 e z → Large e x ⊎ Large2 e y)

module _ {X Y Z : Type 0} (Is : X → Type 0) (Is2 : Y → Type 0) (Is3 : Z → Type 0) (Large : Fault → X → Type 0) (Large2 : Fault → Y → Type 0) (Large3 : Fault → Z → Type 0) (either : EitherLarge Is Is2 Is3 Large Large2 Large3) where
  pub cause_first : (e : Fault) → Cause Is Large e → Cause Is3 Large3 e
  cause_first e = cause_of Is Is3 Large Large3 e (λ z is. let (x, y, isx, isy, up, down) = either z is in (x, isx, λ some. up e (inl some)))

  pub cause_then : (r : Result (Unit {0}) Fault) → IfErr r (Cause Is2 Large2) → IfErr r (Cause Is3 Large3)
  cause_then (Ok u) h = tt
  cause_then (Err e) h = cause_of Is2 Is3 Large2 Large3 e (λ z is. let (x, y, isx, isy, up, down) = either z is in (y, isy, λ some. up e (inr some))) h

  pub small_then : (r : Result (Unit {0}) Fault) → IsSmall Is Large → OnOk r (IsSmall Is2 Large2) → OnOk r (IsSmall Is3 Large3)
  small_then (Ok u) h k = λ z is e some. let (x, y, isx, isy, up, down) = either z is in ⊎_elim (λ one. h x isx e one) (λ two. k y isy e two) (down e some)
  small_then (Err e) h k = tt

-- ---- attempts

-- what a type that reaches no text and no list leaves as it is
abbrev pub AttemptKept : {D G : Type 0} → Parts D G → Parts D G → Type 0
AttemptKept a b = b ≡ record a { ledger = b.ledger }

module _ {D G : Type 0} (L : GuestLaws G) where
  abbrev AttemptDoes : {X : Type 0} → Parts D G → Parts D G → List Block → Aim X → List (List Part) → Bool → Type 0 → (Fault → X → Type 0) → Result (Unit {0}) Fault → Type 0
  AttemptDoes a b places aim gives blocks still Large r = TypedAttempt L.seen L.moves a b places aim gives blocks still Large r

  -- nothing is asked for, and no handle is given
  pub typed_none : {X : Type 0} (a : Parts D G) (places : List Block) (aim : Aim X) (blocks : Bool) (Large : Fault → X → Type 0)
      → Attempt false (stage_of L.seen L.moves a) (stage_of L.seen L.moves a) places aim [] done → IsSmall aim.Is Large
      → AttemptDoes a a places aim [] blocks (AttemptKept a a) Large (Ok tt)
  typed_none a places aim blocks Large h small = record {
    handles = [];
    ending = done;
    ends = inl refl;
    attempt = h;
    passed = (refl, refl);
    same = refl;
    quiet = λ e. (refl, tt);
    cause = tt;
    small = small;
  }

  -- the same said of another aim
  pub typed_map : {X Y : Type 0} (a b : Parts D G) (part whole : List Block) (aim : Aim X) (other : Aim Y) (gives : List (List Part)) (blocks blocks2 : Bool) (still : Type 0) (Large : Fault → X → Type 0) (Large2 : Fault → Y → Type 0)
      (r : Result (Unit {0}) Fault)
      → ((hs : List ℕ) (e : Ending) → Attempt false (stage_of L.seen L.moves a) (stage_of L.seen L.moves b) part aim hs e
      → Attempt false (stage_of L.seen L.moves a) (stage_of L.seen L.moves b) whole other hs e) → (blocks2 ≡ false → blocks ≡ false)
      → AsLarge aim.Is other.Is Large Large2 → AttemptDoes a b part aim gives blocks still Large r → AttemptDoes a b whole other gives blocks2 still Large2 r
  typed_map a b part whole aim other gives blocks blocks2 still Large Large2 r f quieter same h = record {
    handles = h.handles;
    ending = h.ending;
    ends = h.ends;
    attempt = f h.handles h.ending h.attempt;
    passed = h.passed;
    same = h.same;
    quiet = λ none. h.quiet (quieter none);
    cause = cause_as aim.Is other.Is Large Large2 r same h.cause;
    small = small_as aim.Is other.Is Large Large2 r same h.small;
  }

  -- a first one, and then a second
  pub typed_then : {X Y Z : Type 0} (a b c : Parts D G) (p q big : List Block) (first : Aim X) (second : Aim Y) (whole : Aim Z) (gs fs : List (List Part)) (b1 b2 b3 : Bool) (still1 still2 still3 : Type 0)
      (Large1 : Fault → X → Type 0) (Large2 : Fault → Y → Type 0) (Large3 : Fault → Z → Type 0) (r : Result (Unit {0}) Fault)
      → ((hs ks : List ℕ) (e : Ending) → Attempt false (stage_of L.seen L.moves a) (stage_of L.seen L.moves b) p first hs done → Attempt false (stage_of L.seen L.moves b) (stage_of L.seen L.moves c) q second ks e
      → Attempt false (stage_of L.seen L.moves a) (stage_of L.seen L.moves c) big whole (hs ++ ks) e)
      → (b3 ≡ false → (b1 ≡ false) × (b2 ≡ false)) → (still1 → still2 → still3) → EitherLarge first.Is second.Is whole.Is Large1 Large2 Large3
      → AttemptDoes a b p first gs b1 still1 Large1 (Ok tt) → AttemptDoes b c q second fs b2 still2 Large2 r → AttemptDoes a c big whole (gs ++ fs) b3 still3 Large3 r
  typed_then a b c p q big first second whole gs fs b1 b2 b3 still1 still2 still3 Large1 Large2 Large3 r f quieter stay either h k =
      let whole_first : Attempt false (stage_of L.seen L.moves a) (stage_of L.seen L.moves b) p first h.handles done =
      subst (λ (e : Ending). Attempt false (stage_of L.seen L.moves a) (stage_of L.seen L.moves b) p first h.handles e) (ends_done gs tt h.ending h.ends) h.attempt in
      record {
        handles = h.handles ++ k.handles;
        ending = k.ending;
        ends = lower_ends_more fs (gs ++ fs) r k.ending (none_later gs fs) k.ends;
        attempt = f h.handles k.handles k.ending whole_first k.attempt;
        passed = cross_then a.ledger b.ledger c.ledger gs fs h.handles k.handles r h.passed k.passed;
        same = handles_then a b c h.same k.same;
        quiet = λ none. let (n1, n2) = quieter none in let one = h.quiet n1 in let two = k.quiet n2 in (stay one.0 two.0, two.1);
        cause = cause_then first.Is second.Is whole.Is Large1 Large2 Large3 either r k.cause;
        small = small_then first.Is second.Is whole.Is Large1 Large2 Large3 either r h.small k.small;
      }

  -- a first one fails
  pub typed_stop : {X Y Z : Type 0} (a b : Parts D G) (p big : List Block) (first : Aim X) (Second : Y → Type 0) (whole : Aim Z) (gs fs : List (List Part)) (b1 b3 : Bool) (still : Type 0)
      (Large1 : Fault → X → Type 0) (Large2 : Fault → Y → Type 0) (Large3 : Fault → Z → Type 0) (e : Fault)
      → ((hs : List ℕ) (d : Ending) → NotDone d → Attempt false (stage_of L.seen L.moves a) (stage_of L.seen L.moves b) p first hs d → Attempt false (stage_of L.seen L.moves a) (stage_of L.seen L.moves b) big whole hs d)
      → (b3 ≡ false → b1 ≡ false) → EitherLarge first.Is Second whole.Is Large1 Large2 Large3
      → AttemptDoes a b p first gs b1 still Large1 (Err e) → AttemptDoes a b big whole (gs ++ fs) b3 still Large3 (Err e)
  typed_stop a b p big first Second whole gs fs b1 b3 still Large1 Large2 Large3 e f quieter either h = record {
    handles = h.handles;
    ending = h.ending;
    ends = lower_ends_more gs (gs ++ fs) (Err e) h.ending (none_first gs fs) h.ends;
    attempt = f h.handles h.ending (ends_early gs e h.ending h.ends) h.attempt;
    passed = cross_stop a.ledger b.ledger gs fs h.handles h.handles e h.passed;
    same = h.same;
    quiet = λ none. h.quiet (quieter none);
    cause = cause_first first.Is Second whole.Is Large1 Large2 Large3 either e h.cause;
    small = tt;
  }

  -- where it failed, it says as little of another aim
  pub typed_other : {X : Type 0} (a b : Parts D G) (places : List Block) (aim other : Aim X) (gives : List (List Part)) (blocks : Bool) (still : Type 0) (Large : Fault → X → Type 0) (e : Fault)
      → ((x : X) → other.Is x → aim.Is x × (other.asks x ≡ aim.asks x)) → AttemptDoes a b places aim gives blocks still Large (Err e) → AttemptDoes a b places other gives blocks still Large (Err e)
  typed_other a b places aim other gives blocks still Large e same h = record {
    handles = h.handles;
    ending = h.ending;
    ends = h.ends;
    attempt = attempt_other false (stage_of L.seen L.moves a) (stage_of L.seen L.moves b) places aim other h.ending (ends_early gives e h.ending h.ends) same h.attempt;
    passed = h.passed;
    same = h.same;
    quiet = h.quiet;
    cause = λ x is. h.cause x (same x is).0;
    small = tt;
  }
