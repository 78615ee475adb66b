-- What the parts of a call leave makes a call.
use Rattle.std.proofs.Common.{List, None, Option, Some, Result, Ok, Err, [], ◌∷◌, ap, arith, drop, get_or, suc, inl, inr, length, min, refl, subst, sym, ℕ, ◌+◌, ◌≡◌, ◌≢◌, ◌≤◌, ◌∙◌, ◌⊎◌, Bool, true, false, IsTrue, ◌↔◌, ◌<◌, ◌^◌, ◌%◌}
use Rattle.std.specs.Prelude.{OnOk}
use Rattle.std.specs.Result.{is_err}
use Rattle.std.proofs.Math.Seq.{drop-cons}
use Rattle.std.proofs.lemmas.List.{drop_all}
use Rattle.std.proofs.lemmas.Bool.{iff_false}
use Rattle.std.proofs.lemmas.Option.{slice_get_within}
use Rattle.canon_model.specs.Memory.{Block}
use Rattle.canon_model.specs.Requests.{Call}
use Rattle.canon_memory.specs.declared.error.GuestFault.{GuestFault}
use Rattle.canon_memory.specs.declared.error.GuestFault.TheVariants as fault
use Rattle.canon_memory.specs.declared.event.Event.{Event}
use Rattle.canon_memory.specs.declared.event.Event.TheVariants as event
use Rattle.canon_memory.specs.declared.guest.Step.{Step}
use Rattle.canon_memory.specs.Watch.{relisted}
use Rattle.canon_replay_guest.specs.Lawful.{IsFree, IsLawfulAnswer}
use Rattle.canon_replay_guest.specs.Leaves.{AnswersAsRecorded, Began, DoesEnd, DoesStep, IsOutOfMemory, ReallocatesAsRecorded, StepsAsRecorded}
use Rattle.canon_replay_guest.specs.Moves.{BeginsRequest, CannotBegin, EndsItself, GrowsMemory, GuestRequest, HasWords, IsNext, IsOtherRequest, IsRecordedAnswer, LetsGo, Replays, answered, destroys, ended, posts, reallocates, resumes, starts, stepped, trapped}
use Rattle.canon_replay_guest.specs.Replaying.{CanGrow, IsOpened, Replaying, events_now, grown_to, moved, next_event, start_length, stopped_for, trapped_again, wanted_length}
use Rattle.canon_replay_guest.specs.declared.stop.Stop.TheVariants as stop
use Rattle.canon_replay_guest.proofs.Passing.{next_is}
use Rattle.canon_replay_guest.proofs.Bytes.{after_length, length-grown}

-- a request that may be the first of a call began, from one state and memory to others
pub record IsBegun (q : GuestRequest) (g : Replaying) (m : List ℕ) (mid : Replaying) (m1 : List ℕ) : Type 0 where
  pub none : g.stop ≡ None
  pub begins : BeginsRequest q g (length m) mid (length m1)
  pub short : (mid ≡ g) ⊎ IsOpened g mid

begun : (g mid : Replaying) (m m1 : List ℕ) → Began g m mid m1 (Ok tt) → (g.stop ≡ None) × IsOpened g mid × (length m1 ≡ wanted_length mid (length m)) × CanGrow (length m) (length m1)
begun g mid m m1 (n, o, e, can) =
    let len : length m1 ≡ wanted_length mid (length m) = ap length e ∙ length-grown m (wanted_length mid (length m)) can in
    (n, o, len, subst (λ (k : ℕ). CanGrow (length m) k) (sym len) can)

pub start_begun : (g mid : Replaying) (m m1 : List ℕ) (func : ℕ) (words : List ℕ) → Began g m mid m1 (Ok tt) → IsBegun (starts func words) g m mid m1
start_begun g mid m m1 func words b = let (n, o, len, can) = begun g mid m m1 b in record { none = n; begins = (o, len, can); short = inr o }

pub answer_begun : (g mid : Replaying) (m m1 : List ℕ) (c : Call) → Began g m mid m1 (Ok tt) → IsBegun (reallocates c) g m mid m1
answer_begun g mid m m1 c b = let (n, o, len, can) = begun g mid m m1 b in record { none = n; begins = (o, len, can); short = inr o }

pub resume_begun : (g mid : Replaying) (m : List ℕ) (words : List ℕ) → g.stop ≡ None → IsOpened g mid → IsBegun (resumes words) g m mid m
resume_begun g mid m words n o = record { none = n; begins = (o, refl); short = inr o }

-- ---- traps

pub begin_trapped : (q : GuestRequest) (g h : Replaying) (m m1 : List ℕ) → GrowsMemory q → Began g m h m1 (Err fault.Trap) → Replays g (trapped q m (length m1)) h
begin_trapped q g h m m1 b (e, inl (some, again)) = inr (some, ap length e, again)
begin_trapped q g h m m1 b (e, inr (none, (mid, o, cannot, s))) = inl (none, (mid, inl ((b, o, cannot), ap length e, s)))

pub begin_short : (g h : Replaying) (m m1 : List ℕ) → Began g m h m1 (Err fault.OutOfMemory) → IsOutOfMemory g h
begin_short g h m m1 (e, (mid, o, s)) = (mid, inr o, s)

-- a request that isn't the recorded one, of whose words it is known that each has 64 bits
pub other_than : (o : Option Event) (q : GuestRequest) → ¬ (IsNext o q) → HasWords q → IsOtherRequest o q
other_than None q n words = tt
other_than (Some e) q n words = (n, words)

pub differs : (q : GuestRequest) (g mid h : Replaying) (m m1 : List ℕ) → IsBegun q g m mid m1 → IsOtherRequest (next_event mid) q → h ≡ stopped_for mid stop.Differs → Replays g (trapped q m (length m1)) h
differs q g mid h m m1 b n e = inl (b.none, (mid, inr (stop.Differs, b.begins, n, e)))

pub again : (q : GuestRequest) (g h : Replaying) (m : List ℕ) → g.stop ≢ None → h ≡ trapped_again g → Replays g (trapped q m (length m)) h
again q g h m n e = inr (n, refl, e)

-- ---- steps

pub steps : (q : GuestRequest) (g mid h : Replaying) (m m1 m2 : List ℕ) (r : Result Step GuestFault) → IsBegun q g m mid m1 → IsNext (next_event mid) q → LetsGo q → StepsAsRecorded mid m1 h m2 r → DoesStep q g m h m2 r
steps q g mid h m m1 m2 (Ok s) b n l (step, e) = (b.none, l, (mid, length m1, b.begins, n, step, e))
steps q g mid h m m1 m2 (Err fault.Trap) b n l ((same, never), e) =
    inl (
      b.none,
      (
        mid,
        inr (
          stop.Unfit,
          subst (λ (k : ℕ). BeginsRequest q g (length m) mid k) (ap length (sym same)) b.begins,
          (n, l, λ s left step. never s left (step.0, subst (λ (k : ℕ). CanGrow k (length left)) (ap length same) step.1)),
          e,
        ),
      ),
    )
steps q g mid h m m1 m2 (Err fault.OutOfMemory) b n l e = (mid, b.short, e)

-- ---- answers

pub gives : (c : Call) (g mid h : Replaying) (m m1 m2 : List ℕ) (r : Result ℕ GuestFault) → Began g m mid m1 (Ok tt) → AnswersAsRecorded mid m1 c h m2 r → ReallocatesAsRecorded g m c h m2 r
gives c g mid h m m1 m2 (Ok answer) b (is, lawful, copied, e) =
    let can : CanGrow (length m) (wanted_length mid (length m)) = b.3 in
    let wanted = wanted_length mid (length m) in
    let len1 : length m1 ≡ wanted = ap length b.2 ∙ length-grown m wanted can in
    let from : m2 ≡ moved (grown_to m wanted) c.old answer (min c.old_size c.new_size) = copied ∙ ap (λ (xs : List ℕ). moved xs c.old answer (min c.old_size c.new_size)) b.2 in
    let law : IsLawfulAnswer mid.live wanted c answer = subst (λ (k : ℕ). IsLawfulAnswer mid.live k c answer) len1 lawful in
    let len2 : length m2 ≡ wanted = after_length mid.live m wanted m2 c answer can law from in
    let begins = (answer_begun g mid m m1 c b).begins in (
      (b.0, (mid, subst (λ (k : ℕ). BeginsRequest (reallocates c) g (length m) mid k) (len1 ∙ sym len2) begins, is, subst (λ (k : ℕ). IsLawfulAnswer mid.live k c answer) (len1 ∙ sym len2) lawful, e)),
      from ∙ ap (λ (k : ℕ). moved (grown_to m k) c.old answer (min c.old_size c.new_size)) (sym len2),
    )
gives c g mid h m m1 m2 (Err fault.Trap) b (same, inl (never, e)) =
    let f = answer_begun g mid m m1 c b in
    let can = f.begins.2 in
    (subst (λ (k : ℕ). Replays g (trapped (reallocates c) m k) h) (ap length (sym same)) (differs (reallocates c) g mid h m m1 f (other_than (next_event mid) (reallocates c) never tt) e), subst (λ (k : ℕ). length m ≤ k) (ap length (sym same)) can.0)
gives c g mid h m m1 m2 (Err fault.Trap) b (same, inr (answer, is, never, e)) =
    let f = answer_begun g mid m m1 c b in
    let can = f.begins.2 in (
      subst (λ (k : ℕ). Replays g (trapped (reallocates c) m k) h) (ap length (sym same)) (inl (f.none, (mid, inr (stop.Unlawful, f.begins, (c, answer, refl, is, never), e)))),
      subst (λ (k : ℕ). length m ≤ k) (ap length (sym same)) can.0,
    )
gives c g mid h m m1 m2 (Err fault.OutOfMemory) b (same, e) =
    let f = answer_begun g mid m m1 c b in
    ((mid, f.short, e), subst (λ (k : ℕ). length m ≤ k) (ap length (sym same)) f.begins.2.0)

pub begin_gives_trap : (c : Call) (g h : Replaying) (m m1 : List ℕ) → Began g m h m1 (Err fault.Trap) → length m ≤ length m1 → ReallocatesAsRecorded g m c h m1 (Err fault.Trap)
begin_gives_trap c g h m m1 b le = (begin_trapped (reallocates c) g h m m1 tt b, le)

-- ---- what it ends itself

pub ends : (q : GuestRequest) (g mid h : Replaying) (m : List ℕ) → g.stop ≡ None → IsOpened g mid → EndsItself q → IsNext (next_event mid) q → h ≡ record mid { at = mid.at + 1; live = [] } → DoesEnd q g m h (Ok tt)
ends q g mid h m none o l n e = (none, l, (mid, o, n, e))

pub end_differs : (q : GuestRequest) (g mid h : Replaying) (m : List ℕ) (f : GuestFault) → f ≡ fault.Trap → BeginsRequest q g (length m) mid (length m) → g.stop ≡ None → IsOtherRequest (next_event mid) q
    → h ≡ stopped_for mid stop.Differs → DoesEnd q g m h (Err f)
end_differs q g mid h m f ef b none n e = subst (λ (x : GuestFault). DoesEnd q g m h (Err x)) (sym ef) (inl (none, (mid, inr (stop.Differs, b, n, e))))

pub end_again : (q : GuestRequest) (g h : Replaying) (m : List ℕ) (f : GuestFault) → f ≡ fault.Trap → g.stop ≢ None → h ≡ trapped_again g → DoesEnd q g m h (Err f)
end_again q g h m f ef n e = subst (λ (x : GuestFault). DoesEnd q g m h (Err x)) (sym ef) (again q g h m n e)

-- ---- tests

module _ (g : Replaying) (len : ℕ) (c : Call) (answer : ℕ) (placed : (answer < 2 ^ 32) × (answer % c.align ≡ 0) × (answer + c.new_size ≤ len)) (from : c.old + min c.old_size c.new_size ≤ len) where
  pub lawful_by : (live : List Block) (r : Bool) → live ≡ g.live → (IsTrue r ↔ IsFree live c answer) → (IsTrue r ↔ IsLawfulAnswer g.live len c answer)
  lawful_by live r e free = (
    λ t. record { narrow = placed.0; aligned = placed.1; inside = placed.2; free = subst (λ (l : List Block). IsFree l c answer) e (free.0 t); from = from },
    λ law. free.1 (subst (λ (l : List Block). IsFree l c answer) (sym e) law.free),
  )

-- ---- the length of a start

starts_at : (x : Event) (rest : List Event) (len func : ℕ) (words memory : List ℕ) → x ≡ event.Start func words memory → start_length (x ∷ rest) len ≡ length memory
starts_at x rest len func words memory e = ap (λ (y : Event). start_length (y ∷ rest) len) e

one_more : (n : ℕ) → n + 1 ≡ suc n
one_more n = omega arith

no_start_at : (x : Event) (rest : List Event) (len : ℕ) → ((func : ℕ) (words memory : List ℕ) → x ≡ event.Start func words memory → ⊥) → start_length (x ∷ rest) len ≡ start_length rest len
no_start_at (event.Start f ws m) rest len never = absurd (never f ws m refl)
no_start_at (event.Ask n ws m) rest len never = refl
no_start_at (event.Resume ws m) rest len never = refl
no_start_at (event.Return ws m) rest len never = refl
no_start_at (event.Realloc a b c d e) rest len never = refl
no_start_at (event.Post f ws) rest len never = refl
no_start_at (event.Dtor f r) rest len never = refl
no_start_at (event.Trap asked n) rest len never = refl

module _ (xs : List Event) (i len : ℕ) where
  pub starts_there : (x : Event) (func : ℕ) (words memory : List ℕ) → i < length xs → x ≡ get_or xs i x → x ≡ event.Start func words memory → start_length (drop i xs) len ≡ length memory
  starts_there x func words memory lt is e =
      ap (λ (l : List Event). start_length l len) (drop-cons xs i x lt) ∙ starts_at (get_or xs i x) (drop (suc i) xs) len func words memory (sym is ∙ e)

  pub not_at_start : (x : Event) → i < length xs → x ≡ get_or xs i x → ((func : ℕ) (words memory : List ℕ) → x ≡ event.Start func words memory → ⊥) → start_length (drop i xs) len ≡ start_length (drop (i + 1) xs) len
  not_at_start x lt is never =
      ap (λ (l : List Event). start_length l len) (drop-cons xs i x lt)
      ∙ no_start_at (get_or xs i x) (drop (suc i) xs) len (λ f ws m e. never f ws m (is ∙ e))
      ∙ ap (λ (n : ℕ). start_length (drop n xs) len) (sym (one_more i))

  pub no_start : length xs ≤ i → start_length (drop i xs) len ≡ len
  no_start le = ap (λ (l : List Event). start_length l len) (drop_all i xs le)

-- ---- the next event, as it is tested

module _ (o : Option Event) (g : Replaying) (q : GuestRequest) (r : Bool) (is : o ≡ next_event g) (tested : IsTrue r ↔ IsNext o q) where
  pub is_next : r ≡ true → IsNext (next_event g) q
  is_next e = subst (λ (p : Option Event). IsNext p q) is (tested.0 e)

  pub is_other : HasWords q → r ≡ false → IsOtherRequest (next_event g) q
  is_other words e = other_than (next_event g) q (λ n. iff_false tested e (subst (λ (p : Option Event). IsNext p q) (sym is) n)) words

pub at_within : (g : Replaying) (q : GuestRequest) → IsNext (next_event g) q → g.at < length (events_now g)
at_within g q n = let (e, is, tells) = next_is (next_event g) q n in slice_get_within (events_now g) g.at e is

pub differs_step : (q : GuestRequest) (g mid h : Replaying) (m m1 : List ℕ) (f : GuestFault) → f ≡ fault.Trap → IsBegun q g m mid m1 → IsOtherRequest (next_event mid) q → h ≡ stopped_for mid stop.Differs → DoesStep q g m h m1 (Err f)
differs_step q g mid h m m1 f e b n s = subst (λ (x : GuestFault). DoesStep q g m h m1 (Err x)) (sym e) (differs q g mid h m m1 b n s)

pub answers_at : (g h : Replaying) (m m2 : List ℕ) (c : Call) (answer : ℕ) (o : Option Event) → o ≡ next_event g → IsRecordedAnswer o c answer → (len : ℕ) → len ≡ length m → IsLawfulAnswer g.live len c answer
    → m2 ≡ moved m c.old answer (min c.old_size c.new_size) → h ≡ record g { at = g.at + 1; live = relisted g.live c answer } → AnswersAsRecorded g m c h m2 (Ok answer)
answers_at g h m m2 c answer o is a len el law copied e = (sym is ∙ a, subst (λ (k : ℕ). IsLawfulAnswer g.live k c answer) el law, copied, e)

was_ok : {T E : Type 0} (r : Result T E) (P : Type 0) → is_err r ≡ false → OnOk r P → P
was_ok (Ok x) P e h = h
was_ok (Err x) P e h = absurd (cc)

-- the list after an answer for which there was room
pub listed_at : (v g : Replaying) (live : List Block) (c : Call) (answer : ℕ) (r : Result (Unit {0}) (Unit {0})) (b : Bool) → v ≡ g → b ≡ is_err r → b ≡ false → OnOk r (live ≡ relisted v.live c answer)
    → record v { at = v.at + 1; live = live } ≡ record g { at = g.at + 1; live = relisted g.live c answer }
listed_at v g live c answer r b e told ok h =
    ap (λ (l : List Block). record v { at = v.at + 1; live = l }) (was_ok r (live ≡ relisted v.live c answer) (sym told ∙ ok) h)
    ∙ ap (λ (x : Replaying). record x { at = x.at + 1; live = relisted x.live c answer }) e

pub not_destroyed : (o : Option Event) (func rep : ℕ) → IsOtherRequest o (destroys func rep)
not_destroyed None func rep = tt
not_destroyed (Some (event.Start f ws m)) func rep = (λ n. n, tt)
not_destroyed (Some (event.Ask k ws m)) func rep = (λ n. n, tt)
not_destroyed (Some (event.Resume ws m)) func rep = (λ n. n, tt)
not_destroyed (Some (event.Return ws m)) func rep = (λ n. n, tt)
not_destroyed (Some (event.Realloc a b c d e)) func rep = (λ n. n, tt)
not_destroyed (Some (event.Post f ws)) func rep = (λ n. n, tt)
not_destroyed (Some (event.Dtor f r)) func rep = (λ n. n, tt)
not_destroyed (Some (event.Trap asked len)) func rep = (λ n. n, tt)
