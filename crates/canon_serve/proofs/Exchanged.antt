-- Asks for functions of the host: what passed, and the borrows that are dropped.
use Rattle.std.proofs.Common.{Err, List, Ok, Option, Result, Vec, [], false, inl, inr, length, map, refl, subst, true, ◌++◌, ◌∷◌, ◌≡◌, ℕ}
use Rattle.std.specs.List.{All}
use Rattle.std.specs.Prelude.{OnOk, ◌≢◌}
use Rattle.std.specs.declared.alloc.Global.{Global}
use Rattle.std.proofs.lemmas.List.Elements.{All-cons, All-nil}
use Rattle.canon_context.specs.Host.{HostSteps, IsHostStep}
use Rattle.canon_context.specs.declared.host.HostStop.{HostStop}
use Rattle.canon_context.specs.declared.host.HostStop.TheVariants as stop
use Rattle.canon_host.specs.Forms.{outcome}
use Rattle.canon_image_parts.specs.Read.{IsNumberedRead}
use Rattle.canon_ledger.specs.Index.{GivenIndex}
use Rattle.canon_ledger.specs.Ledger.{HostDrop, LedgerState, run_steps}
use Rattle.canon_model.specs.Shape.{Shape}
use Rattle.canon_relay.specs.Channel.{AddsMessages, Message, told}
use Rattle.canon_relay.specs.Relay.{PassesMessages, adds_both}
use Rattle.canon_relay.specs.Wire.{numbers_bytes}
use Rattle.canon_resources.specs.Held.{Any}
use Rattle.canon_types.specs.Table.{TypeTable, shape_of}
use Rattle.canon_types.specs.declared.types.InterfaceType.TheVariants as ty
use Rattle.canon_types.specs.declared.types.TypeFunc.{TypeFunc}
use Rattle.canon_val.specs.declared.val.Val.{Val}
use Rattle.canon_val.specs.declared.val.Val.TheVariants as val
use Rattle.canon_serve.specs.Asks.{AnswersAsk, AsksHost, DropsBorrows, HearsNoStatus, HearsRefusal, HearsStatus, Hosting, IsRefusedAsk, IsServedAsk, ListsValues, ReadsAnswer, ThenHears, ask_messages, without_borrows}
use Rattle.canon_serve.specs.Images.{AreLooked, are_listed}
use Rattle.canon_serve.specs.Messages.{IsStrictPrefix, told_bytes}

-- ---- borrows

all_drops : (xs : List GivenIndex) → All IsHostStep (map HostDrop xs)
all_drops [] = All-nil IsHostStep
all_drops (x ∷ xs) = All-cons IsHostStep (HostDrop x) (map HostDrop xs) tt (all_drops xs)

pub drops_are_steps : (xs : List GivenIndex) (l l2 : LedgerState) → l2 ≡ run_steps (map HostDrop xs) l → HostSteps l l2
drops_are_steps xs l l2 is = record { steps = map HostDrop xs; each = all_drops xs; is = is }

pub drops_always : (r : Result (List Val) HostStop) (params : List Val) (l l2 : LedgerState) → l2 ≡ without_borrows params l → DropsBorrows r params l l2
drops_always (Ok xs) params l l2 is = is
drops_always (Err stop.Refused) params l l2 is = is
drops_always (Err stop.OutOfMemory) params l l2 is = inr is

-- ---- messages

module _ (a b c : Option (List Message)) (n : ℕ) (asked : List ℕ) where
  pub then_heard : (P : List Message → Type 0) → AddsMessages a b (ask_messages n asked) → PassesMessages b c P → PassesMessages a c (ThenHears n asked P)
  then_heard P whole h = (ask_messages n asked ++ h.0, adds_both a b c (ask_messages n asked) h.0 whole h.1, (h.0, refl, h.2))

  pub refused_then : AddsMessages a b (ask_messages n asked) → PassesMessages b c HearsRefusal → PassesMessages a c (IsRefusedAsk n asked)
  refused_then whole h = let p = then_heard HearsRefusal whole h in (p.0, p.1, inr p.2)

pub cut_ask : (a b : Option (List Message)) (n : ℕ) (asked : List ℕ) → PassesMessages a b (IsStrictPrefix (ask_messages n asked)) → PassesMessages a b (IsRefusedAsk n asked)
cut_ask a b n asked h = (h.0, h.1, inl h.2)

-- an answer that was heard whole has another status than 0
pub other_status : (a b : Option (List Message)) (status : ℕ) (answered : List ℕ) → (status ≢ 0) → PassesMessages a b (HearsStatus status answered) → PassesMessages a b HearsRefusal
other_status a b status answered not h = (h.0, h.1, inr (status, answered, not, h.2))

-- or none was
pub no_status : (a b : Option (List Message)) → PassesMessages a b HearsNoStatus → PassesMessages a b HearsRefusal
no_status a b h = (h.0, h.1, inl h.2)

-- the numbers of an ask, and its bytes
pub told_ask : (a b : Option (List Message)) (n len : ℕ) (head asked : List ℕ) → head ≡ numbers_bytes (6 ∷ n ∷ len ∷ []) → len ≡ length asked → AddsMessages a b (told head ∷ told_bytes asked) → AddsMessages a b (ask_messages n asked)
told_ask a b n len head asked is count h = subst (λ k. AddsMessages a b (told (numbers_bytes (6 ∷ n ∷ k ∷ [])) ∷ told_bytes asked)) count (subst (λ xs. AddsMessages a b (told xs ∷ told_bytes asked)) is h)

pub cut_told : (a b : Option (List Message)) (n len : ℕ) (head asked : List ℕ) → head ≡ numbers_bytes (6 ∷ n ∷ len ∷ []) → len ≡ length asked → PassesMessages a b (IsStrictPrefix (told head ∷ told_bytes asked)) → PassesMessages a b (IsRefusedAsk n asked)
cut_told a b n len head asked is count h =
    cut_ask a b n asked (subst (λ k. PassesMessages a b (IsStrictPrefix (told (numbers_bytes (6 ∷ n ∷ k ∷ [])) ∷ told_bytes asked))) count (subst (λ xs. PassesMessages a b (IsStrictPrefix (told xs ∷ told_bytes asked))) is h))

-- ---- values

-- what was read and placed
gave : (s : Shape) (list : List Any) (answered : List ℕ) (given : Vec Val Global) (slots : List Val) (r : Result (Unit {0}) HostStop) → IsNumberedRead s answered (Ok (val.Tuple given))
    → OnOk r ((are_listed list given.items ≡ true) × AreLooked list given.items slots) → (r ≡ Err stop.Refused → are_listed list given.items ≡ false) → ReadsAnswer s list answered (outcome r slots)
gave s list answered given slots (Ok x) read placed unknown = (given, read, placed.0, placed.1)
gave s list answered given slots (Err stop.Refused) read placed unknown = inr (given, read, unknown refl)
gave s list answered given slots (Err stop.OutOfMemory) read placed unknown = tt

pub gave_row : (s : Shape) (list : List Any) (answered : List ℕ) (given : Vec Val Global) (row slots : List Val) (r : Result (Unit {0}) HostStop) → row ≡ given.items → IsNumberedRead s answered (Ok (val.Tuple given))
    → OnOk r ((are_listed list row ≡ true) × AreLooked list row slots) → (r ≡ Err stop.Refused → are_listed list row ≡ false) → ReadsAnswer s list answered (outcome r slots)
gave_row s list answered given row slots r is read placed unknown =
    gave s list answered given slots r read (subst (λ vs. OnOk r ((are_listed list vs ≡ true) × AreLooked list vs slots)) is placed) (λ e. subst (λ vs. are_listed list vs ≡ false) is (unknown e))

-- ---- an ask

module _ {H : Type 0} (log : H → Option (List Message)) (n : ℕ) (types : TypeTable) (type : TypeFunc) (before : Hosting H) (params : List Val) (channel : H) (list : List Any) (asked : List ℕ)
    (listed : ListsValues (shape_of types (ty.Tuple type.params)) params before.list list asked) where
  abbrev state_after_ask : Hosting H
  state_after_ask = record { channel = channel; list = list }

  abbrev results_shape : Shape
  results_shape = shape_of types (ty.Tuple type.results)

  by_answer : (answered : List ℕ) (answer : Result (List Val) HostStop) → PassesMessages (log before.channel) (log channel) (IsServedAsk n asked answered) → ReadsAnswer results_shape list answered answer
      → AnswersAsk log n results_shape asked before state_after_ask answer
  by_answer answered (Ok results) passed read = (answered, passed, read)
  by_answer answered (Err stop.Refused) passed read = (passed.0, passed.1, inr (answered, passed.2, read))
  by_answer answered (Err stop.OutOfMemory) passed read = tt

  pub asks_answered : (answered : List ℕ) (answer : Result (List Val) HostStop) → PassesMessages (log before.channel) (log channel) (IsServedAsk n asked answered) → ReadsAnswer results_shape list answered answer
      → AsksHost log n types type before params answer state_after_ask
  asks_answered answered answer passed read = record { ask = inl (asked, listed, by_answer answered answer passed read) }

  by_stop : (why : HostStop) → (why ≡ stop.Refused → PassesMessages (log before.channel) (log channel) (IsRefusedAsk n asked)) → AnswersAsk log n results_shape asked before state_after_ask (Err why)
  by_stop stop.Refused refused = let p = refused refl in (p.0, p.1, inl p.2)
  by_stop stop.OutOfMemory refused = tt

  pub asks_stopped : (why : HostStop) → (why ≡ stop.Refused → PassesMessages (log before.channel) (log channel) (IsRefusedAsk n asked)) → AsksHost log n types type before params (Err why) state_after_ask
  asks_stopped why refused = record { ask = inl (asked, listed, by_stop why refused) }
