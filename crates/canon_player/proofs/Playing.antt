-- The records of items, one after another.
use Rattle.std.proofs.Common.{◌≡◌, ◌∙◌, ◌++◌, ℕ, All, Bool, List, [], ◌∷◌, ap, append-nil, append_assoc, arith, false, length, map, refl, subst, sym, true}
use Rattle.std.proofs.lemmas.List.Elements.{All-tail}
use Rattle.std.specs.Prelude.{slice_index_or}
use Rattle.canon_types.specs.Instance.{Instance}
use Rattle.canon_context.specs.declared.component.Component.{Component}
use Rattle.canon_resources.specs.Held.{Any}
use Rattle.canon_value_parts.specs.Resources.{all_resources}
use Rattle.canon_func.specs.Call.{call_refusal}
use Rattle.canon_func.specs.Asks.{Limits, allowed}
use Rattle.canon_func.specs.Stores.{Callee}
use Rattle.canon_script.specs.Imports.{HostAnswer, answers_view}
use Rattle.canon_script.specs.Script.{IsWellFormed, ItemStands, Play, ScriptItem, call_item, drop_item, item_view, new_item, typed_item}
use Rattle.canon_script.specs.declared.script.Item.{Item}
use Rattle.canon_imports.specs.Imports.{entries_of}
use Rattle.canon_imports.specs.declared.imports.ScriptedImports.{ScriptedImports}
use Rattle.canon_transcript.specs.declared.transcript.Record.{Record}
use Rattle.canon_player.specs.Session.{Called, WasTyped, Happened, IsPlayed, Plays, Session, State, answer_values, at_first, played_callee, skips}
use Rattle.canon_player.specs.Stores.{HasItsTypes, IsPlayable, IsScripted, ScriptStore, answers_of, callee_at, fresh_store, limits_of, state_of}
use Rattle.canon_player.proofs.Components.{export_count, export_number, export_type, scripted_callee}

-- ---- on one store

-- Items were played, and these are left, with this list of resources: the rest completes the records.
pub record IsPlaying (first : ScriptStore) (items : List Item) (now : ScriptStore) (left : List Item) (list : List Any) (records : List Record) : Type 0 where
  pub fresh : now.core.guest.events ≡ []
  pub own_types : HasItsTypes now
  pub same : now.core.component ≡ first.core.component
  limits : limits_of now ≡ limits_of first
  answers : answers_of now ≡ answers_of first
  playable : All (IsPlayable first.core.component) (map item_view left)
  pub rest : (more : List Record) → Plays (callee_at first.core.component) (limits_of first) (answers_of first) (map item_view left) list (state_of now) more
      → Plays (callee_at first.core.component) (limits_of first) (answers_of first) (map item_view items) [] (state_of first) (records ++ more)

pub playing_first : (first : ScriptStore) (items left : List Item) (list : List Any) (records : List Record) → left ≡ items → list ≡ [] → records ≡ []
    → first.core.guest.events ≡ [] → HasItsTypes first → All (IsPlayable first.core.component) (map item_view items)
    → IsPlaying first items first left list records
playing_first first items left list records e empty none fresh own playable =
    subst (λ (xs : List Item). IsPlaying first items first xs list records) (sym e)
    (subst (λ (ys : List Any). IsPlaying first items first items ys records) (sym empty)
    (subst (λ (rs : List Record). IsPlaying first items first items [] rs) (sym none) (record { fresh = fresh; own_types = own; same = refl; limits = refl; answers = refl; playable = playable; rest = λ more h. h })))

module _ (first : ScriptStore) (items : List Item) (now : ScriptStore) (all left : List Item) (item : Item) (list : List Any) (records : List Record) (next : all ≡ item ∷ left) (h : IsPlaying first items now all list records) where
  before : IsPlaying first items now (item ∷ left) list records
  before = subst (λ (xs : List Item). IsPlaying first items now xs list records) next h

  pub playing_playable : IsPlayable now.core.component (item_view item)
  playing_playable = subst (λ (c : Component). IsPlayable c (item_view item)) (sym h.same) (before.playable 0 (item_view item) (omega arith))

  pub playing_next : (after : ScriptStore) (r : Record) (longer : List Any) (more : List Record) → after.core.guest.events ≡ [] → after.core.component ≡ now.core.component
      → after.core.id ≡ now.core.id → limits_of after ≡ limits_of now → answers_of after ≡ answers_of now
      → IsPlayed (callee_at now.core.component) (limits_of now) (answers_of now) (item_view item) list (state_of now) (state_of after) r → longer ≡ list ++ all_resources (answer_values r.answer) → more ≡ records ++ r ∷ []
      → IsPlaying first items after left longer more
  playing_next after r longer more fresh same id kept answers played grown e =
      subst (λ (ys : List Any). IsPlaying first items after left ys more) (sym grown) (subst (λ (rs : List Record). IsPlaying first items after left (list ++ all_resources (answer_values r.answer)) rs) (sym e) (record {
        fresh = fresh;
        own_types = id ∙ (h.own_types ∙ ap (λ (c : Component). c.types.store) (sym same));
        same = same ∙ h.same;
        limits = kept ∙ h.limits;
        answers = answers ∙ h.answers;
        playable = All-tail (IsPlayable first.core.component) (item_view item) (map item_view left) before.playable;
        rest = λ others g. subst (λ (rs : List Record). Plays (callee_at first.core.component) (limits_of first) (answers_of first) (map item_view items) [] (state_of first) rs) (sym (append_assoc records (r ∷ []) others))
            (before.rest (r ∷ others) (
              state_of after,
              subst (λ (given : List (List HostAnswer)). IsPlayed (callee_at first.core.component) (limits_of first) given (item_view item) list (state_of now) (state_of after) r) h.answers
                  (subst (λ (n : Limits). IsPlayed (callee_at first.core.component) n (answers_of now) (item_view item) list (state_of now) (state_of after) r) h.limits
                  (subst (λ (c : Component). IsPlayed (callee_at c) (limits_of now) (answers_of now) (item_view item) list (state_of now) (state_of after) r) h.same played)),
              g,
            ));
      }))

pub playing_last : (first : ScriptStore) (items : List Item) (now : ScriptStore) (left : List Item) (list : List Any) (records : List Record) → left ≡ [] → IsPlaying first items now left list records
    → Plays (callee_at first.core.component) (limits_of first) (answers_of first) (map item_view items) [] (state_of first) records
playing_last first items now left list records e h =
    let last : IsPlaying first items now [] list records = subst (λ (xs : List Item). IsPlaying first items now xs list records) e h in
    subst (λ (rs : List Record). Plays (callee_at first.core.component) (limits_of first) (answers_of first) (map item_view items) [] (state_of first) rs) (append-nil records) (last.rest [] tt)

-- ---- a script

-- a call is of the same callee
abbrev SameCallee : (ℕ → Callee) → (ℕ → Callee) → ScriptItem → Type 0
SameCallee callees others (call_item c) = callees c.func ≡ others c.func
SameCallee callees others (typed_item c) = callees c.func ≡ others c.func
SameCallee callees others (new_item n) = Unit {0}
SameCallee callees others (drop_item d) = Unit {0}

happened_same : (callees others : ℕ → Callee) (limits : Limits) (answers : List (List HostAnswer)) (i : ScriptItem) (list : List Any) (s after : State) (r : Record) (b : Bool) → SameCallee callees others i
    → Happened b callees limits answers i list s after r → Happened b others limits answers i list s after r
happened_same callees others limits answers i list s after r true same h = h
happened_same callees others limits answers (call_item c) list s after r false same h =
    subst (λ (d : Callee). Called d limits answers c list s after r (call_refusal d (length c.params) c.slots s.trapped)) same h
happened_same callees others limits answers (typed_item c) list s after r false same h = subst (λ (d : Callee). WasTyped c.params d limits answers c s after r) same h
happened_same callees others limits answers (new_item n) list s after r false same h = h
happened_same callees others limits answers (drop_item d) list s after r false same h = h

-- items whose calls are of the same callees
plays_same : (callees others : ℕ → Callee) (limits : Limits) (answers : List (List HostAnswer)) (items : List ScriptItem) (list : List Any) (s : State) (records : List Record) → All (SameCallee callees others) items
    → Plays callees limits answers items list s records → Plays others limits answers items list s records
plays_same callees others limits answers [] list s [] same h = tt
plays_same callees others limits answers [] list s (r ∷ records) same h = h
plays_same callees others limits answers (i ∷ items) list s [] same h = h
plays_same callees others limits answers (i ∷ items) list s (r ∷ records) same (after, played, rest) = (
  after,
  record { head = played.head; happened = happened_same callees others limits answers i list s after r (skips i list s) (same 0 i (omega arith)) played.happened; live = played.live },
  plays_same callees others limits answers items (list ++ all_resources (answer_values r.answer)) after records (All-tail (SameCallee callees others) i items same) rest,
)

module _ (play : Play) (c : Component) (imports : ScriptedImports) (store : ScriptStore) (posts : List Bool) (sound : IsWellFormed play) (told : posts ≡ play.posts) (built_so : IsScripted play.types play.encoding posts play.imports c)
    (fresh : store ≡ fresh_store play.memory play.heap play.fuel play.turns play.handles c imports) where
  h : IsScripted play.types play.encoding play.posts play.imports c
  h = subst (λ (ps : List Bool). IsScripted play.types play.encoding ps play.imports c) told built_so

  known : (i : ScriptItem) → ItemStands (length play.posts) i → SameCallee (callee_at c) (played_callee play) i
  known (call_item call) stands = scripted_callee play c h sound.posts_told call.func stands.0
  known (typed_item call) stands = scripted_callee play c h sound.posts_told call.func stands.0
  known (new_item n) stands = tt
  known (drop_item d) stands = tt

  session : (s : State) (records : List Record) → Plays (callee_at c) (allowed play.fuel play.turns) play.answers play.items [] s records → Plays (played_callee play) (allowed play.fuel play.turns) play.answers play.items [] s records
  session s records p = plays_same (callee_at c) (played_callee play) (allowed play.fuel play.turns) play.answers play.items [] s records (λ k d lt. known (slice_index_or play.items k d) (sound.items_stand k d lt)) p

  stands_playable : (i : ScriptItem) → ItemStands (length play.posts) i → IsPlayable c i
  stands_playable (call_item call) stands = record {
    export = omega (arith, stands.0, export_count play.types play.encoding play.posts play.imports c h);
    orders = stands.1;
  }
  stands_playable (typed_item call) stands = record {
    export = omega (arith, stands.0, export_count play.types play.encoding play.posts play.imports c h);
    type = export_type play.types play.encoding play.posts play.imports c h call.func stands.0;
    options = export_number play.types play.encoding play.posts play.imports c h call.func stands.0;
    orders = stands.1;
  }
  stands_playable (new_item n) stands = tt
  stands_playable (drop_item d) stands = tt

  playable : All (IsPlayable c) play.items
  playable k d lt = stands_playable (slice_index_or play.items k d) (sound.items_stand k d lt)

  pub script_playable : All (IsPlayable store.core.component) play.items
  script_playable = subst (λ (s : ScriptStore). All (IsPlayable s.core.component) play.items) (sym fresh) playable

  pub script_own_types : HasItsTypes store
  script_own_types = subst HasItsTypes (sym fresh) (ap (λ (i : Instance). i.store) (sym h.types))

  -- functions of the host that served nothing
  pub script_session : answers_view imports.answers.items ≡ play.answers → imports.lines.items ≡ [] → imports.refusals ≡ 0 → (records : List Record)
      → Plays (callee_at store.core.component) (limits_of store) (answers_of store) play.items [] (state_of store) records → Session play records
  script_session given none zero_refused records p =
      let one : Plays (callee_at c) (allowed play.fuel play.turns) (answers_view imports.answers.items) play.items [] (state_of (fresh_store play.memory play.heap play.fuel play.turns play.handles c imports)) records =
      subst (λ (s : ScriptStore). Plays (callee_at s.core.component) (limits_of s) (answers_of s) play.items [] (state_of s) records) fresh p in
      let two : Plays (callee_at c) (allowed play.fuel play.turns) play.answers play.items [] (state_of (fresh_store play.memory play.heap play.fuel play.turns play.handles c imports)) records =
      subst (λ (given : List (List HostAnswer)). Plays (callee_at c) (allowed play.fuel play.turns) given play.items [] (state_of (fresh_store play.memory play.heap play.fuel play.turns play.handles c imports)) records) given one in
      session (at_first play) records
      (subst (λ (s : State). Plays (callee_at c) (allowed play.fuel play.turns) play.answers play.items [] s records) (λ i. record (at_first play) { log = entries_of (none i); refusals = zero_refused i }) two)
