-- A call by the bytes of its parameters.
use Rattle.std.proofs.Common.{Bool, Err, List, None, Ok, Option, Result, Some, Vec, ap, ap₂, drop, false, inl, inr, length, refl, subst, sym, take, true, ℕ, ◌++◌, ◌∙◌, ◌≡◌, ◌⊎◌}
use Rattle.std.proofs.Math.Seq.{take-append_seam}
use Rattle.std.proofs.lemmas.Bool.{false≢true}
use Rattle.std.specs.Prelude.{IfOk, IfSome, IsSome, OnErr, slice_get}
use Rattle.std.specs.declared.alloc.Global.{Global}
use Rattle.canon_image_parts.specs.declared.error.ImageError.{ImageError}
use Rattle.canon_types.specs.Table.{shape_of, types_of}
use Rattle.canon_types.specs.declared.types.InterfaceType.TheVariants as ty
use Rattle.canon_types.specs.declared.types.TypeFunc.{TypeFunc}
use Rattle.canon_resources.specs.Held.{Any}
use Rattle.canon_context.specs.Core.{component_types}
use Rattle.canon_context.specs.declared.component.Component.{Component}
use Rattle.canon_func.specs.Stores.{Named, type_in, type_of}
use Rattle.canon_func.specs.declared.error.Error.{Error}
use Rattle.canon_val.specs.declared.val.Val.{Val}
use Rattle.canon_val.specs.declared.val.Val.TheVariants as val
use Rattle.canon_serve.specs.Carries.{AnswersCall, ByNumbers, CalledBy, CalledOf, CallsExport, CallsOk, CallsShort, CallsStore, EngineParts, EngineSession, EngineStore, IsReadParams, IsSenseless, SessionLogs, NumberedShort, TellsCall, results_tuple_shape, session, with_list_in}
use Rattle.canon_serve.specs.Images.{AreLooked, are_listed}
use Rattle.canon_serve.specs.declared.answer.Answer.{Answer}
use Rattle.canon_serve.specs.declared.answer.Answer.TheVariants as answer
use Rattle.canon_serve.specs.declared.answer.Senseless.TheVariants as senseless

pub map_if_ok : {A X : Type 0} (P Q : A → Type 0) → ((a : A) → P a → Q a) → (r : Result A X) → IfOk r P → IfOk r Q
map_if_ok P Q f (Ok a) h = f a h
map_if_ok P Q f (Err e) h = h

pub map_on_err : {A X : Type 0} (P Q : Type 0) → (P → Q) → (r : Result A X) → OnErr r P → OnErr r Q
map_on_err P Q f (Ok a) h = h
map_on_err P Q f (Err e) h = f h

pub on_any_err : {A X : Type 0} (P : Type 0) (r : Result A X) → P → OnErr r P
on_any_err P (Ok a) h = tt
on_any_err P (Err e) h = h

-- slots that were written, all of them
pub session_slots_written : {X : Type 0} (items new : List X) (n : ℕ) → n ≡ length new → take n (new ++ drop (length new) items) ≡ new
session_slots_written items new n is = ap (λ k. take k (new ++ drop (length new) items)) is ∙ take-append_seam new (drop (length new) items)

-- a call that left this session, to whose list the resources of its results were added
module _ {E H : Type 0} (logs : SessionLogs E H) (f : Named) (s left s2 : EngineSession E H) (a : Answer) (rest : s2.store ≡ left.store) where
  by_type : (params : List Val) (slots : ℕ) (r : Result (Unit {0}) Error) (rs : List Val) (o : Option TypeFunc) → o ≡ type_of s.store f
      → IfSome o (λ t. slots ≡ length (types_of (component_types s.store.core) t.results)) → CallsExport logs f params slots s left r rs
      → IfSome o (λ t. TellsCall (results_tuple_shape logs s.store t) r rs left.list s2.list a) → IfSome o (λ t. AnswersCall logs f t params s s2 a)
  by_type params slots r rs None is slots_are calls told = told
  by_type params slots r rs (Some t) is slots_are calls told = record { slots = slots; slots_are = slots_are; result = r; results = rs; left = left; called = calls; told = told; rest = rest }

  pub answers_call : (params : List Val) (slots : ℕ) (r : Result (Unit {0}) Error) (rs : List Val) → IfSome (type_of s.store f) (λ t. slots ≡ length (types_of (component_types s.store.core) t.results))
      → CallsExport logs f params slots s left r rs → IfSome (type_of s2.store f) (λ t. TellsCall (results_tuple_shape logs s2.store t) r rs left.list s2.list a) → IfSome (type_of s.store f) (λ t. AnswersCall logs f t params s s2 a)
  answers_call params slots r rs slots_are calls told =
      let same : s2.store.core.component ≡ s.store.core.component = ap (λ (u : EngineStore E H). u.core.component) rest ∙ ap (λ (k : EngineParts E H). k.component) calls.0.same in
      by_type params slots r rs (type_of s.store f) refl slots_are calls
      (subst (λ (c : Component). IfSome (type_in c (slice_get c.exports.items f.export)) (λ t. TellsCall (shape_of c.types.types (ty.Tuple t.results)) r rs left.list s2.list a)) same told)

module _ {E H : Type 0} (logs : SessionLogs E H) (f : Named) (s s2 : EngineSession E H) (a : Answer) where
  -- with the resources of the list in the place of the numbers, all of which are known
  pub numbered_call : (given params : List Val) (known : Bool) (o : Option TypeFunc) → known ≡ are_listed s.list given → known ≡ true → AreLooked s.list given params → IfSome o (λ t. AnswersCall logs f t params s s2 a)
      → IfSome o (λ t. ByNumbers logs f t given s s2 a (are_listed s.list given))
  numbered_call given params known None is all looked called = called
  numbered_call given params known (Some t) is all looked called = subst (λ b. ByNumbers logs f t given s s2 a b) (sym all ∙ is) (params, looked, called)

  pub called_by : (bytes : List ℕ) (given : Vec Val Global) (n : ℕ) (o : Option TypeFunc) → IfSome o (λ t. IsReadParams logs s.store t bytes (Ok (given, n)))
      → IfSome o (λ t. ByNumbers logs f t given.items s s2 a (are_listed s.list given.items))
      → IfSome o (λ t. CalledBy logs f t bytes s s2 a)
  called_by bytes given n None read called = called
  called_by bytes given n (Some t) read called = (Ok (val.Tuple given), read.0, (given, refl, called))

  pub found_call : (bytes : List ℕ) (o : Option TypeFunc) → IsSome o → IfSome o (λ t. CalledBy logs f t bytes s s2 a) → CalledOf logs f bytes s s2 a o
  found_call bytes None some called = absurd (false≢true some)
  found_call bytes (Some t) some called = called

-- a store that is another's, with one list
pub with_list : {E H : Type 0} → (s t : EngineStore E H) (list : List Any) → s ≡ t → session s list ≡ session t list
with_list s t list e = ap (λ u. session u list) e

-- a call that was refused
module _ {E H : Type 0} (logs : SessionLogs E H) (f : Named) (s left : EngineSession E H) where
  any_type : (e : Error) (o : Option TypeFunc) → IfSome o (λ t. (e ≡ e) × (left.list ≡ left.list))
  any_type e None = tt
  any_type e (Some t) = (refl, refl)

  pub refused_call : (params : List Val) (slots : ℕ) (e : Error) (rs : List Val) → IfSome (type_of s.store f) (λ t. slots ≡ length (types_of (component_types s.store.core) t.results))
      → CallsExport logs f params slots s left (Err e) rs → IfSome (type_of s.store f) (λ t. AnswersCall logs f t params s left (answer.Refused e))
  refused_call params slots e rs slots_are calls = answers_call logs f s left left (answer.Refused e) refl params slots (Err e) rs slots_are calls (any_type e (type_of left.store f))

-- a call that answered Ok, by the bytes of its parameters
module _ {E H : Type 0} (logs : SessionLogs E H) (f : Named) (s s2 : EngineSession E H) where
  typed_call : (bytes : List ℕ) (given : Vec Val Global) (n : ℕ) (o : Option TypeFunc) → type_of s.store f ≡ o → IsSome o → IfSome o (λ t. IsReadParams logs s.store t bytes (Ok (given, n)))
      → NumberedShort logs f given.items n s s2 → CallsShort logs f bytes s s2
  typed_call bytes given n o typed some read (inl same) = inl same
  typed_call bytes given n None typed some read (inr done) = absurd (false≢true some)
  typed_call bytes given n (Some t) typed some read (inr (params, known, looked, called)) =
      inr (record { type = t; typed = typed; given = given; slots = n; params = params; read = read; known = known; looked = looked; called = called })

  pub done_call : (bytes : List ℕ) (given : Vec Val Global) (n : ℕ) (gs : List Val) → gs ≡ given.items → IsSome (type_of s.store f)
      → IfSome (type_of s.store f) (λ t. IsReadParams logs s.store t bytes (Ok (given, n))) → NumberedShort logs f gs n s s2 → CallsShort logs f bytes s s2
  done_call bytes given n gs is some read short = typed_call bytes given n (type_of s.store f) refl some read (subst (λ qs. NumberedShort logs f qs n s s2) is short)

  -- with its parameters
  pub done_with : (given params : List Val) (ps : List Val) (n : ℕ) (known : Bool) → known ≡ are_listed s.list given → known ≡ true → ps ≡ params → AreLooked s.list given params → (s2 ≡ s) ⊎ CallsOk logs f ps n s s2
      → NumberedShort logs f given n s s2
  done_with given params ps n known all sure is looked (inl same) = inl same
  done_with given params ps n known all sure is looked (inr done) = inr (params, sym all ∙ sure, looked, subst (λ qs. CallsOk logs f qs n s s2) is done)

module _ {E H : Type 0} (logs : SessionLogs E H) (f : Named) (s : EngineSession E H) where
  pub senseless_by : (a : Answer) (bytes : List ℕ) (e : ImageError) (o : Option TypeFunc) → IfSome o (λ t. IsReadParams logs s.store t bytes (Err e)) → IsSenseless e a → IfSome o (λ t. CalledBy logs f t bytes s s a)
  senseless_by a bytes e None read told = read
  senseless_by a bytes e (Some t) read told = (Err e, read, (told, refl))

  -- a number isn't one of the list
  pub unknown_by : (given : List Val) (known : Bool) (o : Option TypeFunc) → known ≡ are_listed s.list given → known ≡ false → IfSome o (λ t. ByNumbers logs f t given s s (answer.Senseless senseless.NoResource) (are_listed s.list given))
  unknown_by given known None is none = tt
  unknown_by given known (Some t) is none = subst (λ b. ByNumbers logs f t given s s (answer.Senseless senseless.NoResource) b) (sym none ∙ is) (refl, refl)

-- ---- the list in the store's data

module _ {E H : Type 0} (logs : SessionLogs E H) (f : Named) (params : List Val) (n : ℕ) (r : Result (Unit {0}) Error) (rs : List Val) where
  back_again : (t u : EngineStore E H) (l m : List Any) → u ≡ with_list_in t l → m ≡ t.core.state.list → with_list_in u m ≡ t
  back_again t u l m is same = ap₂ with_list_in is same

  -- it was exchanged with another before the call, and again after it
  pub entered_with_list : (s lent t u : EngineStore E H) (list other after : List Any) → lent ≡ with_list_in s list → other ≡ s.core.state.list → CallsStore logs f params n lent t r rs
      → u ≡ with_list_in t other → after ≡ t.core.state.list → CallsExport logs f params n (session s list) (session u after) r rs
  entered_with_list s lent t u list other after is kept calls is2 same = (
    subst (λ v. CallsStore logs f params n (with_list_in s list) v r rs) (sym (back_again t u other after is2 same)) (subst (λ v. CallsStore logs f params n v t r rs) is calls),
    ap (λ (v : EngineStore E H). v.core.state.list) is2 ∙ kept,
  )
