-- What the ledger's calls do, and what they keep.
use Rattle.std.proofs.Common.{◌≡◌, ℕ, zero, suc, ◌-◌, Bool, true, false, List, [], ◌∷◌, ◌++◌, length, take, map, Option, None, Result, Ok, Err, refl, sym, ap, subst, ◌∙◌, arith, inl, inr}
use Rattle.canon_handles.specs.declared.handle.Entry.{Entry}
use Rattle.canon_handles.specs.Table.{TableState, Counter}
use Rattle.canon_ledger.specs.declared.fault.ResourceFault.{ResourceFault}
use Rattle.canon_ledger.specs.declared.fault.ResourceFault.TheVariants as fault
use Rattle.canon_ledger.specs.Handles.{Handles, StepAnswer, Takes, TakesSurely, OpenScope, no_scope, can_leave}
use Rattle.canon_ledger.specs.Ledger.{LedgerState, HostIndexes, IsHostSound, Done, Did, LedgerStep, Enter, Leave, do_step, plainly, inserting, removing, with_slot, raised, last_generation}
use Rattle.canon_ledger.specs.Ledger as ledger
use Rattle.canon_ledger.specs.Books.{Context, ledger_of, Holds, DidSurely, written_at, raised_at, is_spent}
use Rattle.canon_ledger.proofs.LedgerLemmas.{sound-step}
use Rattle.canon_ledger.proofs.HostLemmas.{host-step}
use Rattle.canon_ledger.proofs.HandlesLemmas.{sound-leave}

-- Scopes that open and close

map-append_scope : (scopes : List Context) (x : Context) → map (λ (c : Context). c.scope) (scopes ++ x ∷ []) ≡ map (λ (c : Context). c.scope) scopes ++ x.scope ∷ []
map-append_scope [] x = refl
map-append_scope (y ∷ ys) x = ap (λ l. y.scope ∷ l) (map-append_scope ys x)

map-take_scope : (scopes : List Context) (n : ℕ) → map (λ (c : Context). c.scope) (take n scopes) ≡ take n (map (λ (c : Context). c.scope) scopes)
map-take_scope [] zero = refl
map-take_scope [] (suc n) = refl
map-take_scope (y ∷ ys) zero = refl
map-take_scope (y ∷ ys) (suc n) = ap (λ l. y.scope ∷ l) (map-take_scope ys n)

length-map_scope : (scopes : List Context) → length (map (λ (c : Context). c.scope) scopes) ≡ length scopes
length-map_scope [] = refl
length-map_scope (y ∷ ys) = (let e = length-map_scope ys in omega arith)

module _ (tables : List (TableState Entry)) (counter : Counter) (scopes : List Context) (host : HostIndexes) where
  entered_is : (x : Context) → x.scope ≡ no_scope → ledger_of tables counter (scopes ++ x ∷ []) host ≡ ledger.enter (ledger_of tables counter scopes host)
  entered_is x e =
      let m = map-append_scope scopes x ∙ ap (λ (s : OpenScope). map (λ (c : Context). c.scope) scopes ++ s ∷ []) e in
      λ i. record { handles = record { tables = map (λ (t : TableState Entry). t.table) tables; counter = counter; scopes = m i }; host = host }

  pub entered : (x : Context) (new : List Context) → x.scope ≡ no_scope → new ≡ scopes ++ x ∷ [] → ledger_of tables counter new host ≡ ledger.enter (ledger_of tables counter scopes host)
  entered x new e is = ap (λ (l : List Context). ledger_of tables counter l host) is ∙ entered_is x e

  pub left : (new : List Context) (n : ℕ) → n ≡ length scopes - 1 → new ≡ take n scopes → ledger_of tables counter new host ≡ ledger.leave (ledger_of tables counter scopes host)
  left new n en is =
      let m = ap (map (λ (c : Context). c.scope)) (is ∙ ap (λ (n : ℕ). take n scopes) en) ∙ map-take_scope scopes (length scopes - 1) ∙ ap (λ (n : ℕ). take (n - 1) (map (λ (c : Context). c.scope) scopes)) (sym (length-map_scope scopes)) in
      λ i. record { handles = record { tables = map (λ (t : TableState Entry). t.table) tables; counter = counter; scopes = m i }; host = host }

pub holds-enter : (l m : LedgerState) → m ≡ ledger.enter l → Holds l → Holds m
holds-enter l m e h =
    subst Holds (sym e) (record { sound = sound-step Enter l h.sound; host = host-step Enter l h.sound h.host; tables = h.tables })

leaving_is : (l : LedgerState) → can_leave l.handles ≡ true → (do_step Leave l).after ≡ ledger.leave l
leaving_is l can = ap (λ (b : Bool). (ledger.leaving b l).after) can

pub holds-leave : (l m : LedgerState) → can_leave l.handles ≡ true → m ≡ ledger.leave l → Holds l → Holds m
holds-leave l m can e h =
    subst Holds (sym e) (record {
      sound = sound-leave l.handles h.sound can;
      host = subst IsHostSound (leaving_is l can) (host-step Leave l h.sound h.host);
      tables = h.tables;
    })

-- a call that leaves the host's indexes
pub did_plainly : {A : Type 0} (r : StepAnswer A) (result : Result A ResourceFault) (l : LedgerState) (m : Handles) → Takes r result l.handles m → Did (plainly r l) result l (record { handles = m; host = l.host })
did_plainly r (Ok a) l m takes = (ap (λ r. (plainly r l).answer) takes, sym (ap (λ r. (plainly r l).after) takes))
did_plainly r (Err e) l m takes =
    let same : ◌≡◌ {A = LedgerState} (record { handles = m; host = l.host }) l = λ i. record { handles = takes.1 i; host = l.host } in
    elim takes.0 [
      | inl refused ↦ inl (ap (λ r. (plainly r l).answer) refused, same ∙ sym (ap (λ r. (plainly r l).after) refused))
      | inr memory ↦ inr (memory, same)
    ]

-- a call that never wants memory
pub did_surely : {A : Type 0} (r : StepAnswer A) (result : Result A ResourceFault) (l : LedgerState) (m : Handles) → TakesSurely r result l.handles m → DidSurely (plainly r l) result (record { handles = m; host = l.host })
did_surely r (Ok a) l m takes = (sym (ap (λ r. (plainly r l).answer) takes), sym (ap (λ r. (plainly r l).after) takes))
did_surely r (Err e) l m takes =
    (sym (ap (λ r. (plainly r l).answer) takes.0), (λ i. record { handles = takes.1 i; host = l.host }) ∙ sym (ap (λ r. (plainly r l).after) takes.0))

-- an insertion
pub did_inserting : (p : ℕ) (r : StepAnswer ℕ) (l : LedgerState) (i : ℕ) (m : Handles) (host : HostIndexes) → r ≡ Ok (i, m) → host ≡ written_at p i l.host → Did (inserting p None None r l) (Ok i) l (record { handles = m; host = host })
did_inserting zero r l i m host e w = (
  ap (λ r. (inserting 0 None None r l).answer) e,
  (λ t. record { handles = m; host = w t }) ∙ sym (ap (λ r. (inserting 0 None None r l).after) e),
)
did_inserting (suc n) r l i m host e w = (
  ap (λ r. (plainly r l).answer) e,
  (λ t. record { handles = m; host = w t }) ∙ sym (ap (λ r. (plainly r l).after) e),
)

pub did_inserting_host : (r : StepAnswer ℕ) (l : LedgerState) (i : ℕ) (m : Handles) (host : HostIndexes) (instance dtor : Option ℕ) → r ≡ Ok (i, m) → host ≡ with_slot l.host i instance dtor
    → Did (inserting 0 instance dtor r l) (Ok i) l (record { handles = m; host = host })
did_inserting_host r l i m host instance dtor e w = (
  ap (λ r. (inserting 0 instance dtor r l).answer) e,
  (λ t. record { handles = m; host = w t }) ∙ sym (ap (λ r. (inserting 0 instance dtor r l).after) e),
)

pub did_not_insert : (p : ℕ) (r : StepAnswer ℕ) (l : LedgerState) (e : ResourceFault) (m : Handles) → Takes r (Err e) l.handles m → Did (inserting p None None r l) (Err e) l (record { handles = m; host = l.host })
did_not_insert zero r l e m takes =
    let same : ◌≡◌ {A = LedgerState} (record { handles = m; host = l.host }) l = λ i. record { handles = takes.1 i; host = l.host } in
    elim takes.0 [
      | inl refused ↦ inl (ap (λ r. (inserting 0 None None r l).answer) refused, same ∙ sym (ap (λ r. (inserting 0 None None r l).after) refused))
      | inr memory ↦ inr (memory, same)
    ]
did_not_insert (suc n) r l e m takes = did_plainly r (Err e) l m takes

-- a removal
pub did_removing : {A : Type 0} (p : ℕ) (step : Handles → StepAnswer A) (result : Result A ResourceFault) (l : LedgerState) (m : Handles) (host : HostIndexes) → is_spent p l.host ≡ false → host ≡ raised_at p l.host
    → TakesSurely (step l.handles) result l.handles m → DidSurely (removing p step l) result (record { handles = m; host = host })
did_removing zero step result l m host open_ w takes =
    let d = did_surely (step l.handles) result (record { handles = l.handles; host = raised l.host }) m takes in
    let e = ap (λ (b : Bool). ledger.host_removing b step l) open_ in (
      d.0 ∙ sym (ap (λ d. d.answer) e),
      (λ t. record { handles = m; host = w t }) ∙ d.1 ∙ sym (ap (λ d. d.after) e),
    )
did_removing (suc n) step result l m host open_ w takes =
    let d = did_surely (step l.handles) result l m takes in (d.0, (λ t. record { handles = m; host = w t }) ∙ d.1)

pub did_not_remove : {A : Type 0} (p : ℕ) (step : Handles → StepAnswer A) (l : LedgerState) → is_spent p l.host ≡ true → DidSurely (removing p step l) (Err fault.GenerationExhausted) l
did_not_remove zero step l spent = let e = ap (λ (b : Bool). ledger.host_removing b step l) spent in (sym (ap (λ d. d.answer) e), sym (ap (λ d. d.after) e))
did_not_remove (suc n) step l spent = absurd (cc)
