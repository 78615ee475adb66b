-- What is passed through the ledger on the way, one thing after another.
use Rattle.std.specs.Prelude.{List, Option, ℕ, ◌≡◌, ◌⊎◌, ◌++◌, Err, None, Ok, Result, [], ◌∷◌, map}
use Rattle.canon_context.specs.declared.fault.Fault.{Fault}
use Rattle.canon_lowering.specs.Lowering.{Ending, refused, Reallocated}
use Rattle.canon_lowering.specs.Stages.{Stage}
use Rattle.canon_context.specs.Core.{Parts, encoding_by, component_types}
use Rattle.canon_context.specs.Lowers.{fault_ending}
use Rattle.canon_resources.specs.Parts.{LeavesStop, LeavesTake, PassedResource, lower_parts, refusal_of, LeafMoves, Part}
use Rattle.canon_ledger.specs.Ledger.{LedgerState}
use Rattle.canon_ledger.specs.declared.fault.ResourceFault.{ResourceFault}
use Rattle.canon_types.specs.Instance.{Instance}
use Rattle.canon_context.specs.Faults.{stop_of}
use Rattle.canon_context.specs.Asks.{SameButHandles, SameBut}
use Rattle.std.proofs.Common.{◌∙◌, ap, inl, inr, refl, subst, subst₂, sym}
use Rattle.std.proofs.lemmas.List.{map-append}
use Rattle.canon_resources.proofs.Leaves.{leaves_one, leaves_stop_first, leaves_stop_one, leaves_stop_then, leaves_then, stops_at_once}
use Rattle.canon_model.specs.Requests.{Call}
use Rattle.canon_passing.specs.Passed.{ledger_fault, LowersHandles}
use Rattle.canon_context.specs.declared.fault.Fault.TheVariants as fault

-- ---- cores one after another, whose ledgers may differ

pub handles_then : {T G : Type 0} → (a b c : Parts T G) → SameButHandles a b → SameButHandles b c → SameButHandles a c
handles_then {T} {G} a b c e f = f ∙ ap (λ (x : Parts T G). record x { guest = c.guest; memory = c.memory; ledger = c.ledger }) e

-- the ledger too is the same where the guest and its memory alone may differ
pub same_handles : {T G : Type 0} → (a b : Parts T G) → SameBut a b → SameButHandles a b
same_handles {T} {G} a b e = e ∙ ap (λ (l : LedgerState). record a { guest = b.guest; memory = b.memory; ledger = l }) (sym (ap (λ (x : Parts T G). x.ledger) e))

pub value_same_ledger : {T G : Type 0} → (a b : Parts T G) → SameBut a b → b.ledger ≡ a.ledger
value_same_ledger {T} {G} a b e = ap (λ (x : Parts T G). x.ledger) e

pub handles_instance : {T G : Type 0} → (a b : Parts T G) → SameButHandles a b → b.component.types ≡ a.component.types
handles_instance {T} {G} a b e = ap (λ (x : Parts T G). x.component.types) e

pub handles_types : {T G : Type 0} → (a b : Parts T G) → SameButHandles a b → component_types b ≡ component_types a
handles_types {T} {G} a b e = ap (λ (x : Parts T G). component_types x) e

pub handles_encoding : {T G : Type 0} → (a b : Parts T G) (options : ℕ) → SameButHandles a b → encoding_by b options ≡ encoding_by a options
handles_encoding {T} {G} a b options e = ap (λ (x : Parts T G). encoding_by x options) e

-- ---- faults that aren't the ledger's

pub no_stop : (e : Fault) → ledger_fault e ≡ None → stop_of e ≡ None
no_stop (fault.TypeMismatch k) h = refl
no_stop (fault.LengthMismatch k) h = refl
no_stop (fault.FieldName k) h = refl
no_stop (fault.UnknownCase k) h = refl
no_stop (fault.UnknownFlag k) h = refl
no_stop (fault.PayloadExpected k) h = refl
no_stop (fault.PayloadNotExpected k) h = refl
no_stop (fault.ReallocMisaligned a) h = refl
no_stop (fault.ReallocOutOfBounds a) h = refl
no_stop fault.GuestTrap h = refl
no_stop (fault.PointerMisaligned at) h = refl
no_stop (fault.PointerOutOfBounds at) h = refl
no_stop (fault.StringTooLong n) h = refl
no_stop (fault.SizeOverflow n) h = refl
no_stop (fault.InvalidUtf8 at) h = refl
no_stop (fault.InvalidUtf16 at) h = refl
no_stop (fault.InvalidChar at) h = refl
no_stop (fault.BadDiscriminant at n) h = refl
no_stop fault.HostcallFuelExhausted h = refl
no_stop fault.OutOfMemory h = refl
no_stop (fault.Resource e) h = cc

-- a fault that isn't a refusal, or is no resource's
pub ledger_unless : (e : Fault) → ((r : ResourceFault) → e ≡ fault.Resource r → ⊥) → ledger_fault e ≡ None
ledger_unless (fault.TypeMismatch k) h = refl
ledger_unless (fault.LengthMismatch k) h = refl
ledger_unless (fault.FieldName k) h = refl
ledger_unless (fault.UnknownCase k) h = refl
ledger_unless (fault.UnknownFlag k) h = refl
ledger_unless (fault.PayloadExpected k) h = refl
ledger_unless (fault.PayloadNotExpected k) h = refl
ledger_unless (fault.ReallocMisaligned a) h = refl
ledger_unless (fault.ReallocOutOfBounds a) h = refl
ledger_unless fault.GuestTrap h = refl
ledger_unless (fault.PointerMisaligned at) h = refl
ledger_unless (fault.PointerOutOfBounds at) h = refl
ledger_unless (fault.StringTooLong n) h = refl
ledger_unless (fault.SizeOverflow n) h = refl
ledger_unless (fault.InvalidUtf8 at) h = refl
ledger_unless (fault.InvalidUtf16 at) h = refl
ledger_unless (fault.InvalidChar at) h = refl
ledger_unless (fault.BadDiscriminant at n) h = refl
ledger_unless fault.HostcallFuelExhausted h = refl
ledger_unless fault.OutOfMemory h = refl
ledger_unless (fault.Resource e) h = absurd (h e refl)

-- a block that wasn't given
pub ungiven_elsewhere : {K : Type 0} (a b : Stage K) (c : Call) (e : Fault) (p : ℕ) → Reallocated a b c (fault_ending e) p → ledger_fault e ≡ None
ungiven_elsewhere a b c e p h = ledger_unless e (λ r is. subst (λ (x : Fault). Reallocated a b c (fault_ending x) p) is h)

-- a fault of a value is none of the ledger's
abbrev pub IsOwn : Fault → Type 0
IsOwn e = ◌≡◌ {A = Ending × Option ResourceFault} (fault_ending e, ledger_fault e) (refused, None)

pub own_ends : (e : Fault) → IsOwn e → fault_ending e ≡ refused
own_ends e h = ap (λ (p : Ending × Option ResourceFault). p.0) h

pub own_elsewhere : (e : Fault) → IsOwn e → ledger_fault e ≡ None
own_elsewhere e h = ap (λ (p : Ending × Option ResourceFault). p.1) h

-- ---- what is passed

both_empty : (ps qs : List PassedResource) → ps ++ qs ≡ [] → ps ≡ []
both_empty [] qs e = refl
both_empty (p ∷ ps) qs e = cc

last_empty : (ps qs : List PassedResource) → ps ++ qs ≡ [] → qs ≡ []
last_empty [] qs e = e
last_empty (p ∷ ps) qs e = cc

module _ (types : Instance) where
  -- all of it went through, or up to this fault, as `LowersHandles` says
  abbrev pub Took : LedgerState → LedgerState → List PassedResource → List ℕ → Type 0
  Took l n ps hs = LeavesTake l (map (lower_parts types) ps) hs n

  abbrev pub Ended : LedgerState → LedgerState → List PassedResource → Fault → Type 0
  Ended l n ps e = LeavesStop (stop_of e) l (map (lower_parts types) ps) n × (ledger_fault e ≡ None ⊎ ¬ (ps ≡ []))

  -- nothing was passed
  pub passes_none : (l n : LedgerState) (ps : List PassedResource) → n ≡ l → ps ≡ [] → Took l n ps []
  passes_none l n ps same e = subst (λ (qs : List PassedResource). Took l n qs []) (sym e) (refl, same)

  -- it ended before anything was
  pub passes_stopped : (l n : LedgerState) (ps : List PassedResource) (e : Fault) → n ≡ l → ledger_fault e ≡ None → Ended l n ps e
  passes_stopped l n ps e same ef = (subst (λ (why : Option ResourceFault). LeavesStop why l (map (lower_parts types) ps) n) (sym (no_stop e ef)) (stops_at_once l n (map (lower_parts types) ps) same), inl ef)

  -- these, and then those, as far as the walk went
  pub passes_then : {Y : Type 0} (l m n : LedgerState) (ps qs : List PassedResource) (hs ks : List ℕ) (r : Result Y Fault) → Took l m ps hs → LowersHandles types m n qs ks r → LowersHandles types l n (ps ++ qs) (hs ++ ks) r
  passes_then l m n ps qs hs ks (Ok y) h k =
      subst (λ (xs : List (List Part)). LeavesTake l xs (hs ++ ks) n) (sym (map-append (lower_parts types) ps qs)) (leaves_then l m n (map (lower_parts types) ps) (map (lower_parts types) qs) hs ks h k)
  passes_then l m n ps qs hs ks (Err e) h (k, at) = (
    subst (λ (xs : List (List Part)). LeavesStop (stop_of e) l xs n) (sym (map-append (lower_parts types) ps qs)) (leaves_stop_then (stop_of e) l m n (map (lower_parts types) ps) (map (lower_parts types) qs) hs h k),
    later at,
  )
    where
      later : (ledger_fault e ≡ None) ⊎ ¬ (qs ≡ []) → (ledger_fault e ≡ None) ⊎ ¬ (ps ++ qs ≡ [])
      later (inl none) = inl none
      later (inr some) = inr (λ nil. some (last_empty ps qs nil))

  -- it ended among these, whatever was to come
  pub passes_stop : (l n : LedgerState) (ps qs : List PassedResource) (e : Fault) → Ended l n ps e → Ended l n (ps ++ qs) e
  passes_stop l n ps qs e (h, at) = (
    subst (λ (xs : List (List Part)). LeavesStop (stop_of e) l xs n) (sym (map-append (lower_parts types) ps qs)) (leaves_stop_first (stop_of e) l n (map (lower_parts types) ps) (map (lower_parts types) qs) h),
    later at,
  )
    where
      later : (ledger_fault e ≡ None) ⊎ ¬ (ps ≡ []) → (ledger_fault e ≡ None) ⊎ ¬ (ps ++ qs ≡ [])
      later (inl none) = inl none
      later (inr some) = inr (λ nil. some (both_empty ps qs nil))

  -- the same, said of other words for what was passed
  pub passes_as : {X : Type 0} (l n : LedgerState) (ps qs : List PassedResource) (hs : List ℕ) (r : Result X Fault) → qs ≡ ps → LowersHandles types l n ps hs r → LowersHandles types l n qs hs r
  passes_as l n ps qs hs r e h = subst (λ (xs : List PassedResource). LowersHandles types l n xs hs r) (sym e) h

-- and said of the core before a step that left its ledger
pub passes_from : {T G X : Type 0} → (a b : Parts T G) (n : LedgerState) (ps : List PassedResource) (hs : List ℕ) (r : Result X Fault) → SameBut a b → LowersHandles b.component.types b.ledger n ps hs r
    → LowersHandles a.component.types a.ledger n ps hs r
passes_from a b n ps hs r same h = subst₂ (λ (i : Instance) (l : LedgerState). LowersHandles i l n ps hs r) (handles_instance a b (same_handles a b same)) (value_same_ledger a b same) h

-- ---- one resource

-- a handle that went through the ledger, or was refused
pub handed_one : (types : Instance) (l n : LedgerState) (p : PassedResource) (h : ℕ) → LeafMoves l n (lower_parts types p) (Ok h) → Took types l n (p ∷ []) (h ∷ [])
handed_one types l n p h moves = leaves_one l n (lower_parts types p) h moves

pub refused_one : (types : Instance) (l n : LedgerState) (p : PassedResource) (e : ResourceFault) → LeafMoves l n (lower_parts types p) (Err e) → Ended types l n (p ∷ []) (fault.Resource e)
refused_one types l n p e moves = (leaves_stop_one (refusal_of e) l n (lower_parts types p) moves, inr (λ nil. cc))
