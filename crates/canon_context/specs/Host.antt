-- What a function of the host does.
use Rattle.std.specs.Prelude.{◌≡◌, All, List, None, map}
use Rattle.std.specs.Borrow.{Bor, MutBor}
use Rattle.std.specs.Fn.{Shared}
use Rattle.canon_ledger.specs.Handles.{Lender}
use Rattle.canon_ledger.specs.Ledger.{HostDrop, HostLiftBorrow, HostLiftOwn, HostLowerBorrow, HostLowerOwn, HostRemove, LedgerState, LedgerStep, run_steps}
use Rattle.canon_ledger.specs.Reached.{known_in, ledger_in, reference_in, scope_in}
use Rattle.canon_types.specs.declared.types.TypeFunc.{TypeFunc}
use Rattle.canon_context.specs.Core.{Parts}
use Rattle.canon_context.specs.declared.host.HostView.{HostView}

-- ---- the ledger

-- a step that the host takes outside any call: on the handles of its own table, in no scope
abbrev pub IsHostStep : LedgerStep → Type 0
IsHostStep (HostLiftOwn x) = Unit {0}
IsHostStep (HostLiftBorrow None x) = Unit {0}
IsHostStep (HostDrop x) = Unit {0}
IsHostStep (HostRemove x) = Unit {0}
IsHostStep (HostLowerOwn rep dtor instance) = Unit {0}
IsHostStep (HostLowerBorrow None rep) = Unit {0}
IsHostStep _ = ⊥

-- the second ledger is what the first becomes by such steps, refused or not
pub record HostSteps (before after : LedgerState) : Type 0 where
  pub steps : List LedgerStep
  pub each : All IsHostStep steps
  pub is : after ≡ run_steps steps before

-- the open scopes, each with the handles that are lent to it
abbrev pub lenders_in : LedgerState → List (List Lender)
lenders_in l = map (λ s. s.lenders) l.handles.scopes

-- ---- a call

-- the words of such a function: it takes a view, its type, parameters and slots, and changes the view and the slots
abbrev pub Closure : Type 0 → Type 0 → Type 0 → Type 0 → Type 1
Closure F V X R = Shared F (MutBor V × (Bor TypeFunc × (Bor (List X) × (MutBor (List X) × Unit {0})))) (R × (MutBor V × (MutBor (List X) × Unit {0})))

-- At such a view, type, parameters and slots it may give r, and leave this view and these slots.
pub record Returns {F V X R : Type 0} (g : Closure F V X R) (f : F) (v : V) (ty : TypeFunc) (params slots : List X) (r : R) (v2 : V) (slots2 : List X) : Type 0 where
  pub view : MutBor V
  pub type : Bor TypeFunc
  pub given : Bor (List X)
  pub room : MutBor (List X)
  pub view_is : view.now ≡ v
  pub type_is : type.now ≡ ty
  pub given_is : given.now ≡ params
  pub room_is : room.now ≡ slots
  pub view_left : MutBor V
  pub room_left : MutBor (List X)
  pub met : g.post f (view, (type, (given, (room, tt)))) (r, (view_left, (room_left, tt)))
  pub view_left_is : view_left.now ≡ v2
  pub room_left_is : room_left.now ≡ slots2

-- the words of one over Rust types: it takes a view and its parameters, and changes the view
abbrev pub StaticClosure : Type 0 → Type 0 → Type 0 → Type 0 → Type 1
StaticClosure F V P R = Shared F (MutBor V × (P × Unit {0})) (R × (MutBor V × Unit {0}))

-- At such a view and parameters it may give r, and leave this view.
pub record StaticReturns {F V P R : Type 0} (g : StaticClosure F V P R) (f : F) (v : V) (params : P) (r : R) (v2 : V) : Type 0 where
  pub view : MutBor V
  pub view_is : view.now ≡ v
  pub view_left : MutBor V
  pub met : g.post f (view, (params, tt)) (r, (view_left, tt))
  pub view_left_is : view_left.now ≡ v2

-- the view is of no call: no types of a component are known, and there is no scope
pub record IsOutside {T : Type 0} (v : HostView T) : Type 0 where
  pub no_types : known_in v.tables ≡ None
  pub no_scope : scope_in v.tables ≡ None

-- what may be done with a view: how it is before, and after
module _ {T : Type 0} (May : HostView T → HostView T → Type 0) where
  -- Outside any call the view is of the same data and the same ledger after it, and the ledger took the host's steps alone.
  pub record KeepsView : Type 0 where
    pub state : (v w : HostView T) → IsOutside v → May v w → w.state.ghost_name ≡ v.state.ghost_name
    pub tables : (v w : HostView T) → IsOutside v → May v w → reference_in w.tables ≡ reference_in v.tables
    pub steps : (v w : HostView T) → IsOutside v → May v w → HostSteps (ledger_in v.tables) (ledger_in w.tables)

  -- It was done once, over the data, the ledger, the memory and the component of one core, and left those of another.
  pub record DoneOver {G : Type 0} (before after : Parts T G) : Type 0 where
    pub view : HostView T
    pub left : HostView T
    pub returned : May view left
    pub outside : IsOutside view
    pub state_is : view.state.now ≡ before.state
    pub ledger_is : ledger_in view.tables ≡ before.ledger
    pub memory_is : view.memory.bytes.now ≡ before.memory
    pub component_is : view.memory.component.now ≡ before.component
    pub id_is : view.memory.id ≡ before.id
    pub state_left : left.state.now ≡ after.state
    pub ledger_left : ledger_in left.tables ≡ after.ledger

module _ {F T X R : Type 0} (g : Closure F (HostView T) X R) (f : F) where
  -- It may be called outside any call, and keeps its view whatever it does.
  pub record Keeps : Type 0 where
    pub callable : (v : MutBor (HostView T)) (ty : Bor TypeFunc) (ps : Bor (List X)) (xs : MutBor (List X)) → IsOutside v.now → g.pre f (v, (ty, (ps, (xs, tt))))
    pub each : (ty : TypeFunc) (ps xs ys : List X) (r : R) → KeepsView (λ v w. Returns g f v ty ps xs r w ys)

  -- It was called once, with these slots, and left those.
  abbrev pub Gave : {G : Type 0} → Parts T G → Parts T G → TypeFunc → List X → List X → R → List X → Type 0
  Gave before after ty ps xs r ys = DoneOver (λ v w. Returns g f v ty ps xs r w ys) before after

-- the same of one over Rust types
module _ {F T P R : Type 0} (g : StaticClosure F (HostView T) P R) (f : F) where
  pub record StaticKeeps : Type 0 where
    pub callable : (v : MutBor (HostView T)) (params : P) → IsOutside v.now → g.pre f (v, (params, tt))
    pub each : (params : P) (r : R) → KeepsView (λ v w. StaticReturns g f v params r w)

  abbrev pub StaticGave : {G : Type 0} → Parts T G → Parts T G → P → R → Type 0
  StaticGave before after params r = DoneOver (λ v w. StaticReturns g f v params r w) before after
