-- What a call of a function of the host keeps of its view.
use Rattle.std.proofs.Common.{List, Option, Some, refl, subst, sym, ◌≡◌}
use Rattle.std.specs.Prelude.{IfSome}
use Rattle.std.specs.Borrow.{Bor, MutBor}
use Rattle.canon_ledger.specs.Reached.{ledger_in, reference_in}
use Rattle.canon_types.specs.declared.types.TypeFunc.{TypeFunc}
use Rattle.canon_context.specs.Core.{Parts}
use Rattle.canon_context.specs.Host.{Closure, DoneOver, Gave, HostSteps, IsOutside, Keeps, Returns, StaticClosure, StaticKeeps, StaticReturns}
use Rattle.canon_context.specs.declared.host.HostView.{HostView}

module _ {F T X R : Type 0} (g : Closure F (HostView T) X R) (f : F) (k : Keeps g f) (v w : MutBor (HostView T)) (n : Bor TypeFunc) (ps : Bor (List X)) (xs ys : MutBor (List X)) (r : R) (outside : IsOutside v.now) where
  met : g.post f (v, (n, (ps, (xs, tt)))) (r, (w, (ys, tt))) → Returns g f v.now n.now ps.now xs.now r w.now ys.now
  met p = record { view = v; type = n; given = ps; room = xs; view_is = refl; type_is = refl; given_is = refl; room_is = refl; view_left = w; room_left = ys; met = p; view_left_is = refl; room_left_is = refl }

  pub same_state : g.post f (v, (n, (ps, (xs, tt)))) (r, (w, (ys, tt))) → w.now.state.ghost_name ≡ v.now.state.ghost_name
  same_state p = (k.each n.now ps.now xs.now ys.now r).state v.now w.now outside (met p)

  pub same_ledger : g.post f (v, (n, (ps, (xs, tt)))) (r, (w, (ys, tt))) → reference_in w.now.tables ≡ reference_in v.now.tables
  same_ledger p = (k.each n.now ps.now xs.now ys.now r).tables v.now w.now outside (met p)

  pub took_steps : g.post f (v, (n, (ps, (xs, tt)))) (r, (w, (ys, tt))) → HostSteps (ledger_in v.now.tables) (ledger_in w.now.tables)
  took_steps p = (k.each n.now ps.now xs.now ys.now r).steps v.now w.now outside (met p)

-- the same of a function over Rust types
module _ {F T P R : Type 0} (g : StaticClosure F (HostView T) P R) (f : F) (k : StaticKeeps g f) (v w : MutBor (HostView T)) (params : P) (r : R) (outside : IsOutside v.now) where
  pub static_met : g.post f (v, (params, tt)) (r, (w, tt)) → StaticReturns g f v.now params r w.now
  static_met p = record { view = v; view_is = refl; view_left = w; met = p; view_left_is = refl }

  pub static_state : g.post f (v, (params, tt)) (r, (w, tt)) → w.now.state.ghost_name ≡ v.now.state.ghost_name
  static_state p = (k.each params r).state v.now w.now outside (static_met p)

  pub static_ledger : g.post f (v, (params, tt)) (r, (w, tt)) → reference_in w.now.tables ≡ reference_in v.now.tables
  static_ledger p = (k.each params r).tables v.now w.now outside (static_met p)

  pub static_steps : g.post f (v, (params, tt)) (r, (w, tt)) → HostSteps (ledger_in v.now.tables) (ledger_in w.now.tables)
  static_steps p = (k.each params r).steps v.now w.now outside (static_met p)

-- what is done over the parts of a core
pub done_over : {T G : Type 0} (May : HostView T → HostView T → Type 0) (before after : Parts T G) (view left : HostView T) → May view left → IsOutside view → view.state.now ≡ before.state → ledger_in view.tables ≡ before.ledger
    → view.memory.bytes.now ≡ before.memory → view.memory.component.now ≡ before.component → view.memory.id ≡ before.id → left.state.now ≡ after.state → ledger_in left.tables ≡ after.ledger → DoneOver May before after
done_over May before after view left returned outside state ledger memory component id state2 ledger2 = record {
  view = view;
  left = left;
  returned = returned;
  outside = outside;
  state_is = state;
  ledger_is = ledger;
  memory_is = memory;
  component_is = component;
  id_is = id;
  state_left = state2;
  ledger_left = ledger2;
}

-- a call by the type that was found
pub gave_found : {F T G X R : Type 0} (g : Closure F (HostView T) X R) (f : F) (before after : Parts T G) (o : Option TypeFunc) (t : TypeFunc) (view left : HostView T) (ps xs ys : List X) (r : R)
    → Returns g f view t ps xs r left ys → IsOutside view → view.state.now ≡ before.state → ledger_in view.tables ≡ before.ledger → view.memory.bytes.now ≡ before.memory → view.memory.component.now ≡ before.component
    → view.memory.id ≡ before.id → left.state.now ≡ after.state → ledger_in left.tables ≡ after.ledger → o ≡ Some t → IfSome o (λ x. Gave g f before after x ps xs r ys)
gave_found g f before after o t view left ps xs ys r returned outside state ledger memory component id state2 ledger2 found =
    subst (λ p. IfSome p (λ x. Gave g f before after x ps xs r ys)) (sym found) (done_over (λ v w. Returns g f v t ps xs r w ys) before after view left returned outside state ledger memory component id state2 ledger2)
