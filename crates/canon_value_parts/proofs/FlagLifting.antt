-- Flags that were read, as values that were loaded or lifted.
use Rattle.std.proofs.Common.{◌≡◌, ◌≤◌, ◌<◌, ◌+◌, Err, IfErr, IfOk, List, Ok, Result, inl, inr, length, refl, subst, sym, ℕ}
use Rattle.std.proofs.lemmas.Bool.{false≢true}
use Rattle.canon_model.specs.Cost.{cost}
use Rattle.canon_model.specs.Flat.{low_number}
use Rattle.canon_model.specs.Layout.{flag_words, flags_size, flat}
use Rattle.canon_model.specs.Memory.{Memory, num}
use Rattle.canon_model.specs.Reach.{StoredFault, flat_reach, reach_cost}
use Rattle.canon_model.specs.Shape.{Name, Shape, flags}
use Rattle.canon_model.specs.Text.{Encoding}
use Rattle.canon_model.specs.Tree.{bits}
use Rattle.canon_value_parts.specs.Flags.{AreFlags, AreUnpaid}
use Rattle.canon_value_parts.specs.Lifts.{LiftsTo}
use Rattle.canon_context.specs.Told.{Exactly, LiftBlames}
use Rattle.canon_value_parts.specs.Loads.{IsLoaded}
use Rattle.canon_context.specs.declared.fault.Fault.{Fault}
use Rattle.canon_val.specs.declared.val.Val.{Val}

module _ (enc : Encoding) (m : Memory) (names : List Name) (before : ℕ) where
  -- ---- in memory

  loaded_so : (at after : ℕ) (v : Val) → at + flags_size (length names) ≤ length m.bytes → AreFlags (flags names) (num m at (flags_size (length names))) before after v → IsLoaded enc m (flags names) at before after v
  unfolding cost
  loaded_so at after v room (has, paid) = (bits _, (room, refl, λ strict. absurd (false≢true strict)), has, paid)

  blamed_so : (at : ℕ) (e : Fault) → AreUnpaid (flags names) (num m at (flags_size (length names))) before e → LiftBlames (Exactly (StoredFault enc m (flags names) at)) (before < reach_cost enc m (flags names) at) e
  unfolding reach_cost
  blamed_so at e (inl is) = subst (λ x. LiftBlames (Exactly (StoredFault enc m (flags names) at)) (before < reach_cost enc m (flags names) at) x) (sym is) tt
  blamed_so at e (inr (is, low)) = subst (λ x. LiftBlames (Exactly (StoredFault enc m (flags names) at)) (before < reach_cost enc m (flags names) at) x) (sym is) low

  pub flags_loaded : (s : Shape) (at after : ℕ) (r : Result Val Fault) → s ≡ flags names → at + flags_size (length names) ≤ length m.bytes
      → IfOk r (AreFlags s (num m at (flags_size (length names))) before after) → IfOk r (IsLoaded enc m s at before after)
  flags_loaded s at after (Err e) is room h = tt
  flags_loaded s at after (Ok v) is room h = subst (λ (x : Shape). IsLoaded enc m x at before after v) (sym is) (loaded_so at after v room (subst (λ (x : Shape). AreFlags x (num m at (flags_size (length names))) before after v) is h))

  pub flags_blamed : (s : Shape) (at : ℕ) (r : Result Val Fault) → s ≡ flags names → IfErr r (AreUnpaid s (num m at (flags_size (length names))) before)
      → IfErr r (LiftBlames (Exactly (StoredFault enc m s at)) (before < reach_cost enc m s at))
  flags_blamed s at (Ok v) is h = tt
  flags_blamed s at (Err e) is h =
      subst (λ (x : Shape). LiftBlames (Exactly (StoredFault enc m x at)) (before < reach_cost enc m x at) e) (sym is) (blamed_so at e (subst (λ (x : Shape). AreUnpaid x (num m at (flags_size (length names))) before e) is h))

  -- ---- in words

  lifted_so : (ws : List ℕ) (from to after : ℕ) (v : Val) → to ≡ from + flag_words (length names) → AreFlags (flags names) (low_number ws from (flag_words (length names))) before after v
      → LiftsTo enc m ws from to before after (flags names) (Ok v)
  unfolding cost flat
  lifted_so ws from to after v passed (has, paid) = ((bits _, (refl, λ strict. absurd (false≢true strict)), has, paid), passed)

  unpaid_so : (ws : List ℕ) (from to after : ℕ) (e : Fault) → AreUnpaid (flags names) (low_number ws from (flag_words (length names))) before e → LiftsTo enc m ws from to before after (flags names) (Err e)
  unfolding flat_reach
  unpaid_so ws from to after e (inl is) = subst (λ x. LiftsTo enc m ws from to before after (flags names) (Err x)) (sym is) tt
  unpaid_so ws from to after e (inr (is, low)) = subst (λ x. LiftsTo enc m ws from to before after (flags names) (Err x)) (sym is) low

  pub flags_lifted : (s : Shape) (ws : List ℕ) (from to after : ℕ) (r : Result Val Fault) → s ≡ flags names → to ≡ from + flag_words (length names) → IfOk r (AreFlags s (low_number ws from (flag_words (length names))) before after)
      → IfErr r (AreUnpaid s (low_number ws from (flag_words (length names))) before) → LiftsTo enc m ws from to before after s r
  flags_lifted s ws from to after (Ok v) is passed h none =
      subst (λ (x : Shape). LiftsTo enc m ws from to before after x (Ok v)) (sym is) (lifted_so ws from to after v passed (subst (λ (x : Shape). AreFlags x (low_number ws from (flag_words (length names))) before after v) is h))
  flags_lifted s ws from to after (Err e) is passed none h =
      subst (λ (x : Shape). LiftsTo enc m ws from to before after x (Err e)) (sym is) (unpaid_so ws from to after e (subst (λ (x : Shape). AreUnpaid x (low_number ws from (flag_words (length names))) before e) is h))
