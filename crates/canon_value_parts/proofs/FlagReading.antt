-- Flags that are read one after another, and charged.
use Rattle.std.proofs.Common.{◌≡◌, ◌≤◌, ◌<◌, ◌+◌, ◌/◌, ◌%◌, ◌^◌, ◌∙◌, ◌++◌, ◌==◌, Bool, List, Vec, String, [], ◌∷◌, ap}
use Rattle.std.proofs.Common.{ap₂, append_assoc, arith, drop, drop-cons, false, get_or, inr, length, refl, subst, suc, sym, true, ℕ, IfErr, IsErr, IsErrAnd, Result}
use Rattle.std.specs.Int.{bit_at}
use Rattle.std.specs.declared.alloc.Global.{Global}
use Rattle.canon_context.proofs.Told.{handed_on}
use Rattle.std.proofs.Math.Seq.{drop-length}
use Rattle.std.proofs.lemmas.List.{append-nil}
use Rattle.canon_model.specs.Cost.{set_length}
use Rattle.canon_model.specs.Rep.{bits_of}
use Rattle.canon_model.specs.Shape.{Name, Shape, flags}
use Rattle.canon_types.specs.Keeps.{names_of}
use Rattle.canon_value_parts.specs.Flags.{AreFlags, AreUnpaid, MarksHaveRoom, digit_of, marked_number, width_of}
use Rattle.canon_val.specs.Value.{chosen}
use Rattle.canon_context.specs.declared.fault.Fault.{Fault}
use Rattle.canon_context.specs.declared.fault.Fault.TheVariants as fault
use Rattle.canon_value_parts.specs.declared.flags.Marks.{Marks}
use Rattle.canon_val.specs.declared.val.Val.TheVariants as val
use Rattle.canon_value_parts.proofs.FlagDigits.{bit_read}
use Rattle.canon_value_parts.proofs.FlagNames.{Differ, bits_count, bits_from, chosen_known, chosen_marked, chosen_set, chosen_unset}

-- the bits of these names
abbrev pub bits_in : Marks → List Name → List Bool
bits_in ms names = bits_of (length names) (marked_number ms (length names))

-- the first k of these names were read: the set ones among them are `set`, and their bytes were charged
pub record IsReading (ms : Marks) (names : List Name) (k before now : ℕ) (set : List Name) : Type 0 where
  pub paid : now + set_length names (bits_in ms names) ≡ before + set_length (drop k names) (drop k (bits_in ms names))
  pub so_far : set ++ chosen (drop k names) (drop k (bits_in ms names)) ≡ chosen names (bits_in ms names)
  pub falls : now ≤ before

module _ (ms : Marks) (names : List Name) (k before now : ℕ) (set : List Name) (h : IsReading ms names k before now set) (inside : k < length names) (room : MarksHaveRoom ms (length names))
    (below : (j : ℕ) → j < k → digit_of ms (j / width_of ms) < 2 ^ width_of ms) (name : Name) (is : get_or names k [] ≡ name) where
  split : drop k names ≡ name ∷ drop (k + 1) names
  split = drop-cons names k [] inside ∙ ap₂ (λ x xs. x ∷ xs) is (ap (λ (n : ℕ). drop n names) (let e : suc k ≡ k + 1 = omega arith in e))

  bit_here : (b : Bool) → b ≡ (bit_at (digit_of ms (k / width_of ms)) (k % width_of ms) == 1) → drop k (bits_in ms names) ≡ b ∷ drop (k + 1) (bits_in ms names)
  bit_here b e =
      bits_from (length names) (marked_number ms (length names)) k inside ∙ ap₂ (λ x xs. x ∷ xs) (ap (λ (n : ℕ). n == 1) (bit_read ms (length names) k room inside below) ∙ sym e)
      (ap (λ (n : ℕ). drop n (bits_in ms names)) (let e : suc k ≡ k + 1 = omega arith in e))

  pub read_unset : false ≡ (bit_at (digit_of ms (k / width_of ms)) (k % width_of ms) == 1) → IsReading ms names (k + 1) before now set
  read_unset e =
      let (same, cost) = chosen_unset _ _ _ _ name split (bit_here false e) in
      record { paid = omega (arith, h.paid, cost); so_far = ap (λ (xs : List Name). set ++ xs) (sym same) ∙ h.so_far; falls = h.falls }

  pub read_set : true ≡ (bit_at (digit_of ms (k / width_of ms)) (k % width_of ms) == 1) → (left : ℕ) → now ≡ left + length name → IsReading ms names (k + 1) before left (set ++ name ∷ [])
  read_set e left paid =
      let (same, cost) = chosen_set _ _ _ _ name split (bit_here true e) in
      record {
        paid = omega (arith, h.paid, cost, paid);
        so_far = append_assoc set (name ∷ []) _ ∙ (ap (λ (xs : List Name). set ++ xs) (sym same) ∙ h.so_far);
        falls = omega (arith, h.falls, paid);
      }

  pub read_unpaid : true ≡ (bit_at (digit_of ms (k / width_of ms)) (k % width_of ms) == 1) → now < length name → before < set_length names (bits_in ms names)
  read_unpaid e low =
      let (same, cost) = chosen_set _ _ _ _ name split (bit_here true e) in
      omega (arith, h.paid, cost, low)

pub read_begin : (ms : Marks) (names : List Name) (before : ℕ) → IsReading ms names 0 before before []
read_begin ms names before = record { paid = refl; so_far = refl; falls = omega arith }

pub read_end : (ms : Marks) (names : List Name) (before now : ℕ) (set : Vec (String Global) Global) (s : Shape) → s ≡ flags names → Differ names → IsReading ms names (length names) before now (names_of set.items)
    → AreFlags s (marked_number ms (length names)) before now (val.Flags set)
read_end ms names before now set s es differ h =
    let none : drop (length names) names ≡ [] = drop-length names in
    let bs = bits_in ms names in
    let all : names_of set.items ≡ chosen names bs = sym (append-nil _) ∙ (ap (λ (xs : List Name). names_of set.items ++ chosen xs (drop (length names) bs)) (sym none) ∙ h.so_far) in
    let paid : before ≡ now + set_length names bs = omega (arith, h.paid, ap (λ (xs : List Name). set_length xs (drop (length names) bs)) none) in
    subst (λ (x : Shape). AreFlags x (marked_number ms (length names)) before now (val.Flags set)) (sym es)
    ((chosen names bs, bs, (set, refl, sym all), chosen_known names bs, refl, chosen_marked names bs differ (bits_count (length names) (marked_number ms (length names))), λ _. refl), paid)

-- ---- of the names of a type

-- the names, and the first k of them read from the marks
module _ (ms : Marks) (names others : List Name) (same : names ≡ others) (before : ℕ) where
  pub room_of : MarksHaveRoom ms (length names) → MarksHaveRoom ms (length others)
  room_of room = subst (λ (ns : List Name). MarksHaveRoom ms (length ns)) same room

  pub flags_unpaid : {X : Type 0} (s : Shape) (r : Result X Fault) (e : Fault) → s ≡ flags names → IsErr r × IsErrAnd r (λ x. x ≡ e) → e ≡ fault.HostcallFuelExhausted → before < set_length others (bits_in ms others)
      → IfErr r (AreUnpaid s (marked_number ms (length names)) before)
  flags_unpaid s r e es h is low =
      let unpaid : AreUnpaid (flags names) (marked_number ms (length names)) before e = inr (is, subst (λ (ns : List Name). before < set_length ns (bits_in ms ns)) (sym same) low) in
      handed_on r e (AreUnpaid s (marked_number ms (length names)) before) h (subst (λ (x : Shape). AreUnpaid x (marked_number ms (length names)) before e) (sym es) unpaid)

  pub flags_end : (s : Shape) (k now : ℕ) (set : Vec (String Global) Global) → s ≡ flags names → Differ names → k ≡ length others → IsReading ms others k before now (names_of set.items)
      → AreFlags s (marked_number ms (length names)) before now (val.Flags set)
  flags_end s k now set es differ all h =
      read_end ms names before now set s es differ (subst (λ (ns : List Name). IsReading ms ns (length ns) before now (names_of set.items)) (sym same) (subst (λ (n : ℕ). IsReading ms others n before now (names_of set.items)) all h))
