-- Lenders whose tables and indexes stand in two lists, and slots.
use Rattle.std.proofs.Common.{◌≡◌, ℕ, zero, suc, ◌-◌, ◌<◌, ◌≤◌, List, [], ◌∷◌, ◌++◌, length, get_or, map, Option, Some, None, refl, sym, ap, subst, ◌∙◌, arith, slice_get, slice_index_or, option_map, unwrap_or, Bor}
use Rattle.std.specs.Slice.{IsGetResult}
use Rattle.std.proofs.lemmas.Option.{slice_get-get_or, slice_get-map, slice_get_past, unwrap_or-slice_get}
use Rattle.std.proofs.Math.ListN.{set}
use Rattle.std.proofs.lemmas.List.{map-set, length-map}
use Rattle.canon_handles.specs.declared.handle.TypedResourceIndex.{TypedResourceIndex}
use Rattle.canon_handles.specs.Step.{put}
use Rattle.canon_handles.proofs.StepLemmas.{put_within, put_end}
use Rattle.canon_ledger.specs.declared.host.TableSlot.{TableSlot}
use Rattle.canon_ledger.specs.Handles.{Lender}
use Rattle.canon_ledger.specs.Ledger.{HostIndexes, slot_at, with_slot}
use Rattle.canon_ledger.specs.Books.{lenders_from, indexes_of}

pub length_paired : (ps : List ℕ) (is : List TypedResourceIndex) → length ps ≡ length is → length (lenders_from ps is) ≡ length is
length_paired [] [] e = refl
length_paired [] (i ∷ is) e = absurd (omega arith)
length_paired (p ∷ ps) [] e = absurd (omega arith)
length_paired (p ∷ ps) (i ∷ is) e = let k = length_paired ps is (omega arith) in omega arith

pub length_paired_tables : (ps : List ℕ) (is : List TypedResourceIndex) → length ps ≡ length is → length (lenders_from ps is) ≡ length ps
length_paired_tables ps is e = let k = length_paired ps is e in omega arith

pub indexes_paired : (ps : List ℕ) (is : List TypedResourceIndex) → length ps ≡ length is → is ≡ map (λ (l : Lender). l.index) (lenders_from ps is)
indexes_paired [] [] e = refl
indexes_paired [] (i ∷ is) e = absurd (omega arith)
indexes_paired (p ∷ ps) [] e = absurd (omega arith)
indexes_paired (p ∷ ps) (i ∷ is) e = ap (λ l. i ∷ l) (indexes_paired ps is (omega arith))

pub paired_append : (ps : List ℕ) (is : List TypedResourceIndex) (p : ℕ) (i : TypedResourceIndex) → length ps ≡ length is
    → lenders_from (ps ++ p ∷ []) (is ++ i ∷ []) ≡ lenders_from ps is ++ record { table = p; index = i } ∷ []
paired_append [] [] p i e = refl
paired_append [] (j ∷ is) p i e = absurd (omega arith)
paired_append (q ∷ ps) [] p i e = absurd (omega arith)
paired_append (q ∷ ps) (j ∷ is) p i e = ap (λ l. record { table = q; index = j } ∷ l) (paired_append ps is p i (omega arith))

get_paired : (ps : List ℕ) (is : List TypedResourceIndex) (k p : ℕ) (i : TypedResourceIndex) → length ps ≡ length is → k < length ps → p ≡ slice_index_or ps k p → i ≡ slice_index_or is k i
    → slice_get (lenders_from ps is) k ≡ Some (record { table = p; index = i })
get_paired [] is k p i e h a b = absurd (omega arith)
get_paired (q ∷ ps) [] k p i e h a b = absurd (omega arith)
get_paired (q ∷ ps) (j ∷ is) zero p i e h a b = λ t. Some (record { table = sym a t; index = sym b t })
get_paired (q ∷ ps) (j ∷ is) (suc k) p i e h a b = get_paired ps is k p i (omega arith) (omega arith) a b

pub lender_at : (ps : List ℕ) (is : List TypedResourceIndex) (lenders : List Lender) (k p : ℕ) (i : TypedResourceIndex) → length ps ≡ length is → lenders_from ps is ≡ lenders → k < length lenders
    → p ≡ slice_index_or ps k p → i ≡ slice_index_or is k i
    → slice_get lenders k ≡ Some (record { table = p; index = i })
lender_at ps is lenders k p i e v h a b =
    ap (λ l. slice_get l k) (sym v) ∙ get_paired ps is k p i e (let n = length_paired_tables ps is e in let m = ap (λ (l : List Lender). length l) v in omega arith) a b

-- slots, of which that of index 0 is none

pub slots_written : (slots : List TableSlot) (i : ℕ) (s : TableSlot) → i < length slots → None ∷ map Some (set slots i s) ≡ put (None ∷ map Some slots) (suc i) (Some s)
slots_written slots i s h =
    ap (λ l. None ∷ l) (map-set Some slots i s ∙ sym (put_within (map Some slots) i (Some s) (let e = length-map slots Some in omega arith)))

map-append_one : (slots : List TableSlot) (s : TableSlot) → map Some (slots ++ s ∷ []) ≡ map Some slots ++ Some s ∷ []
map-append_one [] s = refl
map-append_one (x ∷ xs) s = ap (λ l. Some x ∷ l) (map-append_one xs s)

pub slots_pushed : (slots : List TableSlot) (i : ℕ) (s : TableSlot) → i ≡ length slots → None ∷ map Some (slots ++ s ∷ []) ≡ put (None ∷ map Some slots) (suc i) (Some s)
slots_pushed slots i s e =
    ap (λ l. None ∷ l) (map-append_one slots s ∙ sym (put_end (map Some slots) (Some s)) ∙ ap (λ n. put (map Some slots) n (Some s)) (length-map slots Some ∙ sym e))

pub host_pushed : (slots new : List TableSlot) (generation index : ℕ) (instance dtor : Option ℕ) (now : HostIndexes) → indexes_of (None ∷ map Some slots) generation ≡ now → 0 < index → index ≤ length now.slots → length slots ≤ index - 1
    → new ≡ slots ++ record { generation = generation; instance = instance; dtor = dtor } ∷ [] → indexes_of (None ∷ map Some new) generation ≡ with_slot now index instance dtor
host_pushed slots new generation zero instance dtor now v p h l e = absurd (omega arith)
host_pushed slots new generation (suc i) instance dtor now v p h l e =
    ap (λ l. indexes_of (None ∷ map Some l) generation) e
    ∙ ap (λ l. indexes_of l generation) (slots_pushed slots i (record { generation = generation; instance = instance; dtor = dtor }) (let m = length-map slots Some in let n = ap (λ (h : HostIndexes). length h.slots) v in omega arith))
    ∙ ap (λ (h : HostIndexes). with_slot h (suc i) instance dtor) v

flat : (o : Option TableSlot) → unwrap_or (option_map Some o) None ≡ o
flat (Some s) = refl
flat None = refl

slot_get : (slots : List TableSlot) (k : ℕ) → slice_get slots k ≡ get_or (map Some slots) k None
slot_get slots k = sym (flat (slice_get slots k)) ∙ sym (ap (λ (o : Option (Option TableSlot)). unwrap_or o None) (slice_get-map Some slots k)) ∙ unwrap_or-slice_get (map Some slots) k None

item_is : (slots : List TableSlot) (k : ℕ) (r : Option (Bor TableSlot)) → IsGetResult slots k k r → option_map (λ (b : Bor TableSlot). b.now) r ≡ slice_get slots k
item_is slots k (Some x) h = ap Some (h.4 (omega arith) x.now) ∙ sym (slice_get-get_or slots k x.now h.3.0)
item_is slots k None h = sym (slice_get_past slots k h.3)

module _ (slots : List TableSlot) (generation : ℕ) (now : HostIndexes) (is : indexes_of (None ∷ map Some slots) generation ≡ now) where
  pub no_slot : (i : ℕ) → i ≡ 0 → None ≡ slot_at now i
  no_slot i z = ap (λ (h : HostIndexes). slot_at h 0) is ∙ ap (λ (k : ℕ). slot_at now k) (sym z)

  pub slot_found : (i : ℕ) (r : Option (Bor TableSlot)) (o : Option TableSlot) → 0 < i → IsGetResult slots (i - 1) (i - 1) r → o ≡ option_map (λ (b : Bor TableSlot). b.now) r → o ≡ slot_at now i
  slot_found zero r o positive found e = absurd (omega arith)
  slot_found (suc k) r o positive found e =
      e ∙ item_is slots k r (subst (λ (n : ℕ). IsGetResult slots n n r) (omega arith) found) ∙ slot_get slots k ∙ ap (λ (h : HostIndexes). slot_at h (suc k)) is
