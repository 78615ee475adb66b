-- The five rules, as facts.
use Rattle.std.proofs.Common.{◌≡◌, ℕ, ◌+◌, ◌%◌, ◌<◌, ◌≤◌, ◌^◌, Bool, true, false, not, ◌&&◌, None, Some, ⊎_elim, refl, sym, ap, ◌∙◌, arith, nat_eq, nat_le, nat_lt, eq-eqb, le-leb}
use Rattle.std.specs.Prelude.{if◌then◌else◌}
use Rattle.std.proofs.lemmas.Bool.{and_parts, and_from, and_left, and_right, cases_Bool, cond-true, cond-false, eqb-true, ltb-true, leb-true, lt-ltb, le-ltb, lt-leb, ne_eqb, not-false}
use Rattle.std.proofs.lemmas.Option.{same_Some, none-some}
use Rattle.canon_model.specs.Requests.{Call}
use Rattle.canon_memory.specs.Realloc.{old_block}
use Rattle.canon_scripted.specs.Allocator.{Allocator, Placed, allocate, is_live, last_placed, moved_placed, new_placed, placed_inside, smaller_placed}

abbrev pub at_place : ℕ → Allocator → Placed
at_place start after = record { answer = start; after = after }

-- ---- a placed block

pub placed_yes : (len start size : ℕ) (after : Allocator) → start < 2 ^ 32 → start + size ≤ len → placed_inside len start size after ≡ Some (at_place start after)
placed_yes len start size after near room = cond-true _ _ _ (and_from _ _ (lt-ltb start (2 ^ 32) near) (le-leb (start + size) len room))

pub placed_far : (len start size : ℕ) (after : Allocator) → 2 ^ 32 ≤ start → placed_inside len start size after ≡ None
placed_far len start size after far = cond-false _ _ _ (and_left _ _ (le-ltb start (2 ^ 32) far))

pub placed_past : (len start size : ℕ) (after : Allocator) → len < start + size → placed_inside len start size after ≡ None
placed_past len start size after past = cond-false _ _ _ (and_right _ _ (lt-leb (start + size) len past))

pub placed_no : (len start size : ℕ) (after : Allocator) → ((start < 2 ^ 32) × (start + size ≤ len) → ⊥) → placed_inside len start size after ≡ None
placed_no len start size after h = ⊎_elim
    (λ e. absurd (h (ltb-true _ _ (and_parts _ _ e).0, leb-true _ _ (and_parts _ _ e).1)))
    (λ e. cond-false _ _ _ e)
    (cases_Bool (nat_lt start (2 ^ 32) && nat_le (start + size) len))

-- what an answer says
pub record IsPlaced (len start size : ℕ) (after : Allocator) (p : Placed) : Type 0 where
  pub near : start < 2 ^ 32
  pub room : start + size ≤ len
  pub is : at_place start after ≡ p

pub placed_is : (len start size : ℕ) (after : Allocator) (p : Placed) → placed_inside len start size after ≡ Some p → IsPlaced len start size after p
placed_is len start size after p e = ⊎_elim
    (λ t. record {
      near = ltb-true _ _ (and_parts _ _ t).0;
      room = leb-true _ _ (and_parts _ _ t).1;
      is = same_Some _ _ (sym (cond-true _ _ _ t) ∙ e);
    })
    (λ f. absurd (none-some p (sym (cond-false _ _ _ f) ∙ e)))
    (cases_Bool (nat_lt start (2 ^ 32) && nat_le (start + size) len))

-- ---- which rule it is

by_test : {A : Type 0} (P : Type 0) (b : Bool) (x y z : A) → (if b then x else y) ≡ z → (b ≡ true → x ≡ z → P) → (b ≡ false → y ≡ z → P) → P
by_test P true x y z e f g = f refl e
by_test P false x y z e f g = g refl e

-- of an answer
pub by_rule : (P : Type 0) (len : ℕ) (a : Allocator) (c : Call) (p : Placed) → allocate len a c ≡ Some p
    → (c.old_size ≡ 0 → new_placed len a c ≡ Some p → P)
    → (is_live a.live (old_block c) ≡ true → c.old + c.old_size ≡ a.top → c.old % c.align ≡ 0 → last_placed len a c ≡ Some p → P)
    → (is_live a.live (old_block c) ≡ true → c.new_size ≤ c.old_size → c.old % c.align ≡ 0 → smaller_placed len a c ≡ Some p → P)
    → (is_live a.live (old_block c) ≡ true → moved_placed len a c ≡ Some p → P)
    → P
by_rule P len a c p e one three four five =
    by_test P _ _ _ _ e (λ t. one (eqb-true _ _ t)) (λ some e1.
    by_test P _ _ _ _ e1 (λ t n. absurd (none-some p n)) (λ f e2.
    let lives : is_live a.live (old_block c) ≡ true = not-false _ f in
    by_test P _ _ _ _ e2 (λ t. let b = and_parts _ _ t in three lives (eqb-true _ _ b.0) (eqb-true _ _ b.1)) (λ g e3.
    by_test P _ _ _ _ e3 (λ t. let b = and_parts _ _ t in four lives (leb-true _ _ b.0) (eqb-true _ _ b.1)) (λ h e4. five lives e4))))

-- of a call
module _ (len : ℕ) (a : Allocator) (c : Call) where
  pub scripted_is_new : c.old_size ≡ 0 → allocate len a c ≡ new_placed len a c
  scripted_is_new e = cond-true _ _ _ (eq-eqb _ 0 e)

  not_new : 0 < c.old_size → nat_eq c.old_size 0 ≡ false
  not_new h = ne_eqb _ 0 (λ e. omega (arith, h, e))

  pub is_dead : 0 < c.old_size → is_live a.live (old_block c) ≡ false → allocate len a c ≡ None
  is_dead h f = cond-false _ _ _ (not_new h) ∙ cond-true _ _ _ (ap not f)

  pub is_last : 0 < c.old_size → is_live a.live (old_block c) ≡ true → c.old + c.old_size ≡ a.top → c.old % c.align ≡ 0 → allocate len a c ≡ last_placed len a c
  is_last h t e d = cond-false _ _ _ (not_new h) ∙ cond-false _ _ _ (ap not t) ∙ cond-true _ _ _ (and_from _ _ (eq-eqb _ _ e) (eq-eqb _ 0 d))

  pub is_smaller : 0 < c.old_size → is_live a.live (old_block c) ≡ true → (c.old + c.old_size ≡ a.top → ⊥) → c.new_size ≤ c.old_size → c.old % c.align ≡ 0 → allocate len a c ≡ smaller_placed len a c
  is_smaller h t e le d = cond-false _ _ _ (not_new h) ∙ cond-false _ _ _ (ap not t) ∙ cond-false _ _ _ (and_left _ _ (ne_eqb _ _ e)) ∙ cond-true _ _ _ (and_from _ _ (le-leb _ _ le) (eq-eqb _ 0 d))

  pub is_larger : 0 < c.old_size → is_live a.live (old_block c) ≡ true → (c.old + c.old_size ≡ a.top → ⊥) → c.old_size < c.new_size → allocate len a c ≡ moved_placed len a c
  is_larger h t e lt = cond-false _ _ _ (not_new h) ∙ cond-false _ _ _ (ap not t) ∙ cond-false _ _ _ (and_left _ _ (ne_eqb _ _ e)) ∙ cond-false _ _ _ (and_left _ _ (lt-leb _ _ lt))

  pub is_unaligned : 0 < c.old_size → is_live a.live (old_block c) ≡ true → (c.old % c.align ≡ 0 → ⊥) → allocate len a c ≡ moved_placed len a c
  is_unaligned h t d =
      let split = nat_eq (c.old % c.align) 0 in
      cond-false _ _ _ (not_new h) ∙ cond-false _ _ _ (ap not t)
      ∙ cond-false (nat_eq (c.old + c.old_size) a.top && split) (last_placed len a c) _ (and_right (nat_eq (c.old + c.old_size) a.top) _ (ne_eqb _ 0 d))
      ∙ cond-false (nat_le c.new_size c.old_size && split) (smaller_placed len a c) _ (and_right (nat_le c.new_size c.old_size) _ (ne_eqb _ 0 d))
