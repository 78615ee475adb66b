-- How many values and words a callee takes, and the first refusal.
use Rattle.std.proofs.Common.{Bool, None, Option, Some, ap, arith, false, refl, sym, true, ℕ, ⊎_elim, ◌&&◌, ◌==◌, ◌∙◌, ◌≡◌, ◌≤◌, ◌<◌}
use Rattle.std.specs.Prelude.{nat_eq, slice_get, unwrap_or, ◌≢◌}
use Rattle.std.specs.Option.{SomeIff}
use Rattle.std.proofs.lemmas.Bool.{cases_lt, le-leb, lt-leb}
use Rattle.std.proofs.lemmas.Bool.Decides.{nat_tests}
use Rattle.canon_model.specs.Layout.{flat, members_flat}
use Rattle.canon_model.specs.Shape.{Members, member_count, of_places, product}
use Rattle.canon_types.specs.Table.{TypeTable}
use Rattle.canon_context.specs.declared.component.Component.{Component}
use Rattle.canon_context.specs.declared.component.Export.{Export}
use Rattle.canon_func.specs.Call.{call_refusal, entry_refusal, words_within}
use Rattle.canon_func.specs.Stores.{Callee, export_callee, params_in, results_in}
use Rattle.canon_func.specs.declared.error.Error.TheVariants as error

-- ---- words

product_flat : (ms : Members) → flat (product of_places ms) ≡ members_flat ms
unfolding flat
product_flat ms = refl

pub within_least : (most : ℕ) (ms : Members) → members_flat ms ≤ most → words_within most ms ≡ members_flat ms
within_least most ms h = rw (le-leb (members_flat ms) most h)

pub within_more : (most : ℕ) (ms : Members) → most < members_flat ms → words_within most ms ≡ 1
within_more most ms h = rw (lt-leb (members_flat ms) most h)

counted : (most n : ℕ) (o : Option ℕ) (ms : Members) → n ≡ members_flat ms → most ≤ 16 → SomeIff o ((n ≤ most) × (n ≤ 16)) n → unwrap_or o 1 ≡ words_within most ms
counted most n (Some x) ms e few h = h.1 ∙ (e ∙ sym (within_least most ms (omega (arith, h.0.0))))
counted most n None ms e few h = sym (⊎_elim (λ far. within_more most ms far) (λ near. absurd (h (omega arith, omega arith))) (cases_lt most (members_flat ms)))

pub call_words_counted : (most : ℕ) (o : Option ℕ) (ms : Members) → most ≤ 16 → SomeIff o ((flat (product of_places ms) ≤ most) × (flat (product of_places ms) ≤ 16)) (flat (product of_places ms)) → unwrap_or o 1 ≡ words_within most ms
call_words_counted most o ms few h = counted most (flat (product of_places ms)) o ms (product_flat ms) few h

-- ---- refusals

module _ (callee : Callee) (params results : ℕ) (trapped : Bool) where
  abbrev pub Counts : Bool
  Counts = (params == member_count callee.params) && (results == member_count callee.results)

  pub by_count : (b : Bool) → b ≡ Counts → b ≡ false → Some error.WrongCount ≡ call_refusal callee params results trapped
  by_count b e h = rw (sym e ∙ h)

  pub by_entry : (b : Bool) → b ≡ Counts → b ≡ true → entry_refusal callee trapped ≡ call_refusal callee params results trapped
  by_entry b e h = rw (sym e ∙ h) refl

module _ (callee : Callee) (trapped : Bool) where
  pub by_async : callee.async_ ≡ true → Some error.AsyncLifted ≡ entry_refusal callee trapped
  by_async async = rw async refl

  pub by_trap : callee.async_ ≡ false → trapped ≡ true → Some error.CannotEnterComponent ≡ entry_refusal callee trapped
  by_trap async t = rw (async, t) refl

  pub by_none : callee.async_ ≡ false → trapped ≡ false → None ≡ entry_refusal callee trapped
  by_none async t = rw (async, t) refl

-- as counted by the table
pub counts_of : (component : Component) (e : Export) (t : TypeTable) (params results : ℕ) (trapped b : Bool) → t ≡ component.types.types
    → b ≡ (params == member_count (params_in t (slice_get t.funcs e.ty))) && (results == member_count (results_in t (slice_get t.funcs e.ty))) → b ≡ Counts (export_callee component e) params results trapped
counts_of component e t params results trapped b same h =
    h ∙ ap (λ v. (params == member_count (params_in v (slice_get v.funcs e.ty))) && (results == member_count (results_in v (slice_get v.funcs e.ty)))) same

-- ---- counts

pub both_equal : (p r l m k : ℕ) → p ≡ m → l ≡ k → nat_eq r l ≡ (p == m) && (r == k)
both_equal p r l m k e f = grind (arith, nat_tests)

pub first_differs : (p r l m k : ℕ) → p ≢ l → l ≡ m → nat_eq p l ≡ (p == m) && (r == k)
first_differs p r l m k e f = grind (arith, nat_tests)
