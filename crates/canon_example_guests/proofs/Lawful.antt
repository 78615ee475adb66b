-- A block that is given behind all others keeps the law of `realloc`.
use Rattle.std.proofs.Common.{List, Some, arith, length, subst, ℕ, ◌<◌, ◌≡◌, ◌∙◌}
use Rattle.canon_model.specs.Requests.{Call}
use Rattle.canon_memory.specs.Realloc.{ReallocLaw}
use Rattle.canon_scripted.specs.Allocator.{Allocator, InRow, new_placed}
use Rattle.canon_scripted.proofs.Laws.{copied_none, keeps, lawful}
use Rattle.canon_scripted.proofs.Rules.{at_place, scripted_is_new}

pub given_is_lawful : (m : List ℕ) (a b : Allocator) (c : Call) (at : ℕ) → InRow 0 a.live a.top → 0 < c.align → c.old_size ≡ 0
    → new_placed (length m) a c ≡ Some (at_place at b) → ReallocLaw a.live b.live m m c at
given_is_lawful m a b c at row some none placed =
    let given = keeps (length m) a c row (at_place at b) some (scripted_is_new (length m) a c none ∙ placed) in
    subst (λ (xs : List ℕ). ReallocLaw a.live b.live m xs c at) (copied_none m c at (omega (arith, none))) (lawful m a c (at_place at b) given)
