use Rattle.std.proofs.Common.{◌+◌, ◌≤◌, ℕ, List, ap, arith, inl, inr, length, subst, sym, ⊎_elim}
use Rattle.canon_model.specs.Memory.{memory_of}
use Rattle.canon_memory.specs.Realloc.{call}
use Rattle.canon_scripted.proofs.Laws.{from_inside, stays_there}
use Rattle.canon_scripted.proofs.guest.place.Goals as goal

pub copy_within-requires-clause-in_bounds : goal.copy_within-requires-clause-in_bounds
copy_within-requires-clause-in_bounds c =
    let a = c.args in
    let k = from_inside c.len-len.result a.allocator.now c.allocate.new.self (call a.old a.old_size a.align a.new_size) c.in-Ok.answer c.in-Ok.ensures.row c.requires.aligned c.in-Ok.ensures.does
    (omega (arith, c.if-kept-gt0.true, c.min-kept.ensures)) in
    subst (λ (xs : List ℕ). a.old + c.min-kept.result ≤ length xs) (sym c.as_slice_mut.ensures.value) (omega (arith, k, c.min-kept.ensures, c.len-len.ensures))

pub returns-else-kept-gt0-clause-copies : goal.returns-else-kept-gt0-clause-copies
returns-else-kept-gt0-clause-copies c =
    let a = c.args in
    ap (λ (xs : List ℕ). memory_of xs a.memory.now.wide)
    (stays_there a.memory.now.bytes (call a.old a.old_size a.align a.new_size) c.in-Ok.answer
    (⊎_elim (λ w. inr w.1) (λ w. inl (omega (arith, w, c.min-kept.ensures))) c.else-kept-gt0.either))
