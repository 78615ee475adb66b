use Rattle.std.proofs.Common.{rules, ◌++◌, ◌∙◌, ap, drop, length, take, refl}
use Rattle.canon_model.specs.Memory.{Memory, memory_of}
use Rattle.canon_memory.specs.Memory.{written_over}
use Rattle.canon_memory.proofs.memory.Memory.as_slice_mut.Goals as goal

pub returns : goal.returns
returns c =
    let inside = c.self.inside in
    let old = inside.bytes.items in (
      (refl, λ w. ap (λ n. memory_of (take n (w ++ drop (length w) old)) inside.wide) inside.bytes.ok.0 ∙ ap (λ (m : Memory). memory_of (written_over m.bytes w) m.wide) c.self.view_is),
      record { writes_back = tt; value = search rules },
    )
