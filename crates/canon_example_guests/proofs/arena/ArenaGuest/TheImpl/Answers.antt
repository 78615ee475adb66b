use Rattle.std.proofs.Common.{ap, length}
use Rattle.canon_model.specs.Memory.{Memory}
use Rattle.canon_memory.specs.Realloc.{call}
use Rattle.canon_example_guests.proofs.Meets.{example_caused, free, reallocates, started}
use Rattle.canon_example_guests.proofs.arena.ArenaGuest.TheImpl.Goals as goal

pub start-tells : goal.start-tells
start-tells c =
    let a = c.args.self.now in
    let b = c.new.self.now in
    record {
      width = ap (λ (m : Memory). m.wide) c.ensures.memory;
      goes = started a b c.args.memory.now.bytes c.new.memory.now.bytes (ap (λ (m : Memory). length m.bytes) c.ensures.memory) c.result c.ensures.counts _;
      moves = free c.result;
      cause = example_caused a b c.args.memory.now.bytes c.new.memory.now.bytes (ap (λ (m : Memory). length m.bytes) c.ensures.memory) c.result c.ensures.counts;
    }

pub realloc-tells : goal.realloc-tells
realloc-tells c = record {
  narrow = λ _. c.ensures.narrow;
  width = ap (λ (m : Memory). m.wide) c.ensures.memory;
  does = reallocates c.args.self.now c.new.self.now c.args.memory.now.bytes c.new.memory.now.bytes (ap (λ (m : Memory). m.bytes) c.ensures.memory)
      (call c.args.old c.args.old_size c.args.align c.args.new_size) c.result c.ensures.counts c.ensures.lawful;
  moves = free c.result;
}

pub resume-tells : goal.resume-tells
resume-tells c =
    let a = c.args.self.now in
    let b = c.new.self.now in
    record {
      width = ap (λ (m : Memory). m.wide) c.ensures.memory;
      goes = started a b c.args.memory.now.bytes c.new.memory.now.bytes (ap (λ (m : Memory). length m.bytes) c.ensures.memory) c.result c.ensures.counts _;
      moves = free c.result;
      cause = example_caused a b c.args.memory.now.bytes c.new.memory.now.bytes (ap (λ (m : Memory). length m.bytes) c.ensures.memory) c.result c.ensures.counts;
    }
