use Rattle.std.proofs.Common.{arith, subst, sym, ◌≡◌}
use Rattle.canon_recording_parts.specs.Read.{ReadsFormat}
use Rattle.std.proofs.Common.{Err, Ok}
use Rattle.canon_memory.specs.declared.event.Event.TheVariants as event
use Rattle.canon_recording_parts.specs.Events.{resume_event, return_event, tagged, words_and_memory}
use Rattle.canon_recording_parts.proofs.Reading.{recording_named, named_stops}
use Rattle.canon_recording_parts.proofs.read.read_tagged.Goals as goal

pub returns-in-0 : goal.returns-in-0
returns-in-0 c = record { reads = subst (λ n. ReadsFormat (tagged c.args.imports n) c.args.bytes.now c.args.at.now c.read_start.new.at c.read_start.result) (sym c.in-0.is) c.read_start.ensures.reads }

pub returns-in-1 : goal.returns-in-1
returns-in-1 c = record { reads = subst (λ n. ReadsFormat (tagged c.args.imports n) c.args.bytes.now c.args.at.now c.read_ask.new.at c.read_ask.result) (sym c.in-1.is) c.read_ask.ensures.reads }

pub returns-in-Ok : goal.returns-in-Ok
returns-in-Ok c = record {
  reads = subst (λ n. ReadsFormat (tagged c.args.imports n) c.args.bytes.now c.args.at.now c.read_words_and_memory.new.at (Ok (event.Resume c.in-Ok.words c.in-Ok.memory))) (sym c.in-2.is)
      (recording_named resume_event words_and_memory c.args.bytes.now c.args.at.now c.read_words_and_memory.new.at (c.in-Ok.words, c.in-Ok.memory) c.in-Ok.ensures.reads);
}

pub returns-in-Err : goal.returns-in-Err
returns-in-Err c = record {
  reads = subst (λ n. ReadsFormat (tagged c.args.imports n) c.args.bytes.now c.args.at.now c.read_words_and_memory.new.at (Err c.in-Err.error)) (sym c.in-2.is)
      (named_stops resume_event words_and_memory c.args.bytes.now c.args.at.now c.read_words_and_memory.new.at c.read_words_and_memory.new.at c.in-Err.error c.in-Err.ensures.reads);
}

pub returns-in-Ok-read_words_and_memory : goal.returns-in-Ok-read_words_and_memory
returns-in-Ok-read_words_and_memory c =
    let x = c.in-Ok-read_words_and_memory in
    record {
      reads = subst (λ n. ReadsFormat (tagged c.args.imports n) c.args.bytes.now c.args.at.now c.read_words_and_memory-in-3.new.at (Ok (event.Return x.words x.memory))) (sym c.in-3.is)
          (recording_named return_event words_and_memory c.args.bytes.now c.args.at.now c.read_words_and_memory-in-3.new.at (x.words, x.memory) x.ensures.reads);
    }

pub returns-in-Err-read_words_and_memory : goal.returns-in-Err-read_words_and_memory
returns-in-Err-read_words_and_memory c = record {
  reads = subst (λ n. ReadsFormat (tagged c.args.imports n) c.args.bytes.now c.args.at.now c.read_words_and_memory-in-3.new.at (Err c.in-Err-read_words_and_memory.error)) (sym c.in-3.is)
      (named_stops return_event words_and_memory c.args.bytes.now c.args.at.now c.read_words_and_memory-in-3.new.at c.read_words_and_memory-in-3.new.at c.in-Err-read_words_and_memory.error c.in-Err-read_words_and_memory.ensures.reads);
}

pub returns-in-4 : goal.returns-in-4
returns-in-4 c = record { reads = subst (λ n. ReadsFormat (tagged c.args.imports n) c.args.bytes.now c.args.at.now c.read_realloc.new.at c.read_realloc.result) (sym c.in-4.is) c.read_realloc.ensures.reads }

pub returns-in_default : goal.returns-in_default
returns-in_default c =
    let five : 5 ≡ c.args.tag = omega arith in
    record { reads = subst (λ n. ReadsFormat (tagged c.args.imports n) c.args.bytes.now c.args.at.now c.read_post.new.at c.read_post.result) five c.read_post.ensures.reads }
