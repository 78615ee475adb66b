use Rattle.std.proofs.Common.{◌≡◌, ℕ, ◌++◌, List, OnOk, append_assoc, refl, string_bytes}
use Rattle.std.specs.Fmt.{decimal}
use Rattle.std.specs.Prelude.{codes}
use Rattle.canon_transcript.specs.Text.{event_text}
use Rattle.canon_memory.specs.declared.event.Event.TheVariants as event
use Rattle.canon_transcript.proofs.Pushed.{printed}
use Rattle.canon_transcript.proofs.events.print_event.Goals as goal

pub returns-in-Realloc : goal.returns-in-Realloc
returns-in-Realloc c =
    let e = c.in-Realloc in
    let sizes : List ℕ = decimal e.align ++ (codes " " ++ (decimal e.new_size ++ (codes " = " ++ (decimal e.answer ++ codes "\n")))) in
    let whole : List ℕ = codes "realloc " ++ (decimal e.old ++ (codes " " ++ (decimal e.old_size ++ (codes " " ++ sizes)))) in
    let wrote : OnOk c.writeln.result (string_bytes c.writeln.new.self ≡ string_bytes c.args.text.now ++ whole) = c.writeln.ensures.bytes in
    let line : whole ≡ event_text c.args.blocks.now (event.Realloc e.old e.old_size e.align e.new_size e.answer) = simp append_assoc refl in
    rw c.in-Realloc.is (printed c.writeln.result (string_bytes c.args.text.now) (string_bytes c.writeln.new.self) _ _ line wrote)
