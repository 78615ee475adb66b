use Rattle.std.proofs.Common.{Err, Ok, OnErr, Result, ap, inr, length, refl, string_bytes}
use Rattle.std.proofs.lemmas.Result.{IfOk-weaker}
use Rattle.canon_script.specs.Script.{play_of}
use Rattle.canon_gen.proofs.Sessions.{generated, one_record}
use Rattle.canon_gen.specs.Lines.{gen_text}
use Rattle.canon_gen.proofs.lines.gen_lines.Goals as goal

pub gen_text-requires : goal.gen_text-requires
gen_text-requires c =
    let script = c.in_ok-script in
    ap length (one_record c.args.n (play_of script.script) c.play.new.transcript c.in_ok-play.ensures.ok script.ensures.script).1

pub returns-clause-done : goal.returns-clause-done
returns-clause-done c =
    let script = c.in_ok-script in
    IfOk-weaker c.gen_text.result _ _ (λ text told.
    generated c.args.n (play_of script.script) c.play.new.transcript c.in_ok-play.ensures.ok script.ensures.script told.0 told.1 c.in_ok-list.list c.in_ok-list.ensures (string_bytes text) told.2)
    c.gen_text.ensures

on_err : {T E : Type 0} (r : Result T E) (P : Type 0) → P → OnErr r P
on_err (Ok x) P p = tt
on_err (Err e) P p = p

pub returns-clause-memory : goal.returns-clause-memory
returns-clause-memory c =
    let script = c.in_ok-script in
    let call = one_record c.args.n (play_of script.script) c.play.new.transcript c.in_ok-play.ensures.ok script.ensures.script in
    on_err c.gen_text.result _ (inr (
      gen_text c.args.n c.in_ok-list.list call.0,
      generated c.args.n (play_of script.script) c.play.new.transcript c.in_ok-play.ensures.ok script.ensures.script call.0 call.1 c.in_ok-list.list c.in_ok-list.ensures _ refl,
    ))
