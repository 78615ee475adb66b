use Rattle.std.proofs.Common.{Err, List, Ok, [], ap, refl, subst, sym, ◌∙◌, ◌∷◌, ◌≡◌}
use Rattle.std.specs.Prelude.{slice_index}
use Rattle.canon_model.specs.Memory.{low}
use Rattle.canon_memory.specs.declared.event.Event.{Event}
use Rattle.canon_memory.specs.declared.guest.Step.{Step}
use Rattle.canon_context.specs.Core.{guest_of, moment_of}
use Rattle.canon_context.specs.declared.fault.Fault.TheVariants as fault
use Rattle.canon_ledger.specs.Ledger.{Did, do_step}
use Rattle.canon_host.specs.HostSide.{host_side}
use Rattle.canon_func.specs.Asks.{ask_step, builtin_step}
use Rattle.canon_func.specs.Call.{OnAnswered}
use Rattle.canon_func.specs.HostAsks.{asked_error}
use Rattle.canon_func.specs.Steps.{Proceeds, Resumed, ServesAsk, Serving}
use Rattle.canon_func.specs.Stores.{export_callee}
use Rattle.canon_func.proofs.Asking.{builtin_resumed, first_word, nothing, refused_step, side_ledger_same, side_same}
use Rattle.canon_func.proofs.Composed.{answers}
use Rattle.canon_func.proofs.Turns.{done_is}
use Rattle.canon_func.proofs.asks.serve_builtin.Goals as goal

pub returns-in-Ok-clause-did : goal.returns-in-Ok-clause-did
returns-in-Ok-clause-did g c =
    let seen = g.G.Guest.seen in
    let moves = g.G.Guest.moves in
    let imports = g.I.Imports in
    let i = c.args.imports.now in
    let core = c.args.core.now in
    let mid = c.take_step.new.core in
    let after = c.resume.new.core in
    let callee = export_callee core.component c.args.export.now in
    let words = c.args.words.now in
    let result = c.resume.result in
    let answer = c.in-Ok.answer in
    let called = c.args.builtin in
    let host = host_side core (imports.log i) (imports.refusals i) in
    let stepped = host_side mid (imports.log i) (imports.refusals i) in
    let M : List Event → Type 0 = λ es. OnAnswered result (moves (guest_of core) es (guest_of after)) in
    let word : c.get_u32.result ≡ low (slice_index words 0) = c.get_u32.ensures ∙ ap low (first_word words c.index-words-0.result c.requires.asked.one c.index-words-0.is) in
    let step : Did (ask_step callee.types called words core.ledger) (Ok answer) core.ledger mid.ledger =
    subst (λ w. Did (do_step (builtin_step core.component.types called w) core.ledger) (Ok answer) core.ledger mid.ledger) word c.in-Ok.ensures.step in
    let did : Proceeds (moment_of seen core) (moment_of seen after) M (Resumed (answer ∷ []) (moment_of seen core) (moment_of seen after) result) =
    subst (λ k. Proceeds (moment_of seen k) (moment_of seen after) (λ es. OnAnswered result (moves (guest_of k) es (guest_of after))) (Resumed (answer ∷ []) (moment_of seen k) (moment_of seen after) result)) c.in-Ok.ensures.same
    (subst (λ n. Proceeds (moment_of seen mid) (moment_of seen after) (λ es. OnAnswered result (moves (guest_of mid) es (guest_of after))) (Resumed (n ∷ []) (moment_of seen mid) (moment_of seen after) result)) c.u64.ensures c.resume.ensures.did) in
    subst (λ k. Serving (moment_of seen core) (moment_of seen after) M (ServesAsk (imports.gives (imports.plan i)) callee core.fuel c.args.index words (moment_of seen core) (moment_of seen after) host k result)) (sym (side_same mid after (imports.log i) (imports.refusals i) c.resume.ensures.same))
    (builtin_resumed (imports.gives (imports.plan i)) callee core.fuel c.args.index words (moment_of seen core) (moment_of seen after) host stepped called c.requires.asked answer result M (done_is (ask_step callee.types called words core.ledger) (Ok answer) mid.ledger step.0 step.1)
    (side_ledger_same core mid (imports.log i) (imports.refusals i) c.in-Ok.ensures.same) did)

pub returns-in-Err-clause-did : goal.returns-in-Err-clause-did
returns-in-Err-clause-did g c =
    let seen = g.G.Guest.seen in
    let moves = g.G.Guest.moves in
    let imports = g.I.Imports in
    let i = c.args.imports.now in
    let core = c.args.core.now in
    let mid = c.take_step.new.core in
    let callee = export_callee core.component c.args.export.now in
    let words = c.args.words.now in
    let index = c.args.index in
    let called = c.args.builtin in
    let r = c.in-Err.fault in
    let e = asked_error index (fault.Resource r) in
    let host = host_side core (imports.log i) (imports.refusals i) in
    let left = record host { ledger = mid.ledger } in
    let gives = imports.gives (imports.plan i) in
    let word : c.get_u32.result ≡ low (slice_index words 0) = c.get_u32.ensures ∙ ap low (first_word words c.index-words-0.result c.requires.asked.one c.index-words-0.is) in
    let step : Did (ask_step callee.types called words core.ledger) (Err r) core.ledger mid.ledger =
    subst (λ w. Did (do_step (builtin_step core.component.types called w) core.ledger) (Err r) core.ledger mid.ledger) word c.in-Err.ensures.step in
    subst (λ d. Serving (moment_of seen core) (moment_of seen mid) (λ es. OnAnswered {T = Step} (Err d) (moves (guest_of core) es (guest_of mid))) (ServesAsk gives callee core.fuel index words (moment_of seen core) (moment_of seen mid) host (host_side mid (imports.log i) (imports.refusals i)) (Err d)))
    (sym c.asked_error.ensures)
    (subst (λ k. Serving (moment_of seen core) (moment_of seen k) (λ es. OnAnswered {T = Step} (Err e) (moves (guest_of core) es (guest_of k))) (ServesAsk gives callee core.fuel index words (moment_of seen core) (moment_of seen k) host (host_side k (imports.log i) (imports.refusals i)) (Err e)))
    (sym c.in-Err.ensures.same)
    (nothing (seen core.guest) core.memory (λ es. OnAnswered {T = Step} (Err e) (moves (guest_of core) es (guest_of core)))
    (ServesAsk gives callee core.fuel index words (moment_of seen core) (moment_of seen core) host left (Err e))
    (answers {T = Step} (Err e) (moves (guest_of core) [] (guest_of core)) (g.met.G.Guest.stays (guest_of core)))
    (refused_step gives callee core.fuel index words (moment_of seen core) host left called c.requires.asked refl r step)))
