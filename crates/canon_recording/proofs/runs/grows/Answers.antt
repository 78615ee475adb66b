use Rattle.std.proofs.Common.{arith, drop, subst, sym, ◌+◌, ◌≤◌, ◌^◌, ◌∷◌}
use Rattle.std.specs.Prelude.{◌↔◌, []}
use Rattle.std.proofs.lemmas.Bool.{le-leb, leb-true}
use Rattle.canon_func.specs.Runs.{Grows, last_len}
use Rattle.canon_recording.specs.Stages.{len_in}
use Rattle.canon_recording.proofs.Staging.{first_grows, grows_first, iff_then, left_at, none, none_left}
use Rattle.canon_recording.proofs.runs.grows.Goals as goal

pub loop-event-preserved : goal.loop-event-preserved
loop-event-preserved c =
    let a = c.args in
    let l = c.loop-event in
    let e = c.event-item.result in
    let rest = drop (l.event-index + 1) a.events.now in
    let is = left_at a.events.now l.event-index e c.loop-event-test.true c.event-item.is in
    let before = subst (λ es. Grows a.len a.events.now (2 ^ 32) ↔ Grows l.last es (2 ^ 32)) is l.invariant.same in
    let longer : l.last ≤ len_in e l.last = subst (λ n. l.last ≤ n) c.len_in.ensures c.if-len_in-last.false in
    let step : Grows l.last (e ∷ rest) (2 ^ 32) ↔ Grows (last_len l.last (e ∷ [])) rest (2 ^ 32) = (λ g. (first_grows l.last (2 ^ 32) e rest g).1, λ g. grows_first l.last (2 ^ 32) e rest longer g) in
    record { same = subst (λ n. Grows a.len a.events.now (2 ^ 32) ↔ Grows n rest (2 ^ 32)) (sym c.len_after-last.ensures) (iff_then before step) }

pub returns : goal.returns
returns c =
    let a = c.args in
    let l = c.loop-event in
    let is = none_left a.events.now l.event-index c.loop-event-test.false in
    let before = subst (λ es. Grows a.len a.events.now (2 ^ 32) ↔ Grows l.last es (2 ^ 32)) is l.invariant.same in
    (λ h. before.1 (leb-true l.last (2 ^ 32) h), λ h. le-leb l.last (2 ^ 32) (before.0 h))

pub returns-then-len_in-last : goal.returns-then-len_in-last
returns-then-len_in-last c =
    let a = c.args in
    let l = c.loop-event in
    let e = c.event-item.result in
    let rest = drop (l.event-index + 1) a.events.now in
    let is = left_at a.events.now l.event-index e c.loop-event-test.true c.event-item.is in
    let before = subst (λ es. Grows a.len a.events.now (2 ^ 32) ↔ Grows l.last es (2 ^ 32)) is l.invariant.same in
    none (λ g. omega (arith, c.if-len_in-last.true, c.len_in.ensures, (first_grows l.last (2 ^ 32) e rest (before.0 g)).0))
