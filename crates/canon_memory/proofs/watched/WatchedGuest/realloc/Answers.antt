use Rattle.std.proofs.Common.{rules, ◌≡◌, ◌∙◌, ◌+◌, ◌++◌, ◌∷◌, [], ap, ap₂, length, subst, ◌≤◌}
use Rattle.canon_memory.specs.Guest.{Goes, moment}
use Rattle.canon_memory.specs.Journal.{answer_event}
use Rattle.canon_memory.specs.Realloc.{call}
use Rattle.canon_memory.specs.Watch.{IsExactMark, IsShot, all_live}
use Rattle.canon_memory.proofs.Watch.{exact_at, shot_at}
use Rattle.canon_memory.proofs.watched.WatchedGuest.realloc.Goals as goal

pub returns-in-Ok-clause-exact : goal.returns-in-Ok-clause-exact
returns-in-Ok-clause-exact g c =
    let asked = call c.args.old c.args.old_size c.args.align c.args.new_size in
    let m = c.mark_answer.ensures.marked in
    let w = c.self.inside.whole in
    let before = c.args.memory.now.bytes in
    let whole : w ≡ c.args.self.now.whole = search rules in
    let marks : c.reserve-else-is_err.new.self.items ≡ c.args.self.now.marks = search rules in
    let held : c.self.inside.held.items ≡ c.args.self.now.held = search rules in
    let given : c.reserve.new.self.items ≡ c.args.self.now.live = search rules in
    let listed = c.self.inside.held.items ++ c.reserve.new.self.items in
    let live : listed ≡ all_live c.args.self.now = ap₂ (λ xs ys. xs ++ ys) held given in
    let held_there : c.deref.result.now ≡ c.self.inside.held.items = search rules in
    let given_there : c.deref-2.result.now ≡ c.reserve.new.self.items = search rules in
    let memory : c.as_slice.result.now ≡ before = search rules in
    let copied : c.shot-seen.result.now ≡ c.deref-in-Ok.result.now = search rules in
    let after : c.as_slice-in-Ok.result.now ≡ c.realloc.new.memory.bytes = search rules in
    let longer : length before ≤ length c.as_slice-in-Ok.result.now = search rules in
    let is : IsShot w listed (c.args.old + c.args.old_size) before c.deref-in-Ok.result.now =
    shot_at w (c.deref.result.now ++ c.deref-2.result.now) listed (c.args.old + c.args.old_size) c.as_slice.result.now before c.shot-seen.result.now c.deref-in-Ok.result.now
    (ap₂ (λ xs ys. xs ++ ys) held_there given_there) memory copied c.shot-seen.ensures in
    let live2 = c.mark_answer.new.held.items ++ c.mark_answer.new.live.items in
    let e : IsExactMark w (all_live c.args.self.now) live2 before c.realloc.new.memory.bytes asked c.in-Ok.answer m.0 =
    exact_at w (all_live c.args.self.now) listed live2 before c.realloc.new.memory.bytes c.as_slice-in-Ok.result.now asked c.in-Ok.answer m.0 live after (m.2 before is longer) in (
      m.0,
      m.1 ∙ ap (λ l. l ++ m.0 ∷ []) marks,
      subst (λ v. IsExactMark v (all_live c.args.self.now) live2 before c.realloc.new.memory.bytes asked c.in-Ok.answer m.0) whole e,
    )

pub returns-in-Ok-clause-does : goal.returns-in-Ok-clause-does
returns-in-Ok-clause-does g c =
    let asked = call c.args.old c.args.old_size c.args.align c.args.new_size in
    let seen = g.G.Guest.seen in
    let told = c.in-Ok.ensures.does in
    let is : c.self.inside.guest ≡ c.args.self.now.guest = search rules in
    let inner : Goes (moment (seen c.args.self.now.guest) c.args.memory.now.bytes) (moment (seen c.realloc.new.self) c.realloc.new.memory.bytes) (told.0 ∷ []) (answer_event asked c.in-Ok.answer ∷ []) =
    subst (λ h. Goes (moment (seen h) c.args.memory.now.bytes) (moment (seen c.realloc.new.self) c.realloc.new.memory.bytes) (told.0 ∷ []) (answer_event asked c.in-Ok.answer ∷ [])) is told.1.goes in
    let m = returns-in-Ok-clause-exact g c in (
      m.0,
      record {
        goes = record { no_shorter = inner.no_shorter; traps_later = inner.traps_later; shortages_later = search rules; marks = m.1; events = inner.events };
        lawful = m.2.lawful.0;
        tidy = λ e. (m.2.tidy e).1;
      },
    )
