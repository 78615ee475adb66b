use Rattle.std.proofs.Common.{refl, ◌∙◌}
use Rattle.canon_handles.specs.Calls.{entry_in_state}
use Rattle.canon_handles.proofs.StateLemmas.{is_ok_of, held_in_state, held_alike}
use Rattle.canon_handles.proofs.handle_table.HandleTable.stream_state.Goals as goal

pub invariant_of-self-lent : goal.invariant_of-self-lent
invariant_of-self-lent c = λ r. (
  (λ w. c.self.invariant ∙ held_in_state c.self.inside.table (c.entry_mut.follows.lender (entry_in_state c.in_ok-entry.entry.now w)) c.args.idx
      c.in_ok-entry.entry.now w
      (c.entry_mut.follows.holds (entry_in_state c.in_ok-entry.entry.now w) (is_ok_of c.entry_mut.result c.in_ok-entry.entry c.in_ok-entry.was))
      c.in_ok-entry.ensures.entry),
  c.self.invariant ∙ held_alike c.self.inside.table (c.entry_mut.follows.lender c.in_ok-entry.entry.now) c.args.idx c.in_ok-entry.entry.now
      c.in_ok-entry.entry.now (c.entry_mut.follows.holds c.in_ok-entry.entry.now (is_ok_of c.entry_mut.result c.in_ok-entry.entry c.in_ok-entry.was))
      c.in_ok-entry.ensures.entry refl,
)
