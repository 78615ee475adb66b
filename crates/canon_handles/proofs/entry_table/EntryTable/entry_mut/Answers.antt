use Rattle.std.proofs.Common.{Some, refl, sym, ◌∙◌}
use Rattle.canon_handles.proofs.CellsLemmas.{read_entry, writes_through, written_stored, written_stored_with}
use Rattle.canon_handles.proofs.ValuesLemmas.{never}
use Rattle.canon_handles.proofs.entry_table.EntryTable.entry_mut.Goals as goal

pub invariant_of-self-in_default-as_mut : goal.invariant_of-self-in_default-as_mut
invariant_of-self-in_default-as_mut g c =
    absurd (never _ (c.in_default-as_mut.ensures.value ∙ read_entry c.self.invariant c.self.view_is c.args.index c.in-Some.cell.now c.in-Some.ensures.value) c.requires)

pub returns-in_default-as_mut : goal.returns-in_default-as_mut
returns-in_default-as_mut g c =
    absurd (never _ (c.in_default-as_mut.ensures.value ∙ read_entry c.self.invariant c.self.view_is c.args.index c.in-Some.cell.now c.in-Some.ensures.value) c.requires)

pub invariant_of-self-lent : goal.invariant_of-self-lent
invariant_of-self-lent g c = λ w.
    written_stored c.self.invariant c.self.view_is (c.get_mut.follows.lender (Some w)).entries c.args.index c.in-Some-as_mut.entry.now w
    (sym (c.in-Some-as_mut.ensures.value ∙ read_entry c.self.invariant c.self.view_is c.args.index c.in-Some.cell.now c.in-Some.ensures.value))
    (writes_through c.self.inside.cells (c.get_mut.follows.lender (Some w)) c.args.index (Some w) c.in-Some.cell.now c.in-Some.ensures.value (c.get_mut.follows.holds (Some w)))

pub returns : goal.returns
returns g c = (
  (
    refl,
    (λ w ok. written_stored_with c.self.invariant c.self.view_is (c.get_mut.follows.lender (Some w)).entries c.args.index c.in-Some-as_mut.entry.now w
        (sym (c.in-Some-as_mut.ensures.value ∙ read_entry c.self.invariant c.self.view_is c.args.index c.in-Some.cell.now c.in-Some.ensures.value))
        (writes_through c.self.inside.cells (c.get_mut.follows.lender (Some w)) c.args.index (Some w) c.in-Some.cell.now c.in-Some.ensures.value (c.get_mut.follows.holds (Some w)))),
    tt,
  ),
  record { lends = tt; entry = (sym (c.in-Some-as_mut.ensures.value ∙ read_entry c.self.invariant c.self.view_is c.args.index c.in-Some.cell.now c.in-Some.ensures.value)) },
)
