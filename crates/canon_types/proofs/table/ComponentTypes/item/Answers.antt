use Rattle.std.proofs.Common.{Some, List, length, slice_get, subst, refl, arith, ◌<◌, ◌≡◌}
use Rattle.std.proofs.lemmas.Bool.Decides.{nat_tests}
use Rattle.std.proofs.lemmas.Option.{slice_get_read}
use Rattle.canon_types.specs.declared.table.Entry.{Entry}
use Rattle.canon_types.specs.Keeps.{Finds}
use Rattle.canon_types.specs.Table.{TypeTable}
use Rattle.canon_types.proofs.Kept.{finds}
use Rattle.canon_types.proofs.table.ComponentTypes.item.Goals as goal

pub returns : goal.returns
returns c =
    let e = c.in_ok-entry.entry.now in
    let h = c.in_ok-entry.ensures.lookup in
    let within : c.args.index < length c.deref.result.now = grind (arith, nat_tests, h.0) in
    let read : slice_get c.deref.result.now c.args.index ≡ Some e = slice_get_read c.deref.result.now (length c.deref.result.now) c.args.index e refl within h.1 in
    let at = subst (λ (xs : List Entry). slice_get xs c.args.index ≡ Some e) c.deref.ensures.value read in
    subst (λ (t : TypeTable). Finds t c.args.index e.item) c.self.view_is (finds c.self.inside c.args.index e c.self.invariant.entries at)
