-- What a list of fixed length ends as, where its items are lent to be written.
use Rattle.std.proofs.Common.{List, sym, ◌∙◌, ℕ}
use Rattle.std.specs.Borrow.{Array, Fml, Lends, MutBor, RattleType}
use Rattle.std.specs.List.{length_refill}
use Rattle.std.specs.Vec.{with_items}
use Rattle.canon_typed.specs.declared.fixed_list.FixedList.{FixedList}
use Rattle.canon_typed.specs.contracts.fixed_list.FixedList.{the_row}

-- the list with the items ws, of which it keeps as many as it has
abbrev pub with_row : {X : Type 0} {n : ℕ} → FixedList X n → List X → FixedList X n
with_row l ws = record { items = with_items l.items ws; count = sym (length_refill l.items.len l.items.items ws l.items.ok.0) ∙ (l.items.ok.0 ∙ l.count) }

-- once the borrow r ends, the items are those that r shows last
abbrev pub LendsRow : (T N : RattleType) → MutBor (the_row T N).Denot → MutBor (List T.Denot) → Fml
LendsRow T N l r = Lends (the_row T N) (Array T 0) l r (with_row l.now)
