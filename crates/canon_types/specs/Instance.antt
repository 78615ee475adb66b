-- What contracts see of a component's types in a store.
use Rattle.std.specs.Prelude.{ℕ}
use Rattle.canon_types.specs.Table.{TypeTable}

pub record Instance : Type 0 where
  pub types : TypeTable
  pub store : ℕ
