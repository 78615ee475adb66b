-- What holds where lends are to be given back.
use Rattle.std.specs.Prelude.{ℕ, ◌+◌, ◌≤◌, List, sum_by}
use Rattle.canon_handles.specs.Step.{one_if}
use Rattle.canon_handles.specs.Table.{entry_at}
use Rattle.canon_handles.specs.Calls.{lends_of}
use Rattle.canon_ledger.specs.Handles.{Handles, Lender, table_at, sum_over_tables, stands, is_lender_of}

-- each lender's handle is lent as often as it is to be given back, and the counter counts that
pub record IsOwed (lenders : List Lender) (h : Handles) : Type 0 where
  pub counted : sum_over_tables stands h + sum_over_tables lends_of h ≤ h.counter.live
  pub lent : (p i : ℕ) → sum_by (λ lender. one_if (is_lender_of p i lender)) lenders ≤ lends_of (entry_at (table_at h p) i)
