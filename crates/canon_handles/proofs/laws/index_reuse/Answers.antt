use Rattle.canon_handles.specs.declared.handle.Entry.{Entry}
use Rattle.canon_handles.specs.declared.handle.GuestThread.{GuestThread}
use Rattle.canon_handles.proofs.FreshLemmas.{fresh_indexes}
use Rattle.canon_handles.proofs.laws.index_reuse.Goals as goal

pub returns-clause-handles : goal.returns-clause-handles
returns-clause-handles c = fresh_indexes Entry

pub returns-clause-threads : goal.returns-clause-threads
returns-clause-threads c = fresh_indexes GuestThread
