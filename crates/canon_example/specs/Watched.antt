-- A call of a guest whose answers of `realloc` are tested.
use Rattle.std.specs.Prelude.{List, drop, length, true}
use Rattle.canon_model.specs.Flat.{RepArgs}
use Rattle.canon_model.specs.Tree.{Trees}
use Rattle.canon_memory.specs.Guest.{Mark}
use Rattle.canon_memory.specs.declared.event.Event.{Event}
use Rattle.canon_lowering.specs.Storing.{narrow}
use Rattle.canon_val.specs.Value.{HaveTrees}
use Rattle.canon_val.specs.declared.val.Val.{Val}
use Rattle.canon_func.specs.Runs.{Each, OnStart}
use Rattle.canon_func.specs.Stores.{Callee}

-- Where the guest was started, the words and the memory of its start represent these parameters.
abbrev pub StartsRight : Callee → List Val → List Event → Type 0
StartsRight callee params events = Each (OnStart (λ words memory. (ts : Trees) × HaveTrees callee.params params ts × RepArgs true callee.encoding (narrow memory) words callee.params ts)) events

-- the marks and the events that a call added
abbrev pub added_marks : List Mark → List Mark → List Mark
added_marks before after = drop (length before) after

abbrev pub added_events : List Event → List Event → List Event
added_events before after = drop (length before) after
