-- What a script orders of the calls of `realloc`, in order.
use Rattle.std.specs.Prelude.{◌^◌, ◌<◌, List, [], ◌∷◌}
use Rattle.canon_scripted.specs.declared.orders.Ordered.{Ordered}
use Rattle.canon_scripted.specs.declared.orders.Ordered.TheVariants as ordered

-- the order of the next call; where there is none, the allocator answers
abbrev pub next_order : List Ordered → Ordered
next_order [] = ordered.Free
next_order (order ∷ orders) = order

abbrev pub IsNarrow : Ordered → Type 0
IsNarrow (ordered.Answer answer) = answer < 2 ^ 32
IsNarrow ordered.Trap = Unit {0}
IsNarrow ordered.Free = Unit {0}

-- each ordered answer is below 2 ^ 32
abbrev pub AreNarrow : List Ordered → Type 0
AreNarrow [] = Unit {0}
AreNarrow (order ∷ orders) = IsNarrow order × AreNarrow orders
