-- What a fault of a lowering blames: a part of the value that is too large, or the guest, memory or the ledger.
use Rattle.std.specs.Prelude.{List, false, suc, zero, ⊤, ℕ, ◌*◌, ◌^◌, ◌≡◌, ◌≤◌, ◌⊎◌}
use Rattle.canon_context.specs.declared.fault.Fault.{Fault}
use Rattle.canon_context.specs.declared.fault.Fault.TheVariants as fault
use Rattle.canon_ledger.specs.declared.fault.ResourceFault.TheVariants as resource
use Rattle.canon_model.specs.Layout.{size}
use Rattle.canon_model.specs.Shape.{Cases, Members, Shape, bare, borrow, fixed, flags, list, member, no_cases, no_members, own, payload, product, scalar, string, variant}
use Rattle.canon_model.specs.Text.{Encoding, Spells, in_utf8}
use Rattle.canon_model.specs.Tree.{Tree, Trees, case_number, no_trees, payload_of, text, tree, tree_count, trees_of}
use Rattle.canon_string.specs.Limits.{IsTooLong as IsTextTooLong}

abbrev pub SomeTree : (Tree → Type 0) → Trees → Type 0
SomeTree P no_trees = ⊥
SomeTree P (tree t ts) = P t ⊎ SomeTree P ts

-- a text or a list among the parts of a tree of a shape, or the tree itself, is so
abbrev mutual
  pub SomePart : (Shape → Tree → Type 0) → Shape → Tree → Type 0
  SomePart P (scalar k) t = ⊥
  SomePart P string t = P string t
  SomePart P (own r) t = ⊥
  SomePart P (borrow r) t = ⊥
  SomePart P (list k s) t = P (list k s) t ⊎ SomeTree (λ u. SomePart P s u) (trees_of t)
  SomePart P (fixed n s) t = SomeTree (λ u. SomePart P s u) (trees_of t)
  SomePart P (product k ms) t = SomeMember P ms (trees_of t)
  SomePart P (variant k cs) t = SomeCase P cs (case_number t) (payload_of t)
  SomePart P (flags names) t = ⊥

  pub SomeMember : (Shape → Tree → Type 0) → Members → Trees → Type 0
  SomeMember P no_members ts = ⊥
  SomeMember P (member name s ms) no_trees = ⊥
  SomeMember P (member name s ms) (tree t ts) = SomePart P s t ⊎ SomeMember P ms ts

  pub SomeCase : (Shape → Tree → Type 0) → Cases → ℕ → Tree → Type 0
  SomeCase P no_cases i u = ⊥
  SomeCase P (bare name cs) zero u = ⊥
  SomeCase P (bare name cs) (suc i) u = SomeCase P cs i u
  SomeCase P (payload name s cs) zero u = SomePart P s u
  SomeCase P (payload name s cs) (suc i) u = SomeCase P cs i u

-- a text has too many bytes for one block, or a list too many items, or its block too many bytes
abbrev pub IsTooLarge : Encoding → Fault → Shape → Tree → Type 0
IsTooLarge enc (fault.SizeOverflow n) (list k s) t = (n ≡ tree_count (trees_of t)) × ((2 ^ 32 ≤ n) ⊎ (2 ^ 32 ≤ n * size false s))
IsTooLarge enc (fault.StringTooLong n) string (text cs k) = (bytes : List ℕ) × Spells in_utf8 bytes cs × IsTextTooLong enc bytes n
IsTooLarge enc _ s t = ⊥

-- the guest, memory or the ledger; where the ledger lacks memory, that is OutOfMemory too
abbrev pub IsElsewhere : Fault → Type 0
IsElsewhere (fault.ReallocMisaligned a) = ⊤
IsElsewhere (fault.ReallocOutOfBounds a) = ⊤
IsElsewhere fault.GuestTrap = ⊤
IsElsewhere fault.OutOfMemory = ⊤
IsElsewhere (fault.Resource resource.OutOfMemory) = ⊥
IsElsewhere (fault.Resource r) = ⊤
IsElsewhere _ = ⊥

-- a part of a tree, or of one of the members' trees, is too large in the way of the fault
abbrev pub HasLarge : Encoding → Shape → Fault → Tree → Type 0
HasLarge enc s e t = SomePart (IsTooLarge enc e) s t

abbrev pub HaveLarge : Encoding → Members → Fault → Trees → Type 0
HaveLarge enc ms e ts = SomeMember (IsTooLarge enc e) ms ts

-- the two faults that blame a part of the value
abbrev pub IsLargeFault : Fault → Type 0
IsLargeFault (fault.StringTooLong n) = ⊤
IsLargeFault (fault.SizeOverflow n) = ⊤
IsLargeFault _ = ⊥
