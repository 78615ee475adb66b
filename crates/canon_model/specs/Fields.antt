-- The bytes of a tree in memory, but padding: those of its scalars, pointers, lengths, discriminants, flags and handles, and of its texts.
use Rattle.std.specs.Prelude.{Bool, List, length, slice_index, suc, zero, ℕ, ⊤, ◌*◌, ◌+◌, ◌<◌, ◌≡◌, ◌≤◌}
use Rattle.canon_model.specs.Flat.{max_params}
use Rattle.canon_model.specs.Layout.{begins, ends, flags_size, flat, members_flat, payload_offset, pointer_size, scalar_size, size, tag_size}
use Rattle.canon_model.specs.Memory.{bytes_in, length_at, memory_of, pointer_at, ptr}
use Rattle.canon_model.specs.Shape.{Cases, Members, Shape, bare, borrow, case_count, fixed, flags, list, member, no_cases, no_members, own, payload, product, scalar, string, variant}
use Rattle.canon_model.specs.Text.{Encoding, text_bytes}
use Rattle.canon_model.specs.Tree.{Tree, Trees, case_number, no_trees, payload_of, tree, trees_of}

-- Each tree has the property at its two places, which are a step apart in both.
abbrev pub EachAtBoth : (ℕ → ℕ → Tree → Type 0) → ℕ → ℕ → ℕ → Trees → Type 0
EachAtBoth P step a b no_trees = ⊤
EachAtBoth P step a b (tree t ts) = P a b t × EachAtBoth P step (a + step) (b + step) ts

module _ (enc : Encoding) (wide : Bool) (xs ys : List ℕ) where
  -- k bytes at a of xs are those at b of ys
  abbrev pub SameBytes : ℕ → ℕ → ℕ → Type 0
  SameBytes a b k = bytes_in xs a k ≡ bytes_in ys b k

  -- where a pointer at a of xs points to, and one at b of ys
  abbrev pub AtPointers : ℕ → ℕ → (ℕ → ℕ → Type 0) → Type 0
  AtPointers a b P = P (pointer_at (memory_of xs wide) a) (pointer_at (memory_of ys wide) b)

  -- the fields of a tree have the same bytes where it stands at a in xs and at b in ys
  abbrev mutual
    pub SameFields : Shape → ℕ → ℕ → Tree → Type 0
    SameFields (scalar k) a b t = SameBytes a b (scalar_size k)
    SameFields string a b t = SameBytes a b (2 * pointer_size wide) × AtPointers a b (λ p q. SameBytes p q (text_bytes enc (length_at (memory_of xs wide) a)))
    SameFields (own r) a b t = SameBytes a b 4
    SameFields (borrow r) a b t = SameBytes a b 4
    SameFields (list k s) a b t = SameBytes a b (2 * pointer_size wide) × AtPointers a b (λ p q. EachAtBoth (λ c d u. SameFields s c d u) (size wide s) p q (trees_of t))
    SameFields (fixed n s) a b t = EachAtBoth (λ c d u. SameFields s c d u) (size wide s) a b (trees_of t)
    SameFields (product k ms) a b t = SameMembers ms 0 a b (trees_of t)
    SameFields (variant k cs) a b t = SameBytes a b (tag_size (case_count cs)) × SameCase cs (case_number t) (a + payload_offset wide cs) (b + payload_offset wide cs) (payload_of t)
    SameFields (flags names) a b t = SameBytes a b (flags_size (length names))

    pub SameMembers : Members → ℕ → ℕ → ℕ → Trees → Type 0
    SameMembers no_members o a b ts = ⊤
    SameMembers (member name s ms) o a b no_trees = ⊤
    SameMembers (member name s ms) o a b (tree t ts) = SameFields s (a + begins wide o s) (b + begins wide o s) t × SameMembers ms (ends wide o s) a b ts

    pub SameCase : Cases → ℕ → ℕ → ℕ → Tree → Type 0
    SameCase no_cases i a b u = ⊤
    SameCase (bare name cs) zero a b u = ⊤
    SameCase (bare name cs) (suc i) a b u = SameCase cs i a b u
    SameCase (payload name s cs) zero a b u = SameFields s a b u
    SameCase (payload name s cs) (suc i) a b u = SameCase cs i a b u

  -- what words point to, where they stand at word i of ws and at word j of vs
  module _ (ws vs : List ℕ) where
    abbrev pub AtWords : ℕ → ℕ → (ℕ → ℕ → Type 0) → Type 0
    AtWords i j P = P (ptr (memory_of xs wide) (slice_index ws i)) (ptr (memory_of ys wide) (slice_index vs j))

    abbrev mutual
      pub SamePointed : Shape → ℕ → ℕ → Tree → Type 0
      SamePointed (scalar k) i j t = ⊤
      SamePointed string i j t = AtWords i j (λ p q. SameBytes p q (text_bytes enc (ptr (memory_of xs wide) (slice_index ws (i + 1)))))
      SamePointed (own r) i j t = ⊤
      SamePointed (borrow r) i j t = ⊤
      SamePointed (list k s) i j t = AtWords i j (λ p q. EachAtBoth (λ c d u. SameFields s c d u) (size wide s) p q (trees_of t))
      SamePointed (fixed n s) i j t = EachAtBoth (λ c d u. SamePointed s c d u) (flat s) i j (trees_of t)
      SamePointed (product k ms) i j t = MembersPointed ms i j (trees_of t)
      SamePointed (variant k cs) i j t = CasePointed cs (case_number t) (i + 1) (j + 1) (payload_of t)
      SamePointed (flags names) i j t = ⊤

      pub MembersPointed : Members → ℕ → ℕ → Trees → Type 0
      MembersPointed no_members i j ts = ⊤
      MembersPointed (member name s ms) i j no_trees = ⊤
      MembersPointed (member name s ms) i j (tree t ts) = SamePointed s i j t × MembersPointed ms (i + flat s) (j + flat s) ts

      pub CasePointed : Cases → ℕ → ℕ → ℕ → Tree → Type 0
      CasePointed no_cases c i j u = ⊤
      CasePointed (bare name cs) zero i j u = ⊤
      CasePointed (bare name cs) (suc c) i j u = CasePointed cs c i j u
      CasePointed (payload name s cs) zero i j u = SamePointed s i j u
      CasePointed (payload name s cs) (suc c) i j u = CasePointed cs c i j u

    -- of a function's parameters
    pub record SameArgs (ms : Members) (ts : Trees) : Type 0 where
      pub words : ws ≡ vs
      pub near : members_flat ms ≤ max_params → MembersPointed ms 0 0 ts
      pub far : max_params < members_flat ms → AtWords 0 0 (λ p q. SameMembers ms 0 p q ts)
