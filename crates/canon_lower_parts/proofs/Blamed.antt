-- A fault that blames a part of the value is one of two.
use Rattle.std.proofs.Common.{inl, inr, suc, zero, ℕ}
use Rattle.canon_context.specs.declared.fault.Fault.{Fault}
use Rattle.canon_context.specs.declared.fault.Fault.TheVariants as fault
use Rattle.canon_model.specs.Shape.{Cases, Members, Shape, bare, borrow, fixed, flags, list, member, no_cases, no_members, own, payload, product, scalar, string, variant}
use Rattle.canon_model.specs.Text.{Encoding}
use Rattle.canon_model.specs.Tree.{Tree, Trees, case_number, no_trees, payload_of, tree, trees_of}
use Rattle.canon_lower_parts.specs.Blames.{HaveLarge, IsLargeFault, IsTooLarge, SomeCase, SomeMember, SomePart, SomeTree}

-- what follows of each part that is so, follows of some part that is so
module _ (P : Shape → Tree → Type 0) (Q : Type 0) (law : (s : Shape) (t : Tree) → P s t → Q) where
  of_tree : (R : Tree → Type 0) → ((t : Tree) → R t → Q) → (ts : Trees) → SomeTree R ts → Q
  of_tree R each no_trees h = absurd h
  of_tree R each (tree t ts) (inl h) = each t h
  of_tree R each (tree t ts) (inr h) = of_tree R each ts h

  mutual
    of_part : (s : Shape) (t : Tree) → SomePart P s t → Q
    of_part (scalar k) t h = absurd h
    of_part string t h = law string t h
    of_part (own r) t h = absurd h
    of_part (borrow r) t h = absurd h
    of_part (list k s) t (inl h) = law (list k s) t h
    of_part (list k s) t (inr h) = of_tree (λ u. SomePart P s u) (λ u g. of_part s u g) (trees_of t) h
    of_part (fixed n s) t h = of_tree (λ u. SomePart P s u) (λ u g. of_part s u g) (trees_of t) h
    of_part (product k ms) t h = of_member ms (trees_of t) h
    of_part (variant k cs) t h = of_case cs (case_number t) (payload_of t) h
    of_part (flags names) t h = absurd h

    of_member : (ms : Members) (ts : Trees) → SomeMember P ms ts → Q
    of_member no_members ts h = absurd h
    of_member (member name s ms) no_trees h = absurd h
    of_member (member name s ms) (tree t ts) (inl h) = of_part s t h
    of_member (member name s ms) (tree t ts) (inr h) = of_member ms ts h

    of_case : (cs : Cases) (i : ℕ) (u : Tree) → SomeCase P cs i u → Q
    of_case no_cases i u h = absurd h
    of_case (bare name cs) zero u h = absurd h
    of_case (bare name cs) (suc i) u h = of_case cs i u h
    of_case (payload name s cs) zero u h = of_part s u h
    of_case (payload name s cs) (suc i) u h = of_case cs i u h

too_large_fault : (enc : Encoding) (e : Fault) (s : Shape) (t : Tree) → IsTooLarge enc e s t → IsLargeFault e
too_large_fault enc (fault.SizeOverflow n) s t h = tt
too_large_fault enc (fault.StringTooLong n) s t h = tt
too_large_fault enc _ s t h = h

pub large_fault : (enc : Encoding) (ms : Members) (e : Fault) (ts : Trees) → HaveLarge enc ms e ts → IsLargeFault e
large_fault enc ms e ts h = of_member (IsTooLarge enc e) (IsLargeFault e) (too_large_fault enc e) ms ts h
