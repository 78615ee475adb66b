-- Members and items loaded one after another, and whose fault it is where one fails.
use Rattle.std.proofs.Common.{◌≡◌, ◌≤◌, ◌<◌, ◌+◌, ◌%◌, ◌^◌, ◌∙◌, ◌++◌, IfErr, List, Result, [], ◌∷◌, ap, ap₂, append_assoc, append-nil, arith, false, inl, inr, length, max, refl, subst, sym, ℕ}
use Rattle.std.proofs.Math.Nat.{dvd-add}
use Rattle.std.proofs.lemmas.Nat.Gcd.{dvd_of_mod-eq-zero, dvd_trans, mod-eq-zero_of_dvd}
use Rattle.canon_abi.specs.Abi.{HasLayout}
use Rattle.canon_abi.specs.declared.abi.CanonicalAbiInfo.{CanonicalAbiInfo}
use Rattle.canon_model.specs.Cost.{cost, members_cost, names_length}
use Rattle.canon_model.specs.Laws.{IsAlignment}
use Rattle.canon_model.specs.Layout.{align, align_to, begins, ends, members_align, members_end, size}
use Rattle.canon_model.specs.Leaves.{members_reach_leaves, reach_leaves}
use Rattle.canon_model.specs.Memory.{Memory}
use Rattle.canon_model.specs.Reach.{At, Kind, MemberFault, StoredFault, members_reach, reach_cost, SomeElement, sum_at}
use Rattle.canon_model.specs.Shape.{Members, Name, Scalar, Shape, member, no_members, scalar}
use Rattle.canon_model.specs.Text.{Encoding}
use Rattle.canon_model.specs.Tree.{Tree, Trees, no_trees, tree}
use Rattle.canon_model.proofs.Layouts.{align-dvd-align, align_to-dvd, alignment, members_alignment, members_end-le}
use Rattle.canon_model.proofs.Reached.{reach_is_the_cost}
use Rattle.canon_types.specs.declared.types.InterfaceType.{InterfaceType}
use Rattle.canon_types.specs.Table.{TypeTable, members_of}
use Rattle.canon_lowering.specs.Storing.{narrow}
use Rattle.canon_context.specs.Told.{Exactly, LiftBlames, place_of}
use Rattle.canon_value_parts.specs.Loads.{AreCharged, AreLoaded, IsLoaded, charged_reach}
use Rattle.canon_context.specs.declared.fault.At.{At as Place}
use Rattle.canon_context.specs.declared.fault.Fault.{Fault}
use Rattle.canon_val.specs.declared.val.Val.{Val}
use Rattle.canon_plan.proofs.TypeKinds.{no_length}
use Rattle.canon_context.proofs.Told.{blamed_by, core_on_err}

-- ---- the walk

-- What is left of the members, `rest` from offset o on, completes what is done, `vs`; the fuel was `before`, and is `now`.
pub record IsLoading (enc : Encoding) (bytes : List ℕ) (ms rest : Members) (a o before now : ℕ) (vs : List Val) : Type 0 where
  pub completes : (after : ℕ) (others : List Val) → AreCharged enc (narrow bytes) rest o a now after others → AreCharged enc (narrow bytes) ms 0 a before after (vs ++ others)
  pub blames : (k : Kind) (x : At) → MemberFault enc (narrow bytes) rest o a k x → MemberFault enc (narrow bytes) ms 0 a k x
  pub low : now < charged_reach enc (narrow bytes) rest o a → before < charged_reach enc (narrow bytes) ms 0 a
  pub falls : now ≤ before
  pub end_is : members_end false o rest ≡ members_end false 0 ms
  pub aligned : a % members_align false rest ≡ 0

pub loading_ends : (enc : Encoding) (bytes : List ℕ) (ms rest : Members) (a o before now : ℕ) (vs : List Val) → rest ≡ no_members → IsLoading enc bytes ms rest a o before now vs → AreCharged enc (narrow bytes) ms 0 a before now vs
unfolding cost
loading_ends enc bytes ms rest a o before now vs none h =
    subst (λ ws. AreCharged enc (narrow bytes) ms 0 a before now ws) (append-nil vs)
    (h.completes now [] (subst (λ r. AreCharged enc (narrow bytes) r o a now now []) (sym none) (no_trees, refl, (refl, refl), omega arith)))

-- an alignment that is at most another one: what the larger divides it divides
pub aligned_part : (a x y : ℕ) → IsAlignment x → IsAlignment y → x ≤ y → a % y ≡ 0 → a % x ≡ 0
aligned_part a x y p q h e = mod-eq-zero_of_dvd x (dvd_trans x (align-dvd-align x y p q h) (dvd_of_mod-eq-zero y e))

-- one member, and those after it, in terms of their costs
member_spent : (name : Name) (s : Shape) (more : Members) (now mid after last : ℕ) (t : Tree) (ts : Trees) → now ≡ mid + length name → mid ≡ after + cost s t
    → after ≡ last + (names_length more + members_cost more ts) → now ≡ last + (names_length (member name s more) + members_cost (member name s more) (tree t ts))
unfolding cost
member_spent name s more now mid after last t ts named one rest = omega (arith, named, one, rest)

member_low : (enc : Encoding) (m : Memory) (name : Name) (s : Shape) (more : Members) (o a now mid : ℕ) → now ≡ mid + length name
    → mid < reach_cost enc m s (a + begins m.wide o s) + charged_reach enc m more (ends m.wide o s) a → now < charged_reach enc m (member name s more) o a
unfolding reach_cost
member_low enc m name s more o a now mid named h = omega (arith, named, h)

module _ (enc : Encoding) (bytes : List ℕ) (ms rest more : Members) (name : Name) (s : Shape) (abi : CanonicalAbiInfo) (a o before now : ℕ) (vs : List Val) (split : rest ≡ member name s more) (layout : HasLayout abi s)
    (inside : a + members_end false 0 ms ≤ length bytes) (so_far : IsLoading enc bytes ms rest a o before now vs) where
  there : IsLoading enc bytes ms (member name s more) a o before now vs
  there = subst (λ r. IsLoading enc bytes ms r a o before now vs) split so_far

  starts_so : align_to o abi.align32 ≡ begins false o s
  starts_so = ap (align_to o) (layout.align false)

  ends_so : align_to o abi.align32 + abi.size32 ≡ ends false o s
  ends_so = ap (λ n. n + abi.size32) starts_so ∙ ap (λ n. begins false o s + n) (layout.size false)

  ends_rest : members_end false (ends false o s) more ≡ members_end false 0 ms
  unfolding size
  ends_rest = there.end_is

  pub next_fits : length bytes < 2 ^ 64 → align_to o abi.align32 + abi.size32 < 2 ^ 64
  next_fits few = omega (arith, few, ends_so, ends_rest, members_end-le false (ends false o s) more, inside)

  -- the handles that are left
  pub next_leaves : (start end : ℕ) → start ≡ align_to o abi.align32 → end ≡ align_to o abi.align32 + abi.size32
      → members_reach_leaves (narrow bytes) rest o a ≡ reach_leaves (narrow bytes) s (a + start) ++ members_reach_leaves (narrow bytes) more end a
  unfolding reach_leaves
  next_leaves start end start_is end_is =
      ap (λ (r : Members). members_reach_leaves (narrow bytes) r o a) split
      ∙ ap₂ (λ (x y : ℕ). reach_leaves (narrow bytes) s (a + x) ++ members_reach_leaves (narrow bytes) more y a) (sym (start_is ∙ starts_so)) (sym (end_is ∙ ends_so))

  module _ (start mid : ℕ) (start_is : start ≡ align_to o abi.align32) (named : now ≡ mid + length name) where
    pub next_room : a + start + size false s ≤ length bytes
    next_room = omega (arith, start_is, starts_so, ends_rest, members_end-le false (ends false o s) more, inside)

    pub next_aligned : (a + start) % align false s ≡ 0
    unfolding align
    next_aligned =
        let whole : a % max (align false s) (members_align false more) ≡ 0 = there.aligned in
        let here : a % align false s ≡ 0 = aligned_part a (align false s) (members_align false (member name s more)) (alignment false s) (members_alignment false (member name s more)) (omega arith) whole in
        subst (λ n. (a + n) % align false s ≡ 0) (sym (start_is ∙ starts_so))
        (mod-eq-zero_of_dvd (align false s) (dvd-add (align false s) (dvd_of_mod-eq-zero (align false s) here) (align_to-dvd o (align false s))))

    next_blamed : (k : Kind) (x : At) → StoredFault enc (narrow bytes) s (a + start) k x → MemberFault enc (narrow bytes) ms 0 a k x
    next_blamed k x f = there.blames k x (inl (subst (λ n. StoredFault enc (narrow bytes) s (a + n) k x) (start_is ∙ starts_so) f))

    next_low : mid < reach_cost enc (narrow bytes) s (a + start) → before < charged_reach enc (narrow bytes) ms 0 a
    next_low h = there.low (member_low enc (narrow bytes) name s more o a now mid named
        (let here : mid < reach_cost enc (narrow bytes) s (a + begins false o s) = subst (λ n. mid < reach_cost enc (narrow bytes) s (a + n)) (start_is ∙ starts_so) h in omega (arith, here)))

    pub next_refused : (e : Fault) → LiftBlames (Exactly (StoredFault enc (narrow bytes) s (a + start))) (mid < reach_cost enc (narrow bytes) s (a + start)) e
        → LiftBlames (Exactly (MemberFault enc (narrow bytes) ms 0 a)) (before < charged_reach enc (narrow bytes) ms 0 a) e
    next_refused e h =
        blamed_by (Exactly (StoredFault enc (narrow bytes) s (a + start))) (Exactly (MemberFault enc (narrow bytes) ms 0 a)) (mid < reach_cost enc (narrow bytes) s (a + start))
        (before < charged_reach enc (narrow bytes) ms 0 a) (λ k x f. next_blamed k (place_of x) f) next_low e h

    pub next_loaded : (after end : ℕ) (v : Val) → end ≡ align_to o abi.align32 + abi.size32 → IsLoaded enc (narrow bytes) s (a + start) mid after v → IsLoading enc bytes ms more a end before after (vs ++ v ∷ [])
    unfolding align
    next_loaded after end v end_is loaded =
        let (t, stored_t, has_t, spent_t) = subst (λ n. IsLoaded enc (narrow bytes) s (a + n) mid after v) (start_is ∙ starts_so) loaded in
        let reached : reach_cost enc (narrow bytes) s (a + begins false o s) ≡ cost s t = reach_is_the_cost.memory false enc (narrow bytes) (a + begins false o s) s t stored_t in
        subst (λ n. IsLoading enc bytes ms more a n before after (vs ++ v ∷ [])) (sym (end_is ∙ ends_so)) (record {
          completes = λ last others (ts, stored, have, spent).
              subst (λ ws. AreCharged enc (narrow bytes) ms 0 a before last ws) (sym (append_assoc vs (v ∷ []) others))
              (there.completes last (v ∷ others) (tree t ts, (t, ts, refl, stored_t, stored), (v, others, t, ts, refl, refl, has_t, have), member_spent name s more now mid after last t ts named spent_t spent));
          blames = λ k x f. there.blames k x (inr f);
          low = λ h. there.low (member_low enc (narrow bytes) name s more o a now mid named (omega (arith, h, reached, spent_t)));
          falls = omega (arith, there.falls, named, spent_t);
          end_is = ends_rest;
          aligned = aligned_part a (members_align false more) (members_align false (member name s more)) (members_alignment false more) (members_alignment false (member name s more)) (omega arith) there.aligned;
        })

-- ---- scalars

-- a scalar is free
pub scalar_refused : {X : Type 0} (enc : Encoding) (bytes : List ℕ) (k : Scalar) (a before : ℕ) (r : Result X Fault) → IfErr r (LiftBlames (Exactly (StoredFault enc (narrow bytes) (scalar k) a)) ⊥)
    → IfErr r (LiftBlames (Exactly (StoredFault enc (narrow bytes) (scalar k) a)) (before < reach_cost enc (narrow bytes) (scalar k) a))
scalar_refused enc bytes k a before r h =
    let F : Kind → Place → Type 0 = Exactly (StoredFault enc (narrow bytes) (scalar k) a) in
    let Low : Type 0 = before < reach_cost enc (narrow bytes) (scalar k) a in
    core_on_err r (LiftBlames F ⊥) (LiftBlames F Low) (λ e g. blamed_by F F ⊥ Low (λ j x f. f) (λ (no : ⊥). absurd no) e g) h

-- ---- members of a tuple, whose names are empty

module _ (enc : Encoding) (m : Memory) (t : TypeTable) (types : List InterfaceType) (a before : ℕ) where
  pub members_loaded : (after : ℕ) (vs : List Val) → AreCharged enc m (members_of t types) 0 a before after vs → AreLoaded enc m (members_of t types) 0 a before after vs
  members_loaded after vs (ts, stored, have, spent) = (ts, stored, have, omega (arith, spent, no_length t types))

  pub members_refused : (e : Fault) → LiftBlames (Exactly (MemberFault enc m (members_of t types) 0 a)) (before < charged_reach enc m (members_of t types) 0 a) e
      → LiftBlames (Exactly (MemberFault enc m (members_of t types) 0 a)) (before < members_reach enc m (members_of t types) 0 a) e
  members_refused e h =
      let F : Kind → Place → Type 0 = Exactly (MemberFault enc m (members_of t types) 0 a) in
      let Low : Type 0 = before < charged_reach enc m (members_of t types) 0 a in
      blamed_by F F Low (before < members_reach enc m (members_of t types) 0 a) (λ k x f. f) (λ (low : Low). omega (arith, low, no_length t types)) e h

-- ---- a walk over values of one type in a row in memory, and the lists that hold them

module _ (enc : Encoding) (bytes : List ℕ) (s : Shape) where
  abbrev pub row_reach : ℕ → ℕ → ℕ
  row_reach a n = sum_at (λ b. reach_cost enc (narrow bytes) s b) (size false s) a n

  abbrev pub RowFault : ℕ → ℕ → Kind → At → Type 0
  RowFault a n k x = SomeElement (λ b j y. StoredFault enc (narrow bytes) s b j y) (size false s) a n k x
