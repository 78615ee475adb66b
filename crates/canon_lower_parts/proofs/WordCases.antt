-- A case in words: its number, its payload's words, and zeros behind them.
use Rattle.std.proofs.Common.{◌≡◌, ◌≤◌, ◌<◌, ◌+◌, ◌^◌, ◌∙◌, Bool, Err, List, None, Ok, Result, Some, [], ◌∷◌, ap, append-nil, arith, false, length, refl, subst, suc, sym, true, zero, ℕ}
use Rattle.std.proofs.lemmas.List.{get_or_past}
use Rattle.std.specs.Prelude.{IfOk, slice_index}
use Rattle.canon_context.proofs.Moves.{GuestLaws}
use Rattle.canon_context.specs.Core.{Parts, encoding_by, stage_of}
use Rattle.canon_context.specs.Quiet.{cases_have_block, has_block}
use Rattle.canon_context.specs.declared.fault.Fault.{Fault}
use Rattle.canon_resources.specs.Parts.{Part}
use Rattle.canon_lower_parts.proofs.Attempts.{AttemptKept, typed_map, typed_none, typed_other}
use Rattle.canon_passing.proofs.Shapes.{no_first, no_later}
use Rattle.canon_lower_parts.proofs.TooLarge.{bare_small, case_large}
use Rattle.canon_lower_parts.specs.Blames.{HasLarge}
use Rattle.canon_lower_parts.specs.Cases.{HasCase}
use Rattle.canon_lower_parts.specs.Gives.{case_shape, payload_gives}
use Rattle.canon_lower_parts.specs.Words.{CaseOf, IsCaseWords, TypedLowers}
use Rattle.canon_lowering.proofs.AimedCases.{CaseIs, variant_words}
use Rattle.canon_lowering.proofs.Attempts.{FirstAnd, attempt_as, attempt_none}
use Rattle.canon_lowering.specs.Attempt.{handle_numbers, LowersMembers, LowersValue, members_words, value_words}
use Rattle.canon_lowering.specs.Copies.{case_members, case_tree, payload_trees}
use Rattle.canon_lowering.specs.Lowering.{Ending, done}
use Rattle.canon_model.specs.Homes.{host_texts}
use Rattle.canon_model.specs.Flat.{AreZero}
use Rattle.canon_model.specs.Layout.{cases_flat, flat, members_flat, payload_shape}
use Rattle.canon_model.specs.Leaves.{leaves}
use Rattle.canon_model.specs.Requests.{host_asks, members_requests, requests}
use Rattle.canon_model.specs.Shape.{Cases, Members, Shape, VariantKind, bare, case_count, member, no_cases, no_members, payload, variant}
use Rattle.canon_model.specs.Text.{Encoding}
use Rattle.canon_model.specs.Tree.{Tree, Trees, case, case_number, no_trees, tree, tree_at}
use Rattle.canon_typed.specs.Meaning.{CaseMeans, NoTrees}
use Rattle.canon_types.specs.Instance.{Instance}
use Rattle.canon_lowering.specs.Stages.{Stage}

-- ---- of the cases

abbrev pub only : Shape → Members
only u = member [] u no_members

same_only : (s u : Shape) → only s ≡ only u → s ≡ u
same_only s u e = cc

no_only : (u : Shape) → no_members ≡ only u → ⊥
no_only u e = cc

-- a payload is one of the cases'
case_quiet : (cs : Cases) (d : ℕ) (u : Shape) → case_members cs d ≡ only u → cases_have_block cs ≡ false → has_block u ≡ false
case_quiet no_cases d u is e = absurd (no_only u is)
case_quiet (bare name cs) zero u is e = absurd (no_only u is)
case_quiet (bare name cs) (suc d) u is e = case_quiet cs d u is e
case_quiet (payload name s cs) zero u is e = ap has_block (sym (same_only s u is)) ∙ no_first (has_block s) (cases_have_block cs) e
case_quiet (payload name s cs) (suc d) u is e = case_quiet cs d u is (no_later (has_block s) (cases_have_block cs) e)

pub variant_flat : (k : VariantKind) (cs : Cases) → flat (variant k cs) ≡ 1 + cases_flat cs
unfolding flat
variant_flat k cs = refl

-- ---- attempts

only_asks : (enc : Encoding) (u : Shape) (ts : Trees) (t : Tree) → ts ≡ tree t no_trees → members_requests false (host_asks enc) (only u) ts ≡ requests false (host_asks enc) u (tree_at ts 0)
unfolding requests
only_asks enc u ts t e = subst (λ (zs : Trees). members_requests false (host_asks enc) (only u) zs ≡ requests false (host_asks enc) u (tree_at zs 0)) (sym e) (append-nil (requests false (host_asks enc) u t))

-- a value as the only member
only_member : {K : Type 0} {hs : List ℕ} (a c : Stage K) (enc : Encoding) (u : Shape) (ws : List ℕ) (i : ℕ) (Has : Tree → Type 0) (e : Ending) → LowersValue false a c (host_texts enc) u ws i Has hs e
    → LowersMembers false a c (host_texts enc) (only u) ws i (FirstAnd Has NoTrees) hs e
unfolding requests leaves flat
only_member a c enc u ws i Has e h = attempt_as false a c [] [] _ (members_words false (host_texts enc) (only u) ws i (FirstAnd Has NoTrees)) e (λ j q. q) (record {
  turn = λ t. tree t no_trees;
  back = λ ts. tree_at ts 0;
  is = λ t has. (t, no_trees, refl, has, refl);
  is_back = λ ts (t, us, e, has, none). subst (λ (zs : Trees). Has (tree_at zs 0)) (sym e) has;
  asks = λ ts (t, us, e, has, none). only_asks enc u ts t (e ∙ ap (λ (zs : Trees). tree t zs) none);
  rep = λ fresh t has g. (t, no_trees, refl, g, refl);
  home = λ pointer t xs ys has g. (ys, g, refl);
  handles = λ t has. ap handle_numbers (append-nil (leaves u t));
}) h

module _ {D G : Type 0} (L : GuestLaws G) (options : ℕ) (a c : Parts D G) (s : Shape) (k : VariantKind) (cs : Cases) (d : ℕ) (shape : s ≡ variant k cs) (inside : d < case_count cs) (few : d < 2 ^ 32) where
  abbrev enc : Encoding
  enc = encoding_by a options

  -- without a payload
  pub bare_lowers : (ws : List ℕ) → length a.memory ≤ 2 ^ 32 → case_members cs d ≡ no_members → length ws ≡ flat s → IsCaseWords d 1 ws → TypedLowers L.seen L.moves options a a s ws 0 (λ t. t ≡ case d) [] (Ok tt)
  unfolding flat requests leaves
  bare_lowers ws small none room (tag, zeros) =
      let members : LowersMembers false (stage_of L.seen L.moves a) (stage_of L.seen L.moves a) (host_texts enc) (case_members cs d) ws 1 NoTrees [] done =
      subst (λ (ms : Members). LowersMembers false (stage_of L.seen L.moves a) (stage_of L.seen L.moves a) (host_texts enc) ms ws 1 NoTrees [] done) (sym none)
      (attempt_none false (stage_of L.seen L.moves a) [] (members_words false (host_texts enc) no_members ws 1 NoTrees) no_trees small refl (λ ts h. refl) refl (λ pointer rest. refl)) in
      subst (λ (z : Shape). TypedLowers L.seen L.moves options a a z ws 0 (λ t. t ≡ case d) [] (Ok tt)) (sym shape)
      (typed_none L a [] (value_words false (host_texts enc) (variant k cs) ws 0 (λ t. t ≡ case d)) (has_block (variant k cs)) (HasLarge enc (variant k cs))
      (variant_words false (stage_of L.seen L.moves a) (stage_of L.seen L.moves a) (host_texts enc) k cs ws 0 d NoTrees (λ t. t ≡ case d) done inside tag few
      (λ j l u. zeros j (omega (arith, l)) (omega (arith, u, room, ap flat shape)))
      (λ ts h. (ap (λ us. case_tree d us) h, subst (λ ms. CaseIs false (host_texts enc) ms d (case_tree d ts)) (sym none) (ap (λ us. case_tree d us) h)))
      (λ t e. (ap case_number e, ap payload_trees e, subst (λ ms. CaseIs false (host_texts enc) ms d t) (sym none) e)) members)
      (bare_small enc k cs d none))

  -- with one
  module _ (u : Shape) (Has : Tree → Type 0) (gives : List (List Part)) (one : case_members cs d ≡ only u) where
    with_payload : {hs : List ℕ} (ws : List ℕ) (e : Ending) → slice_index ws 0 ≡ d → AreZero ws (1 + flat u) (1 + cases_flat cs) → LowersValue false (stage_of L.seen L.moves a) (stage_of L.seen L.moves c) (host_texts enc) u ws 1 Has hs e
        → LowersValue false (stage_of L.seen L.moves a) (stage_of L.seen L.moves c) (host_texts enc) (variant k cs) ws 0 (CaseOf d Has) hs e
    unfolding flat
    with_payload {hs = hs} ws e tag zeros h = variant_words false (stage_of L.seen L.moves a) (stage_of L.seen L.moves c) (host_texts enc) k cs ws 0 d (FirstAnd Has NoTrees) (CaseOf d Has) e inside tag few
        (subst (λ (ms : Members). AreZero ws (1 + members_flat ms) (1 + cases_flat cs)) (sym one) (λ j l v. zeros j (omega (arith, l)) v))
        (λ ts (t, us, e2, has, none). let is : ts ≡ tree t no_trees = e2 ∙ ap (λ (zs : Trees). tree t zs) none in
        ((t, ap (λ (zs : Trees). case_tree d zs) is, has), subst (λ (ms : Members). CaseIs false (host_texts enc) ms d (case_tree d ts)) (sym one) (t, ap (λ (zs : Trees). case_tree d zs) is)))
        (λ t (v, e2, has). (ap case_number e2, (v, no_trees, ap payload_trees e2, has, refl), subst (λ (ms : Members). CaseIs false (host_texts enc) ms d t) (sym one) (v, e2)))
        (subst (λ (ms : Members). LowersMembers false (stage_of L.seen L.moves a) (stage_of L.seen L.moves c) (host_texts enc) ms ws 1 (FirstAnd Has NoTrees) hs e) (sym one) (only_member (stage_of L.seen L.moves a) (stage_of L.seen L.moves c) enc u ws 1 Has e h))

    whole : (ws : List ℕ) (r : Result (Unit {0}) Fault) → slice_index ws 0 ≡ d → AreZero ws (1 + flat u) (1 + cases_flat cs) → TypedLowers L.seen L.moves options a c u ws 1 Has gives r
        → TypedLowers L.seen L.moves options a c (variant k cs) ws 0 (CaseOf d Has) gives r
    whole ws r tag zeros h = typed_map L a c [] [] (value_words false (host_texts enc) u ws 1 Has) (value_words false (host_texts enc) (variant k cs) ws 0 (CaseOf d Has)) gives (has_block u) (has_block (variant k cs)) (AttemptKept a c)
        (HasLarge enc u) (HasLarge enc (variant k cs)) r (λ hs e g. with_payload ws e tag zeros g) (case_quiet cs d u one)
        (case_large enc k cs d u Has one) h

    pub case_lowers : (ws : List ℕ) (r : Result (Unit {0}) Fault) → length ws ≡ flat s → TypedLowers L.seen L.moves options a c u ws 1 Has gives r → IfOk r (λ x. IsCaseWords d (1 + flat u) ws)
        → TypedLowers L.seen L.moves options a c s ws 0 (CaseOf d Has) gives r
    case_lowers ws (Ok x) room h (tag, zeros) = subst (λ (z : Shape). TypedLowers L.seen L.moves options a c z ws 0 (CaseOf d Has) gives (Ok x)) (sym shape)
        (whole ws (Ok x) tag (λ j l v. zeros j l (omega (arith, v, room, ap flat shape, variant_flat k cs))) h)
    case_lowers ws (Err e) room h none =
        let zeros : AreZero (d ∷ []) (1 + flat u) (1 + cases_flat cs) = λ j l v. omega (arith, get_or_past (d ∷ []) j 0 (omega (arith, l))) in
        let there : TypedLowers L.seen L.moves options a c u (d ∷ []) 1 Has gives (Err e) =
        typed_other L a c [] (value_words false (host_texts enc) u ws 1 Has) (value_words false (host_texts enc) u (d ∷ []) 1 Has) gives (has_block u) (AttemptKept a c) (HasLarge enc u) e (λ t has. (has, refl)) h in
        subst (λ (z : Shape). TypedLowers L.seen L.moves options a c z ws 0 (CaseOf d Has) gives (Err e)) (sym shape)
        (typed_other L a c [] (value_words false (host_texts enc) (variant k cs) (d ∷ []) 0 (CaseOf d Has)) (value_words false (host_texts enc) (variant k cs) ws 0 (CaseOf d Has)) gives (has_block (variant k cs)) (AttemptKept a c) (HasLarge enc (variant k cs)) e
        (λ t has. (has, refl)) (whole (d ∷ []) (Err e) refl zeros there))

-- ---- by the types' cases

payload_is : (cs : Cases) (d : ℕ) (u : Shape) → case_members cs d ≡ only u → payload_shape cs d ≡ u
payload_is no_cases d u e = cc
payload_is (bare name cs) zero u e = cc
payload_is (bare name cs) (suc d) u e = payload_is cs d u e
payload_is (payload name s cs) zero u e = cc
payload_is (payload name s cs) (suc d) u e = payload_is cs d u e

pub case_shape_is : (s : Shape) (d : ℕ) (u : Shape) → HasCase s d (Some u) → case_shape d s ≡ u
case_shape_is s d u h = ap (case_shape d) h.shape ∙ payload_is h.cases d u h.members

module _ {D G : Type 0} (L : GuestLaws G) (options : ℕ) (a c : Parts D G) (s : Shape) (d : ℕ) where
  pub has_bare : (ws : List ℕ) → d < 2 ^ 32 → length a.memory ≤ 2 ^ 32 → length ws ≡ flat s → HasCase s d None → IsCaseWords d 1 ws → TypedLowers L.seen L.moves options a a s ws 0 (λ t. t ≡ case d) [] (Ok tt)
  has_bare ws few small room h words = bare_lowers L options a a s h.kind h.cases d h.shape h.inside few ws small h.members room words

  pub has_lowers : (u : Shape) (Has : Tree → Type 0) (gives : List (List Part)) (ws : List ℕ) (r : Result (Unit {0}) Fault) → d < 2 ^ 32 → length ws ≡ flat s → HasCase s d (Some u)
      → TypedLowers L.seen L.moves options a c u ws 1 Has gives r → IfOk r (λ x. IsCaseWords d (1 + flat u) ws) → TypedLowers L.seen L.moves options a c s ws 0 (CaseOf d Has) gives r
  has_lowers u Has gives ws r few room h low words = case_lowers L options a c s h.kind h.cases d h.shape h.inside few u Has gives h.members ws r room low words

  pub bare_case : {A : Type 0} (unit : Bool) (Walks : A → Tree → Type 0) (f : Instance → Shape → A → List (List Part)) (i : Instance) (v : A) (ws : List ℕ) → unit ≡ true → d < 2 ^ 32 → length a.memory ≤ 2 ^ 32 → length ws ≡ flat s
      → HasCase s d None → IsCaseWords d 1 ws → TypedLowers L.seen L.moves options a a s ws 0 (CaseMeans unit Walks d v) (payload_gives unit f d i s v) (Ok tt)
  bare_case unit Walks f i v ws is few small room h words = subst (λ (b : Bool). TypedLowers L.seen L.moves options a a s ws 0 (CaseMeans b Walks d v) (payload_gives b f d i s v) (Ok tt)) (sym is) (has_bare ws few small room h words)

  pub payload_case : {A : Type 0} (unit : Bool) (Walks : A → Tree → Type 0) (f : Instance → Shape → A → List (List Part)) (i : Instance) (v : A) (u : Shape) (ws : List ℕ)
      (r : Result (Unit {0}) Fault) → unit ≡ false → d < 2 ^ 32 → length ws ≡ flat s
      → HasCase s d (Some u) → TypedLowers L.seen L.moves options a c u ws 1 (Walks v) (f i u v) r → IfOk r (λ x. IsCaseWords d (1 + flat u) ws)
      → TypedLowers L.seen L.moves options a c s ws 0 (CaseMeans unit Walks d v) (payload_gives unit f d i s v) r
  payload_case unit Walks f i v u ws r is few room h low words =
      subst (λ (b : Bool). TypedLowers L.seen L.moves options a c s ws 0 (CaseMeans b Walks d v) (payload_gives b f d i s v) r) (sym is)
      (subst (λ (z : Shape). TypedLowers L.seen L.moves options a c s ws 0 (CaseOf d (Walks v)) (f i z v) r) (sym (case_shape_is s d u h)) (has_lowers u (Walks v) (f i u v) ws r few room h low words))
