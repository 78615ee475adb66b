-- A case of a typed value: its number, and its payload behind it.
use Rattle.std.proofs.Common.{◌≡◌, ◌≤◌, ◌<◌, ◌+◌, ◌^◌, ◌∙◌, Bool, List, Result, ap, arith, false, length, refl, subst, sym, true, ℕ}
use Rattle.std.proofs.Math.Nat.{mod-eq_of_lt}
use Rattle.canon_context.proofs.Moves.{GuestLaws}
use Rattle.canon_context.specs.Core.{Parts, encoding_by, stage_of}
use Rattle.canon_context.specs.declared.fault.Fault.{Fault}
use Rattle.canon_resources.specs.Parts.{Part}
use Rattle.canon_lowering.proofs.AimedCases.{CaseIs, tag_written, variant_stored}
use Rattle.canon_lowering.specs.Copies.{case_members, case_tree, payload_trees}
use Rattle.canon_model.proofs.Layouts.{tag-le-size}
use Rattle.canon_model.specs.Homes.{host_texts}
use Rattle.canon_model.specs.Layout.{payload_offset, size, tag_size}
use Rattle.canon_model.specs.Shape.{Cases, Members, Shape, VariantKind, case_count, variant}
use Rattle.canon_model.specs.Text.{Encoding}
use Rattle.canon_model.specs.Tree.{Tree, Trees, case_number, no_trees}
use Rattle.canon_typed.specs.Meaning.{CaseMeans}
use Rattle.canon_lower_parts.proofs.Attempts.{cause_as, small_as}
use Rattle.canon_lower_parts.proofs.TooLarge.{variant_large}
use Rattle.canon_lower_parts.specs.Blames.{HasLarge, HaveLarge}
use Rattle.canon_lower_parts.specs.CasePuts.{IsCasePut, PayloadTrees, unless_unit}
use Rattle.canon_lower_parts.specs.Cases.{payload_members}
use Rattle.canon_lower_parts.specs.Stores.{TypedMembersStore, TypedStores}
use Rattle.canon_passing.proofs.Shapes.{case_quiet}

-- ---- of cases

-- a value's tree from its payload's trees, and back
module _ {A : Type 0} (enc : Encoding) (Walks : A → Tree → Type 0) (x : A) (s : Shape) (d : ℕ) where
  pub case_to : (unit : Bool) (ts : Trees) → PayloadTrees unit (Walks x) ts → CaseMeans unit Walks d x (case_tree d ts) × CaseIs false (host_texts enc) (payload_members (unless_unit unit s)) d (case_tree d ts)
  case_to true ts e = (ap (λ us. case_tree d us) e, ap (λ us. case_tree d us) e)
  case_to false ts (t, rest, is, has, none) = ((t, ap (λ us. case_tree d us) is, has), (t, ap (λ us. case_tree d us) is))

  pub case_from : (unit : Bool) (t : Tree) → CaseMeans unit Walks d x t → (case_number t ≡ d) × PayloadTrees unit (Walks x) (payload_trees t) × CaseIs false (host_texts enc) (payload_members (unless_unit unit s)) d t
  case_from true t e = (ap case_number e, ap payload_trees e, e)
  case_from false t (u, e, has) = (ap case_number e, (u, no_trees, ap payload_trees e, has, refl), (u, e))

-- ---- a number that is written

tag_fits : (n d : ℕ) → d < n → d < 2 ^ 32 → d < 256 ^ tag_size n
tag_fits n d lt few = grind arith

pub tag_few : (n : ℕ) → tag_size n ≤ 8
tag_few n = grind arith

-- ---- stored

module _ {D G : Type 0} (L : GuestLaws G) (options : ℕ) where
  -- a case of a variant, by its payload
  pub variant_stores : (a b c : Parts D G) (s : Shape) (k : VariantKind) (cs : Cases) (at d inner : ℕ) (Have : Trees → Type 0) (Has : Tree → Type 0) (gs : List (List Part)) (r : Result (Unit {0}) Fault)
      → s ≡ variant k cs → at + size false s ≤ length a.memory → d < case_count cs → d < 2 ^ 32 → IsCasePut a b cs at d inner
      → ((ts : Trees) → Have ts → Has (case_tree d ts) × CaseIs false (host_texts (encoding_by a options)) (case_members cs d) d (case_tree d ts))
      → ((t : Tree) → Has t → (case_number t ≡ d) × Have (payload_trees t) × CaseIs false (host_texts (encoding_by a options)) (case_members cs d) d t)
      → TypedMembersStore L.seen L.moves options b c (case_members cs d) 0 inner Have gs r → TypedStores L.seen L.moves options a c s at Has gs r
  variant_stores a b c s k cs at d inner Have Has gs r shape room lt few w to from h =
      let enc : Encoding = encoding_by a options in
      let b2 : Parts D G = record a { memory = b.memory } in
      let g : TypedMembersStore L.seen L.moves options b2 c (case_members cs d) 0 (at + payload_offset false cs) Have gs r =
      subst (λ (x : Parts D G). TypedMembersStore L.seen L.moves options x c (case_members cs d) 0 (at + payload_offset false cs) Have gs r) w.put.same
      (subst (λ (n : ℕ). TypedMembersStore L.seen L.moves options b c (case_members cs d) 0 n Have gs r) w.inner h) in
      subst (λ (z : Shape). TypedStores L.seen L.moves options a c z at Has gs r) (sym shape) (record {
        handles = g.handles;
        ending = g.ending;
        ends = g.ends;
        attempt = variant_stored false (host_texts enc) k cs at d lt Have (stage_of L.seen L.moves a) (stage_of L.seen L.moves b2) (stage_of L.seen L.moves c)
            (tag_written false (host_texts enc) (stage_of L.seen L.moves a) a.memory b.memory cs at d w.small (omega (
              arith,
              room,
              ap (size false) shape,
              tag-le-size false k cs,
            )) w.put.writes (w.put.stored ∙ mod-eq_of_lt (tag_fits (case_count cs) d lt few)))
            Has g.ending (omega (arith, room, ap (size false) shape, w.put.writes.same_length, g.attempt.lowering.goes.no_shorter)) to from g.attempt;
        passed = g.passed;
        same = g.same;
        quiet = λ none. g.quiet (case_quiet cs d none);
        cause = cause_as Have Has (HaveLarge enc (case_members cs d)) (HasLarge enc (variant k cs)) r (variant_large enc k cs d Have Has from) g.cause;
        small = small_as Have Has (HaveLarge enc (case_members cs d)) (HasLarge enc (variant k cs)) r (variant_large enc k cs d Have Has from) g.small;
      })

  -- a case whose payload is none where its Rust type is the unit
  pub case_stores : {A : Type 0} (Walks : A → Tree → Type 0) (x : A) (unit : Bool) (a b c : Parts D G) (s u : Shape) (k : VariantKind) (cs : Cases) (at d inner : ℕ) (gs : List (List Part)) (r : Result (Unit {0}) Fault)
      → s ≡ variant k cs → at + size false s ≤ length a.memory → d < case_count cs → d < 2 ^ 32 → case_members cs d ≡ payload_members (unless_unit unit u) → IsCasePut a b cs at d inner
      → TypedMembersStore L.seen L.moves options b c (payload_members (unless_unit unit u)) 0 inner (PayloadTrees unit (Walks x)) gs r → TypedStores L.seen L.moves options a c s at (CaseMeans unit Walks d x) gs r
  case_stores Walks x unit a b c s u k cs at d inner gs r shape room lt few members w h =
      let enc : Encoding = encoding_by a options in
      variant_stores a b c s k cs at d inner (PayloadTrees unit (Walks x)) (CaseMeans unit Walks d x) gs r shape room lt few w
      (λ ts have. let (means, is) = case_to enc Walks x u d unit ts have in (means, subst (λ (ms : Members). CaseIs false (host_texts enc) ms d (case_tree d ts)) (sym members) is))
      (λ t has. let (number, have, is) = case_from enc Walks x u d unit t has in (number, have, subst (λ (ms : Members). CaseIs false (host_texts enc) ms d t) (sym members) is))
      (subst (λ (ms : Members). TypedMembersStore L.seen L.moves options b c ms 0 inner (PayloadTrees unit (Walks x)) gs r) (sym members) h)
