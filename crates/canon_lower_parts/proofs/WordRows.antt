-- Typed values in a row, as members of one shape, in words.
use Rattle.std.proofs.Common.{◌≡◌, ◌≤◌, ◌+◌, ◌*◌, ◌^◌, ◌∙◌, Err, List, Ok, Result, [], ◌∷◌, ap, arith, drop, false, length, refl, subst, sym, ℕ}
use Rattle.std.specs.Prelude.{flat_map}
use Rattle.canon_context.proofs.Moves.{GuestLaws}
use Rattle.canon_context.specs.Core.{Parts, component_types, encoding_by, stage_of}
use Rattle.canon_context.specs.Quiet.{has_block, have_block}
use Rattle.canon_context.specs.declared.fault.Fault.{Fault}
use Rattle.canon_resources.specs.Parts.{Part}
use Rattle.canon_lower_parts.proofs.Attempts.{AttemptKept, typed_map}
use Rattle.canon_lower_parts.proofs.TooLarge.{fixed_large}
use Rattle.canon_lower_parts.proofs.Items.{lower_each_count, row_trees}
use Rattle.canon_lower_parts.proofs.WordTuples.{MembersDone, done_end, done_more, done_none, done_room, done_stop}
use Rattle.canon_lower_parts.specs.Blames.{HasLarge, HaveLarge}
use Rattle.canon_lower_parts.specs.Words.{TypedLowers, TypedMembersLower}
use Rattle.canon_passing.specs.Words.{WordsStay}
use Rattle.canon_lowering.proofs.AimedWords.{fixed_words}
use Rattle.canon_lowering.proofs.Copying.{copies_flat}
use Rattle.canon_lowering.specs.Attempt.{members_words, value_words}
use Rattle.canon_lowering.specs.Copies.{copies}
use Rattle.canon_memory.specs.Guest.{GuestIn, Seen}
use Rattle.canon_memory.specs.declared.event.Event.{Event}
use Rattle.canon_model.specs.Homes.{host_texts}
use Rattle.canon_model.specs.Fits.{Fits}
use Rattle.canon_model.specs.Layout.{flat, members_flat}
use Rattle.canon_model.specs.Shape.{Shape, fixed}
use Rattle.canon_model.specs.Text.{Encoding}
use Rattle.canon_model.specs.Tree.{Tree}
use Rattle.canon_plan.proofs.Lookups.{drop_all}
use Rattle.canon_types.specs.Instance.{Instance}
use Rattle.canon_types.specs.Table.{shape_of}
use Rattle.canon_types.specs.declared.types.InterfaceType.{InterfaceType}
use Rattle.canon_typed.specs.Meaning.{EachMeans, RowMeans}
use Rattle.canon_passing.proofs.Shapes.{copies_quiet}

-- ---- a row

module _ {D G A : Type 0} (seen : G → Seen) (moves : GuestIn G → List Event → GuestIn G → Type 0) (options : ℕ) (start : Parts D G) (type : InterfaceType) (Walks : A → Tree → Type 0)
    (f : Instance → Shape → A → List (List Part)) (xs : List A) where
  abbrev item : Shape
  item = shape_of (component_types start) type

  abbrev pub each_gives : List A → List (List Part)
  each_gives ys = flat_map (f start.component.types item) ys

  -- before the values `ys`, which are left of `xs`
  abbrev pub RowDone : Parts D G → ℕ → List ℕ → ℕ → List A → Type 0
  RowDone now opts ws at ys = MembersDone seen moves options start (copies (length xs) item) (EachMeans Walks xs) (each_gives xs) now opts ws at (copies (length ys) item) (EachMeans Walks ys) (each_gives ys)

  -- the whole row, in these words
  abbrev pub RowLowered : Parts D G → List ℕ → Result (Unit {0}) Fault → Type 0
  RowLowered now ws r = TypedMembersLower seen moves options start now (copies (length xs) item) ws 0 (EachMeans Walks xs) (each_gives xs) r

module _ {D G A : Type 0} (L : GuestLaws G) (options : ℕ) (start : Parts D G) (type : InterfaceType) (Walks : A → Tree → Type 0) (f : Instance → Shape → A → List (List Part)) (xs : List A) where
  abbrev one : Shape
  one = shape_of (component_types start) type

  abbrev lower_gives : List A → List (List Part)
  lower_gives ys = each_gives L.seen L.moves options start type Walks f xs ys

  abbrev Row : Parts D G → ℕ → List ℕ → ℕ → List A → Type 0
  Row now opts ws at ys = RowDone L.seen L.moves options start type Walks f xs now opts ws at ys

  abbrev Whole : Parts D G → List ℕ → Result (Unit {0}) Fault → Type 0
  Whole now ws r = RowLowered L.seen L.moves options start type Walks f xs now ws r

  pub row_begin : (ws : List ℕ) → members_flat (copies (length xs) one) ≤ length ws → Row start options ws 0 xs
  row_begin ws room = done_none L options start (copies (length xs) one) (EachMeans Walks xs) (lower_gives xs) ws room

  pub row_end : (now : Parts D G) (opts : ℕ) (ws : List ℕ) (at k : ℕ) → length now.memory ≤ 2 ^ 32 → k ≡ length xs → Row now opts ws at (drop k xs) → Whole now ws (Ok tt)
  row_end now opts ws at k small all h =
      let here : Row now opts ws at [] = subst (λ (ys : List A). Row now opts ws at ys) (drop_all xs k all) h in
      done_end L options start (copies (length xs) one) (EachMeans Walks xs) (lower_gives xs) now opts ws at small here

  module _ (now : Parts D G) (opts : ℕ) (ws : List ℕ) (at : ℕ) (ys zs : List A) (x : A) (is : ys ≡ x ∷ zs) (h : Row now opts ws at ys) where
    next : Row now opts ws at (x ∷ zs)
    next = subst (λ (us : List A). Row now opts ws at us) is h

    abbrev Item : Parts D G → List ℕ → Result (Unit {0}) Fault → Type 0
    Item c vs r = TypedLowers L.seen L.moves opts now c (shape_of (component_types now) type) vs at (Walks x) (f now.component.types (shape_of (component_types now) type) x) r

    pub row_room : at + flat (shape_of (component_types now) type) ≤ length ws
    row_room = done_room L options start (copies (length xs) one) (EachMeans Walks xs) (lower_gives xs) now opts ws at type (copies (length zs) one) (Walks x) (EachMeans Walks zs) (λ i u. f i u x) (lower_gives zs) next

    pub lower_row_more : (c : Parts D G) (opts2 : ℕ) (vs : List ℕ) (at2 : ℕ) → ((t : Tree) → Walks x t → Fits one t) → WordsStay at ws vs → at2 ≡ at + flat (shape_of (component_types now) type)
        → opts2 ≡ opts → Item c vs (Ok tt) → Row c opts2 vs at2 zs
    lower_row_more c opts2 vs at2 fits stays end eo low =
        done_more L options start (copies (length xs) one) (EachMeans Walks xs) (lower_gives xs) now opts ws at type (copies (length zs) one) (Walks x) (EachMeans Walks zs) (λ i u. f i u x)
        (lower_gives zs) next c opts2 vs at2 fits stays end eo low

    pub row_stop : (c : Parts D G) (vs : List ℕ) (e : Fault) → WordsStay at ws vs → Item c vs (Err e) → Whole c vs (Err e)
    row_stop c vs e stays low =
        done_stop L options start (copies (length xs) one) (EachMeans Walks xs) (lower_gives xs) now opts ws at type (copies (length zs) one) (Walks x) (EachMeans Walks zs) (λ i u. f i u x) (lower_gives zs) next c vs e stays low

-- ---- a list of fixed length

pub fixed_lowers : {D G A : Type 0} (L : GuestLaws G) (options : ℕ) (a c : Parts D G) (s u : Shape) (n : ℕ) (Walks : A → Tree → Type 0) (xs : List A) (ws : List ℕ) (gs : List (List Part))
    (r : Result (Unit {0}) Fault) → s ≡ fixed n u → length xs ≡ n
    → TypedMembersLower L.seen L.moves options a c (copies (length xs) u) ws 0 (EachMeans Walks xs) gs r → TypedLowers L.seen L.moves options a c s ws 0 (RowMeans Walks xs) gs r
fixed_lowers L options a c s u n Walks xs ws gs r shape count h =
    let enc : Encoding = encoding_by a options in
    let here : TypedMembersLower L.seen L.moves options a c (copies n u) ws 0 (EachMeans Walks xs) gs r = subst (λ (k : ℕ). TypedMembersLower L.seen L.moves options a c (copies k u) ws 0 (EachMeans Walks xs) gs r) count h in
    subst (λ (z : Shape). TypedLowers L.seen L.moves options a c z ws 0 (RowMeans Walks xs) gs r) (sym shape)
    (typed_map L a c [] [] (members_words false (host_texts enc) (copies n u) ws 0 (EachMeans Walks xs)) (value_words false (host_texts enc) (fixed n u) ws 0 (RowMeans Walks xs)) gs (have_block (copies n u)) (has_block (fixed n u)) (AttemptKept a c)
    (HaveLarge enc (copies n u)) (HasLarge enc (fixed n u)) r
    (λ hs e m. fixed_words false (stage_of L.seen L.moves a) (stage_of L.seen L.moves c) (host_texts enc) n u ws 0 (EachMeans Walks xs) (RowMeans Walks xs) e
    (λ ts each. ((ts, refl, each), lower_each_count Walks xs ts each ∙ count)) (row_trees Walks xs) m)
    (copies_quiet n u) (fixed_large enc n u Walks xs count) here)

pub fixed_room : (s u : Shape) (n k : ℕ) (dst : List ℕ) → s ≡ fixed n u → k ≡ n → length dst ≡ flat s → members_flat (copies k u) ≤ length dst
unfolding flat
fixed_room s u n k dst shape count room = omega (arith, copies_flat k u, room, ap flat shape, ap (λ (j : ℕ). j * flat u) count)
