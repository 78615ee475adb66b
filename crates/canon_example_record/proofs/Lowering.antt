-- A note is lowered a field after the other.
use Rattle.std.proofs.Common.{[], ◌≡◌, ◌≤◌, ◌+◌, ◌∙◌, Err, List, Ok, Result, ap, arith, codes, false, length, refl, subst, ℕ}
use Rattle.std.specs.Prelude.{slice_index}
use Rattle.canon_context.proofs.Moves.{GuestLaws}
use Rattle.canon_context.specs.Core.{Parts, component_types}
use Rattle.canon_context.specs.declared.fault.Fault.{Fault}
use Rattle.canon_lower_parts.proofs.MemberSteps as stored
use Rattle.canon_lower_parts.proofs.WordSteps as words
use Rattle.canon_lower_parts.specs.Stores.{TypedMembersStore, TypedStores}
use Rattle.canon_lower_parts.specs.Words.{TypedLowers, TypedMembersLower}
use Rattle.canon_model.specs.Layout.{align, begins, ends, flat, size}
use Rattle.canon_model.specs.Leaves.{leaves}
use Rattle.canon_model.specs.Requests.{requests}
use Rattle.canon_model.specs.Shape as shape
use Rattle.canon_model.specs.Shape.{Members, Name, Shape, member, no_members, of_fields, scalar, string}
use Rattle.canon_model.specs.Tree.{Tree, Trees}
use Rattle.canon_passing.proofs.Words.{first_stay}
use Rattle.canon_passing.specs.Words.{WordsStay}
use Rattle.canon_types.specs.Instance.{Instance}
use Rattle.canon_types.specs.Table.{shape_of}
use Rattle.canon_types.specs.declared.types.InterfaceType.{InterfaceType}
use Rattle.canon_typed.specs.Meaning.{FirstAnd, NoTrees, TextMeans}
use Rattle.canon_example_record.specs.Laws.{note_shape_is}
use Rattle.canon_example_record.specs.Notes.{IsNoteType, IsScore, NoteMeans, note_members, note_shape}
use Rattle.canon_example_record.specs.declared.note.Note.{Note}

abbrev pub score_shape : Shape
score_shape = scalar shape.u32

abbrev pub score_members : Members
score_members = member (codes "score") score_shape no_members

-- ---- how the fields lie

pub title_words : 2 ≡ 0 + flat string
unfolding flat
title_words = refl

pub score_words : 3 ≡ 2 + flat score_shape
unfolding flat
score_words = refl

note_words : flat note_shape ≡ 3
unfolding flat
note_words = refl

pub words_of_note : (i : Instance) (type : InterfaceType) → IsNoteType i type → flat (shape_of i.types type) ≡ 3
words_of_note i type f = ap flat (note_shape_is i type f) ∙ note_words

title_size : size false string ≡ 8
unfolding size
title_size = refl

score_size : size false score_shape ≡ 4
unfolding size
score_size = refl

note_size : size false note_shape ≡ 12
unfolding size align
note_size = refl

module _ (i : Instance) (type : InterfaceType) (f : IsNoteType i type) (at n : ℕ) (room : at + size false (shape_of i.types type) ≤ n) where
  pub bytes_room : at + 12 ≤ n
  bytes_room = omega (arith, room, ap (size false) (note_shape_is i type f), note_size)

  pub title_room : at + size false string ≤ n
  title_room = omega (arith, bytes_room, title_size)

  pub score_room : (n2 : ℕ) → n ≤ n2 → (at + 8) + size false score_shape ≤ n2
  score_room n2 longer = omega (arith, bytes_room, score_size, longer)

pub at_start : (at : ℕ) → at ≡ at + begins false 0 string
unfolding align
at_start at = omega arith

pub at_score : (at : ℕ) → at + 8 ≡ at + begins false (ends false 0 string) score_shape
unfolding size align
at_score at = omega arith

module _ {D G : Type 0} (L : GuestLaws G) (options : ℕ) where
  abbrev Low : Parts D G → Parts D G → Shape → List ℕ → ℕ → (Tree → Type 0) → Result (Unit {0}) Fault → Type 0
  Low a b s ws i Has r = TypedLowers L.seen L.moves options a b s ws i Has [] r

  abbrev Lows : Parts D G → Parts D G → Members → List ℕ → ℕ → (Trees → Type 0) → Result (Unit {0}) Fault → Type 0
  Lows a b ms ws i Have r = TypedMembersLower L.seen L.moves options a b ms ws i Have [] r

  abbrev Store : Parts D G → Parts D G → Shape → ℕ → (Tree → Type 0) → Result (Unit {0}) Fault → Type 0
  Store a b s at Has r = TypedStores L.seen L.moves options a b s at Has [] r

  abbrev Stores : Parts D G → Parts D G → Members → ℕ → ℕ → (Trees → Type 0) → Result (Unit {0}) Fault → Type 0
  Stores a b ms o at Have r = TypedMembersStore L.seen L.moves options a b ms o at Have [] r

  -- ---- names don't count

  named_words : (a b : Parts D G) (name : Name) (s : Shape) (ms : Members) (ws : List ℕ) (i : ℕ) (Have : Trees → Type 0) (r : Result (Unit {0}) Fault) → Lows a b (member [] s ms) ws i Have r → Lows a b (member name s ms) ws i Have r
  unfolding flat requests leaves
  named_words a b name s ms ws i Have r h = h

  named_stored : (a b : Parts D G) (name : Name) (s : Shape) (ms : Members) (o at : ℕ) (Have : Trees → Type 0) (r : Result (Unit {0}) Fault) → Stores a b (member [] s ms) o at Have r → Stores a b (member name s ms) o at Have r
  unfolding size align requests leaves
  named_stored a b name s ms o at Have r h = h

  -- ---- into words

  score_lowered : (b c : Parts D G) (n : Note) (ws : List ℕ) (r : Result (Unit {0}) Fault) → Low b c score_shape ws 2 (IsScore n.score) r → Lows b c score_members ws 2 (FirstAnd (IsScore n.score) NoTrees) r
  score_lowered b c n ws (Ok tt) h = named_words b c (codes "score") score_shape no_members ws 2 (FirstAnd (IsScore n.score) NoTrees) (Ok tt)
      (words.members_more L options b c c score_shape no_members ws ws 2 (IsScore n.score) NoTrees [] [] (Ok tt) (λ t has. tt) (λ p q l u is. ap (slice_index ws) (omega (arith, is))) h
      (words.members_none L options c ws (2 + flat score_shape) h.attempt.lowering.small))
  score_lowered b c n ws (Err e) h = named_words b c (codes "score") score_shape no_members ws 2 (FirstAnd (IsScore n.score) NoTrees) (Err e)
      (words.lower_members_stop L options b c score_shape no_members ws 2 (IsScore n.score) NoTrees [] [] e h)

  both_lowered : (a b c : Parts D G) (n : Note) (ws vs : List ℕ) (r : Result (Unit {0}) Fault) → WordsStay 2 ws vs → Low a b string ws 0 (TextMeans n.title) (Ok tt) → Low b c score_shape vs 2 (IsScore n.score) r
      → Lows a c note_members vs 0 (FirstAnd (TextMeans n.title) (FirstAnd (IsScore n.score) NoTrees)) r
  unfolding flat
  both_lowered a b c n ws vs r stays one two = named_words a c (codes "title") string score_members vs 0 (FirstAnd (TextMeans n.title) (FirstAnd (IsScore n.score) NoTrees)) r
      (words.members_more L options a b c string score_members ws vs 0 (TextMeans n.title) (FirstAnd (IsScore n.score) NoTrees) [] [] r (λ t has. tt) (first_stay 0 2 2 ws vs refl stays) one (score_lowered b c n vs r two))

  module _ (a : Parts D G) (type : InterfaceType) (f : IsNoteType a.component.types type) where
    lowered_as : (c : Parts D G) (n : Note) (vs : List ℕ) (r : Result (Unit {0}) Fault) → Lows a c note_members vs 0 (FirstAnd (TextMeans n.title) (FirstAnd (IsScore n.score) NoTrees)) r → Low a c (shape_of (component_types a) type) vs 0 (NoteMeans n) r
    lowered_as c n vs r h = words.product_lowers L options a c (shape_of (component_types a) type) of_fields note_members vs (FirstAnd (TextMeans n.title) (FirstAnd (IsScore n.score) NoTrees)) [] r (note_shape_is a.component.types type f) h

    pub note_lowered : (b c : Parts D G) (n : Note) (ws vs : List ℕ) (r : Result (Unit {0}) Fault) (options2 : ℕ) → options2 ≡ options → WordsStay 2 ws vs → Low a b string ws 0 (TextMeans n.title) (Ok tt)
        → TypedLowers L.seen L.moves options2 b c score_shape vs 2 (IsScore n.score) [] r → Low a c (shape_of (component_types a) type) vs 0 (NoteMeans n) r
    note_lowered b c n ws vs r options2 same stays one two =
        lowered_as c n vs r (both_lowered a b c n ws vs r stays one (subst (λ (o : ℕ). TypedLowers L.seen L.moves o b c score_shape vs 2 (IsScore n.score) [] r) same two))

    pub title_not_lowered : (b : Parts D G) (n : Note) (ws : List ℕ) (e : Fault) → Low a b string ws 0 (TextMeans n.title) (Err e) → Low a b (shape_of (component_types a) type) ws 0 (NoteMeans n) (Err e)
    title_not_lowered b n ws e one = lowered_as b n ws (Err e) (named_words a b (codes "title") string score_members ws 0 (FirstAnd (TextMeans n.title) (FirstAnd (IsScore n.score) NoTrees)) (Err e)
        (words.lower_members_stop L options a b string score_members ws 0 (TextMeans n.title) (FirstAnd (IsScore n.score) NoTrees) [] [] e one))

  -- ---- into memory

  both_stored : (a b c : Parts D G) (n : Note) (at : ℕ) (r : Result (Unit {0}) Fault) → Store a b string at (TextMeans n.title) (Ok tt) → Store b c score_shape (at + 8) (IsScore n.score) r
      → Stores a c note_members 0 at (FirstAnd (TextMeans n.title) (FirstAnd (IsScore n.score) NoTrees)) r
  both_stored a b c n at r one two = named_stored a c (codes "title") string score_members 0 at (FirstAnd (TextMeans n.title) (FirstAnd (IsScore n.score) NoTrees)) r
      (stored.members_more L options a b c string score_members 0 at (TextMeans n.title) (FirstAnd (IsScore n.score) NoTrees) [] [] r (subst (λ (k : ℕ). Store a b string k (TextMeans n.title) (Ok tt)) (at_start at) one)
      (named_stored b c (codes "score") score_shape no_members (ends false 0 string) at (FirstAnd (IsScore n.score) NoTrees) r
      (stored.members_last L options b c score_shape (ends false 0 string) at (IsScore n.score) [] r (subst (λ (k : ℕ). Store b c score_shape k (IsScore n.score) r) (at_score at) two))))

  module _ (a : Parts D G) (type : InterfaceType) (f : IsNoteType a.component.types type) (at : ℕ) (room : at + size false (shape_of (component_types a) type) ≤ length a.memory) where
    stored_as : (c : Parts D G) (n : Note) (r : Result (Unit {0}) Fault) → Stores a c note_members 0 at (FirstAnd (TextMeans n.title) (FirstAnd (IsScore n.score) NoTrees)) r → Store a c (shape_of (component_types a) type) at (NoteMeans n) r
    stored_as c n r h = stored.product_stores L options a c (shape_of (component_types a) type) of_fields note_members at (FirstAnd (TextMeans n.title) (FirstAnd (IsScore n.score) NoTrees)) [] r (note_shape_is a.component.types type f) room h

    pub note_stored : (b c : Parts D G) (n : Note) (r : Result (Unit {0}) Fault) (options2 : ℕ) → options2 ≡ options → Store a b string at (TextMeans n.title) (Ok tt)
        → TypedStores L.seen L.moves options2 b c score_shape (at + 8) (IsScore n.score) [] r → Store a c (shape_of (component_types a) type) at (NoteMeans n) r
    note_stored b c n r options2 same one two = stored_as c n r (both_stored a b c n at r one (subst (λ (o : ℕ). TypedStores L.seen L.moves o b c score_shape (at + 8) (IsScore n.score) [] r) same two))

    pub title_not_stored : (b : Parts D G) (n : Note) (e : Fault) → Store a b string at (TextMeans n.title) (Err e) → Store a b (shape_of (component_types a) type) at (NoteMeans n) (Err e)
    title_not_stored b n e one = stored_as b n (Err e) (named_stored a b (codes "title") string score_members 0 at (FirstAnd (TextMeans n.title) (FirstAnd (IsScore n.score) NoTrees)) (Err e)
        (stored.members_end L options a b string score_members 0 at (TextMeans n.title) (FirstAnd (IsScore n.score) NoTrees) [] [] e (subst (λ (k : ℕ). Store a b string k (TextMeans n.title) (Err e)) (at_start at) one)))
