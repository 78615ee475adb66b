-- Typed values as words: scalars, parts of more words, and members in a row.
use Rattle.std.proofs.Common.{◌≡◌, ◌≤◌, ◌<◌, ◌+◌, ◌++◌, ◌^◌, ◌%◌, ◌∙◌, Err, List, Ok, Result, [], ap, arith, false, length, refl, set, subst, sym, ℕ}
use Rattle.std.proofs.lemmas.List.{get_or-set_same}
use Rattle.std.proofs.lemmas.List.Edits.{get_or-between}
use Rattle.std.proofs.lemmas.Slice.{between-put_mid}
use Rattle.std.specs.Prelude.{slice_index}
use borrow.Rule.Slice.PartMut.{put_mid}
use Rattle.canon_context.proofs.Moves.{GuestLaws}
use Rattle.canon_context.specs.Core.{Parts, encoding_by, stage_of}
use Rattle.canon_context.specs.Quiet.{has_block, have_block}
use Rattle.canon_context.specs.declared.fault.Fault.{Fault}
use Rattle.canon_resources.specs.Parts.{Part}
use Rattle.canon_lower_parts.proofs.Attempts.{AttemptKept, typed_map, typed_none, typed_stop, typed_then}
use Rattle.canon_passing.proofs.Passing.{handles_encoding}
use Rattle.canon_passing.proofs.Shapes.{no_first, no_later}
use Rattle.canon_lower_parts.proofs.TooLarge.{first_large, product_large}
use Rattle.canon_lower_parts.specs.Blames.{HasLarge, HaveLarge}
use Rattle.canon_lower_parts.specs.Lowers.{TypedAttempt}
use Rattle.canon_lower_parts.specs.Scalars.{IsWordOfScalar}
use Rattle.canon_lower_parts.specs.Words.{TypedLowers, TypedMembersLower}
use Rattle.canon_lowering.proofs.Attempts.{FirstAnd, attempt_none}
use Rattle.canon_lowering.proofs.AimedWords.{members_words_cons, members_words_stop, product_words, scalar_words, words_moved}
use Rattle.canon_lowering.specs.Attempt.{members_words, value_words}
use Rattle.canon_model.specs.Homes.{host_texts}
use Rattle.canon_model.specs.Fits.{Fits}
use Rattle.canon_model.specs.Flat.{IsLeastWord, SameWords, flat_bits}
use Rattle.canon_model.specs.Layout.{flat}
use Rattle.canon_model.specs.Leaves.{leaves}
use Rattle.canon_model.specs.Rep.{ScalarIs}
use Rattle.canon_model.specs.Requests.{requests}
use Rattle.canon_model.specs.Shape.{Members, ProductKind, Scalar, Shape, member, no_members, product, scalar}
use Rattle.canon_model.specs.Text.{Encoding}
use Rattle.canon_model.specs.Tree.{Tree, Trees, no_trees, trees_of}
use Rattle.canon_typed.specs.Meaning.{NoTrees, ProductMeans}

-- ---- words that are put into their place

placed : (i k : ℕ) (dst vs : List ℕ) (p : ℕ) → i + k ≤ length dst → length vs ≡ k → p < k → slice_index (put_mid i k dst vs) (i + p) ≡ slice_index vs p
placed i k dst vs p room count lt =
    sym (get_or-between (put_mid i k dst vs) i (i + k) p 0 (omega (arith, lt))) ∙ ap (λ (zs : List ℕ). slice_index zs p) (between-put_mid i k dst vs (i + k) (omega (arith, room)) (omega (arith, count)))

-- words that were put into their place
put_same : (i k : ℕ) (dst vs : List ℕ) → i + k ≤ length dst → length vs ≡ k → SameWords vs 0 (put_mid i k dst vs) i k
put_same i k dst vs room count p q l u is = let at : i + p ≡ q = omega (arith, is) in sym (ap (slice_index (put_mid i k dst vs)) (sym at) ∙ placed i k dst vs p room count (omega (arith, u)))

module _ {D G : Type 0} (L : GuestLaws G) (options : ℕ) where
  abbrev Low : Parts D G → Parts D G → Shape → List ℕ → ℕ → (Tree → Type 0) → List (List Part) → Result (Unit {0}) Fault → Type 0
  Low a b s ws i Has gives r = TypedLowers L.seen L.moves options a b s ws i Has gives r

  abbrev Lows : Parts D G → Parts D G → Members → List ℕ → ℕ → (Trees → Type 0) → List (List Part) → Result (Unit {0}) Fault → Type 0
  Lows a b ms ws i Have gives r = TypedMembersLower L.seen L.moves options a b ms ws i Have gives r

  -- ---- a scalar

  pub lower_scalar_lowers : (a : Parts D G) (dst : List ℕ) (s : Shape) (k : Scalar) (Has : Tree → Type 0) (w : ℕ) → length a.memory ≤ 2 ^ 32 → s ≡ scalar k → length dst ≡ flat s → IsWordOfScalar k Has w
      → Low a a s (set dst 0 w) 0 Has [] (Ok tt)
  unfolding flat
  lower_scalar_lowers a dst s k Has w small shape room (t, has, is, least) =
      let here : w ≡ slice_index (set dst 0 w) 0 = sym (get_or-set_same dst 0 w 0 (omega (arith, room, ap flat shape))) in
      subst (λ (z : Shape). Low a a z (set dst 0 w) 0 Has [] (Ok tt)) (sym shape)
      (typed_none L a [] (value_words false (host_texts (encoding_by a options)) (scalar k) (set dst 0 w) 0 Has) (has_block (scalar k)) (HasLarge (encoding_by a options) (scalar k))
      (scalar_words false (stage_of L.seen L.moves a) (host_texts (encoding_by a options)) (set dst 0 w) 0 Has small k t
      (subst (λ (x : ℕ). ScalarIs k (x % 2 ^ flat_bits k) t) here is) (subst (λ (x : ℕ). IsLeastWord k x) here least) has) (λ u is e some. some))

  -- ---- a value whose words are a part of more

  pub moved_lowers : (a c : Parts D G) (s : Shape) (ws vs : List ℕ) (i j : ℕ) (Has : Tree → Type 0) (gives : List (List Part)) (r : Result (Unit {0}) Fault) → ((t : Tree) → Has t → Fits s t) → SameWords ws i vs j (flat s)
      → Low a c s ws i Has gives r → Low a c s vs j Has gives r
  moved_lowers a c s ws vs i j Has gives r fits same h =
      typed_map L a c [] [] (value_words false (host_texts (encoding_by a options)) s ws i Has) (value_words false (host_texts (encoding_by a options)) s vs j Has) gives (has_block s) (has_block s) (AttemptKept a c)
      (HasLarge (encoding_by a options) s) (HasLarge (encoding_by a options) s) r
      (λ hs e k. words_moved false (stage_of L.seen L.moves a) (stage_of L.seen L.moves c) (host_texts (encoding_by a options)) s ws vs i j Has e fits same k) (λ e. e) (λ t has. (t, has, λ e b. b, λ e b. b)) h

  pub at_lowers : (a c : Parts D G) (s : Shape) (dst vs : List ℕ) (i k : ℕ) (Has : Tree → Type 0) (gives : List (List Part)) (r : Result (Unit {0}) Fault) → ((t : Tree) → Has t → Fits s t) → k ≡ flat s → i + flat s ≤ length dst
      → length vs ≡ flat s → Low a c s vs 0 Has gives r → Low a c s (put_mid i k dst vs) i Has gives r
  at_lowers a c s dst vs i k Has gives r fits words room count h =
      moved_lowers a c s vs (put_mid i k dst vs) 0 i Has gives r fits (subst (λ (n : ℕ). SameWords vs 0 (put_mid i k dst vs) i n) words (put_same i k dst vs (omega (arith, room, words)) (count ∙ sym words))) h

  -- ---- members

  pub members_none : (a : Parts D G) (ws : List ℕ) (i : ℕ) → length a.memory ≤ 2 ^ 32 → Lows a a no_members ws i NoTrees [] (Ok tt)
  unfolding flat requests leaves
  members_none a ws i small = typed_none L a [] (members_words false (host_texts (encoding_by a options)) no_members ws i NoTrees) (have_block no_members) (HaveLarge (encoding_by a options) no_members)
      (attempt_none false (stage_of L.seen L.moves a) [] (members_words false (host_texts (encoding_by a options)) no_members ws i NoTrees) no_trees small refl (λ ts h. refl) refl (λ pointer rest. refl)) (λ ts none e some. some)

  -- the first member's words are there at the end too
  pub members_more : (a b c : Parts D G) (s : Shape) (ms : Members) (ws vs : List ℕ) (i : ℕ) (Has : Tree → Type 0) (Have : Trees → Type 0) (gs fs : List (List Part)) (r : Result (Unit {0}) Fault)
      → ((t : Tree) → Has t → Fits s t) → SameWords ws i vs i (flat s) → Low a b s ws i Has gs (Ok tt) → Lows b c ms vs (i + flat s) Have fs r → Lows a c (member [] s ms) vs i (FirstAnd Has Have) (gs ++ fs) r
  members_more a b c s ms ws vs i Has Have gs fs r fits same h k =
      let enc : Encoding = encoding_by a options in
      let rest : TypedAttempt L.seen L.moves b c [] (members_words false (host_texts enc) ms vs (i + flat s) Have) fs (have_block ms) (AttemptKept b c) (HaveLarge enc ms) r =
      subst (λ (x : Encoding). TypedAttempt L.seen L.moves b c [] (members_words false (host_texts x) ms vs (i + flat s) Have) fs (have_block ms) (AttemptKept b c) (HaveLarge x ms) r) (handles_encoding a b options h.same) k in
      typed_then L a b c [] [] [] (value_words false (host_texts enc) s ws i Has) (members_words false (host_texts enc) ms vs (i + flat s) Have) (members_words false (host_texts enc) (member [] s ms) vs i (FirstAnd Has Have)) gs fs
      (has_block s) (have_block ms) (have_block (member [] s ms)) (AttemptKept a b) (AttemptKept b c) (AttemptKept a c) (HasLarge enc s) (HaveLarge enc ms) (HaveLarge enc (member [] s ms)) r
      (λ hs ks e first second. members_words_cons false (host_texts enc) [] s ms i Has Have vs (stage_of L.seen L.moves a) (stage_of L.seen L.moves b) (stage_of L.seen L.moves c) ws e fits same first second)
      (λ none. (no_first (has_block s) (have_block ms) none, no_later (has_block s) (have_block ms) none)) (λ one two. two ∙ ap (λ (x : Parts D G). record x { ledger = c.ledger }) one)
      (first_large enc s ms Has Have) h rest

  -- a first one fails
  pub lower_members_stop : (a b : Parts D G) (s : Shape) (ms : Members) (ws : List ℕ) (i : ℕ) (Has : Tree → Type 0) (Have : Trees → Type 0) (gs fs : List (List Part)) (e : Fault) → Low a b s ws i Has gs (Err e)
      → Lows a b (member [] s ms) ws i (FirstAnd Has Have) (gs ++ fs) (Err e)
  lower_members_stop a b s ms ws i Has Have gs fs e h =
      let enc : Encoding = encoding_by a options in
      typed_stop L a b [] [] (value_words false (host_texts enc) s ws i Has) Have (members_words false (host_texts enc) (member [] s ms) ws i (FirstAnd Has Have)) gs fs (has_block s) (have_block (member [] s ms)) (AttemptKept a b)
      (HasLarge enc s) (HaveLarge enc ms) (HaveLarge enc (member [] s ms)) e
      (λ hs d not first. members_words_stop false (host_texts enc) [] s ms i Has Have ws (stage_of L.seen L.moves a) (stage_of L.seen L.moves b) ws d not first) (no_first (has_block s) (have_block ms))
      (first_large enc s ms Has Have) h

  pub product_lowers : (a c : Parts D G) (s : Shape) (k : ProductKind) (ms : Members) (ws : List ℕ) (Have : Trees → Type 0) (gives : List (List Part)) (r : Result (Unit {0}) Fault) → s ≡ product k ms
      → Lows a c ms ws 0 Have gives r → Low a c s ws 0 (ProductMeans Have) gives r
  product_lowers a c s k ms ws Have gives r shape h =
      let enc : Encoding = encoding_by a options in
      subst (λ (z : Shape). Low a c z ws 0 (ProductMeans Have) gives r) (sym shape)
      (typed_map L a c [] [] (members_words false (host_texts enc) ms ws 0 Have) (value_words false (host_texts enc) (product k ms) ws 0 (ProductMeans Have)) gives (have_block ms) (has_block (product k ms)) (AttemptKept a c)
      (HaveLarge enc ms) (HasLarge enc (product k ms)) r
      (λ hs e m. product_words false (stage_of L.seen L.moves a) (stage_of L.seen L.moves c) (host_texts enc) k ms ws 0 Have (ProductMeans Have) e (λ ts have. (ts, refl, have)) (λ t (
        ts,
        e2,
        have,
      ). subst Have (sym (ap trees_of e2)) have) m) (λ e. e)
      (product_large enc k ms Have) h)

pub lower_scalar_room : (s : Shape) (k : Scalar) (dst : List ℕ) → s ≡ scalar k → length dst ≡ flat s → 0 < length dst
unfolding flat
lower_scalar_room s k dst shape room = omega (arith, room, ap flat shape)
