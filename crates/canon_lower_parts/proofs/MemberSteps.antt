-- Typed values stored as members in a row, and what they are members of.
use Rattle.std.specs.Prelude.{OnOk}
use Rattle.std.proofs.Common.{◌≡◌, ◌≤◌, ◌+◌, ◌++◌, ◌^◌, ◌∙◌, Err, IfErr, List, Ok, Result, [], ◌∷◌, ap, append-nil, arith, false, inl, length, refl, subst, sym, ℕ}
use Rattle.std.proofs.Math.Nat.{zero-mod}
use Rattle.std.proofs.lemmas.Nat.Gcd.{dvd_of_mod-eq-zero}
use Rattle.canon_context.proofs.Moves.{GuestLaws}
use Rattle.canon_context.specs.Core.{Parts, encoding_by, stage_of}
use Rattle.canon_context.specs.Quiet.{has_block, have_block}
use Rattle.canon_context.specs.declared.fault.Fault.{Fault}
use Rattle.canon_resources.specs.Parts.{Part}
use Rattle.canon_lowering.proofs.AimedAt as aimed
use Rattle.canon_lowering.proofs.Attempts.{attempt_none}
use Rattle.canon_lowering.proofs.Copying.{begins-same}
use Rattle.canon_lowering.specs.Attempt.{StoresMembers, StoresValue, members_at, members_span}
use Rattle.canon_lowering.specs.Lowering.{Ending, done}
use Rattle.canon_model.specs.Homes.{host_texts}
use Rattle.canon_model.specs.Layout.{align, begins, ends, size}
use Rattle.canon_model.specs.Leaves.{leaves}
use Rattle.canon_model.specs.Requests.{requests}
use Rattle.canon_model.specs.Shape.{Members, ProductKind, Shape, member, no_members, product}
use Rattle.canon_model.specs.Text.{Encoding}
use Rattle.canon_model.specs.Tree.{Tree, Trees, no_trees, trees_of}
use Rattle.canon_typed.specs.Meaning.{FirstAnd, NoTrees, ProductMeans}
use Rattle.canon_lower_parts.proofs.Attempts.{Cause, IsSmall, cause_as, cause_first, cause_then, cross_stop, cross_then, ends_done, ends_early, lower_ends_more, none_first, none_later, small_as, small_then}
use Rattle.canon_lower_parts.proofs.TooLarge.{first_large, product_large}
use Rattle.canon_passing.proofs.Passing.{handles_encoding, handles_then}
use Rattle.canon_passing.proofs.Shapes.{no_first, no_later}
use Rattle.canon_lower_parts.specs.Blames.{HasLarge, HaveLarge}
use Rattle.canon_lower_parts.specs.Stores.{TypedMembersStore, TypedStores}

-- a first member begins at once
pub begins_zero : (s : Shape) → begins false 0 s ≡ 0
begins_zero s = begins-same false 0 s (dvd_of_mod-eq-zero (align false s) (zero-mod _))

module _ {D G : Type 0} (L : GuestLaws G) (options : ℕ) where
  -- what a value that was stored did
  pub stored_done : (a b : Parts D G) (s : Shape) (at : ℕ) (Has : Tree → Type 0) (gs : List (List Part)) (h : TypedStores L.seen L.moves options a b s at Has gs (Ok tt))
      → StoresValue false (stage_of L.seen L.moves a) (stage_of L.seen L.moves b) (host_texts (encoding_by a options)) s at Has h.handles done
  stored_done a b s at Has gs h = subst (λ (e : Ending). StoresValue false (stage_of L.seen L.moves a) (stage_of L.seen L.moves b) (host_texts (encoding_by a options)) s at Has h.handles e)
      (ends_done gs tt h.ending h.ends) h.attempt

  pub members_nothing : (a : Parts D G) (o at : ℕ) → length a.memory ≤ 2 ^ 32 → TypedMembersStore L.seen L.moves options a a no_members o at NoTrees [] (Ok tt)
  unfolding requests leaves
  members_nothing a o at small = record {
    handles = [];
    ending = done;
    ends = inl refl;
    attempt = attempt_none false (stage_of L.seen L.moves a) (members_span false no_members o at ∷ [])
        (members_at false (host_texts (encoding_by a options)) no_members o at NoTrees) no_trees small refl (λ ts e. refl) refl (λ pointer rest. refl);
    passed = (refl, refl);
    same = refl;
    quiet = λ none. (refl, tt);
    cause = tt;
    small = λ ts none e some. some;
  }

  pub members_more : (a b c : Parts D G) (s : Shape) (ms : Members) (o at : ℕ) (Has : Tree → Type 0) (Have : Trees → Type 0) (gs ks : List (List Part)) (r : Result (Unit {0}) Fault)
      → TypedStores L.seen L.moves options a b s (at + begins false o s) Has gs (Ok tt) → TypedMembersStore L.seen L.moves options b c ms (ends false o s) at Have ks r
      → TypedMembersStore L.seen L.moves options a c (member [] s ms) o at (FirstAnd Has Have) (gs ++ ks) r
  members_more a b c s ms o at Has Have gs ks r h k =
      let enc : Encoding = encoding_by a options in
      let same_enc = handles_encoding a b options h.same in
      let stored = stored_done a b s (at + begins false o s) Has gs h in
      let rest : StoresMembers false (stage_of L.seen L.moves b) (stage_of L.seen L.moves c) (host_texts enc) ms (ends false o s) at Have k.handles k.ending =
      subst (λ (z : Encoding). StoresMembers false (stage_of L.seen L.moves b) (stage_of L.seen L.moves c) (host_texts z) ms (ends false o s) at Have k.handles k.ending) same_enc k.attempt in
      record {
        handles = h.handles ++ k.handles;
        ending = k.ending;
        ends = lower_ends_more ks (gs ++ ks) r k.ending (none_later gs ks) k.ends;
        attempt = aimed.members_cons false (host_texts enc) [] s ms o at Has Have (stage_of L.seen L.moves a) (stage_of L.seen L.moves b) (stage_of L.seen L.moves c) k.ending stored rest;
        passed = cross_then a.ledger b.ledger c.ledger gs ks h.handles k.handles r h.passed k.passed;
        same = handles_then a b c h.same k.same;
        quiet = λ none. ((k.quiet (no_later (has_block s) (have_block ms) none)).0 ∙ (h.quiet (no_first (has_block s) (have_block ms) none)).0, (k.quiet (no_later (has_block s) (have_block ms) none)).1);
        cause = cause_then Has Have (FirstAnd Has Have) (HasLarge enc s) (HaveLarge enc ms) (HaveLarge enc (member [] s ms)) (first_large enc s ms Has Have) r
            (subst (λ (z : Encoding). IfErr r (Cause Have (HaveLarge z ms))) same_enc k.cause);
        small = small_then Has Have (FirstAnd Has Have) (HasLarge enc s) (HaveLarge enc ms) (HaveLarge enc (member [] s ms)) (first_large enc s ms Has Have) r h.small
            (subst (λ (z : Encoding). OnOk r (IsSmall Have (HaveLarge z ms))) same_enc k.small);
      }

  -- the first one ends it
  pub members_end : (a b : Parts D G) (s : Shape) (ms : Members) (o at : ℕ) (Has : Tree → Type 0) (Have : Trees → Type 0) (gs ks : List (List Part)) (e : Fault)
      → TypedStores L.seen L.moves options a b s (at + begins false o s) Has gs (Err e) → TypedMembersStore L.seen L.moves options a b (member [] s ms) o at (FirstAnd Has Have) (gs ++ ks) (Err e)
  members_end a b s ms o at Has Have gs ks e h =
      let enc : Encoding = encoding_by a options in
      record {
        handles = h.handles;
        ending = h.ending;
        ends = lower_ends_more gs (gs ++ ks) (Err e) h.ending (none_first gs ks) h.ends;
        attempt = aimed.members_stop false (host_texts enc) [] s ms o at Has Have (stage_of L.seen L.moves a) (stage_of L.seen L.moves b) h.ending (ends_early gs e h.ending h.ends) h.attempt;
        passed = cross_stop a.ledger b.ledger gs ks h.handles h.handles e h.passed;
        same = h.same;
        quiet = λ none. h.quiet (no_first (has_block s) (have_block ms) none);
        cause = cause_first Has Have (FirstAnd Has Have) (HasLarge enc s) (HaveLarge enc ms) (HaveLarge enc (member [] s ms)) (first_large enc s ms Has Have) e h.cause;
        small = tt;
      }

  pub members_last : (a b : Parts D G) (s : Shape) (o at : ℕ) (Has : Tree → Type 0) (gs : List (List Part)) (r : Result (Unit {0}) Fault) → TypedStores L.seen L.moves options a b s (at + begins false o s) Has gs r
      → TypedMembersStore L.seen L.moves options a b (member [] s no_members) o at (FirstAnd Has NoTrees) (gs ++ []) r
  members_last a b s o at Has gs (Ok tt) h = members_more a b b s no_members o at Has NoTrees gs [] (Ok tt) h (members_nothing b (ends false o s) at h.attempt.lowering.small)
  members_last a b s o at Has gs (Err e) h = members_end a b s no_members o at Has NoTrees gs [] e h

  -- a member alone, at the start
  pub members_one : (a b : Parts D G) (s : Shape) (at : ℕ) (Has : Tree → Type 0) (gs : List (List Part)) (r : Result (Unit {0}) Fault) → TypedStores L.seen L.moves options a b s at Has gs r
      → TypedMembersStore L.seen L.moves options a b (member [] s no_members) 0 at (FirstAnd Has NoTrees) gs r
  members_one a b s at Has gs r h =
      let place : at ≡ at + begins false 0 s = omega (arith, begins_zero s) in
      subst (λ (ks : List (List Part)). TypedMembersStore L.seen L.moves options a b (member [] s no_members) 0 at (FirstAnd Has NoTrees) ks r) (append-nil gs)
      (members_last a b s 0 at Has gs r (subst (λ (n : ℕ). TypedStores L.seen L.moves options a b s n Has gs r) place h))

  -- ---- what they are members of

  pub product_stores : (a c : Parts D G) (s : Shape) (k : ProductKind) (ms : Members) (at : ℕ) (Have : Trees → Type 0) (gs : List (List Part)) (r : Result (Unit {0}) Fault) → s ≡ product k ms → at + size false s ≤ length a.memory
      → TypedMembersStore L.seen L.moves options a c ms 0 at Have gs r → TypedStores L.seen L.moves options a c s at (ProductMeans Have) gs r
  product_stores a c s k ms at Have gs r shape room h = subst (λ (z : Shape). TypedStores L.seen L.moves options a c z at (ProductMeans Have) gs r) (sym shape) (record {
    handles = h.handles;
    ending = h.ending;
    ends = h.ends;
    attempt = aimed.product_stored false (stage_of L.seen L.moves a) (stage_of L.seen L.moves c) (host_texts (encoding_by a options)) k ms at Have (ProductMeans Have) h.ending
        (omega (arith, room, ap (size false) shape, h.attempt.lowering.goes.no_shorter))
        (λ ts have. (ts, refl, have)) (λ t (ts, is, have). subst Have (sym (ap trees_of is)) have) h.attempt;
    passed = h.passed;
    same = h.same;
    quiet = h.quiet;
    cause = cause_as Have (ProductMeans Have) (HaveLarge (encoding_by a options) ms) (HasLarge (encoding_by a options) (product k ms)) r (product_large (encoding_by a options) k ms Have) h.cause;
    small = small_as Have (ProductMeans Have) (HaveLarge (encoding_by a options) ms) (HasLarge (encoding_by a options) (product k ms)) r (product_large (encoding_by a options) k ms Have) h.small;
  })
