-- Aims at which another x may stand that is alike: what is read, asked for and given is as before. And values of another memory, lowered.
use Rattle.std.proofs.Common.{Bool, List, None, Option, [], ap, append-nil, arith, inl, length, refl, subst, suc, sym, true, ℕ, ◌%◌, ◌++◌, ◌+◌, ◌<◌, ◌^◌, ◌∙◌, ◌∷◌, ◌≡◌, ◌≤◌}
use Rattle.std.specs.Prelude.{IsFalse}
use Rattle.canon_model.proofs.Layouts.{members_end-le-size}
use Rattle.canon_model.specs.Carrying.{AllRespelled, Respelled}
use Rattle.canon_model.specs.Homes.{IsTextHome, PointsTo, Texts}
use Rattle.canon_model.specs.Layout.{begins, ends, scalar_size, size}
use Rattle.canon_model.specs.Memory.{Block, Within, memory_of, num}
use Rattle.canon_model.specs.Rep.{IsLeast, ScalarIs}
use Rattle.canon_model.specs.Requests.{Request, requests}
use Rattle.canon_model.specs.Leaves.{leaves}
use Rattle.canon_model.specs.Shape.{ListKind, Members, Name, ProductKind, Scalar, Shape, fixed, list, member, own, product, scalar, string}
use Rattle.canon_model.specs.Text.{IsLeastTag, Spells, text_align, text_bytes, text_form}
use Rattle.canon_model.specs.Tree.{Tree, Trees, bits, case, case_of, code_point, handle, items, no_trees, number, parts, text, tree, tree_count, trees_of, truth}
use Rattle.canon_lowering.specs.Stages.{Stage, holding}
use Rattle.canon_memory.specs.Realloc.{block}
use Rattle.canon_lowering.specs.Attempt.{Aim, Attempt, LowersValue, members_at, members_span, value_at, value_place, value_words}
use Rattle.canon_lowering.specs.Carried.{LowersCarried, MembersCarried, StoresCarried, loosened}
use Rattle.canon_lowering.specs.Copies.{copies}
use Rattle.canon_lowering.specs.Lowering.{Answer, Ending, Lowering, Requested, Trap, done, refused}
use Rattle.canon_lowering.specs.Texts.{TextBegun}
use Rattle.canon_lowering.specs.Steps.{Writes}
use Rattle.canon_lowering.proofs.AimedAt.{apart, first_in, fixed_turns, fixed_within, members_join, members_kept, others_in, points_same, scalar_stored, own_stored, value_framed, members_framed}
use Rattle.canon_lowering.proofs.AimedPairs.{list_join, pair_aim, pair_framed, pair_place, string_join}
use Rattle.canon_lowering.proofs.AimedWords.{words_framed}
use Rattle.canon_lowering.proofs.Attempts.{FirstAnd, IsFramed, Joins, Turns, attempt_as, attempt_stop, attempt_then, keeps_same, with_blocks, within_block}
use Rattle.canon_lowering.proofs.Kept.{homes_respelled, members_home_respelled, respelled_trees}
use Rattle.canon_lowering.proofs.Lowerings.{NotDone}
use Rattle.canon_lowering.proofs.TextSteps.{text_end}
use Rattle.canon_lowering.proofs.WordsKept.{flat_homes_respelled}

-- ---- any aims

-- two that join, join where others stand, if what stands in both is alike
pub loose_joins : {X Y Z : Type 0} (K : X → X → Type 0) (L : Y → Y → Type 0) (M : Z → Z → Type 0) (first : Aim X) (second : Aim Y) (whole : Aim Z) (join : X → Y → Z) → Joins first second whole join
    → ((x w : X) (y v : Y) → K x w → L y v → M (join x y) (join w v)) → Joins (loosened K first) (loosened L second) (loosened M whole) join
loose_joins K L M first second whole join joins alike = record {
  is = joins.is;
  split = joins.split;
  asks = joins.asks;
  rep = λ blocks bytes x y (w, k, g) (v, l, h). (join w v, alike x w y v k l, joins.rep blocks bytes w v g h);
  home = joins.home;
  handles = joins.handles;
}

-- the x that one of the aim is alike to
abbrev pub closed : {X : Type 0} → (X → X → Type 0) → Aim X → Aim X
closed {X} R aim = record { Is = λ y. (x : X) × aim.Is x × R x y; asks = aim.asks; Rep = aim.Rep; Home = aim.Home; handles = aim.handles }

-- what is said of another x, of these, is said where others stand
pub loose_turns : {K : Type 0} {X Y : Type 0} (R : X → X → Type 0) (L : Y → Y → Type 0) (wide : Bool) (part whole : List Block) (aim : Aim X) (other : Aim Y) (after : Stage K) → ((x : X) → R x x) → ((y : Y) → L y y)
    → (t : Turns wide part whole (closed R aim) (closed L other) after) → ((x w : X) → R x w → L (t.turn x) (t.turn w)) → ((x : X) → aim.Is x → other.Is (t.turn x)) → ((y : Y) → other.Is y → aim.Is (t.back y))
    → Turns wide part whole (loosened R aim) (loosened L other) after
loose_turns R L wide part whole aim other after kself lself t alike is is_back = record {
  turn = t.turn;
  back = t.back;
  is = is;
  is_back = is_back;
  asks = λ y h. t.asks y (y, h, lself y);
  rep = λ fresh x h (w, k, g). (t.turn w, alike x w k, t.rep fresh w (x, h, k) g);
  home = λ pointer x xs ys h g. t.home pointer x xs ys (x, h, kself x) g;
  handles = λ x h. t.handles x (x, h, kself x);
}

-- what stands as it is told stands where another may
pub loosely : {K : Type 0} {X : Type 0} {hs : List ℕ} (R : X → X → Type 0) (wide : Bool) (a b : Stage K) (places : List Block) (aim : Aim X) (e : Ending) → ((x : X) → R x x)
    → Attempt wide a b places aim hs e → Attempt wide a b places (loosened R aim) hs e
loosely R wide a b places aim e itself h = attempt_as wide a b places places aim (loosened R aim) e (λ i g. g) (record {
  turn = λ x. x;
  back = λ x. x;
  is = λ x is. is;
  is_back = λ x is. is;
  asks = λ x is. refl;
  rep = λ fresh x is g. (x, itself x, g);
  home = λ pointer x xs ys is g. g;
  handles = λ x is. refl;
}) h

-- ---- trees are alike to themselves

mutual
  pub itself : (t : Tree) → Respelled t t
  itself (number z) = refl
  itself (truth b) = refl
  itself (code_point c) = refl
  itself (text cs n) = (n, refl, tt)
  itself (items ts) = (ts, refl, all_themselves ts)
  itself (parts ts) = (ts, refl, all_themselves ts)
  itself (case d) = refl
  itself (case_of d t) = (t, refl, itself t)
  itself (bits bs) = refl
  itself (handle h) = (h, refl, refl)

  pub all_themselves : (ts : Trees) → AllRespelled ts ts
  all_themselves no_trees = refl
  all_themselves (tree t ts) = (t, ts, refl, itself t, all_themselves ts)

-- ---- values and members in memory

pub carried_framed : (wide : Bool) (texts : Texts) (s : Shape) (at : ℕ) (Has : Tree → Type 0) → IsFramed wide (loosened Respelled (value_at wide texts s at Has))
carried_framed wide texts s at Has = record {
  rep = λ blocks more xs ys k t (u, same, h). (u, same, (value_framed wide texts s at Has).rep blocks more xs ys k u h);
  home = λ blocks more xs ys k t ps qs (u, same, h) g. homes_respelled _ true texts xs wide (PointsTo (memory_of ys wide)) (points_same wide texts blocks more xs ys k) s at t u ps qs same h g;
}

pub carried_members_framed : (wide : Bool) (texts : Texts) (ms : Members) (o at : ℕ) (Have : Trees → Type 0) → IsFramed wide (loosened AllRespelled (members_at wide texts ms o at Have))
carried_members_framed wide texts ms o at Have = record {
  rep = λ blocks more xs ys k ts (us, same, h). (us, same, (members_framed wide texts ms o at Have).rep blocks more xs ys k us h);
  home = λ blocks more xs ys k ts ps qs (us, same, h) g. members_home_respelled _ true texts xs wide (PointsTo (memory_of ys wide)) (points_same wide texts blocks more xs ys k) ms o at ts us ps qs same h g;
}

module _ (wide : Bool) (texts : Texts) (name : Name) (s : Shape) (ms : Members) (o at : ℕ) (Has : Tree → Type 0) (Have : Trees → Type 0) where
  carried_join : Joins (loosened Respelled (value_at wide texts s (at + begins wide o s) Has)) (loosened AllRespelled (members_at wide texts ms (ends wide o s) at Have))
      (loosened AllRespelled (members_at wide texts (member name s ms) o at (FirstAnd Has Have))) (λ t ts. tree t ts)
  carried_join = loose_joins Respelled AllRespelled AllRespelled _ _ _ _ (members_join wide texts name s ms o at Has Have) (λ t u ts us k l. (u, us, refl, k, l))

  -- a member was carried, and then the others
  pub carried_cons : {K : Type 0} {hs ks : List ℕ} (a b c : Stage K) (e : Ending) → StoresCarried wide a b texts s (at + begins wide o s) Has hs done → MembersCarried wide b c texts ms (ends wide o s) at Have ks e
      → MembersCarried wide a c texts (member name s ms) o at (FirstAnd Has Have) (hs ++ ks) e
  carried_cons a b c e h r = attempt_then wide a b c _ _ _ _ _ _ _ carried_join (carried_framed wide texts s _ Has) (carried_members_framed wide texts ms _ at Have)
      (first_in wide texts name s ms o at Has Have) (others_in wide texts name s ms o at Has Have) (apart wide texts name s ms o at Has Have) h e r

  -- it wasn't
  pub carried_stop : {K : Type 0} {hs ks : List ℕ} (a b : Stage K) (e : Ending) → NotDone e → StoresCarried wide a b texts s (at + begins wide o s) Has hs e → MembersCarried wide a b texts (member name s ms) o at (FirstAnd Has Have) ks e
  carried_stop a b e not h = attempt_stop wide a b b _ (members_span wide ms (ends wide o s) at ∷ []) _ _ _ _ _ carried_join (carried_framed wide texts s _ Has) (carried_members_framed wide texts ms _ at Have)
      (first_in wide texts name s ms o at Has Have) (others_in wide texts name s ms o at Has Have) (apart wide texts name s ms o at Has Have) e not h

-- members that were carried make up a product
pub product_carried : {K : Type 0} {hs : List ℕ} (wide : Bool) (a c : Stage K) (texts : Texts) (k : ProductKind) (ms : Members) (at : ℕ) (Have : Trees → Type 0) (Has : Tree → Type 0) (e : Ending)
    → at + size wide (product k ms) ≤ length c.bytes
    → ((ts : Trees) → Have ts → Has (parts ts)) → ((t : Tree) → Has t → Have (trees_of t)) → MembersCarried wide a c texts ms 0 at Have hs e → StoresCarried wide a c texts (product k ms) at Has hs e
unfolding requests leaves
product_carried wide a c texts k ms at Have Has e room to from h =
    let within : Within (members_span wide ms 0 at ∷ []) (value_place wide (product k ms) at ∷ []) = within_block _ _ _ _ (omega arith) (omega (arith, members_end-le-size wide k ms)) in
    attempt_as wide a c _ _ (loosened AllRespelled (members_at wide texts ms 0 at Have)) (loosened Respelled (value_at wide texts (product k ms) at Has)) e within (record {
      turn = λ ts. parts ts;
      back = λ t. trees_of t;
      is = to;
      is_back = from;
      asks = λ t is. refl;
      rep = λ fresh ts is (us, same, g). (
        parts us,
        (us, refl, same),
        (
          (room, λ i l u. inl (l, u)),
          (us, refl, members_kept wide texts (members_span wide ms 0 at ∷ fresh) (value_place wide (product k ms) at ∷ fresh) c.bytes c.bytes (keeps_same _ _ _ (with_blocks _ _ fresh within)) ms 0 at us g),
        ),
      );
      home = λ pointer ts xs ys is g. g;
      handles = λ ts is. refl;
    }) h

respelled_count : (ts us : Trees) → AllRespelled ts us → tree_count us ≡ tree_count ts
respelled_count no_trees us h = ap tree_count h
respelled_count (tree t ts) us (u, more, e, k, ks) = ap tree_count e ∙ ap suc (respelled_count ts more ks)

-- and a list of fixed length
pub fixed_carried : {K : Type 0} {hs : List ℕ} (wide : Bool) (a c : Stage K) (texts : Texts) (n : ℕ) (s : Shape) (at : ℕ) (Have : Trees → Type 0) (Has : Tree → Type 0) (e : Ending) → at + size wide (fixed n s) ≤ length c.bytes
    → ((ts : Trees) → Have ts → Has (parts ts) × (tree_count ts ≡ n)) → ((t : Tree) → Has t → Have (trees_of t)) → MembersCarried wide a c texts (copies n s) 0 at Have hs e → StoresCarried wide a c texts (fixed n s) at Has hs e
unfolding fixed_turns
fixed_carried wide a c texts n s at Have Has e room to from h =
    let Have2 : Trees → Type 0 = λ us. (ts : Trees) × Have ts × AllRespelled ts us in
    let Has2 : Tree → Type 0 = λ u. (t : Tree) × Has t × Respelled t u in
    let to2 : (us : Trees) → Have2 us → Has2 (parts us) × (tree_count us ≡ n) = λ us (ts, have, same). ((parts ts, (to ts have).0, (us, refl, same)), respelled_count ts us same ∙ (to ts have).1) in
    let from2 : (u : Tree) → Has2 u → Have2 (trees_of u) = λ u (t, has, same). (trees_of t, from t has, respelled_trees t u same) in
    attempt_as wide a c _ _ (loosened AllRespelled (members_at wide texts (copies n s) 0 at Have)) (loosened Respelled (value_at wide texts (fixed n s) at Has)) e
    (fixed_within wide a c texts n s at Have2 Has2 room to2 from2)
    (loose_turns AllRespelled Respelled wide _ _ (members_at wide texts (copies n s) 0 at Have) (value_at wide texts (fixed n s) at Has) c all_themselves itself
    (fixed_turns wide a c texts n s at Have2 Has2 room to2 from2) (λ ts us same. (us, refl, same)) (λ ts have. (to ts have).0) from) h

-- ---- values that ask for nothing

module _ {K : Type 0} (wide : Bool) (g : Stage K) (xs ys : List ℕ) (texts : Texts) (at : ℕ) (Has : Tree → Type 0) (small : length xs ≤ 2 ^ 32) where
  pub scalar_carried : (k : Scalar) (t : Tree) → at + scalar_size k ≤ length xs → Writes (block at (scalar_size k)) xs ys → ScalarIs k (num (memory_of ys wide) at (scalar_size k)) t
      → IsLeast k (num (memory_of ys wide) at (scalar_size k)) → Has t → StoresCarried wide (holding g xs) (holding g ys) texts (scalar k) at Has [] done
  scalar_carried k t room w is least has = loosely Respelled wide _ _ _ _ done itself (scalar_stored wide g xs ys texts at Has small k t room w is least has)

  -- the handle that the guest is given
  pub own_carried : (r : ℕ) → at + 4 ≤ length xs → Writes (block at 4) xs ys → Has (handle (num (memory_of ys wide) at 4)) → StoresCarried wide (holding g xs) (holding g ys) texts (own r) at Has (num (memory_of ys wide) at 4 ∷ []) done
  own_carried r room w has = loosely Respelled wide _ _ _ _ done itself (own_stored wide g xs ys texts at Has small r room w has)

-- ---- texts

-- A text that was transcoded stands in its block. It is told with k bytes, as it is spelled where it comes from.
pub text_carried : {K : Type 0} (wide : Bool) (a b : Stage K) (texts : Texts) (rs : List Request) (p room n k : ℕ) (cs bytes : List ℕ) (Has : Tree → Type 0) → TextBegun a b rs p room bytes
    → p < 2 ^ 32 → n < 2 ^ 32 → p % text_align texts.encoding ≡ 0
    → length bytes ≡ text_bytes texts.encoding n → Spells (text_form texts.encoding n) bytes cs → IsLeastTag texts.encoding n cs → Has (text cs k) → texts.Long n (text cs k)
    → ((t : Tree) → Has t → texts.asks t ≡ rs) → LowersCarried wide a b texts string (p ∷ n ∷ []) 0 Has [] done
unfolding requests leaves
text_carried wide a b texts rs p room n k cs bytes Has h narrow_pointer narrow_length aligned len spelled least has long asks =
    let exact : LowersValue wide a b (record texts { asks = λ t. rs; Long = λ j t. texts.Long j (text cs k) }) string (p ∷ n ∷ []) 0 (λ t. t ≡ text cs (text_bytes texts.encoding n)) [] done =
    text_end wide a b (record texts { asks = λ t. rs; Long = λ j t. texts.Long j (text cs k) }) rs p room n cs bytes
    (λ t. t ≡ text cs (text_bytes texts.encoding n)) h narrow_pointer narrow_length aligned len spelled least refl long (λ t is. refl) in
    let counted : (xs ys : List ℕ) (t : Tree) → IsTextHome (λ u. rs) t p xs ys → IsTextHome texts.asks (text cs k) p xs ys =
    λ xs ys t home. record { earlier = home.earlier; answers = home.answers; count = home.count ∙ ap length (sym (asks (text cs k) has)) } in
    record {
      answers = exact.answers;
      trap = exact.trap;
      fresh = exact.fresh;
      lowering = exact.lowering;
      requested = λ t is. subst (λ qs. Requested qs done exact.answers exact.trap) (sym (asks t is)) (exact.requested (text cs (text_bytes texts.encoding n)) refl);
      shown = record {
        it = text cs k;
        is = has;
        handles = refl;
        rep = λ all held. (exact.shown.it, (text_bytes texts.encoding n, exact.shown.is, tt), exact.shown.rep all held);
        homes = λ rest. ((exact.shown.homes rest).0, counted _ rest exact.shown.it (exact.shown.homes rest).1);
        memory_homes = λ all held rest. ((exact.shown.memory_homes all held rest).0, counted _ rest exact.shown.it (exact.shown.memory_homes all held rest).1);
      };
    }

-- what was done, and then ended for a fault of what is lowered
ended_late : {K : Type 0} {a b : Stage K} {places fresh : List Block} {answers : List Answer} {trap : Option Trap} → Lowering a b places done answers trap fresh → Lowering a b places refused answers trap fresh
ended_late h = record {
  goes = h.goes;
  moves = h.moves;
  small = h.small;
  lawful = λ calm. h.lawful tt;
  tidy = λ calm. h.tidy tt;
  gained = h.gained;
  cause = h.cause;
  accepted = h.accepted;
}

-- A text whose block is begun is spelled in no way: there is no tree of it.
pub text_spoiled : {K : Type 0} {hs : List ℕ} (wide : Bool) (a b : Stage K) (texts : Texts) (rs : List Request) (p room : ℕ) (bytes : List ℕ) (Has : Tree → Type 0) (ws : List ℕ) (i : ℕ)
    → TextBegun a b rs p room bytes → ((t : Tree) → Has t → ⊥)
    → LowersCarried wide a b texts string ws i Has hs refused
text_spoiled wide a b texts rs p room bytes Has ws i h none = record {
  answers = h.answers;
  trap = None;
  fresh = block p room ∷ [];
  lowering = ended_late h.lowering;
  requested = λ t is. absurd (none t is);
  shown = tt;
}

-- ---- words, and what stands where a pointer and a length point

pub carried_words_framed : (wide : Bool) (texts : Texts) (s : Shape) (ws : List ℕ) (i : ℕ) (Has : Tree → Type 0) → IsFramed wide (loosened Respelled (value_words wide texts s ws i Has))
carried_words_framed wide texts s ws i Has = record {
  rep = λ blocks more xs ys k t (u, same, h). (u, same, (words_framed wide texts s ws i Has).rep blocks more xs ys k u h);
  home = λ blocks more xs ys k t ps qs (u, same, h) g. flat_homes_respelled wide texts blocks more xs ys k ws s i t u ps qs same h g;
}

module _ {K : Type 0} (wide : Bool) (texts : Texts) (at p n : ℕ) (Has : Tree → Type 0) (lp : IsFalse wide → p < 2 ^ 32) (ln : IsFalse wide → n < 2 ^ 32) (a : Stage K) (g : Stage K) (m m2 : List ℕ)
    (w : Attempt wide (holding g m) (holding g m2) (pair_place wide at ∷ []) (pair_aim wide at p n) [] done) where
  -- what is pointed to stands where its pointer and its length were written
  pair_join : (s : Shape) → Joins (value_words wide texts s (p ∷ n ∷ []) 0 Has) (pair_aim wide at p n) (value_at wide texts s at Has) (λ t u. t)
      → Joins (loosened Respelled (value_words wide texts s (p ∷ n ∷ []) 0 Has)) (pair_aim wide at p n) (loosened Respelled (value_at wide texts s at Has)) (λ t u. t)
  pair_join s join = record {
    is = join.is;
    split = join.split;
    asks = join.asks;
    rep = λ blocks bytes t u (v, same, h) k. (v, same, join.rep blocks bytes v u h k);
    home = join.home;
    handles = join.handles;
  }

  pub string_carried : {hs : List ℕ} → LowersCarried wide a (holding g m) texts string (p ∷ n ∷ []) 0 Has hs done → StoresCarried wide a (holding g m2) texts string at Has hs done
  unfolding size
  string_carried {hs = hs} h = subst (λ xs. StoresCarried wide a (holding g m2) texts string at Has xs done) (append-nil hs)
      (attempt_then wide a (holding g m) (holding g m2) [] (pair_place wide at ∷ []) (pair_place wide at ∷ []) _ _ (loosened Respelled (value_at wide texts string at Has)) _ (pair_join string (string_join wide texts at p n Has lp ln))
      (carried_words_framed wide texts string (p ∷ n ∷ []) 0 Has) (pair_framed wide at p n) (λ i q. absurd q) (λ i q. q) (λ i q r. absurd q) h done w)

  pub list_carried : {hs : List ℕ} (k : ListKind) (s : Shape) → LowersCarried wide a (holding g m) texts (list k s) (p ∷ n ∷ []) 0 Has hs done → StoresCarried wide a (holding g m2) texts (list k s) at Has hs done
  unfolding size
  list_carried {hs = hs} k s h = subst (λ xs. StoresCarried wide a (holding g m2) texts (list k s) at Has xs done) (append-nil hs)
      (attempt_then wide a (holding g m) (holding g m2) [] (pair_place wide at ∷ []) (pair_place wide at ∷ []) _ _ (loosened Respelled (value_at wide texts (list k s) at Has)) _ (pair_join (list k s) (list_join wide texts at p n Has lp ln k s))
      (carried_words_framed wide texts (list k s) (p ∷ n ∷ []) 0 Has) (pair_framed wide at p n) (λ i q. absurd q) (λ i q. q) (λ i q r. absurd q) h done w)
