-- Values of another memory, lowered: words, cases, lists in blocks, and a function's parameters.
use Rattle.std.proofs.Common.{Bool, List, [], ap, arith, inl, length, refl, subst, subst₂, sym, true, ℕ, ◌%◌, ◌*◌, ◌++◌, ◌+◌, ◌<◌, ◌^◌, ◌∙◌, ◌∷◌, ◌≡◌, ◌≤◌}
use Rattle.std.specs.Prelude.{IsFalse, slice_index}
use Rattle.std.proofs.Math.Nat.{mod-eq_of_lt}
use Rattle.canon_model.proofs.Layouts.{members_end-le-size, tag-le-size}
use Rattle.canon_model.specs.Carrying.{AllRespelled, Respelled}
use Rattle.canon_model.specs.Fits.{Fits}
use Rattle.canon_model.specs.Flat.{AreZero, CaseFlat, SameWords, max_params}
use Rattle.canon_model.specs.Homes.{CaseFlatHome, CaseHome, Texts}
use Rattle.canon_model.specs.Layout.{align, cases_flat, flat, members_align, members_end, members_flat, payload_offset, size}
use Rattle.canon_model.specs.Leaves.{leaves}
use Rattle.canon_model.specs.Memory.{Block, InsideBlocks, Within, low, memory_of, ptr}
use Rattle.canon_model.specs.Rep.{CaseStored, IsList, Stored}
use Rattle.canon_model.specs.Requests.{anew, case_requests, requests, tuple_request}
use Rattle.canon_model.specs.Shape.{Cases, ListKind, Members, Name, ProductKind, Shape, VariantKind, case_count, fixed, list, member, of_places, product, variant}
use Rattle.canon_model.specs.Tree.{Tree, Trees, case_number, items, list_of_each, no_trees, parts, payload_of, tree, tree_count, trees_of}
use Rattle.canon_lowering.specs.Stages.{Stage}
use Rattle.canon_memory.specs.Realloc.{block}
use Rattle.canon_lowering.specs.Attempt.{Attempt, args_call, args_in, handle_numbers, items_call, members_at, members_span, members_words, value_at, value_place, value_words}
use Rattle.canon_lowering.specs.Carried.{ArgsCarried, LowersCarried, MembersCarried, StoresCarried, WordsCarried, loosened}
use Rattle.canon_lowering.specs.Copies.{case_members, case_tree, copies, paired, payload_trees}
use Rattle.canon_lowering.specs.Lowering.{Ending, Granted, done}
use Rattle.canon_lowering.proofs.AimedCases.{CaseIs, case_aim, case_asks, case_flat, case_flat_home, case_handles, case_home, case_room, case_stored, number_of, tag_aim, tag_apart, tag_framed, tag_span}
use Rattle.canon_lowering.proofs.AimedPairs.{MakesRow}
use Rattle.canon_lowering.proofs.AimedWords.{flat_kept, members_words_framed, words_join}
use Rattle.canon_lowering.proofs.Attempts.{FirstAnd, IsFramed, Joins, attempt_as, attempt_block, attempt_other, attempt_stop, attempt_then, keeps_same, within_block}
use Rattle.canon_lowering.proofs.Copying.{copies_ask, copies_flat_home, copies_in_words, copies_leaves}
use Rattle.canon_lowering.proofs.Loosened.{carried_members_framed, carried_words_framed, loose_joins}
use Rattle.canon_lowering.proofs.Lowerings.{NotDone}
use Rattle.canon_lowering.proofs.Parameters.{asks_far, asks_near}
use Rattle.canon_lowering.proofs.WordsKept.{flat_homes_moved, members_flat_respelled, pair_below, ptr_same}

-- ---- words

pub carried_members_words_framed : (wide : Bool) (texts : Texts) (ms : Members) (ws : List ℕ) (i : ℕ) (Have : Trees → Type 0) → IsFramed wide (loosened AllRespelled (members_words wide texts ms ws i Have))
carried_members_words_framed wide texts ms ws i Have = record {
  rep = λ blocks more xs ys k ts (us, same, h). (us, same, (members_words_framed wide texts ms ws i Have).rep blocks more xs ys k us h);
  home = λ blocks more xs ys k ts ps qs (us, same, h) g. members_flat_respelled wide texts blocks more xs ys k ws ms i ts us ps qs same h g;
}

-- the same words elsewhere
pub carried_words_moved : {K : Type 0} {hs : List ℕ} (wide : Bool) (a b : Stage K) (texts : Texts) (s : Shape) (ws vs : List ℕ) (i j : ℕ) (Has : Tree → Type 0) (e : Ending) → ((t : Tree) → Has t → Fits s t) → SameWords ws i vs j (flat s)
    → LowersCarried wide a b texts s ws i Has hs e → LowersCarried wide a b texts s vs j Has hs e
carried_words_moved wide a b texts s ws vs i j Has e fits same h = attempt_as wide a b [] [] (loosened Respelled (value_words wide texts s ws i Has)) (loosened Respelled (value_words wide texts s vs j Has)) e (λ k q. q) (record {
  turn = λ t. t;
  back = λ t. t;
  is = λ t has. has;
  is_back = λ t has. has;
  asks = λ t has. refl;
  rep = λ fresh t has (u, alike, g). (u, alike, flat_kept wide texts fresh fresh b.bytes b.bytes (keeps_same _ _ _ (λ k q. q)) ws vs s i j u same g);
  home = λ pointer t xs ys has g. flat_homes_moved wide pointer texts ws vs s i j t xs ys (fits t has) same g;
  handles = λ t has. refl;
}) h

module _ (wide : Bool) (texts : Texts) (name : Name) (s : Shape) (ms : Members) (i : ℕ) (Has : Tree → Type 0) (Have : Trees → Type 0) (vs : List ℕ) where
  carried_words_join : Joins (loosened Respelled (value_words wide texts s vs i Has)) (loosened AllRespelled (members_words wide texts ms vs (i + flat s) Have))
      (loosened AllRespelled (members_words wide texts (member name s ms) vs i (FirstAnd Has Have))) (λ t ts. tree t ts)
  carried_words_join = loose_joins Respelled AllRespelled AllRespelled _ _ _ _ (words_join wide texts name s ms i Has Have vs) (λ t u ts us k l. (u, us, refl, k, l))

  pub words_carried_cons : {K : Type 0} {hs ks : List ℕ} (a b c : Stage K) (ws : List ℕ) (e : Ending) → ((t : Tree) → Has t → Fits s t) → SameWords ws i vs i (flat s) → LowersCarried wide a b texts s ws i Has hs done
      → WordsCarried wide b c texts ms vs (i + flat s) Have ks e → WordsCarried wide a c texts (member name s ms) vs i (FirstAnd Has Have) (hs ++ ks) e
  words_carried_cons a b c ws e fits same h r = attempt_then wide a b c [] [] [] _ _ _ _ carried_words_join (carried_words_framed wide texts s vs i Has)
      (carried_members_words_framed wide texts ms vs _ Have) (λ k q. q) (λ k q. q) (λ k q r. q)
      (carried_words_moved wide a b texts s ws vs i i Has done fits same h) e r

  pub words_carried_stop : {K : Type 0} {hs ks : List ℕ} (a b : Stage K) (ws : List ℕ) (e : Ending) → NotDone e → LowersCarried wide a b texts s ws i Has hs e → WordsCarried wide a b texts (member name s ms) vs i (FirstAnd Has Have) ks e
  words_carried_stop {hs = hs} a b ws e not h = attempt_stop wide a b b [] [] [] _ _ _ _ carried_words_join (carried_words_framed wide texts s vs i Has)
      (carried_members_words_framed wide texts ms vs _ Have) (λ k q. q) (λ k q. q) (λ k q r. q) e not
      (attempt_other {ks = hs} wide a b [] _ (loosened Respelled (value_words wide texts s vs i Has)) e not (λ t has. (has, refl)) h)

pub product_words_carried : {K : Type 0} {hs : List ℕ} (wide : Bool) (a c : Stage K) (texts : Texts) (k : ProductKind) (ms : Members) (ws : List ℕ) (i : ℕ) (Have : Trees → Type 0) (Has : Tree → Type 0) (e : Ending)
    → ((ts : Trees) → Have ts → Has (parts ts)) → ((t : Tree) → Has t → Have (trees_of t)) → WordsCarried wide a c texts ms ws i Have hs e → LowersCarried wide a c texts (product k ms) ws i Has hs e
unfolding requests leaves
product_words_carried wide a c texts k ms ws i Have Has e to from h =
    attempt_as wide a c [] [] (loosened AllRespelled (members_words wide texts ms ws i Have)) (loosened Respelled (value_words wide texts (product k ms) ws i Has)) e (λ k q. q) (record {
      turn = λ ts. parts ts;
      back = λ t. trees_of t;
      is = to;
      is_back = from;
      asks = λ t is. refl;
      rep = λ fresh ts is (us, same, g). (parts us, (us, refl, same), (us, refl, g));
      home = λ pointer ts xs ys is g. g;
      handles = λ ts is. refl;
    }) h

pub fixed_words_carried : {K : Type 0} {hs : List ℕ} (wide : Bool) (a c : Stage K) (texts : Texts) (n : ℕ) (s : Shape) (ws : List ℕ) (i : ℕ) (Have : Trees → Type 0) (Has : Tree → Type 0) (e : Ending)
    → ((ts : Trees) → Have ts → Has (parts ts) × (tree_count ts ≡ n)) → ((t : Tree) → Has t → Have (trees_of t)) → WordsCarried wide a c texts (copies n s) ws i Have hs e
    → LowersCarried wide a c texts (fixed n s) ws i Has hs e
unfolding requests leaves
fixed_words_carried wide a c texts n s ws i Have Has e to from h =
    attempt_as wide a c [] [] (loosened AllRespelled (members_words wide texts (copies n s) ws i Have)) (loosened Respelled (value_words wide texts (fixed n s) ws i Has)) e (λ k q. q) (record {
      turn = λ ts. parts ts;
      back = λ t. trees_of t;
      is = λ ts is. (to ts is).0;
      is_back = from;
      asks = λ t is. copies_ask wide texts n s (trees_of t) (to (trees_of t) (from t is)).1;
      rep = λ fresh ts is (us, same, g). let rows = copies_in_words (InsideBlocks fresh (memory_of c.bytes wide)) true texts.encoding (memory_of c.bytes wide) ws n s i us g in
          (parts us, (us, refl, same), record { trees = us; is = refl; count = rows.1; each = rows.0 });
      home = λ pointer ts xs ys is g. copies_flat_home wide texts pointer ws n s i ts xs ys (to ts is).1 g;
      handles = λ ts is. ap handle_numbers (copies_leaves n s ts (to ts is).1);
    }) h

-- ---- cases

case_respelled : (d : ℕ) (ts us : Trees) → AllRespelled ts us → Respelled (case_tree d ts) (case_tree d us)
case_respelled d no_trees us h = ap (λ vs. case_tree d vs) h
case_respelled d (tree t ts) us (u, more, e, k, ks) = (u, ap (λ vs. case_tree d vs) e, k)

pub variant_words_carried : {K : Type 0} {hs : List ℕ} (wide : Bool) (a c : Stage K) (texts : Texts) (k : VariantKind) (cs : Cases) (ws : List ℕ) (i d : ℕ) (Have : Trees → Type 0) (Has : Tree → Type 0) (e : Ending) → d < case_count cs
    → slice_index ws i ≡ d → d < 2 ^ 32 → AreZero ws (i + 1 + members_flat (case_members cs d)) (i + 1 + cases_flat cs) → ((ts : Trees) → Have ts → Has (case_tree d ts) × CaseIs wide texts (case_members cs d) d (case_tree d ts))
    → ((t : Tree) → Has t → (case_number t ≡ d) × Have (payload_trees t) × CaseIs wide texts (case_members cs d) d t) → WordsCarried wide a c texts (case_members cs d) ws (i + 1) Have hs e
    → LowersCarried wide a c texts (variant k cs) ws i Has hs e
unfolding requests
variant_words_carried wide a c texts k cs ws i d Have Has e lt first narrow zeros to from h =
    let tag : low (slice_index ws i) ≡ d = ap low first ∙ mod-eq_of_lt narrow in
    attempt_as wide a c [] [] (loosened AllRespelled (members_words wide texts (case_members cs d) ws (i + 1) Have)) (loosened Respelled (value_words wide texts (variant k cs) ws i Has)) e (λ j q. q) (record {
      turn = λ ts. case_tree d ts;
      back = λ t. payload_trees t;
      is = λ ts have. (to ts have).0;
      is_back = λ t has. (from t has).1;
      asks = λ t has. ap (λ j. case_requests wide texts.asks cs j (payload_of t)) (from t has).0 ∙ case_asks wide texts cs d d t (from t has).2;
      rep = λ fresh ts have (us, same, g). (
        case_tree d us,
        case_respelled d ts us same,
        (
          subst (λ j. CaseFlat (InsideBlocks fresh (memory_of c.bytes wide)) true texts.encoding (memory_of c.bytes wide) ws cs j j (i + 1) (i + 1 + cases_flat cs) (case_tree d us)) (sym tag)
              (case_flat (InsideBlocks fresh (memory_of c.bytes wide)) texts.encoding (memory_of c.bytes wide) ws cs d d (i + 1) (i + 1 + cases_flat cs) us lt zeros g),
          λ q. omega (arith, first, narrow),
        ),
      );
      home = λ pointer ts xs ys have g. (
        first ∙ sym (number_of d ts),
        subst (λ j. CaseFlatHome pointer texts wide ws cs j (i + 1) (i + 1 + cases_flat cs) (payload_of (case_tree d ts)) xs ys) (sym (number_of d ts))
            (case_flat_home wide texts pointer ws cs d d (i + 1) (i + 1 + cases_flat cs) ts xs ys lt zeros (to ts have).1 g),
      );
      handles = λ ts have. case_handles wide texts k cs d ts (to ts have).1;
    }) h

module _ {K : Type 0} (wide : Bool) (texts : Texts) (k : VariantKind) (cs : Cases) (at d : ℕ) (lt : d < case_count cs) (Have : Trees → Type 0) (a b c : Stage K)
    (w : Attempt wide a b (tag_span wide texts cs at ∷ []) (tag_aim wide texts cs at d) [] done) where
  abbrev there : ℕ
  there = at + payload_offset wide cs

  carried_case_join : Joins (tag_aim wide texts cs at d) (loosened AllRespelled (members_at wide texts (case_members cs d) 0 there Have)) (loosened AllRespelled (case_aim wide texts cs at d Have)) (λ u ts. ts)
  carried_case_join = record {
    is = λ u ts x have. have;
    split = λ ts have. (tt, ts, refl, tt, have);
    asks = λ u ts. refl;
    rep = λ blocks bytes u ts (r, e) (us, same, h). (us, same, (e, h));
    home = λ pointer u ts xs zs ys e h. subst (λ us. (case_aim wide texts cs at d Have).Home pointer ts us ys) (sym e) h;
    handles = λ u ts. refl;
  }

  pub variant_carried : {hs : List ℕ} (Has : Tree → Type 0) (e : Ending) → at + size wide (variant k cs) ≤ length c.bytes → ((ts : Trees) → Have ts → Has (case_tree d ts) × CaseIs wide texts (case_members cs d) d (case_tree d ts))
      → ((t : Tree) → Has t → (case_number t ≡ d) × Have (payload_trees t) × CaseIs wide texts (case_members cs d) d t) → MembersCarried wide b c texts (case_members cs d) 0 there Have hs e
      → StoresCarried wide a c texts (variant k cs) at Has hs e
  unfolding requests
  variant_carried Has e room to from r =
      let whole : List Block = value_place wide (variant k cs) at ∷ [] in
      attempt_as wide a c whole whole (loosened AllRespelled (case_aim wide texts cs at d Have)) (loosened Respelled (value_at wide texts (variant k cs) at Has)) e (λ i q. q) (record {
        turn = λ ts. case_tree d ts;
        back = λ t. payload_trees t;
        is = λ ts have. (to ts have).0;
        is_back = λ t has. (from t has).1;
        asks = λ t has. ap (λ i. case_requests wide texts.asks cs i (payload_of t)) (from t has).0 ∙ case_asks wide texts cs d d t (from t has).2;
        rep = λ fresh ts have (us, same, (tag, h)). (
          case_tree d us,
          case_respelled d ts us same,
          (
            (room, λ i l u. inl (l, u)),
            subst (λ i. CaseStored (InsideBlocks (whole ++ fresh) (memory_of c.bytes wide)) true texts.encoding (memory_of c.bytes wide) cs i i there (case_tree d us)) (sym tag)
                (case_stored (InsideBlocks (whole ++ fresh) (memory_of c.bytes wide)) true texts.encoding (memory_of c.bytes wide) cs d d there us lt h),
          ),
        );
        home = λ pointer ts xs ys have h. subst (λ i. CaseHome pointer texts wide cs i there (payload_of (case_tree d ts)) xs ys) (sym (number_of d ts)) (case_home wide texts pointer cs d d there ts xs ys (to ts have).1 h);
        handles = λ ts have. case_handles wide texts k cs d ts (to ts have).1;
      }) (attempt_then wide a b c (tag_span wide texts cs at ∷ []) (members_span wide
      (case_members cs d) 0 there ∷ []) whole _ _ _ _ carried_case_join (tag_framed wide texts cs at d) (carried_members_framed wide texts (case_members cs d) 0 there Have)
      (within_block _ _ _ _ (omega arith) (omega (arith, tag-le-size wide k cs))) (within_block _ _ _ _ (omega arith) (omega (arith, case_room wide texts k cs d lt)))
      (λ i q r. tag_apart wide texts cs at (members_end wide 0 (case_members cs d)) i q r) w e r)

-- ---- lists, in a block of their own

paired_respelled : (ts us : Trees) → AllRespelled ts us → AllRespelled (paired ts) (paired us)
paired_respelled no_trees us h = ap paired h
paired_respelled (tree t no_trees) us (u, more, e, k, none) = ap (λ vs. paired vs) e ∙ ap (λ vs. paired (tree u vs)) none
paired_respelled (tree t (tree w ts)) us (u, more, e, k, (v, rest, f, l, ks)) =
    (parts (tree u (tree v no_trees)), paired rest, ap (λ vs. paired vs) e ∙ ap (λ vs. paired (tree u vs)) f, (tree u (tree v no_trees), refl, (u, tree v no_trees, refl, k, (v, no_trees, refl, l, refl))), paired_respelled ts rest ks)

pub rows_carried : {K : Type 0} {hs : List ℕ} (wide : Bool) (a b c : Stage K) (texts : Texts) (k : ListKind) (s : Shape) (n p all : ℕ) (ms : Members) (group : Trees → Trees) (back : Tree → Trees) (row : MakesRow wide texts s n ms all group)
    (Have : Trees → Type 0) (Has : Tree → Type 0) (e : Ending) → length b.bytes ≤ 2 ^ 32 → (g : Granted a b (items_call wide s n) p) → (IsFalse wide → n < 2 ^ 32) → ((ts us : Trees) → AllRespelled ts us → AllRespelled (group ts) (group us))
    → ((ts : Trees) → Have ts → Has (items (group ts)) × (tree_count ts ≡ all)) → ((t : Tree) → Has t → Have (back t) × (trees_of t ≡ group (back t))) → MembersCarried wide b c texts ms 0 p Have hs e
    → LowersCarried wide a c texts (list k s) (p ∷ n ∷ []) 0 Has hs e
unfolding requests leaves
rows_carried wide a b c texts k s n p all ms group back row Have Has e small g few alike to from r =
    let span : Within (members_span wide ms 0 p ∷ []) (block p (n * size wide s) ∷ []) = within_block _ _ _ _ (omega arith) (omega (arith, row.room)) in
    attempt_block wide a b c (items_call wide s n) p (members_span wide ms 0 p ∷ []) (loosened AllRespelled (members_at wide texts ms 0 p Have))
    (loosened Respelled (value_words wide texts (list k s) (p ∷ n ∷ []) 0 Has)) e refl small g (carried_members_framed wide texts _ 0 p Have)
    span (record {
      turn = λ ts. items (group ts);
      back = back;
      is = λ ts is. (to ts is).0;
      is_back = λ t is. (from t is).0;
      asks = λ t is.
          let (have, same) = from t is in
          let all_of : tree_count (back t) ≡ all = (to (back t) have).1 in
          let count : tree_count (trees_of t) ≡ n = ap tree_count same ∙ row.count (back t) all_of in (
            anew (align wide s) (tree_count (trees_of t) * size wide s),
            ap (λ rs. anew (align wide s) (tree_count (trees_of t) * size wide s) ∷ rs) (ap (λ us. list_of_each (λ u. requests wide texts.asks s u) us) same ∙ row.asks (back t) all_of),
            λ last. ap (λ j. items_call wide s j) (sym count),
          );
      rep = λ blocks ts is w (us, same, h).
          let inside : InsideBlocks blocks (memory_of c.bytes wide) p (n * size wide s) = (omega (arith, g.inside, r.lowering.goes.no_shorter), λ i l u. w i (inl (l, u))) in
          let rows = row.stored (InsideBlocks blocks (memory_of c.bytes wide)) c.bytes p us (λ b l u. (omega (arith, u, inside.0), λ i l2 u2. inside.1 i (omega (arith, l, l2)) (omega (arith, u, u2)))) h in (
            items (group us),
            (group us, refl, alike ts us same),
            (
              subst₂ (λ q j. IsList (InsideBlocks blocks (memory_of c.bytes wide)) true texts.encoding (memory_of c.bytes wide) (Stored (InsideBlocks blocks (memory_of c.bytes wide)) true texts.encoding (memory_of c.bytes wide) s) s q j (items (group us)))
                  (sym (ptr_same wide c.bytes p (λ nar. g.narrow))) (sym (ptr_same wide c.bytes n few)) (record {
                    trees = group us;
                    is = refl;
                    count = row.count us rows.1;
                    aligned = g.aligned;
                    inside = inside;
                    each = rows.0;
                  }),
              λ st nar. pair_below p n g.narrow (few nar),
            ),
          );
      home = λ pointer ts xs ys is h. (xs, refl, sym (row.count ts (to ts is).1), row.home pointer p ts xs ys (to ts is).1 h);
      handles = λ ts is. ap handle_numbers (row.leaves_same ts (to ts is).1);
    }) r

-- ---- a function's parameters

module _ (wide : Bool) (texts : Texts) (ms : Members) (Have Have2 : Trees → Type 0) (to : (ts : Trees) → Have ts → Have2 ts) (from : (ts : Trees) → Have2 ts → Have ts) where
  pub args_carried_near : {K : Type 0} {hs : List ℕ} (a c : Stage K) (ws : List ℕ) (e : Ending) → members_flat ms ≤ max_params → length ws ≡ members_flat ms
      → WordsCarried wide a c texts ms ws 0 Have hs e → ArgsCarried wide a c texts ms Have2 ws hs e
  args_carried_near a c ws e near count h = attempt_as wide a c [] [] (loosened AllRespelled (members_words wide texts ms ws 0 Have)) (loosened AllRespelled (args_in wide texts ms ws Have2)) e (λ i q. q) (record {
    turn = λ ts. ts;
    back = λ ts. ts;
    is = to;
    is_back = from;
    asks = λ ts have. asks_near wide texts ms Have Have2 ts near;
    rep = λ fresh ts is (us, same, g). (us, same, record { near = λ l. (count, g); far = λ l. absurd (omega (arith, near, l)) });
    home = λ pointer ts xs ys is g. record { near = λ l. g; far = λ l. absurd (omega (arith, near, l)) };
    handles = λ ts is. refl;
  }) h

  pub args_carried_far : {K : Type 0} {hs : List ℕ} (a b c : Stage K) (p : ℕ) (e : Ending) → max_params < members_flat ms → length b.bytes ≤ 2 ^ 32 → (g : Granted a b (args_call wide ms) p) → MembersCarried wide b c texts ms 0 p Have hs e
      → ArgsCarried wide a c texts ms Have2 (p ∷ []) hs e
  args_carried_far a b c p e far small g r =
      let span : Within (members_span wide ms 0 p ∷ []) (block p (size wide (product of_places ms)) ∷ []) = within_block _ _ _ _ (omega arith) (omega (arith, members_end-le-size wide of_places ms)) in
      let same : ptr (memory_of c.bytes wide) p ≡ p = ptr_same wide c.bytes p (λ nar. g.narrow) in
      attempt_block wide a b c (args_call wide ms) p (members_span wide ms 0 p ∷ []) (loosened AllRespelled (members_at wide texts ms 0 p Have))
      (loosened AllRespelled (args_in wide texts ms (p ∷ []) Have2)) e refl small g (carried_members_framed wide texts ms 0 p Have) span (record {
        turn = λ ts. ts;
        back = λ ts. ts;
        is = to;
        is_back = from;
        asks = λ ts have. (tuple_request wide texts.asks ms, asks_far wide texts ms Have Have2 ts far, λ last. refl);
        rep = λ blocks ts is w (us, alike, h). (
          us,
          alike,
          record {
            near = λ l. absurd (omega (arith, far, l));
            far = λ l. (
              refl,
              record {
                aligned = subst (λ q. q % members_align wide ms ≡ 0) (sym same) g.aligned;
                stored = subst (λ q. Stored (InsideBlocks blocks (memory_of c.bytes wide)) true texts.encoding (memory_of c.bytes wide) (product of_places ms) q (parts us)) (sym same)
                    ((omega (arith, g.inside, r.lowering.goes.no_shorter), λ i lo up. w i (inl (lo, up))), (us, refl, h));
                narrow = λ st nar. g.narrow;
              },
            );
          },
        );
        home = λ pointer ts xs ys is h. record { near = λ l. absurd (omega (arith, far, l)); far = λ l. (xs, refl, h) };
        handles = λ ts is. refl;
      }) r
