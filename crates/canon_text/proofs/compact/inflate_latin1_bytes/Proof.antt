-- `inflate_latin1_bytes` lends its slice to `inflate`, takes it back, and lends on what comes behind the units.
use Rattle.std.proofs.Common.{◌≡◌, ℕ, ◌*◌, ◌+◌, ◌-◌, ◌<◌, ◌≤◌, ◌^◌, List, [], ◌∷◌, ◌++◌, refl, ap, ◌∙◌, drop as drop_l, length, w64, MutBor, arith}
use Rattle.std.proofs.lemmas.List.{length-drop}
use Rattle.std.proofs.raw_atomic.Walks.{proved}
use Rattle.canon_text.specs.Answers.{inflated}
use Rattle.canon_text.specs.Writing.{over}
use Rattle.canon_text.proofs.Lending.{Bytes, lends_back}
use base.Fraction.{full_share}
use base.Logic.{id⊢, emp}
use base.Fml.{GName, ftrue, flft}
use mir.Syntax.{named}
use mir.Val.{Val, vint}
use contract.Monad.{fact, fact_i}
use contract.Running.{tables}
use types.Kit.{‵, raw, given, ◌⊛◌, some, later, ◌$◌, ◌∵◌, !, qed, done, move, keep, use0, use1, use2, use3, split, split3, join, fsplit, fsplit3, fjoin, fjoin3, feq_i, feq_l, pick, await, learn, rewrite, suffices, frame, group}
use types.Run.{enter, of_opd, lit, bin, addr, stop, fld, hop, from, no_more, and_then, returns}
use types.Part.{whole, sub, agg}
use types.ByLocal.{alloc_all, pass_all, free_all, look_at, look_in_at, get, get_in, through, sets, lands_as}
use types.Tokens.{lft_new, lft_end}
use denote.Builtin.{u8, u64, usize, unit}
use denote.Array.{Array}
use denote.Exit.{yes, no}
use denote.Follow.{follows}
use denote.Memory.{mem}
use denote.Plain.{uint_Makes, uint_vals, uint_Tells}
use denote.Signature.{plain}
use denote.Slice.{MutSlice, Room, slice_val, mut_slice_vals, mut_slice_Tells}
use denote.Steps.{nothing, owned, heard, only}
use denote.Triple.Call.{calls_at}
use denote.Triple.Clauses.{lasts}
use denote.Triple.Spec.{triple_of}
use denote.Triple.Table.{framed}
use denote.Triple.Walked.{says, Stays, walk_of, stay_dropped, Goes-dropped, Goes-spent_slice, ends_at}
use borrow.Table.Elements.{at, at_mul}
use borrow.Rule.Slice.Lend.{kept_f, sl_relend, sl_relent_backˡ}
use Rattle.canon_text.specs.contracts.compact.inflate_latin1_bytes as f
use Rattle.canon_text.proofs.compact.inflate_latin1_bytes.Statement.{statement}
use Rattle.canon_text.proofs.compact.inflate_latin1_bytes.Code as code
use Rattle.canon_text.specs.contracts.compact.inflate as g
use Rattle.canon_text.proofs.compact.inflate.Met.{met}

abbrev stayed : Stays f.ended.signature.params f.ended.kept
stayed = (stay_dropped _ no, (stay_dropped _ yes, tt))

pub inflate_latin1_bytes_spec : {M : Type 1} → statement M
inflate_latin1_bytes_spec 𝓤 𝓛 𝓜 𝓡 wired =
    let c = f.clauses 𝓛 𝓜.mem 𝓡.returns in let W = walk_of 𝓛 f.ended stayed c in
    proved 𝓛 f.ended stayed c 𝓜 𝓡 (Goes-spent_slice 𝓛 1 (0 ∷ []) tt (plain (λ _. u8)), (Goes-dropped 𝓛 1 (plain (λ _. u64)) yes (λ κs x w. refl), tt))
    f.Key.name code.function (code.unfolded 𝓤 𝓛.H 𝓜 𝓡 wired)
    (λ κs. (mut_slice_vals, (uint_vals w64, tt))) (λ κs. (mut_slice_Tells (named 0) κs.0 u8, (uint_Tells w64, tt))) (λ κs qs bounds a _ are.
    let κ = κs.0 in let q = qs.0 in let r = a.0 in let b = r.ref_ptr.0 in let o = r.ref_ptr.1 in let γ = r.ghost_name in
    let xs : List ℕ = r.now in let m : ℕ = a.1.0 in let vs = mut_slice_vals r in
    let rm : Room u8 (length xs) = are.0.0.1 in let fm : m < 2 ^ 64 = are.1.0.1 in
    let y : W.Ghost = ((κs, qs, bounds, a, (vs, (uint_vals w64 m, tt))), tt) in
    qed 𝓛 (((‵ (flft κ q) ⊛ ‵ ftrue) ⊛ ‵ ((MutSlice (named 0) κ u8).own_val r vs) ⊛ ‵ (u64.own_val m (vint w64 m ∷ [])) ⊛ ‵ ftrue) ∷ raw (fact 𝓤 (2 * m ≤ length xs)) ∷ []) ∵
    split ! $ split ! $ move ! (3 ∷ []) $ heard ! _ (λ le. move ! (2 ∷ []) $ split ! $ keep ! (0 ∷ 2 ∷ []) $
    enter ! _ _ _ _ _ $ alloc_all ! (λ l. pass_all ! refl ((tt, (tt, (record { fits = rm.0 }, tt))), ((tt, record { fits = fm }), tt)) $
    -- [the slice; the token of κ]
    sets ! (of_opd ! (get ! refl)) refl (tt, record { fits = fm }) $
    sets ! (addr ! (from ! (fld ! refl (hop ! (look_in_at ! 1 (sub ! 0 refl (whole !))) (stop !))))) refl (tt, tt) $
    sets ! (agg ! (and_then ! (get ! refl) (and_then ! (get_in ! (fld ! refl (stop !)) (sub ! 1 refl (whole !))) (no_more !)))) refl (tt, (tt, (record { fits = rm.0 }, tt))) $
    fsplit3 ! $ fsplit ! $ feq_l ! (λ _. fjoin3 ! $
    lft_new ! tt (λ α. move ! (1 ∷ 2 ∷ []) $
    use2 𝓛 (later (some (λ (δ : GName). ‵ (Bytes (α ∷ []) b o δ xs) ⊛ kept_f 𝓛 u8 κ q (α ∷ []) γ δ xs b o))) (sl_relend 𝓛 u8 κ q (α ∷ []) b o γ xs) $ await ! tt $ pick ! (λ δ. split ! $
    -- [the loan; what the lender keeps; the token of α]
    let G = triple_of 𝓛 g.signature (g.spec 𝓛 𝓜.mem 𝓡.returns) in
    let lent : MutBor (List ℕ) = record r { ghost_name = δ } in
    let z : G.Ghost = (((α ∷ [], tt), (full_share, tt), tt, (lent, (m, tt)), (vs, (uint_vals w64 m, tt))), tt) in
    fsplit3 ! $ feq_i ! (List Val) vs vs refl $ fjoin ! $ fjoin3 ! $
    nothing ! $ owned ! usize _ (uint_Makes 𝓛 w64) m _ (refl, fm) $ join ! $ move ! (1 ∷ 0 ∷ []) $ join ! $
    nothing ! $ move ! (3 ∷ 0 ∷ []) $ join ! $ join ! $
    use0 𝓛 (raw (fact 𝓤 (2 * m ≤ length xs))) (fact_i 𝓤 _ (emp 𝓤) le) $ move ! (1 ∷ 0 ∷ []) $ use2 𝓛 (raw (G.pre z)) (id⊢ 𝓤 _) $
    calls_at ! (framed 𝓤 𝓛.H 𝓜 (tables 𝓤 𝓛.H 𝓜 𝓡 𝓡.env)) G (met 𝓤 𝓛 𝓜 𝓡 (code.calls-canon_text::compact::inflate 𝓡.env wired)) z
    (and_then ! (get ! refl) (and_then ! (get ! refl) (no_more !))) (λ v.
    use1 𝓛 (later (some (λ (u : Unit {0}). ((‵ (flft (α ∷ []) full_share) ⊛ ‵ ftrue) ⊛ ‵ (unit.own_val u (v ∷ []))) ⊛
    some (λ (ws : List ℕ × (Unit {0} × Unit {0})). ‵ (lasts g.ended z.0.0 z.0.3 ws) ⊛ raw (fact 𝓤 (ws.0 ≡ over xs (inflated xs m))) ⊛ raw (fact 𝓤 (length (inflated xs m) ≡ 2 * m)))))) (id⊢ 𝓤 _) $
    await ! tt $ pick ! (λ u. split ! $ split ! $ split ! $ lft_end ! tt $ move ! (2 ∷ []) $ feq_l ! (λ is_unit.
    lands_as ! (ap only is_unit) refl (tt, tt) $
    -- [α is over; nothing; what was left; what the lender keeps]
    move ! (2 ∷ []) $ pick ! (λ ws. split ! $ move ! (1 ∷ []) $ split ! $ heard ! _ (λ stands. heard ! _ (λ long. fsplit ! $ fsplit ! $ fsplit ! $
    let ys : List ℕ = ws.0 in let front : List ℕ = inflated xs m in let back : List ℕ = drop_l (length front) xs in let p : ℕ = 2 * m + o in
    move ! (4 ∷ 6 ∷ 0 ∷ []) $ use3 𝓛 (later (given (length ys ≡ length xs) (‵ (Bytes κ b o γ ys) ⊛ ‵ (flft κ q)))) (sl_relent_backˡ 𝓛 u8 κ q (α ∷ []) b o γ δ xs ys) $
    await ! tt $ learn ! (λ _. split ! $
    -- [the slice, its units in place; the token of κ; what is over]
    let few : 2 * m < 2 ^ 64 = omega (arith, le, rm.0) in
    let behind : length back ≡ length xs - 2 * m = length-drop (length front) xs ∙ ap (λ (n : ℕ). length xs - n) long in
    let on : at o (mem u8).size (length front) ≡ p = at_mul o (mem u8).size (length front) ∙ omega (arith, long) in
    let room_behind : Room u8 (length back) = (omega (arith, behind, rm.0), omega (arith, behind, rm.1)) in
    sets ! (bin ! (lit ! tt) (get ! refl) (record { fits = few })) refl (tt, record { fits = few }) $
    sets ! (bin ! (get_in ! (fld ! refl (stop !)) (sub ! 0 refl (whole !))) (get ! refl) tt) refl (tt, tt) $
    sets ! (bin ! (get_in ! (fld ! refl (stop !)) (sub ! 1 refl (whole !))) (get ! refl) le) refl (tt, record { fits = omega (arith, rm.0) }) $
    sets ! (addr ! (through ! refl (stop !))) refl (tt, tt) $
    sets ! (agg ! (and_then ! (get ! refl) (and_then ! (get ! refl) (no_more !)))) refl (tt, (tt, (record { fits = omega (arith, rm.0) }, tt))) $
    use2 𝓛 (later (some (λ (ε : GName). ‵ ((MutSlice (named 0) κ u8).own_val (record { ref_ptr = (b, p); ghost_name = ε; now = back }) (slice_val (
      b,
      p,
    ) (length back) ∷ [])) ⊛ ‵ (flft κ q) ⊛ ‵ (follows (Array u8 0) (Array u8 0) γ ε (λ rest. front ++ rest)))))
    (lends_back 𝓛 (named 0) κ q b o γ ys front back stands p on room_behind) $ await ! tt $ pick ! (λ ε. split3 ! $
    let res : MutBor (List ℕ) = record { ref_ptr = (b, p); ghost_name = ε; now = back } in
    rewrite ! 0 (λ (n : ℕ). ‵ ((MutSlice (named 0) κ u8).own_val res (slice_val (b, p) n ∷ []))) behind refl $
    returns ! (look_at ! 0 refl) $ free_all ! refl $ keep ! (0 ∷ 1 ∷ 2 ∷ []) $
    suffices ! _ (ends_at 𝓛 f.ended stayed c y (slice_val (b, p) (length xs - 2 * m)) res (tt, (tt, tt)) (tt, (tt, tt))) $
    nothing ! $ nothing ! $ fjoin ! $ nothing ! $ fjoin ! $ nothing ! $ move ! (3 ∷ 0 ∷ []) $ join ! $ group ! 3 $ frame ! $
    says ! (ap (λ (n : ℕ). drop_l n xs) long) $ done !))))))))))))))
