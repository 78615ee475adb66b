-- The back of a slice of bytes is lent on, and the slice ends as its front and the back's last value.
use mathlib.Core.Path.{◌≡◌, refl, sym, ap}
use Prim.Native.Nat.{ℕ}
use native.Mathlib.Omega.{arith}
use mathlib.Core.List.{List, [], ◌∷◌, ◌++◌}
use lib.ListN.{length, length-append}
use seplogic.Ra.Ura.{Ura}
use mir.Syntax.{Lifetime, erased}
use base.Logic.{SProp, ent, sep, ex}
use base.Stored.{coded_list}
use base.Fml.{Fml, Lft, GName, Share, flft, fobs, fbor}
use types.Logic.{Logic, sem}
use types.Kit.{‵, ◌⊛◌, some, later, ◌$◌, ◌∵◌, !, qed, move, drop, use1, use2, split, split3, group, pick, rewrite, fsplit, fsplit3, fjoin, feq_l, feq_i, show, await, updating, now, done}
use types.SemTy.{cells, Arr, Body}
use types.Mut.{open_ref}
use types.Follow.{takes_part}
use denote.Array.{Array}
use denote.Builtin.{u8}
use denote.Follow.{follows}
use denote.FollowSlice.{heres_id, slice_of}
use denote.Memory.{mem}
use denote.Slice.{MutSlice, Room, slice_val}
use borrow.Table.Elements.{at, cut_app, join_app}
use borrow.Table.Owned.{MutSlice as Owned}

-- what a `&mut` of bytes owns, apart from its machine value
abbrev pub Bytes : Lft → ℕ → ℕ → GName → List ℕ → Fml
Bytes κ b o γ xs = (Owned erased κ u8).own_val (record { ref_ptr = (b, o); ghost_name = γ; now = xs })

module _ {M : Type 1} {𝓤 : Ura M} (𝓛 : Logic 𝓤) (ℓ : Lifetime) (κ : Lft) (q : Share) (b o : ℕ) (γ : GName) where
  open 𝓛 use {H, A}

  module _ (all front back : List ℕ) (cut : all ≡ front ++ back) (p : ℕ) (on : at o (mem u8).size (length front) ≡ p) where
    put_back : (ws : List ℕ) → ent 𝓤 (sep 𝓤 (sem 𝓛 ((Arr (mem u8) (length back)).own_at ws b p)) (sem 𝓛 (cells (mem u8) front b o))) (sem 𝓛 ((Arr (mem u8) (length all)).own_at (front ++ ws) b o))
    put_back ws = qed 𝓛 (‵ ((Arr (mem u8) (length back)).own_at ws b p) ∷ ‵ (cells (mem u8) front b o) ∷ []) ∵ fsplit ! $ feq_l ! (λ e.
        rewrite ! 0 (λ (j : ℕ). ‵ (cells (mem u8) ws b j)) (sym on) refl $ move ! (1 ∷ 0 ∷ []) $
        use2 𝓛 (‵ (cells (mem u8) (front ++ ws) b o)) (join_app 𝓛 (mem u8) front ws b o) $
        feq_i ! ℕ (length (front ++ ws)) (length all) (omega (arith, e, ap length cut, length-append front back, length-append front ws)) $ fjoin ! $ done !)

    -- the back under a new name, the token, and what the slice ends as
    abbrev pub Lent : GName → SProp 𝓤
    Lent δ = sep 𝓤 (sem 𝓛 ((MutSlice ℓ κ u8).own_val (record { ref_ptr = (b, p); ghost_name = δ; now = back }) (slice_val (b, p) (length back) ∷ []))) (sep 𝓤 (A.lft κ q) (sem 𝓛 (follows (Array u8 0) (Array u8 0) γ δ (λ ws. front ++ ws))))

    pub lends_back : Room u8 (length back) → ent 𝓤 (sep 𝓤 (sem 𝓛 (Bytes κ b o γ all)) (A.lft κ q)) (H.⇛ (ex 𝓤 Lent))
    lends_back rm = qed 𝓛 (‵ (Bytes κ b o γ all) ∷ ‵ (flft κ q) ∷ []) ∵ updating ! $ fsplit3 ! $ drop ! $
        rewrite ! 0 (λ (l : List ℕ). ‵ (fobs γ ((coded_list u8.coded).code l))) (heres_id u8 all) refl $ open_ref ! tt (Arr (mem u8) (length all)) {b = b} {o = o} $ fsplit ! $ drop ! $
        rewrite ! 0 (λ (l : List ℕ). ‵ (cells (mem u8) l b o)) cut refl $
        use1 𝓛 (‵ (cells (mem u8) front b o) ⊛ ‵ (cells (mem u8) back b (at o (mem u8).size (length front)))) (cut_app 𝓛 (mem u8) front back b o) $ split ! $
        rewrite ! 1 (λ (j : ℕ). ‵ (cells (mem u8) back b j)) on refl $ move ! (1 ∷ []) $
        feq_i ! ℕ (length back) (length back) refl $ fjoin ! $ move ! (2 ∷ 3 ∷ 4 ∷ 0 ∷ 1 ∷ []) $ group ! 5 $
        use1 𝓛 (later (some (λ (δ : GName). ‵ (fobs δ ((coded_list u8.coded).code back)) ⊛ ‵ (fbor κ (Body (Arr (mem u8) (length back)) b p δ)) ⊛ ‵ (flft κ q) ⊛ ‵ (follows (Array u8 0) (Array u8 0) γ δ (λ ws. front ++ ws)))))
        (takes_part 𝓛 (Arr (mem u8) (length all)) (Arr (mem u8) (length back)) (λ ws. front ++ ws) κ q b o b p γ (sem 𝓛 (cells (mem u8) front b o)) put_back ((coded_list u8.coded).code all) ((coded_list u8.coded).code all) back) $ await ! tt $ pick ! (λ δ. split3 ! $
        use2 𝓛 (‵ ((MutSlice ℓ κ u8).own_val (record { ref_ptr = (b, p); ghost_name = δ; now = back }) (slice_val (b, p) (length back) ∷ []))) (slice_of 𝓛 u8 ℓ κ b p δ back rm) $ now ! $ show ! Lent δ $ done !)
