-- A session of one call leaves one record.
use Rattle.std.proofs.Common.{◌≡◌, ℕ, List, [], ◌∷◌, None, Option, Some, ap, arith, get_or, length, option_map, refl, subst, sym}
use Rattle.canon_val.specs.declared.val.Val.{Val}
use Rattle.canon_literals.specs.Literals.{literal_view}
use Rattle.canon_script.specs.Script.{Play}
use Rattle.canon_player.specs.Session.{Session}
use Rattle.canon_transcript.specs.declared.transcript.Record.{Record}
use Rattle.canon_gen.specs.Lines.{Generated, gen_text}
use Rattle.canon_gen.specs.Made.{common, script_made, with_call}
use Rattle.canon_gen.specs.Records.{list_drawn}

pub only_one : {X : Type 0} (xs : List X) (x : X) → length xs ≡ 1 → x ≡ get_or xs 0 x → xs ≡ x ∷ []
only_one [] x n e = absurd (omega (arith, n))
only_one (y ∷ []) x n e = ap (λ z. z ∷ []) (sym e)
only_one (y ∷ z ∷ xs) x n e = absurd (omega (arith, n))

one_with_call : (n : ℕ) (p : Play) (records : List Record) → Session (with_call n p) records → (r : Record) × (records ≡ r ∷ [])
one_with_call n p [] h = absurd h
one_with_call n p (r ∷ []) h = (r, refl)
one_with_call n p (r ∷ s ∷ records) h = absurd h.2

module _ (n : ℕ) (play : Play) (records : List Record) (session : Session play records) where
  one_of : (o : Option Play) → option_map (with_call n) o ≡ Some play → (r : Record) × (records ≡ r ∷ [])
  one_of None e = absurd (cc)
  one_of (Some p) e =
      let same : with_call n p ≡ play = cc in
      one_with_call n p records (subst (λ (q : Play). Session q records) (sym same) session)

  pub one_record : script_made n ≡ Some play → (r : Record) × (records ≡ r ∷ [])
  one_record made = one_of common made

  pub generated : script_made n ≡ Some play → (r : Record) → records ≡ r ∷ [] → (given : Val) → literal_view given ≡ list_drawn n
      → (text : List ℕ) → text ≡ gen_text n given r → Generated n records text
  generated made r only given drawn text is = record { play = play; made = made; session = session; call = r; only = only; given = given; drawn = drawn; is = is }
