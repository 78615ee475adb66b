-- A note is lifted a field after the other.
use Rattle.std.proofs.Common.{◌≡◌, ◌+◌, ◌%◌, Err, List, Ok, Result, ap, arith, codes, false, refl, subst, sym, true, Global, String, ℕ}
use Rattle.canon_context.specs.Core.{Parts, component_types}
use Rattle.canon_context.specs.declared.fault.Fault.{Fault}
use Rattle.canon_ledger.specs.Ledger.{LedgerState}
use Rattle.canon_lift_parts.proofs.MemberSteps.{member_refused, others_refused, spot_of}
use Rattle.canon_lowering.specs.Storing.{narrow}
use Rattle.canon_model.specs.Layout.{align, flat}
use Rattle.canon_model.specs.Shape.{Shape, no_members, string}
use Rattle.canon_types.specs.Instance.{Instance}
use Rattle.canon_types.specs.Table.{shape_of}
use Rattle.canon_types.specs.declared.types.InterfaceType.{InterfaceType}
use Rattle.canon_typed.specs.Meaning.{TextMeans}
use Rattle.canon_reading.specs.Reading.{Lifts, Setting, setting_in}
use Rattle.canon_reading.specs.Readings.{none_reading, text_charge}
use Rattle.canon_reading.specs.Rests.{rest_reading}
use Rattle.canon_reading.specs.Spots.{HasRoom, Rest, Spot, first_spot, flat_in, others, spot_members, stored}
use Rattle.canon_reading.specs.Taken.{tree_taken}
use Rattle.canon_example_record.specs.Laws.{note_shape_is}
use Rattle.canon_example_record.specs.Notes.{IsNoteType, fields_reading, note_members, note_reading, note_shape, score_reading, scores_reading, title_reading}
use Rattle.canon_example_record.specs.declared.note.Note.{Note}
use Rattle.canon_example_record.proofs.Lowering.{at_score, at_start, score_members, score_shape}

-- with a title: the note, or why there is no score
abbrev pub with_title : String Global → Result ℕ Fault → Result Note Fault
with_title title (Ok score) = Ok (record { title = title; score = score })
with_title title (Err e) = Err e

-- of a title at a spot, and a score at the one behind it
module _ (w : Setting) (from : Rest) (before : LedgerState) (fuel : ℕ) where
  abbrev pub title_spot : Spot
  title_spot = first_spot w.memory string from

  abbrev pub behind_title : Rest
  behind_title = others w.memory string from

  abbrev pub score_spot : Spot
  score_spot = first_spot w.memory score_shape behind_title

  abbrev pub Fields : Result Note Fault → LedgerState → ℕ → Type 0
  Fields r after left = Lifts (rest_reading fields_reading from note_members) w (spot_of from) note_shape before fuel r after left

  pub title_refused : (e : Fault) (after : LedgerState) (left : ℕ) → Lifts title_reading w title_spot string before fuel (Err e) after left → Fields (Err e) after left
  title_refused e after left r = member_refused (λ (n : Note). n.title) (λ n. n) title_reading scores_reading w from (codes "title") string score_members note_shape before fuel e after left r

  pub score_lifted : (title : String Global) (mid : LedgerState) (now : ℕ) → Lifts title_reading w title_spot string before fuel (Ok title) mid now → (r : Result ℕ Fault) (after : LedgerState) (left : ℕ)
      → Lifts score_reading w score_spot score_shape mid now r after left → Fields (with_title title r) after left
  score_lifted title mid now (read, spent) (Ok score) after left (scored, free) = ((mid, read, (after, scored, refl)), omega (arith, spent, free))
  score_lifted title mid now (read, spent) (Err e) after left r =
      others_refused (λ (n : Note). n.title) (λ n. n) title_reading scores_reading w from (codes "title") string score_members note_shape before fuel
      (tree_taken TextMeans text_charge true) title mid now read spent e after left score_shape
      (member_refused (λ (n : Note). n.score) (λ n. n) score_reading none_reading w behind_title (codes "score") score_shape no_members score_shape mid now e after left r)

-- the fields are the note's
fields_of : (w : Setting) (at : Spot) (before : LedgerState) (fuel : ℕ) (r : Result Note Fault) (after : LedgerState) (left : ℕ) → HasRoom w.memory at note_shape
    → Lifts (rest_reading fields_reading (spot_members at) note_members) w at note_shape before fuel r after left → Lifts note_reading w at note_shape before fuel r after left
fields_of w at before fuel (Ok n) after left room (read, spent) = ((room, read), spent)
fields_of w at before fuel (Err e) after left room h = record { cause = h.cause; memory = h.memory; stops = h.stops; falls = h.falls }

spot_is : (at : Spot) → spot_of (spot_members at) ≡ at
spot_is (stored a) = refl
spot_is (flat_in ws i) = refl

-- ---- by the calls of a core

module _ {D G : Type 0} (a : Parts D G) (o : ℕ) (type : InterfaceType) (f : IsNoteType a.component.types type) (fuel : ℕ) (at next : Spot) (room : HasRoom (narrow a.memory) at (shape_of (component_types a) type))
    (starts : title_spot (setting_in a o) (spot_members at) a.ledger fuel ≡ at) (goes_on : score_spot (setting_in a o) (spot_members at) a.ledger fuel ≡ next) where
  whole : (r : Result Note Fault) (after : LedgerState) (left : ℕ) → Fields (setting_in a o) (spot_members at) a.ledger fuel r after left
      → Lifts note_reading (setting_in a o) at (shape_of (component_types a) type) a.ledger fuel r after left
  whole r after left h =
      let is = note_shape_is a.component.types type f in
      subst (λ (s : Shape). Lifts note_reading (setting_in a o) at s a.ledger fuel r after left) (sym is)
      (fields_of (setting_in a o) at a.ledger fuel r after left (subst (λ (s : Shape). HasRoom (narrow a.memory) at s) is room)
      (subst (λ (p : Spot). Lifts (rest_reading fields_reading (spot_members at) note_members) (setting_in a o) p note_shape a.ledger fuel r after left) (spot_is at) h))

  pub note_refused : (e : Fault) (after : LedgerState) (left : ℕ) → Lifts title_reading (setting_in a o) at string a.ledger fuel (Err e) after left
      → Lifts note_reading (setting_in a o) at (shape_of (component_types a) type) a.ledger fuel (Err e) after left
  note_refused e after left h = whole (Err e) after left (title_refused (setting_in a o) (spot_members at) a.ledger fuel e after left
      (subst (λ (p : Spot). Lifts title_reading (setting_in a o) p string a.ledger fuel (Err e) after left) (sym starts) h))

  pub note_lifted : (title : String Global) (b : Parts D G) (now : ℕ) → b ≡ record a { ledger = b.ledger } → (o2 : ℕ) → o2 ≡ o → Lifts title_reading (setting_in a o) at string a.ledger fuel (Ok title) b.ledger now
      → (r : Result ℕ Fault) (after : LedgerState) (left : ℕ) → Lifts score_reading (setting_in b o2) next score_shape b.ledger now r after left
      → Lifts note_reading (setting_in a o) at (shape_of (component_types a) type) a.ledger fuel (with_title title r) after left
  note_lifted title b now same o2 eo one r after left two =
      whole (with_title title r) after left (score_lifted (setting_in a o) (spot_members at) a.ledger fuel title b.ledger now
      (subst (λ (p : Spot). Lifts title_reading (setting_in a o) p string a.ledger fuel (Ok title) b.ledger now) (sym starts) one) r after left
      (subst (λ (p : Spot). Lifts score_reading (setting_in a o) p score_shape b.ledger now r after left) (sym goes_on)
      (subst (λ (n : ℕ). Lifts score_reading (setting_in a n) next score_shape b.ledger now r after left) eo
      (subst (λ (z : Parts D G). Lifts score_reading (setting_in z o2) next score_shape b.ledger now r after left) same two))))

-- ---- where they stand

module _ {D G : Type 0} (a : Parts D G) (o fuel : ℕ) where
  pub title_stored : (at : ℕ) → title_spot (setting_in a o) (spot_members (stored at)) a.ledger fuel ≡ stored at
  title_stored at = ap stored (sym (at_start at))

  pub score_stored : (at : ℕ) → score_spot (setting_in a o) (spot_members (stored at)) a.ledger fuel ≡ stored (at + 8)
  score_stored at = ap stored (sym (at_score at))

  pub score_in_words : (ws : List ℕ) (i : ℕ) → score_spot (setting_in a o) (spot_members (flat_in ws i)) a.ledger fuel ≡ flat_in ws (i + 2)
  unfolding flat
  score_in_words ws i = refl

module _ (i : Instance) (type : InterfaceType) (f : IsNoteType i type) (at : ℕ) (aligned : at % align false (shape_of i.types type) ≡ 0) where
  by_four : at % 4 ≡ 0
  unfolding align
  by_four = subst (λ (s : Shape). at % align false s ≡ 0) (note_shape_is i type f) aligned

  pub title_aligned : at % align false string ≡ 0
  unfolding align
  title_aligned = by_four

  pub score_aligned : (at + 8) % align false score_shape ≡ 0
  unfolding align
  score_aligned = omega (arith, by_four)
