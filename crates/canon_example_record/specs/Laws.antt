-- The laws of a note, by those of its fields.
use Rattle.std.proofs.Common.{[], ◌∷◌, ◌≡◌, ◌∙◌, List, ap, refl, subst, sym, true}
use Rattle.canon_ledger.specs.Ledger.{LedgerState}
use Rattle.canon_lower_parts.specs.Given.{AreGivenBy, IsGiven}
use Rattle.canon_lower_parts.specs.Gives.{no_handles}
use Rattle.canon_model.specs.Leaves.{Leaf, flat_leaves, leaves, reach_leaves}
use Rattle.canon_model.specs.Reach.{At, Kind}
use Rattle.canon_model.specs.Shape as shape
use Rattle.canon_model.specs.Shape.{Shape}
use Rattle.canon_model.specs.Tree.{Tree, parts, text_length, tree}
use Rattle.canon_types.specs.Instance.{Instance}
use Rattle.canon_types.specs.Table.{shape_of}
use Rattle.canon_types.specs.declared.types.InterfaceType.{InterfaceType}
use Rattle.canon_types.specs.declared.types.InterfaceType.TheVariants as ty
use Rattle.canon_typed.specs.Charges.{free}
use Rattle.canon_typed.specs.Meaning.{FirstAnd, NoTrees, TextMeans}
use Rattle.canon_typed.specs.Scalars.{scalar_of}
use Rattle.canon_typed.specs.Trees.{IsTreeOf}
use Rattle.canon_typed.specs.Typed.{IsTyped}
use Rattle.canon_reading.specs.Apart.{IsApart, end_apart, more_apart, product_apart, tree_apart}
use Rattle.canon_reading.specs.OfTrees.{AreSteps, IsFaulted, IsOfTrees, IsPriced, scalar_priced, scalar_told, text_priced, text_told}
use Rattle.canon_reading.specs.Reading.{AreTaken, Setting}
use Rattle.canon_reading.specs.Readings.{none_reading, text_charge}
use Rattle.canon_reading.specs.RowsOfTrees.{AreOfTrees, ArePriced, end_priced, end_told, more_priced, more_told}
use Rattle.canon_reading.specs.Scopes.{AllKeep, IsKept, none_kept}
use Rattle.canon_reading.specs.Spots.{Faulty, Represents, Spot, flat_in, spot_members, stored}
use Rattle.canon_reading.specs.Taken.{end_taken, more_taken, product_taken, scalar_taken, tree_taken}
use Rattle.canon_example_record.specs.Notes.{IsNoteType, IsScore, NoteMeans, fields_reading, note_cost, note_reading, note_shape, score_reading, scores_reading, title_reading}
use Rattle.canon_example_record.specs.declared.note.Note.{Note}

pub note_shape_is : (i : Instance) (type : InterfaceType) → IsNoteType i type → shape_of i.types type ≡ note_shape
note_shape_is i (ty.Record x) d = d.shape
note_shape_is i _ d = absurd d

-- ---- of its trees

note_trees : (n : Note) (u : Tree) → NoteMeans n u → IsTreeOf note_shape u
note_trees n u (ts, e, (t, us, e2, text, (v, vs, e3, score, none))) = (ts, e, (t, us, e2, (text.0, text.1, text.2, text.3.can), (v, vs, e3, (n.score, score), none)))

pub note_typed : IsTyped IsNoteType NoteMeans
note_typed n i type u f h = subst (λ (s : Shape). IsTreeOf s u) (sym (note_shape_is i type f)) (note_trees n u h)

-- it has no handles
no_leaves : (n : Note) (u : Tree) → NoteMeans n u → leaves note_shape u ≡ []
unfolding leaves
no_leaves n u (ts, e, (t, us, e2, text, (v, vs, e3, score, none))) = ap (λ x. leaves note_shape x) (e ∙ ap parts (e2 ∙ ap (tree t) (e3 ∙ ap (tree v) none)))

none_given_by : (i : Instance) → AreGivenBy i [] []
none_given_by i = tt

pub note_given : IsGiven IsNoteType NoteMeans no_handles
note_given n i type u f h =
    subst (λ (s : Shape). AreGivenBy i (leaves s u) []) (sym (note_shape_is i type f))
    (subst (λ (ls : List Leaf). AreGivenBy i ls []) (sym (no_leaves n u h)) (none_given_by i))

-- ---- of what is read

keeps : (w : Setting) (at : Spot) → AllKeep (note_reading.steps w at note_shape)
keeps w at = none_kept

pub note_kept : IsKept IsNoteType note_reading
note_kept = record { kept = λ w at type f none. subst (λ (s : Shape). AllKeep (note_reading.steps w at s)) (sym (note_shape_is w.types type f)) (keeps w at) }

pub note_taken : AreTaken note_reading
note_taken = product_taken (λ n. n) fields_reading (more_taken (λ (n : Note). n.title) (λ n. n) title_reading scores_reading (tree_taken TextMeans text_charge true)
    (more_taken (λ (n : Note). n.score) (λ n. n) score_reading none_reading (scalar_taken IsScore) end_taken))

pub note_apart : IsApart note_reading
note_apart = product_apart (λ n. n) (more_apart {first = λ (n : Note). n.title} {others_of = λ (n : Note). n} {R = title_reading} {S = scores_reading} (tree_apart {Lifts = TextMeans})
    (more_apart {first = λ (n : Note). n.score} {others_of = λ (n : Note). n} {R = score_reading} {S = none_reading} (tree_apart {Lifts = IsScore}) end_apart))

note_faulty : (w : Setting) (at : Spot) (k : Kind) (x : At) → note_reading.faults w at note_shape k x → Faulty w.memory w.encoding at note_shape k x
note_faulty w (stored a) k x h = h
note_faulty w (flat_in ws i) k x h = h

pub note_faulted : IsFaulted IsNoteType note_reading
note_faulted = record {
  faults = λ w at type k x f h. let e = note_shape_is w.types type f in
      subst (λ (s : Shape). Faulty w.memory w.encoding at s k x) (sym e) (note_faulty w at k x (subst (λ (s : Shape). note_reading.faults w at s k x) e h));
}

-- the types of the fields, in order
abbrev fields_fit : List (Instance → InterfaceType → Type 0)
fields_fit = (λ i t. t ≡ ty.String) ∷ (λ i t. t ≡ ty.U32) ∷ []

abbrev types : List InterfaceType
types = ty.String ∷ ty.U32 ∷ []

fields_priced : ArePriced fields_fit fields_reading (text_length ∷ free ∷ [])
fields_priced = more_priced {first = λ (n : Note). n.title} {others_of = λ (n : Note). n} {R = title_reading} {S = scores_reading} (text_priced (λ w at s. refl))
    (more_priced {first = λ (n : Note). n.score} {others_of = λ (n : Note). n} {R = score_reading} {S = none_reading} (scalar_priced {Lifts = IsScore} free refl) end_priced)

note_reached : (w : Setting) (at : Spot) (u : Tree) → Represents w.memory w.encoding at note_shape u → note_reading.reach w at note_shape ≡ note_cost u
note_reached w (stored a) u (room, (ts, is, each)) = fields_priced.reach w (spot_members (stored a)) types ts (refl, (refl, tt)) each ∙ ap (λ (x : Tree). note_cost x) (sym is)
note_reached w (flat_in ws i) u (ts, is, each) = fields_priced.reach w (spot_members (flat_in ws i)) types ts (refl, (refl, tt)) each ∙ ap (λ (x : Tree). note_cost x) (sym is)

pub note_priced : IsPriced IsNoteType note_reading note_cost
note_priced = record {
  reach = λ w at type u f rep. let e = note_shape_is w.types type f in
      subst (λ (s : Shape). note_reading.reach w at s ≡ note_cost u) (sym e) (note_reached w at u (subst (λ (s : Shape). Represents w.memory w.encoding at s u) e rep));
}

fields_told : AreOfTrees fields_fit fields_reading (λ n. FirstAnd (TextMeans n.title) (FirstAnd (IsScore n.score) NoTrees))
fields_told = more_told {first = λ (n : Note). n.title} {others_of = λ (n : Note). n} {R = title_reading} {S = scores_reading} {Lifts = TextMeans} text_told
    (more_told {first = λ (n : Note). n.score} {others_of = λ (n : Note). n} {R = score_reading} {S = none_reading} {Lifts = IsScore} (scalar_told shape.u32 (scalar_of ty.U32 shape.u32 (λ i. refl))) end_told)

note_read : (w : Setting) (at : Spot) (before after : LedgerState) (n : Note) → note_reading.reads w at note_shape before n after → (u : Tree) × Represents w.memory w.encoding at note_shape u × NoteMeans n u
note_read w (stored a) before after n (room, fields) =
    let (ts, reps, have) = fields_told.reads w (spot_members (stored a)) types before after n (refl, (refl, tt)) fields in (parts ts, (room, (ts, refl, reps)), (ts, refl, have))
note_read w (flat_in ws i) before after n (room, fields) =
    let (ts, reps, have) = fields_told.reads w (spot_members (flat_in ws i)) types before after n (refl, (refl, tt)) fields in (parts ts, (ts, refl, reps), (ts, refl, have))

note_steps : (w : Setting) (at : Spot) → AreSteps w at note_shape (note_reading.steps w at note_shape)
unfolding reach_leaves flat_leaves
note_steps w (stored a) = tt
note_steps w (flat_in ws i) = tt

pub note_told : IsOfTrees IsNoteType note_reading NoteMeans
note_told = record {
  reads = λ w at type before after n f h. let e = note_shape_is w.types type f in
      subst (λ (s : Shape). (u : Tree) × Represents w.memory w.encoding at s u × NoteMeans n u) (sym e)
      (note_read w at before after n (subst (λ (s : Shape). note_reading.reads w at s before n after) e h));
  steps = λ w at type f. subst (λ (s : Shape). AreSteps w at s (note_reading.steps w at s)) (sym (note_shape_is w.types type f)) (note_steps w at);
}
