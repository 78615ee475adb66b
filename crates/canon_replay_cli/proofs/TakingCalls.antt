-- The calls that are taken, one after another.
use Rattle.std.proofs.Common.{List, None, Option, Some, [], append-nil, append_assoc, map, refl, subst, sym, ◌++◌, ◌∙◌, ◌∷◌, ◌≡◌}
use Rattle.std.specs.Prelude.{ℕ}
use Rattle.canon_script.specs.Script.{item_view}
use Rattle.canon_script.specs.declared.script.Item.{Item}
use Rattle.canon_transcript.specs.declared.transcript.Record.{Record}
use Rattle.canon_recording.specs.Recordings.{RecordedCall, recorded_call, recorded_calls}
use Rattle.canon_recording.specs.declared.recording.Recorded.{Recorded}
use Rattle.canon_replay_cli.specs.Taken.{IsTakenCall, TakesCalls}

map_end : {A B : Type 0} (f : A → B) (xs : List A) (x : A) → map f (xs ++ x ∷ []) ≡ map f xs ++ f x ∷ []
map_end f [] x = refl
map_end f (y ∷ ys) x = rw (map_end f ys x) refl

module _ (items : List Item) (records : List Record) where
  -- These calls were taken of the first items and records, and these are left: with what is taken of them, all is.
  pub record AreCallsTaken (calls : List Recorded) (left : List Item) (more : List Record) : Type 0 where
    pub rest : (others : List RecordedCall) → TakesCalls (map item_view left) more others → TakesCalls (map item_view items) records (recorded_calls calls ++ others)

  pub taking_begins : AreCallsTaken [] items records
  taking_begins = record { rest = λ others h. h }

  -- nothing more is taken
  ends_with : (calls : List Recorded) (left : List Item) (more : List Record) → AreCallsTaken calls left more → TakesCalls (map item_view left) more [] → TakesCalls (map item_view items) records (recorded_calls calls)
  ends_with calls left more are h = subst (TakesCalls (map item_view items) records) (append-nil (recorded_calls calls)) (are.rest [] h)

  pub taking_ends : (calls : List Recorded) (more : List Record) → AreCallsTaken calls [] more → TakesCalls (map item_view items) records (recorded_calls calls)
  taking_ends calls more are = ends_with calls [] more are refl

  pub no_record : (calls : List Recorded) (i : Item) (left : List Item) → AreCallsTaken calls (i ∷ left) [] → TakesCalls (map item_view items) records (recorded_calls calls)
  no_record calls i left are = ends_with calls (i ∷ left) [] are refl

  pub not_taken : (calls : List Recorded) (i : Item) (left : List Item) (r : Record) (more : List Record) → AreCallsTaken calls (i ∷ left) (r ∷ more) → IsTakenCall (item_view i) r None → TakesCalls (map item_view items) records (recorded_calls calls)
  not_taken calls i left r more are h = ends_with calls (i ∷ left) (r ∷ more) are h

  pub one_taken : (calls next : List Recorded) (i : Item) (left : List Item) (r : Record) (more : List Record) (call : Recorded) → AreCallsTaken calls (i ∷ left) (r ∷ more) → IsTakenCall (item_view i) r (Some call) → next ≡ calls ++ call ∷ [] → AreCallsTaken next left more
  one_taken calls next i left r more call are (kept, is) e = record {
    rest = λ others h. subst (TakesCalls (map item_view items) records) (sym (longer others)) (are.rest (recorded_call call ∷ others) (kept, is, h));
  }
    where
      longer : (others : List RecordedCall) → recorded_calls next ++ others ≡ recorded_calls calls ++ recorded_call call ∷ others
      longer others = rw e (rw (map_end recorded_call calls call) (append_assoc (recorded_calls calls) (recorded_call call ∷ []) others))
