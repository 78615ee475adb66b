-- What is written as a recording of a component, in few bytes, is of the component's functions, and each of its memories is short.
use Rattle.std.proofs.Common.{All, List, [], ap, arith, false, length, length-append, refl, subst, suc, sym, zero, ℕ, ◌<◌, ◌^◌, ◌∷◌, ◌≤◌}
use Rattle.std.specs.Prelude.{⊤}
use Rattle.std.proofs.lemmas.List.Elements.{All-cons, All-nil}
use Rattle.canon_model.specs.Image.{le_bytes}
use Rattle.canon_model.specs.Shape.{Members, member, no_members}
use Rattle.canon_model.specs.Tree.{no_trees, tree}
use Rattle.canon_memory.specs.declared.event.Event.{Event}
use Rattle.canon_memory.specs.declared.event.Event.TheVariants as event
use Rattle.canon_val.specs.declared.val.Val.{Val}
use Rattle.canon_recording_parts.proofs.Formats.{row_count}
use Rattle.canon_recording_parts.specs.Events.{IsWritten, an_event, tagged, words_and_memory}
use Rattle.canon_recording_parts.specs.Format.{Format, for_each, so_many}
use Rattle.canon_recording.specs.Fits.{AreValuesOf, IsRecordedCallOf, IsServedAskOf}
use Rattle.canon_recording.specs.Recordings.{Functions, RecordedCall, ServedAsk, a_call, an_ask, recording_format, values}

-- the event's memory has at most so many bytes
abbrev pub MemoryFits : ℕ → Event → Type 0
MemoryFits most (event.Start func words memory) = length memory ≤ most
MemoryFits most (event.Ask index words memory) = length memory ≤ most
MemoryFits most (event.Resume words memory) = length memory ≤ most
MemoryFits most (event.Return words memory) = length memory ≤ most
MemoryFits most _ = ⊤

-- ---- events

memory_within : (x : List ℕ × List ℕ) (bs : List ℕ) → words_and_memory.writes x bs → length x.1 ≤ length bs
memory_within x bs (xs, ys, be, w, (n, rest, good, f, (len, same))) =
    omega (arith, ap length be, length-append xs ys, ap length f.is, length-append (le_bytes 8 n) rest, ap length same)

module _ (imports most : ℕ) where
  -- it is of a kind that is written, and its memory is short
  abbrev pub IsShortEvent : Event → Type 0
  IsShortEvent e = IsWritten imports e × MemoryFits most e

  tagged_short : (n : ℕ) (e : Event) (bs : List ℕ) → (tagged imports n).writes e bs → length bs ≤ most → IsShortEvent e
  tagged_short zero e bs (x, is, (xs, ys, be, number, h)) short = subst IsShortEvent (sym is) (tt, omega (arith, short, ap length be, length-append xs ys, memory_within x.1 ys h))
  tagged_short (suc zero) e bs (x, is, (xs, ys, be, (good, f), h)) short = subst IsShortEvent (sym is) (good, omega (arith, short, ap length be, length-append xs ys, memory_within x.1 ys h))
  tagged_short (suc (suc zero)) e bs (x, is, h) short = subst IsShortEvent (sym is) (tt, omega (arith, short, memory_within x bs h))
  tagged_short (suc (suc (suc zero))) e bs (x, is, h) short = subst IsShortEvent (sym is) (tt, omega (arith, short, memory_within x bs h))
  tagged_short (suc (suc (suc (suc zero)))) e bs (x, is, h) short = subst IsShortEvent (sym is) (tt, tt)
  tagged_short (suc (suc (suc (suc (suc zero))))) e bs (x, is, h) short = subst IsShortEvent (sym is) (tt, tt)
  tagged_short (suc (suc (suc (suc (suc (suc n)))))) e bs h short = absurd h

  short_event : (e : Event) (bs : List ℕ) → (an_event imports).writes e bs → length bs ≤ most → IsShortEvent e
  short_event e bs (n, rest, good, f, h) short = tagged_short n e rest h (omega (arith, short, ap length f.is, length-append (le_bytes 1 n) rest))

-- what is so of each thing that is written in so few bytes is so of all in a row
row_within : {A : Type 0} (F : Format A) (IsSo : A → Type 0) (most : ℕ) → ((a : A) (xs : List ℕ) → F.writes a xs → length xs ≤ most → IsSo a)
    → (us : List (Unit {0})) (things : List A) (bs : List ℕ) → (for_each (λ u. F) us).writes things bs → length bs ≤ most → All IsSo things
row_within F IsSo most tells [] things bs (e, h) short = subst (All IsSo) (sym e) (All-nil IsSo)
row_within F IsSo most tells (u ∷ us) things bs (x, e, (xs, ys, be, h, g)) short =
    subst (All IsSo) (sym e)
    (All-cons IsSo x.0 x.1 (tells x.0 xs h (omega (arith, short, ap length be, length-append xs ys)))
    (row_within F IsSo most tells us x.1 ys g (omega (arith, short, ap length be, length-append xs ys))))

-- ---- values, asks and calls

given_values : (ms : Members) (vs : List Val) (bs : List ℕ) → (values false ms).writes vs bs → AreValuesOf ms vs
given_values no_members vs bs (e, h) = (no_trees, (e, refl))
given_values (member name s ms) vs bs (x, e, (xs, ys, be, (n, rest, good, f, (len, (t, has, is))), g)) =
    let (us, have) = given_values ms x.1 ys g in
    (tree t us, (x.0, x.1, t, us, e, refl, has, have))

module _ (exports imports : Functions) (most : ℕ) where
  given_ask : (s : ServedAsk) (bs : List ℕ) → (an_ask false exports imports).writes s bs → length bs ≤ most → IsServedAskOf imports s
  given_ask s bs (n, rest, good, f, (x, e, (xs, ys, be, h, g))) short = subst (IsServedAskOf imports) (sym e) (record {
    known = good;
    params = given_values (imports.params n) x.0 xs h;
    results = given_values (imports.results n) x.1 ys g;
  })

  -- it is of the functions, and its memories are short
  abbrev pub IsShortCall : RecordedCall → Type 0
  IsShortCall call = IsRecordedCallOf exports imports call × All (MemoryFits most) call.events

  short_call : (call : RecordedCall) (bs : List ℕ) → (a_call false exports imports).writes call bs → length bs ≤ most → IsShortCall call
  short_call call bs (n, rest, good, f, (x, e, (xs, ys, be, (ps, rs, ve, hp, hr), (es, asked, de, (ne, erest, te, fe, he), (na, arest, ta, fa, ha))))) short =
      let behind : length ys ≤ most = omega (arith, short, ap length f.is, length-append (le_bytes 4 n) rest, ap length be, length-append xs ys) in
      let events : length erest ≤ most = omega (arith, behind, ap length de, length-append es asked, ap length fe.is, length-append (le_bytes 4 ne) erest) in
      let asks : length arest ≤ most = omega (arith, behind, ap length de, length-append es asked, ap length fa.is, length-append (le_bytes 4 na) arest) in
      let are = row_within (an_event imports.count) (IsShortEvent imports.count most) most (short_event imports.count most) (so_many ne) x.1.0 erest he events in
      subst IsShortCall (sym e) (
        record {
          its = record { known = good; params = given_values (exports.params n) x.0.0 ps hp; results = given_values (exports.results n) x.0.1 rs hr };
          few = omega (arith, fe.fits, row_count (an_event imports.count) ne x.1.0 erest he);
          asks = λ k d lt. (are k d lt).0;
          served = row_within (an_ask false exports imports) (IsServedAskOf imports) most given_ask (so_many na) x.1.1 arest ha asks;
        },
        λ k d lt. (are k d lt).1,
      )

  pub short_calls : (calls : List RecordedCall) (bs : List ℕ) → (recording_format false exports imports).writes calls bs → length bs ≤ most → All IsShortCall calls
  short_calls calls bs (x, e, (xs, ys, be, h, (n, rest, t, f, g))) short =
      subst (All IsShortCall) (sym e)
      (row_within (a_call false exports imports) IsShortCall most short_call (so_many n) x.1 rest g
      (omega (arith, short, ap length be, length-append xs ys, ap length f.is, length-append (le_bytes 4 n) rest)))

  pub counted_calls : (calls : List RecordedCall) (bs : List ℕ) → (recording_format false exports imports).writes calls bs → length calls < 2 ^ 32
  counted_calls calls bs (x, e, (xs, ys, be, h, (n, rest, t, f, g))) = omega (arith, f.fits, ap length e, row_count (a_call false exports imports) n x.1 rest g)
